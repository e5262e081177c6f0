use Rattle.std.proofs.Common.{◌≡◌, ◌++◌, map, take, drop}
use Rattle.share.specs.Shares.{topped}
use Rattle.share.proofs.Rate.fill.Given as goal

abbrev pub invariant-loop-i : goal.invariant-loop-i
invariant-loop-i g l =
    let ss = map g.C.Claim.wanted l.claims in
    take l.i l.out ++ topped l.rest l.self.amount l.self.total (drop l.i ss) ≡ topped l.left l.self.amount l.self.total ss
