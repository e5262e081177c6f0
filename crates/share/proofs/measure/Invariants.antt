use Rattle.std.proofs.Common.{map}
use Rattle.share.proofs.Checks.{Checking}
use Rattle.share.proofs.measure.Given as goal

abbrev pub invariant-loop-claim : goal.invariant-loop-claim
invariant-loop-claim g l = Checking (map g.C.Claim.wanted l.claims) (map g.C.Claim.standing l.claims) l.claim-index l.total l.low
