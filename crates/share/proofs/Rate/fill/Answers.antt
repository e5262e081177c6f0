use Rattle.std.proofs.Common.{arith}
use Rattle.share.proofs.Steps.{fill_more}
use Rattle.share.proofs.Rate.fill.Goals as goal

pub loop-i-preserved : goal.loop-i-preserved
loop-i-preserved g c =
    fill_more g.C.Claim.wanted c.args.claims.now c.args.self.amount c.args.self.total c.loop-i.i c.size-size.result c.part-floor.result c.index-claims-i.result c.loop-i-test.true c.index-claims-i.is c.size-size.ensures c.part-floor.ensures c.loop-i.out c.loop-i.rest c.one_more-more.result _ (omega arith) c.one_more-more.ensures c.loop-i.invariant
