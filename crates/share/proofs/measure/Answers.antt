use Rattle.std.proofs.Common.{◌∙◌, arith}
use Rattle.std.proofs.lemmas.Bool.Decides.{nat_tests}
use Rattle.share.proofs.Checks.{check_fails, check_more}
use Rattle.share.proofs.measure.Goals as goal

pub returns-then-not-in_line : goal.returns-then-not-in_line
returns-then-not-in_line g c =
    check_fails g.C.Claim.wanted g.C.Claim.standing c.args.claims.now _ _ _ _ _ c.claim-item.result c.loop-claim.invariant c.loop-claim-test.true c.claim-item.is c.size-size.ensures (c.from-place.ensures ∙ c.place.ensures) (grind (arith, nat_tests))

pub loop-claim-preserved : goal.loop-claim-preserved
loop-claim-preserved g c =
    check_more g.C.Claim.wanted g.C.Claim.standing c.args.claims.now _ _ _ _ _ c.claim-item.result c.loop-claim.invariant c.loop-claim-test.true c.claim-item.is c.size-size.ensures (c.from-place.ensures ∙ c.place.ensures) (grind (arith, nat_tests))
