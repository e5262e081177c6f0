use Rattle.std.proofs.Common.{map, arith, rules}
use Rattle.share.proofs.Rounding.{left_over_fits}
use Rattle.share.proofs.Answering.{written_fair}
use Rattle.share.proofs.share_out.Goals as goal

pub overflow_sub-left : goal.overflow_sub-left
overflow_sub-left g c =
    let ss = map g.C.Claim.wanted c.args.claims.now in
    omega (arith, (left_over_fits c.args.amount c.in_ok-total.total ss (search rules) (omega arith)).0)

pub returns-clause-fair : goal.returns-clause-fair
returns-clause-fair g c =
    λ _. written_fair c.args.amount c.in_ok-total.total c.rounded.result _ _ (search rules) (omega arith) c.rounded.ensures c.fill.ensures
