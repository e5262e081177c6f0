use Rattle.std.proofs.Common.{subst, w32, to_z, of_z}
use Rattle.std.proofs.lemmas.Int.{to_z-of_z}
use Rattle.share.specs.Shares.{shares}
use Rattle.filling.specs.Totals.{customer_at, other_at, sizes}
use Rattle.deal.proofs.Passes.{Passed, left_for, part_for}
use Rattle.deal.proofs.Descent.{LevelServed, both_served}
use Rattle.deal.proofs.lines.Lines.deal_level.Goals as goal

pub returns : goal.returns
returns c =
    let plan = c.args.plan.now in
    let ls = c.args.self.now in
    let v = to_z w32 (of_z w32 c.args.level) in
    let old = c.args.out.now in
    let mid = c.serve_customers.new.out in
    let out = c.serve_others.new.out in
    subst (λ w. LevelServed plan ls w old out) (to_z-of_z w32 c.args.level c.ranges.level)
    (both_served plan ls v old mid out
    (subst (λ n. Passed (customer_at v) (left_for v n ls) ls old mid) c.room.ensures c.serve_customers.ensures)
    (subst (λ n. Passed (other_at v) (part_for v (shares n (sizes (other_at v) ls)) ls) ls mid out) c.pot.ensures c.serve_others.ensures))
