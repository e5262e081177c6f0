use Rattle.std.proofs.Common.{◌<◌, Some, sym, subst, arith, w32, SFits, rules}
use Rattle.std.proofs.lemmas.Int.{to_z-of_z}
use Rattle.deal.proofs.Descent.{Served, LevelServed, height, best_is_under, falls, level_more, all_served}
use Rattle.deal.proofs.lines.Lines.deal.Goals as goal

pub loop-level-preserved : goal.loop-level-preserved
loop-level-preserved c =
    let plan = c.args.plan.now in
    let ls = c.args.self.now in
    let v = c.in-Some.level in
    let f : SFits w32 v = search rules in
    let e = to_z-of_z w32 v f in
    let out = c.deal_level.new.out in
    subst (λ w. Served plan ls out (Some w)) (sym e)
    (level_more plan ls c.loop-level.out out c.loop-level.bound v c.in-Some.ensures (subst (λ w. LevelServed plan ls w c.loop-level.out out) e c.deal_level.ensures) c.loop-level.invariant)

pub loop-level-smaller : goal.loop-level-smaller
loop-level-smaller c =
    let v = c.in-Some.level in
    let f : SFits w32 v = search rules in
    let bound = c.loop-level.bound in
    subst (λ w. height (Some w) < height bound) (sym (to_z-of_z w32 v f)) (falls bound v f (best_is_under bound c.args.self.now v c.in-Some.ensures))

pub returns : goal.returns
returns c = all_served c.args.plan.now c.args.self.now c.loop-level.out c.loop-level.bound (omega arith) c.in_default.ensures c.loop-level.invariant
