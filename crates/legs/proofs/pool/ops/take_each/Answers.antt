use Rattle.std.proofs.Common.{◌≡◌, ◌≤◌, get_or, map, set, sym, ap, ◌∙◌, subst, arith}
use Rattle.std.proofs.lemmas.List.{length-map, get_or-map, map-set}
use Rattle.std.proofs.lemmas.List.Edits.{map_over_more}
use Rattle.std.proofs.ByRecursion.{All-get_or}
use Rattle.legs.specs.Model.{LegHeld, leg_size, taken_leg}
use Rattle.legs.specs.Legs.{leg_held}
use Rattle.legs.proofs.Each.{ahead}
use Rattle.legs.proofs.pool.ops.take_each.Goals as goal

pub take-requires : goal.take-requires
take-requires c =
    let was = map leg_held c.args.legs.now in
    let m = length-map c.args.legs.now leg_held in
    let i = c.loop-leg.leg-index in
    let x = c.leg-item.result in
    let P : LegHeld → Type 0 = λ l. c.args.n ≤ leg_size c.args.side l in
    let here = ahead (taken_leg c.args.side c.args.n) was (map leg_held c.loop-leg.legs) i (leg_held x) c.loop-leg.invariant (omega arith) in
    subst P (sym here ∙ get_or-map leg_held c.loop-leg.legs i x (leg_held x) (omega arith)) (All-get_or P was i (leg_held x) (omega arith) c.requires)

pub loop-leg-preserved : goal.loop-leg-preserved
loop-leg-preserved c =
    let m = length-map c.args.legs.now leg_held in
    let legs = c.loop-leg.legs in
    let i = c.loop-leg.leg-index in
    let x = c.leg-item.result in
    let f = taken_leg c.args.side c.args.n in
    let here : leg_held x ≡ get_or (map leg_held legs) i (leg_held x) = ap leg_held c.leg-item.is ∙ sym (get_or-map leg_held legs i x (leg_held x) (omega arith)) in
    map-set leg_held legs i c.take.new.self
    ∙ ap (set (map leg_held legs) i) (c.take.ensures ∙ ap (λ l. f (leg_held l)) (sym c.leg-item.is))
    ∙ map_over_more f (map leg_held c.args.legs.now) (map leg_held legs) i (leg_held x) (omega arith) c.loop-leg.invariant here
