use Rattle.std.proofs.Common.{◌≡◌, ◌-◌, true, length, get_or, map, nat_abs, set, ap, sym, ◌∙◌, w64, to_z, of_z, pos, rules, tests, ◌&&◌}
use Rattle.std.proofs.lemmas.Int.{to_z-of_z}
use Rattle.arrayvec.proofs.ArrayVecLemmas.{items-with_items}
use Rattle.market.specs.Fields.{nat_of}
use Rattle.legs.specs.Legs.{leg_held}
use Rattle.legs.specs.Quoting.{quoted_side, quoted_leg}
use Rattle.legs.proofs.Quoted.{leg_narrow, quote_said, quote_done}
use Rattle.market.specs.Fields.{in_range}
use Rattle.legs.specs.Fields.{price_ok, sizes_ok}
use Rattle.legs.proofs.pool.LegsMarket.quote.Goals as goal

pub returns-clause-answer : goal.returns-clause-answer
returns-clause-answer c =
    let ls = c.args.self.now.legs.items in
    let leg = c.args.leg in
    let price = c.args.price in
    let zs = c.args.sizes.now in
    let here : in_range (pos 1) (pos (length ls)) leg ≡ true = search (rules, tests) in
    let fine : price_ok price && sizes_ok zs ≡ true = ap (λ z. price_ok z && sizes_ok zs) (sym (to_z-of_z w64 price c.ranges.price)) ∙ c.in_ok-side.ensures.ok.0 in
    quote_said ls leg price zs here fine

pub returns-clause-after : goal.returns-clause-after
returns-clause-after c =
    let ls = c.args.self.now.legs in
    let leg = c.args.leg in
    let price = c.args.price in
    let zs = c.args.sizes.now in
    let x = c.index-deref_mut-i.result in
    let now = c.deref_mut.ensures.value in
    let p = to_z-of_z w64 price c.ranges.price in
    let here : in_range (pos 1) (pos (length ls.items)) leg ≡ true = search (rules, tests) in
    let fine : price_ok price && sizes_ok zs ≡ true = ap (λ z. price_ok z && sizes_ok zs) (sym p) ∙ c.in_ok-side.ensures.ok.0 in
    let at : nat_abs (to_z w64 (of_z w64 leg)) - 1 ≡ nat_of leg - 1 = ap (λ z. nat_abs z - 1) (to_z-of_z w64 leg c.ranges.leg) ∙ ap (λ k. k - 1) (leg_narrow ls.items leg price zs here fine).abs in
    let side = c.in_ok-side.ensures.ok.1 in
    let new : leg_held c.replace.new.self ≡ quoted_leg c.args.edge (quoted_side price zs) (leg_held (get_or ls.items (nat_abs (to_z w64 (of_z w64 leg)) - 1) x)) = cc in
    ap (map leg_held) (items-with_items ls _ (search rules))
    ∙ ap (λ xs. map leg_held (set xs (nat_abs (to_z w64 (of_z w64 leg)) - 1) c.replace.new.self)) now
    ∙ quote_done ls.items leg price zs here fine c.args.edge _ x c.replace.new.self at new
