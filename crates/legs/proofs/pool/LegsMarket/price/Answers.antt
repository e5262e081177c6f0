use Rattle.std.proofs.Common.{◌≡◌, map, rules, tests, arith, w32, FitsSigned, pos, ◌+ℤ◌, fold, sym, ap, ◌∙◌}
use Rattle.std.proofs.lemmas.Int.{ints, to_z-of_z}
use Rattle.std.proofs.lemmas.Iterator.{YieldsList-from_slice, YieldsList-from_map}
use Rattle.std.proofs.lemmas.Iterator.Adapters.{total_from_yields_List}
use Rattle.std.proofs.lemmas.Simd.{map-map}
use Rattle.legs.specs.Model.{leg_price}
use Rattle.legs.specs.Legs.{leg_held}
use Rattle.legs.proofs.Netting.{sum_fits, net_near}
use Rattle.legs.proofs.pool.LegsMarket.price.Goals as goal

pub sum-requires-clause-fits : goal.sum-requires-clause-fits
sum-requires-clause-fits c =
    let m = c.args.self.now in
    let s = c.args.side in
    sum_fits s m.legs.items c.map.result m.high (YieldsList-from_map _ (λ l. leg_price s (leg_held l)) (YieldsList-from_slice m.legs.items cc) c.map.ensures.closure (λ x r q k. search (rules, tests)))

pub returns : goal.returns
returns c =
    let m = c.args.self.now in
    let s = c.args.side in
    let fits : FitsSigned w32 c.sum.result = search rules in
    let all : c.sum.result ≡ fold ◌+ℤ◌ (pos 0) (map (λ l. leg_price s (leg_held l)) m.legs.items) =
    total_from_yields_List ◌+ℤ◌ (pos 0) c.sum.result c.sum.ensures.ran (YieldsList-from_map _ (λ l. leg_price s (leg_held l)) (YieldsList-from_slice m.legs.items cc) c.map.ensures.closure (λ x r q k. search (rules, tests)))
    in
    let value = to_z-of_z w32 c.sum.result fits ∙ all ∙ ap (fold ◌+ℤ◌ (pos 0)) (sym (map-map (leg_price s) leg_held m.legs.items)) in
    let near = net_near c.args.side m.legs.items m.high in
    let low = near.0 in
    let high = near.1 in
    record { value = value; low = omega (arith, ints); high = omega (arith, ints) }
