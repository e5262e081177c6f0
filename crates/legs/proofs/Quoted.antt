-- Replacing one side of one leg.
use Rattle.std.proofs.Common.{◌≡◌, ℕ, ◌-◌, true, cond, ◌&&◌, List, map, length, get_or, set, ℤ, pos, Ok, Err, sym, ap, ◌∙◌, arith}
use Rattle.std.proofs.lemmas.List.{length-map, get_or-map, map-set}
use Rattle.std.proofs.lemmas.Bool.{and_from}
use Rattle.market.specs.declared.refusal.Refusal.TheVariants.{OutOfLimits}
use Rattle.market.specs.declared.names.Edge.{Edge}
use Rattle.market.specs.Fields.{in_range, nat_of}
use Rattle.market.specs.Lists.{change_at}
use Rattle.market.proofs.Placing.{change_set}
use Rattle.market.proofs.Narrow.{Narrow, narrow}
use Rattle.legs.specs.declared.leg.LegQuotes.{LegQuotes}
use Rattle.legs.specs.Legs.{leg_held}
use Rattle.legs.specs.Fields.{price_ok, sizes_ok}
use Rattle.legs.specs.Quoting.{quoted_side, quoted_leg, quote_ok, quote_answer, after_quote}

-- the leg stands in the list, and the price and the sizes are within their limits
module _ (ls : List LegQuotes) (leg price : ℤ) (zs : List ℤ) (here : in_range (pos 1) (pos (length ls)) leg ≡ true) (fine : price_ok price && sizes_ok zs ≡ true) where
  pub leg_narrow : Narrow 1 (length ls) leg
  leg_narrow = narrow 1 (length ls) leg here

  granted : quote_ok (length (map leg_held ls)) leg price zs ≡ true
  granted =
      ap (λ n. quote_ok n leg price zs) (length-map ls leg_held) ∙ and_from (in_range (pos 1) (pos (length ls)) leg) (price_ok price && sizes_ok zs) here fine

  pub quote_said : Ok tt ≡ quote_answer (map leg_held ls) leg price zs
  quote_said = sym (ap (λ t. cond t (Ok tt) (Err OutOfLimits)) granted)

  pub quote_done : (edge : Edge) (i : ℕ) (x y : LegQuotes) → i ≡ nat_of leg - 1 → leg_held y ≡ quoted_leg edge (quoted_side price zs) (leg_held (get_or ls i x)) → map leg_held (set ls i y) ≡ after_quote (map leg_held ls) leg edge price zs
  quote_done edge i x y at e =
      let held = map leg_held ls in
      let m = length-map ls leg_held in
      let k = leg_narrow in
      let lo = k.low in
      let hi = k.high in
      let f = quoted_leg edge (quoted_side price zs) in
      let d = leg_held (get_or ls i x) in
      let same : d ≡ get_or held i d = sym (get_or-map leg_held ls i x d (omega arith)) in
      map-set leg_held ls i y
      ∙ ap (set held i) e
      ∙ sym (change_set f held i d (omega arith) same)
      ∙ ap (change_at f held) at
      ∙ sym (ap (λ t. cond t (change_at f held (nat_of leg - 1)) held) granted)
