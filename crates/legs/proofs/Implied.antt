-- A take of implied orders.
use Rattle.std.proofs.Common.{◌≡◌, ℕ, zero, suc, ok_or, ◌≤◌, min, Bool, true, false, cond, List, [], ◌∷◌, map, Ok, Err, sym, refl, ap, ◌∙◌, arith}
use Rattle.std.specs.List.{AllByRecursion}
use Rattle.market.specs.declared.names.Side.{Side}
use Rattle.market.specs.declared.names.Side.TheVariants.{Buy, Sell}
use Rattle.market.specs.declared.refusal.Refusal.TheVariants.{NotTakable}
use Rattle.market.specs.Limits.{most_size}
use Rattle.market.specs.Lists.{up_to, placed, take_answer, after_take, lowered}
use Rattle.market.proofs.Placing.{up_to_bounds}
use Rattle.legs.specs.declared.leg.LegQuotes.{LegQuotes}
use Rattle.legs.specs.Model.{LegHeld, net_size, implied, listed, taken_leg, can_take, taken_legs, taken_answer}
use Rattle.legs.specs.Legs.{leg_held}
use Rattle.legs.proofs.Within.{net_size_few}
use Rattle.legs.proofs.Taken.{implied_taken, implied_other}

ratios : (ls : List LegQuotes) → AllByRecursion (λ l. 1 ≤ l.ratio) (map leg_held ls)
ratios [] = tt
ratios (l ∷ ls) = (l.low, ratios ls)

-- a take at the first place, and at the second
module _ (n : ℕ) (qs : List LegQuotes) where
  abbrev ls : List LegHeld
  ls = map leg_held qs

  -- an implied order is listed with its size
  uncut : (s : Side) → min (net_size s ls) most_size ≡ net_size s ls
  uncut s = let h = net_size_few s qs in omega arith

  buy_after : (t : Bool) → can_take Buy n ls ≡ t → listed (cond t (map (taken_leg Buy n) ls) ls) ≡ cond t (lowered n (implied Buy ls) ∷ implied Sell ls ∷ []) (listed ls)
  buy_after true e =
      ap (λ x. x ∷ implied Sell (map (taken_leg Buy n) ls) ∷ []) (implied_taken Buy n ls (ratios qs) (up_to_bounds (net_size Buy ls) n e).1 (net_size_few Buy qs)) ∙ ap (λ x. lowered n (implied Buy ls) ∷ x ∷ []) (implied_other Buy n ls)
  buy_after false e = refl

  bought : listed (taken_legs Buy n ls) ≡ after_take (listed ls) 1 n
  bought = buy_after (can_take Buy n ls) refl ∙ sym (ap (λ k. cond (up_to k n) (lowered n (implied Buy ls) ∷ implied Sell ls ∷ []) (listed ls)) (uncut Buy))

  buy_answer : taken_answer Buy n ls ≡ take_answer (listed ls) 1 n
  buy_answer = sym (ap (λ k. cond (up_to k n) (Ok tt) (Err NotTakable)) (uncut Buy))

  sell_after : (t : Bool) → can_take Sell n ls ≡ t → listed (cond t (map (taken_leg Sell n) ls) ls) ≡ cond t (implied Buy ls ∷ lowered n (implied Sell ls) ∷ []) (listed ls)
  sell_after true e =
      ap (λ x. x ∷ implied Sell (map (taken_leg Sell n) ls) ∷ []) (implied_other Sell n ls) ∙ ap (λ x. implied Buy ls ∷ x ∷ []) (implied_taken Sell n ls (ratios qs) (up_to_bounds (net_size Sell ls) n e).1 (net_size_few Sell qs))
  sell_after false e = refl

  sold : listed (taken_legs Sell n ls) ≡ after_take (listed ls) 2 n
  sold = sell_after (can_take Sell n ls) refl ∙ sym (ap (λ k. cond (up_to k n) (implied Buy ls ∷ lowered n (implied Sell ls) ∷ []) (listed ls)) (uncut Sell))

  sell_answer : taken_answer Sell n ls ≡ take_answer (listed ls) 2 n
  sell_answer = sym (ap (λ k. cond (up_to k n) (Ok tt) (Err NotTakable)) (uncut Sell))

-- where a place has a side, a take there is a take of the implied order of the side
abbrev pub AtSide : ℕ → Side → Type 0
AtSide p s = ok_or (placed (Buy ∷ Sell ∷ []) p) NotTakable ≡ Ok s

pub side_answer : (p : ℕ) (s : Side) (n : ℕ) (qs : List LegQuotes) → AtSide p s → taken_answer s n (map leg_held qs) ≡ take_answer (listed (map leg_held qs)) p n
side_answer zero s n qs e = cc
side_answer (suc zero) Buy n qs e = buy_answer n qs
side_answer (suc zero) Sell n qs e = cc
side_answer (suc (suc zero)) Buy n qs e = cc
side_answer (suc (suc zero)) Sell n qs e = sell_answer n qs
side_answer (suc (suc (suc p))) s n qs e = cc

pub side_after : (p : ℕ) (s : Side) (n : ℕ) (qs : List LegQuotes) → AtSide p s → listed (taken_legs s n (map leg_held qs)) ≡ after_take (listed (map leg_held qs)) p n
side_after zero s n qs e = cc
side_after (suc zero) Buy n qs e = bought n qs
side_after (suc zero) Sell n qs e = cc
side_after (suc (suc zero)) Buy n qs e = cc
side_after (suc (suc zero)) Sell n qs e = sold n qs
side_after (suc (suc (suc p))) s n qs e = cc
