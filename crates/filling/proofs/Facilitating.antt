-- Facilitation.
use Rattle.std.proofs.Common.{◌≡◌, ℕ, suc, ◌+◌, ◌-◌, ◌<◌, ◌≤◌, Bool, true, false, cond, List, [], ◌∷◌, get_or, ℤ, ◌≤ℤ◌, ◌<ℤ◌, Some, sum, refl, ap, ◌∙◌, subst, ⊎_elim, arith}
use mathlib.Core.Path.{fun_ext}
use lib.Signed.{lt_z, le_z}
use Rattle.std.specs.List.{AllByRecursion, slice_get}
use Rattle.std.proofs.lemmas.Int.{ints, by_lt_z}
use Rattle.std.proofs.lemmas.Bool.{cases_Bool, cond-true, cond-false}
use Rattle.filling.specs.declared.interest.Interest.{Interest}
use Rattle.filling.specs.Totals.{better, level, customer_at, other_at, contracts, filled}
use Rattle.filling.specs.Filling.{dealt, reaching, left_over, fill_down}
use Rattle.filling.specs.Fair.{CustomersFirst}
use Rattle.filling.specs.Mechanisms.{executed, rest, shared, fac_room, fac_pot, fac_fills, facilitated}
use Rattle.filling.specs.Rules.{Fair, Facilitation}
use Rattle.filling.proofs.Counting.{Splits, contracts_split, filled_split, level_splits}
use Rattle.filling.proofs.Ladder.{Down, down_to, dealt_long, all_filled}
use Rattle.filling.proofs.Levels.{level_gets}
use Rattle.filling.proofs.Places.{own_customer, own_other, customer_short, other_none, other_proportion, none_here, within_here, full_here, dealt_in_line, dealt_odd_first}
use Rattle.filling.proofs.Down.{level_and_above}

abbrev worse : ℤ → Interest → Bool
worse g l = lt_z l.gain g

abbrev at_most : ℤ → Interest → Bool
at_most g l = le_z l.gain g

any_splits : (g : ℤ) → Splits (λ _. true) (better g) (at_most g)
any_splits g l x = grind (arith, ints)

most_splits : (g : ℤ) → Splits (at_most g) (level g) (worse g)
most_splits g l x = grind (arith, ints)

-- lines that get nothing
pub zero_filled : (p : Interest → Bool) (ls : List Interest) (fs : List ℕ) → ((i : ℕ) (l : Interest) → slice_get ls i ≡ Some l → p l ≡ true → get_or fs i 0 ≡ 0) → filled p ls fs ≡ 0
zero_filled p [] fs h = refl
zero_filled p (l ∷ ls) [] h = refl
zero_filled p (l ∷ ls) (f ∷ fs) h =
    let ih = zero_filled p ls fs (λ i. h (suc i)) in
    ⊎_elim
    (λ t. omega (arith, ih, cond-true (p l) f 0 t, h 0 l refl t))
    (λ t. omega (arith, ih, cond-false (p l) f 0 t))
    (cases_Bool (p l))

all_true : (ls : List Interest) → AllByRecursion (λ _. true ≡ true) ls
all_true [] = tt
all_true (l ∷ ls) = (refl, all_true ls)

module _ (Z : ℕ) (g : ℤ) (r : ℕ) (ls : List Interest) where
  abbrev room : ℤ → ℕ
  room = fac_room Z g ls

  abbrev pot : ℤ → ℕ
  pot = fac_pot Z g r ls

  pub above : (v : ℤ) → g <ℤ v → (room v ≡ reaching Z ls v) × (pot v ≡ left_over Z ls v)
  above v h =
      let n : lt_z v g ≡ false = grind (arith, ints) in
      let y : lt_z g v ≡ true = grind (arith, ints) in (
        cond-false (lt_z v g) 0 (reaching Z ls v) n,
        cond-false (lt_z v g) 0 (cond (lt_z g v) (left_over Z ls v) (shared Z g r ls)) n ∙ cond-true (lt_z g v) (left_over Z ls v) (shared Z g r ls) y,
      )

  pub at_order : (room g ≡ reaching Z ls g) × (pot g ≡ shared Z g r ls)
  at_order =
      let n : lt_z g g ≡ false = grind (arith, ints) in (
        cond-false (lt_z g g) 0 (reaching Z ls g) n,
        cond-false (lt_z g g) 0 (cond (lt_z g g) (left_over Z ls g) (shared Z g r ls)) n ∙ cond-false (lt_z g g) (left_over Z ls g) (shared Z g r ls) n,
      )

  below : (v : ℤ) → v <ℤ g → (room v ≡ 0) × (pot v ≡ 0)
  below v h =
      let y : lt_z v g ≡ true = grind (arith, ints) in
      (cond-true (lt_z v g) 0 (reaching Z ls v) y, cond-true (lt_z v g) 0 (cond (lt_z g v) (left_over Z ls v) (shared Z g r ls)) y)

  -- a level is above, at or below the order's
  three : (P : ℤ → Type 0) (v : ℤ) → (g <ℤ v → P v) → P g → (v <ℤ g → P v) → P v
  three P v hi eq lo = by_lt_z g v hi (λ le. by_lt_z v g lo (λ ge. subst P (let e : g ≡ v = omega (arith, ints) in e) eq))

  -- the others' pot is at most what they want, and at most what customers leave
  pub pot_fits : (v : ℤ) → (pot v ≤ contracts (other_at v) ls) × (pot v ≤ room v - contracts (customer_at v) ls)
  pot_fits v =
      three (λ w. (pot w ≤ contracts (other_at w) ls) × (pot w ≤ room w - contracts (customer_at w) ls)) v
      (λ h. let a = above v h in (omega (arith, a.0, a.1), omega (arith, a.0, a.1)))
      (let a = at_order in (omega (arith, a.0, a.1), omega (arith, a.0, a.1)))
      (λ h. let a = below v h in (omega (arith, a.0, a.1), omega (arith, a.0, a.1)))

  room_fits : (v : ℤ) → room v ≤ reaching Z ls v
  room_fits v =
      three (λ w. room w ≤ reaching Z ls w) v
      (λ h. omega (arith, (above v h).0)) (omega (arith, at_order.0)) (λ h. omega (arith, (below v h).0))

  fac_down : Down room pot ls Z g
  fac_down w h =
      let a = above w h in
      ((pot_fits w).0, omega (arith, a.0, a.1, contracts_split (level w) (customer_at w) (other_at w) (level_splits w) ls))

  none_below : (i : ℕ) (l : Interest) → slice_get ls i ≡ Some l → l.gain <ℤ g → get_or (fac_fills Z g r ls) i 0 ≡ 0
  none_below i l e h = let b = below l.gain h in none_here room pot ls i l e b.0 b.1

  total : sum (fac_fills Z g r ls) + (rest Z g ls - shared Z g r ls) ≡ Z
  total =
      let fs = fac_fills Z g r ls in
      let zero-below = zero_filled (worse g) ls fs (λ i l e t. none_below i l e (let lt : l.gain <ℤ g = grind (arith, ints) in lt)) in
      omega (
        arith,
        down_to room pot ls Z g fac_down,
        level_gets room pot ls g (pot_fits g).0,
        at_order.0,
        at_order.1,
        zero-below,
        filled_split (λ _. true) (better g) (at_most g) (any_splits g) ls fs,
        filled_split (at_most g) (level g) (worse g) (most_splits g) ls fs,
        all_filled (λ _. true) ls fs (dealt_long room pot ls) (all_true ls),
      )

  -- the room of a level whose customers want more, seen from below
  short_below : (v w : ℤ) → room v < contracts (customer_at v) ls → w <ℤ v → room w ≡ 0
  short_below v w h lt =
      by_lt_z w g
      (λ b. (below w b).0)
      (λ ge.
      let up : g <ℤ v = omega (arith, ints) in
      omega (arith, (above v up).0, room_fits w, level_and_above ls v w lt, contracts_split (level v) (customer_at v) (other_at v) (level_splits v) ls))

  customers_first : CustomersFirst ls (fac_fills Z g r ls)
  customers_first i j k l ek el c h =
      let s = customer_short room pot ls i k ek k.gain (own_customer k c) h in
      ⊎_elim
      (λ w. let z = short_below k.gain l.gain s w in none_here room pot ls j l el z (omega (arith, (pot_fits l.gain).1)))
      (λ y.
      let none : pot k.gain ≡ 0 = omega (arith, (pot_fits k.gain).1) in
      other_none room pot ls j l el l.gain (own_other l y.1) (ap pot y.0 ∙ none))

  contra_last : (i : ℕ) (k : Interest) → slice_get ls i ≡ Some k → k.customer ≡ true → get_or (fac_fills Z g r ls) i 0 < k.size → g ≤ℤ k.gain → rest Z g ls - shared Z g r ls ≡ 0
  contra_last i k e c h le =
      let s = customer_short room pot ls i k e k.gain (own_customer k c) h in
      by_lt_z g k.gain
      (λ lt. omega (arith, short_below k.gain g s lt, at_order.0))
      (λ ge.
      let same : k.gain ≡ g = omega (arith, ints) in
      let s' : room g < contracts (customer_at g) ls = subst (λ w. room w < contracts (customer_at w) ls) same s in
      omega (arith, at_order.0))

  pub fair : Fair Z g ls (fac_fills Z g r ls) (rest Z g ls - shared Z g r ls)
  fair = record {
    one_each = dealt_long room pot ls;
    conserved = omega (arith, total);
    within = λ i l e. within_here room pot ls i l e (pot_fits l.gain).0;
    none_below = none_below;
    customers_first = customers_first;
    in_line = dealt_in_line room pot ls;
    contra_last = contra_last;
  }

  better_suffice : Z ≤ contracts (better g) ls → facilitated Z g r ls ≡ executed (fill_down Z ls) 0
  better_suffice h =
      let low : (v : ℤ) → v <ℤ g → Z ≤ contracts (better v) ls = λ v lt. omega (arith, level_and_above ls g v lt) in
      let same-room : (v : ℤ) → room v ≡ reaching Z ls v =
      λ v. three (λ w. room w ≡ reaching Z ls w) v (λ hi. (above v hi).0) at_order.0 (λ lt. omega (arith, (below v lt).0, low v lt)) in
      let same-pot : (v : ℤ) → pot v ≡ left_over Z ls v =
      λ v. three (λ w. pot w ≡ left_over Z ls w) v (λ hi. (above v hi).1) (omega (arith, at_order.1)) (λ lt. omega (arith, (below v lt).1, low v lt)) in
      let left : rest Z g ls - shared Z g r ls ≡ 0 = omega arith in
      ap (λ c. executed (fac_fills Z g r ls) c) left ∙
      ap (λ f. executed (dealt f pot ls) 0) (fun_ext same-room) ∙
      ap (λ f. executed (dealt (reaching Z ls) f ls) 0) (fun_ext same-pot)

  better_filled : contracts (better g) ls ≤ Z → (i : ℕ) (l : Interest) → slice_get ls i ≡ Some l → g <ℤ l.gain → get_or (fac_fills Z g r ls) i 0 ≡ l.size
  better_filled h i l e lt =
      let v = l.gain in
      let a = above v lt in
      let u = level_and_above ls v g lt in
      let s = contracts_split (level v) (customer_at v) (other_at v) (level_splits v) ls in
      full_here room pot ls i l e (omega (arith, a.0)) (omega (arith, a.1))

pub facilitation : Facilitation
facilitation = record {
  fair = fair;
  whole = total;
  facilitator = λ Z g r ls. omega arith;
  better_suffice = better_suffice;
  better_filled = better_filled;
  in_proportion = λ Z g r ls v. ((λ i l e t. other_proportion (fac_room Z g ls) (fac_pot Z g r ls) ls i l e v t), dealt_odd_first (fac_room Z g ls) (fac_pot Z g r ls) ls v);
}
