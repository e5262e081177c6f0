-- The laws of filling down.
use Rattle.std.proofs.Common.{◌≡◌, ℕ, ◌+◌, ◌<◌, ◌≤◌, Bool, cond, List, [], ◌∷◌, get_or, ℤ, ◌<ℤ◌, Some, ap, ◌∙◌, ⊎_elim, arith}
use Rattle.std.specs.List.{slice_get}
use Rattle.std.proofs.lemmas.Int.{ints}
use Rattle.std.proofs.lemmas.Bool.{cases_Bool}
use Rattle.filling.specs.declared.interest.Interest.{Interest}
use Rattle.filling.specs.Totals.{better, level, customer_at, other_at, contracts}
use Rattle.filling.specs.Filling.{reaching, left_over, fill_down}
use Rattle.filling.specs.Fair.{Within, BestFirst, CustomersFirst}
use Rattle.filling.specs.Laws.{FilledDown}
use Rattle.filling.proofs.Counting.{contracts_cons, contracts_split, level_splits}
use Rattle.filling.proofs.Ladder.{dealt_long, fill_down_above, fill_down_total}
use Rattle.filling.proofs.Places.{own_customer, own_other, customer_short, other_short, other_none, other_proportion, none_here, within_here, full_here, dealt_in_line, dealt_odd_first}

pub contracts_under : (p q r : Interest → Bool) → ((l : Interest) (x : ℕ) → cond (q l) x 0 + cond (r l) x 0 ≤ cond (p l) x 0) → (ls : List Interest) → contracts q ls + contracts r ls ≤ contracts p ls
contracts_under p q r s [] = omega arith
contracts_under p q r s (l ∷ ls) =
    omega (arith, contracts_cons p l ls, contracts_cons q l ls, contracts_cons r l ls, s l l.size, contracts_under p q r s ls)

-- the lines of a level and those above it are all above each level below
pub level_and_above : (ls : List Interest) (v w : ℤ) → w <ℤ v → contracts (better v) ls + contracts (level v) ls ≤ contracts (better w) ls
level_and_above ls v w lt = contracts_under (better w) (better v) (level v) (λ l x. grind (arith, ints)) ls

module _ (a : ℕ) (ls : List Interest) where
  pub fill_down_within : Within ls (fill_down a ls)
  fill_down_within i l e = within_here (reaching a ls) (left_over a ls) ls i l e (omega arith)

  -- where a line is left short, its level wants more than comes down to it
  short_level : (i : ℕ) (l : Interest) → slice_get ls i ≡ Some l → get_or (fill_down a ls) i 0 < l.size → reaching a ls l.gain < contracts (level l.gain) ls
  short_level i l e h =
      let v = l.gain in
      let s = contracts_split (level v) (customer_at v) (other_at v) (level_splits v) ls in
      ⊎_elim
      (λ c. omega (arith, customer_short (reaching a ls) (left_over a ls) ls i l e v (own_customer l c) h))
      (λ c. omega (arith, other_short (reaching a ls) (left_over a ls) ls i l e v (own_other l c) h (omega arith)))
      (cases_Bool l.customer)

  fill_down_full : (i : ℕ) (l : Interest) → slice_get ls i ≡ Some l → contracts (better l.gain) ls + contracts (level l.gain) ls ≤ a → get_or (fill_down a ls) i 0 ≡ l.size
  fill_down_full i l e h =
      let v = l.gain in
      let s = contracts_split (level v) (customer_at v) (other_at v) (level_splits v) ls in
      full_here (reaching a ls) (left_over a ls) ls i l e (omega arith) (omega arith)

  pub fill_down_best : BestFirst ls (fill_down a ls)
  fill_down_best i j k l ek el h w =
      let s = short_level i k ek h in
      let u = level_and_above ls k.gain l.gain w in
      none_here (reaching a ls) (left_over a ls) ls j l el (omega arith) (omega arith)

  pub fill_down_customers : CustomersFirst ls (fill_down a ls)
  fill_down_customers i j k l ek el c h =
      ⊎_elim
      (λ w. fill_down_best i j k l ek el h w)
      (λ y.
      let s = customer_short (reaching a ls) (left_over a ls) ls i k ek k.gain (own_customer k c) h in
      let none : left_over a ls k.gain ≡ 0 = omega arith in
      other_none (reaching a ls) (left_over a ls) ls j l el l.gain (own_other l y.1) (ap (left_over a ls) y.0 ∙ none))

pub filling : FilledDown
filling = record {
  one_each = λ a ls. dealt_long (reaching a ls) (left_over a ls) ls;
  total = fill_down_total;
  above = fill_down_above;
  within = fill_down_within;
  in_full = fill_down_full;
  best_first = fill_down_best;
  customers_first = fill_down_customers;
  in_line = λ a ls. dealt_in_line (reaching a ls) (left_over a ls) ls;
  in_proportion = λ a ls v. ((λ i l e t. other_proportion (reaching a ls) (left_over a ls) ls i l e v t), dealt_odd_first (reaching a ls) (left_over a ls) ls v);
}
