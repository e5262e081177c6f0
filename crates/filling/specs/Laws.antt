-- What filling down keeps to.
use Rattle.std.specs.Prelude.{◌≡◌, ℕ, ◌+◌, ◌≤◌, min, true, List, length, ℤ, Some, sum, slice_index}
use Rattle.std.specs.List.{slice_get}
use Rattle.filling.specs.declared.interest.Interest.{Interest}
use Rattle.filling.specs.Totals.{better, level, contracts, filled}
use Rattle.filling.specs.Filling.{fill_down, left_over}
use Rattle.filling.specs.Fair.{Within, BestFirst, CustomersFirst, InLine, InProportion}

pub record FilledDown : Type 0 where
  pub one_each : (a : ℕ) (ls : List Interest) → length (fill_down a ls) ≡ length ls
  -- the amount goes as far as the lines do
  pub total : (a : ℕ) (ls : List Interest) → sum (fill_down a ls) ≡ min a (contracts (λ _. true) ls)
  -- and so above each level
  pub above : (a : ℕ) (ls : List Interest) (v : ℤ) → filled (better v) ls (fill_down a ls) ≡ min a (contracts (better v) ls)
  pub within : (a : ℕ) (ls : List Interest) → Within ls (fill_down a ls)
  -- a level that fits is filled in full
  pub in_full : (a : ℕ) (ls : List Interest) (i : ℕ) (l : Interest) → slice_get ls i ≡ Some l →
      contracts (better l.gain) ls + contracts (level l.gain) ls ≤ a → slice_index (fill_down a ls) i ≡ l.size
  pub best_first : (a : ℕ) (ls : List Interest) → BestFirst ls (fill_down a ls)
  pub customers_first : (a : ℕ) (ls : List Interest) → CustomersFirst ls (fill_down a ls)
  pub in_line : (a : ℕ) (ls : List Interest) → InLine ls (fill_down a ls)
  pub in_proportion : (a : ℕ) (ls : List Interest) (v : ℤ) → InProportion ls (fill_down a ls) v (left_over a ls v)
