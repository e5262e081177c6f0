-- What every settlement keeps to.
use Rattle.std.specs.Prelude.{◌≡◌, ℕ, ◌+◌, ◌-◌, ◌<◌, ◌≤◌, min, max, true, List, length, ℤ, ◌≤ℤ◌, ◌<ℤ◌, Some, sum, slice_index}
use Rattle.std.specs.List.{slice_get}
use Rattle.filling.specs.declared.interest.Interest.{Interest}
use Rattle.filling.specs.Totals.{better, other_at, contracts}
use Rattle.filling.specs.Filling.{fill_down}
use Rattle.filling.specs.Fair.{Within, CustomersFirst, InLine, InProportion}
use Rattle.filling.specs.Mechanisms.{Outcome, executed, cancelled, rest, shared, fac_pot, fac_fills, facilitated, solicited, executing, block_gain, blocked}

-- the fills fs of the lines and c of the contra, for an order of Z at the gain g
pub record Fair (Z : ℕ) (g : ℤ) (ls : List Interest) (fs : List ℕ) (c : ℕ) : Type 0 where
  pub one_each : length fs ≡ length ls
  pub conserved : sum fs + c ≤ Z
  -- nobody is filled beyond the size standing, or at a gain below the order's
  pub within : Within ls fs
  pub none_below : (i : ℕ) (l : Interest) → slice_get ls i ≡ Some l → l.gain <ℤ g → slice_index fs i ≡ 0
  -- where a customer is left short, nobody behind it receives a contract, the contra included
  pub customers_first : CustomersFirst ls fs
  pub in_line : InLine ls fs
  pub contra_last : (i : ℕ) (k : Interest) → slice_get ls i ≡ Some k → k.customer ≡ true → slice_index fs i < k.size → g ≤ℤ k.gain → c ≡ 0

abbrev pub Settles : ℕ → ℤ → List Interest → Outcome → Type 0
Settles Z g ls (executed fs c) = Fair Z g ls fs c
Settles Z g ls (cancelled reason) = Unit {0}

-- the whole order executes, or nothing
abbrev pub AllOrNone : ℕ → Outcome → Type 0
AllOrNone Z (executed fs c) = sum fs + c ≡ Z
AllOrNone Z (cancelled reason) = Unit {0}

pub record Facilitation : Type 0 where
  pub fair : (Z : ℕ) (g : ℤ) (r : ℕ) (ls : List Interest) → Settles Z g ls (facilitated Z g r ls)
  pub whole : (Z : ℕ) (g : ℤ) (r : ℕ) (ls : List Interest) → AllOrNone Z (facilitated Z g r ls)
  -- the facilitator receives the smaller of the rest and its reserved share, or the rest less others' interest, if larger
  pub facilitator : (Z : ℕ) (g : ℤ) (r : ℕ) (ls : List Interest) →
      rest Z g ls - shared Z g r ls ≡ max (min (rest Z g ls) r) (rest Z g ls - contracts (other_at g) ls)
  -- better lines that suffice are filled down, and the facilitator gets nothing
  pub better_suffice : (Z : ℕ) (g : ℤ) (r : ℕ) (ls : List Interest) → Z ≤ contracts (better g) ls → facilitated Z g r ls ≡ executed (fill_down Z ls) 0
  -- and otherwise are filled
  pub better_filled : (Z : ℕ) (g : ℤ) (r : ℕ) (ls : List Interest) → contracts (better g) ls ≤ Z →
      (i : ℕ) (l : Interest) → slice_get ls i ≡ Some l → g <ℤ l.gain → slice_index (fac_fills Z g r ls) i ≡ l.size
  pub in_proportion : (Z : ℕ) (g : ℤ) (r : ℕ) (ls : List Interest) (v : ℤ) → InProportion ls (fac_fills Z g r ls) v (fac_pot Z g r ls v)

pub record Solicitation : Type 0 where
  pub fair : (Z : ℕ) (g : ℤ) (ls : List Interest) → Settles Z g ls (solicited Z g ls)
  pub whole : (Z : ℕ) (g : ℤ) (ls : List Interest) → AllOrNone Z (solicited Z g ls)

pub record Block : Type 0 where
  pub fair : (Z : ℕ) (g : ℤ) (ls : List Interest) → Settles Z g ls (blocked Z g ls)
  -- as many contracts execute at the block price as at the order's, and at no better price
  pub as_many : (Z : ℕ) (g : ℤ) (ls : List Interest) → executing Z ls (block_gain Z g ls) ≡ executing Z ls g
  pub no_better : (Z : ℕ) (g : ℤ) (ls : List Interest) (v : ℤ) → 0 < executing Z ls g → block_gain Z g ls <ℤ v → executing Z ls v < executing Z ls g
  pub from_order : (Z : ℕ) (g : ℤ) (ls : List Interest) → g ≤ℤ block_gain Z g ls
  -- so many are filled, and none of them at a price worse than its own
  pub total : (Z : ℕ) (g : ℤ) (ls : List Interest) → sum (fill_down (executing Z ls g) ls) ≡ executing Z ls g
  pub paid : (Z : ℕ) (g : ℤ) (ls : List Interest) (i : ℕ) (l : Interest) → slice_get ls i ≡ Some l →
      0 < slice_index (fill_down (executing Z ls g) ls) i → block_gain Z g ls ≤ℤ l.gain
