-- Where an offset of a sheet stands: its line and its column, both from 1. Words with their places.
use Rattle.std.specs.Prelude.{◌≡◌, ℕ, ◌+◌, Bool, true, false, cond, List, [], ◌∷◌, length, take, drop, ◌==◌}

-- the line after these bytes, where the first of them stands on the line n
abbrev pub line_after : ℕ → List ℕ → ℕ
line_after n [] = n
line_after n (b ∷ bs) = line_after (cond (b == 10) (n + 1) n) bs

-- the column after these bytes, where the first of them stands at the column n
abbrev pub column_after : ℕ → List ℕ → ℕ
column_after n [] = n
column_after n (b ∷ bs) = column_after (cond (b == 10) 1 (n + 1)) bs

abbrev pub line_at : List ℕ → ℕ → ℕ
line_at sheet at = line_after 1 (take at sheet)

abbrev pub column_at : List ℕ → ℕ → ℕ
column_at sheet at = column_after 1 (take at sheet)

-- A word with its place.
pub record Placed : Type 0 where
  pub line : ℕ
  pub column : ℕ
  pub bytes : List ℕ

-- A word is a part of the sheet: it is cut out at an offset, whose line and column it has.
pub record PartOf (sheet : List ℕ) (w : Placed) : Type 0 where
  pub at : ℕ
  pub bytes : w.bytes ≡ take (length w.bytes) (drop at sheet)
  pub line : w.line ≡ line_at sheet at
  pub column : w.column ≡ column_at sheet at

-- whether a line follows, by what stands from the end of this one on: then its start is reached, else the sheet's end
abbrev pub Onto : Bool → List ℕ → List ℕ → ℕ → ℕ → ℕ → Type 0
Onto true tail left l m c = (tail ≡ 10 ∷ left) × (m ≡ l + 1) × (c ≡ 1)
Onto false tail left l m c = (tail ≡ []) × (left ≡ []) × (m ≡ l)
