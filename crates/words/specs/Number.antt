-- Numbers as a sheet writes them.
use Rattle.std.specs.Prelude.{ℕ, ◌+◌, ◌-◌, ◌*◌, ◌≤◌, List, [], ◌∷◌, length, ℤ, pos, neg_ℤ}
use Rattle.std.specs.List.{AllByRecursion}

-- the number that n followed by these digits writes
abbrev pub decimal : ℕ → List ℕ → ℕ
decimal n [] = n
decimal n (d ∷ ds) = decimal (n * 10 + (d - 48)) ds

abbrev pub Digit : ℕ → Type 0
Digit d = (48 ≤ d) × (d ≤ 57)

-- 1 to 13 digits, the first of which is not 0, and the number that they write
pub data Numeral : List ℕ → ℕ → Type 0 where
  numeral : {d : ℕ} {ds : List ℕ} → 49 ≤ d → d ≤ 57 → AllByRecursion Digit ds → length ds ≤ 12 → Numeral (d ∷ ds) (decimal (d - 48) ds)

-- 0, or a numeral, before which a minus may stand
pub data Number : List ℕ → ℤ → Type 0 where
  nought : Number (48 ∷ []) (pos 0)
  plain : {ds : List ℕ} {n : ℕ} → Numeral ds n → Number ds (pos n)
  minus : {ds : List ℕ} {n : ℕ} → Numeral ds n → Number (45 ∷ ds) (neg_ℤ (pos n))
