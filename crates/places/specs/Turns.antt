-- The turns of places: numbers from 0 to 63, each at most once, the first in line in front.
use Rattle.std.specs.Prelude.{ℕ, Bool, true, false, cond, not, List, [], ◌∷◌, filter, ◌==◌, nat_lt}

abbrev pub has : ℕ → List ℕ → Bool
has p [] = false
has p (x ∷ xs) = cond (x == p) true (has p xs)

-- no place has two turns
abbrev pub apart : List ℕ → Bool
apart [] = true
apart (x ∷ xs) = cond (has x xs) false (apart xs)

-- each is below n
abbrev pub under : ℕ → List ℕ → Bool
under n [] = true
under n (x ∷ xs) = cond (nat_lt x n) (under n xs) false

abbrev pub differs : ℕ → ℕ → Bool
differs p x = not (x == p)

-- the turns without p's
abbrev pub without_turn : ℕ → List ℕ → List ℕ
without_turn p xs = filter (differs p) xs
