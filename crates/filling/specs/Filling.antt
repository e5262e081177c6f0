-- Who gets how much of an amount.
use Rattle.std.specs.Prelude.{ℕ, ◌-◌, min, cond, List, [], ◌∷◌, ◌++◌, length, ℤ, slice_index}
use Rattle.share.specs.Shares.{shares}
use Rattle.filling.specs.declared.interest.Interest.{Interest}
use Rattle.filling.specs.Totals.{better, customer_at, other_at, sizes, contracts}

-- What a line gets, with the lines before it, where room v contracts come down to the level v and pot v of them are
-- for those who are no customers: a customer takes what the customers before it at its level leave, and each other
-- line has its share of the pot.
abbrev pub fill : (ℤ → ℕ) → (ℤ → ℕ) → List Interest → List Interest → Interest → ℕ
fill room pot ls before l =
    cond l.customer
    (min l.size (room l.gain - contracts (customer_at l.gain) before))
    (slice_index (shares (pot l.gain) (sizes (other_at l.gain) ls)) (length (sizes (other_at l.gain) before)))

abbrev pub fills_from : (ℤ → ℕ) → (ℤ → ℕ) → List Interest → List Interest → List Interest → List ℕ
fills_from room pot ls before [] = []
fills_from room pot ls before (l ∷ rest) = fill room pot ls before l ∷ fills_from room pot ls (before ++ l ∷ []) rest

-- what each line gets
abbrev pub dealt : (ℤ → ℕ) → (ℤ → ℕ) → List Interest → List ℕ
dealt room pot ls = fills_from room pot ls [] ls

-- Filling an amount down, from the best level.

-- what better lines leave for the level v
abbrev pub reaching : ℕ → List Interest → ℤ → ℕ
reaching a ls v = a - contracts (better v) ls

-- what its customers leave for the others, as far as they go
abbrev pub left_over : ℕ → List Interest → ℤ → ℕ
left_over a ls v = min (contracts (other_at v) ls) (reaching a ls v - contracts (customer_at v) ls)

abbrev pub fill_down : ℕ → List Interest → List ℕ
fill_down a ls = dealt (reaching a ls) (left_over a ls) ls
