-- Lines of interest, in line order.
use Rattle.std.specs.Prelude.{ℕ, ◌+◌, Bool, cond, not, ◌&&◌, List, [], ◌∷◌, ℤ, sum, int_le, int_lt}
use Rattle.filling.specs.declared.interest.Interest.{Interest}

-- lines that gain more than v
abbrev pub better : ℤ → Interest → Bool
better v l = int_lt v l.gain

-- lines at the level v
abbrev pub level : ℤ → Interest → Bool
level v l = int_le v l.gain && int_le l.gain v

abbrev pub customer_at : ℤ → Interest → Bool
customer_at v l = level v l && l.customer

abbrev pub other_at : ℤ → Interest → Bool
other_at v l = level v l && not l.customer

-- the sizes of the lines that pass a test
abbrev pub sizes : (Interest → Bool) → List Interest → List ℕ
sizes p [] = []
sizes p (l ∷ ls) = cond (p l) (l.size ∷ sizes p ls) (sizes p ls)

-- their contracts in all
abbrev pub contracts : (Interest → Bool) → List Interest → ℕ
contracts p ls = sum (sizes p ls)

-- what of the fills fs goes to lines that pass a test
abbrev pub filled : (Interest → Bool) → List Interest → List ℕ → ℕ
filled p [] fs = 0
filled p (l ∷ ls) [] = 0
filled p (l ∷ ls) (f ∷ fs) = cond (p l) f 0 + filled p ls fs
