-- Levels from the best one down, and the lines that share out at a level.
use Rattle.std.specs.Prelude.{ℕ, ◌+◌, Bool, true, cond, ◌&&◌, List, [], ◌∷◌, ℤ, Some, None, Option, int_lt}
use Rattle.filling.specs.declared.interest.Interest.{Interest}
use Rattle.filling.specs.Totals.{other_at}
use Rattle.deal.specs.declared.turns.Turn.{Turn}

-- below a bound, if there is one
abbrev pub under : Option ℤ → ℤ → Bool
under None v = true
under (Some b) v = int_lt v b

-- above the best so far, if there is one
abbrev pub over : Option ℤ → ℤ → Bool
over None v = true
over (Some b) v = int_lt b v

-- the best of one and the gains of the lines, below a bound
abbrev pub best_under : Option ℤ → Option ℤ → List Interest → Option ℤ
best_under bound best [] = best
best_under bound best (l ∷ ls) = best_under bound (cond (under bound l.gain && over best l.gain) (Some l.gain) best) ls

-- the others of the level v: their place numbers, from n on, and sizes
abbrev pub turns_from : ℤ → ℕ → List Interest → List Turn
turns_from v n [] = []
turns_from v n (l ∷ ls) = cond (other_at v l) (record { place = n; size = l.size } ∷ turns_from v (n + 1) ls) (turns_from v (n + 1) ls)
