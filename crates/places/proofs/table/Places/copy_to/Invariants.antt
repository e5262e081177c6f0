use Rattle.std.proofs.Common.{◌≡◌, ◌++◌, take, drop}
use Rattle.places.specs.Table.{line_of}
use Rattle.places.proofs.table.Places.copy_to.Given as goal

-- the front is copied, the rest as it was
abbrev pub invariant-loop-turn : goal.invariant-loop-turn
invariant-loop-turn l = l.out ≡ take l.turn (line_of l.self) ++ drop l.turn l.fn.out
