use Rattle.std.proofs.Common.{◌≡◌, ◌≤◌, ◌++◌, drop, length}
use Rattle.deal.specs.Levels.{turns_from}
use Rattle.deal.proofs.lines.Lines.turns_at.Given as goal

abbrev pub invariant-loop-place : goal.invariant-loop-place
invariant-loop-place l =
    (length l.turns.items ≤ l.place)
    × (l.turns.items ++ turns_from l.level l.place (drop l.place l.line-items) ≡ turns_from l.level 0 l.line-items)
