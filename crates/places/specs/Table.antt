-- The line that a table of places holds.
use Rattle.std.specs.Prelude.{List}
use Rattle.auction.specs.declared.line.Line.{Line}
use Rattle.places.specs.declared.table.Places.{Places}
use Rattle.places.specs.Held.{in_turn}

-- the responses in line order
abbrev pub line_of : Places → List Line
line_of t = in_turn t.held t.turns.items
