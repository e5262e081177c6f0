use Rattle.std.proofs.Common.{◌≡◌, length}
use Rattle.parse.specs.Parser.{items_of}
use Rattle.parse.specs.View.{tokens, asked}
use Rattle.parse.proofs.reader.Reader.skip.Given as goal

abbrev pub invariant-loop : goal.invariant-loop
invariant-loop g l = asked (items_of g.T.Item.reads (tokens l.self)) ≡ asked (items_of g.T.Item.reads (tokens l.initial.self))

abbrev pub decreases-loop : goal.decreases-loop
decreases-loop g l = length (tokens l.self)
