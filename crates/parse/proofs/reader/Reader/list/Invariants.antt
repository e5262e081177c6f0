use Rattle.std.proofs.Common.{◌≡◌, length, vec_items}
use Rattle.parse.specs.Parser.{onto, items_of}
use Rattle.parse.specs.View.{tokens}
use Rattle.parse.proofs.reader.Reader.list.Given as goal

abbrev pub invariant-loop-items : goal.invariant-loop-items
invariant-loop-items g l = onto (vec_items l.items) (items_of g.T.Item.reads (tokens l.self)) ≡ items_of g.T.Item.reads (tokens l.initial.self)

abbrev pub decreases-loop-items : goal.decreases-loop-items
decreases-loop-items g l = length (tokens l.self)
