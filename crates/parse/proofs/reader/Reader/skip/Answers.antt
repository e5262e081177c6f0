use Rattle.std.proofs.Common.{◌∙◌}
use Rattle.parse.specs.View.{tokens}
use Rattle.parse.proofs.Items.{passed}
use Rattle.parse.proofs.reader.Reader.skip.Goals as goal

pub loop-preserved : goal.loop-preserved
loop-preserved g c = passed g.T.Item.reads g.met.T.Item.takes (tokens c.loop.self) (tokens c.next.new.reader) c.in_ok-next.field-0 c.in_ok-next.ensures c.if-is_some.ensures ∙ c.loop.invariant
