use Rattle.std.proofs.Common.{length, vec_items}
use Rattle.words.specs.View.{rest}
use Rattle.sheet.proofs.Whole.{Noting}
use Rattle.sheet.proofs.reading.read.Given as goal

abbrev pub invariant-loop-found : goal.invariant-loop-found
invariant-loop-found l = Noting l.sheet l.reader (vec_items l.found)

abbrev pub decreases-loop-found : goal.decreases-loop-found
decreases-loop-found l = length (rest l.reader.scan)
