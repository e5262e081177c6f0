use Rattle.std.proofs.Common.{length}
use Rattle.words.specs.View.{rest}
use Rattle.sheet.proofs.Whole.{Judging}
use Rattle.sheet.proofs.reading.verdict.Given as goal

abbrev pub invariant-loop-forms : goal.invariant-loop-forms
invariant-loop-forms l = Judging l.sheet l.reader l.forms

abbrev pub decreases-loop-forms : goal.decreases-loop-forms
decreases-loop-forms l = length (rest l.reader.scan)
