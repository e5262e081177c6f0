use Rattle.std.proofs.Common.{◌-◌, length}
use Rattle.words.proofs.Spaces.{Past}
use Rattle.words.proofs.scan.Scanner.spaces.Given as goal

abbrev pub invariant-loop-self : goal.invariant-loop-self
invariant-loop-self l = Past l.initial.self l.self

abbrev pub decreases-loop-self : goal.decreases-loop-self
decreases-loop-self l = length l.initial.self.sheet.now - l.self.at
