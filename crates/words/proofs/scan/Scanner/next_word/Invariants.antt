use Rattle.std.proofs.Common.{◌≡◌, length}
use Rattle.words.specs.View.{tokens, words_in}
use Rattle.words.proofs.scan.Scanner.next_word.Given as goal

abbrev pub invariant-loop-word : goal.invariant-loop-word
invariant-loop-word l = (l.self.sheet.now ≡ l.initial.self.sheet.now) × (words_in (tokens l.self) ≡ words_in (tokens l.initial.self))

abbrev pub decreases-loop-word : goal.decreases-loop-word
decreases-loop-word l = length (tokens l.self)
