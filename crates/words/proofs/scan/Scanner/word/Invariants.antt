use Rattle.std.proofs.Common.{◌≡◌, ◌+◌, ◌-◌, ◌≤◌, length, drop}
use Rattle.words.specs.Bytes.{run}
use Rattle.words.proofs.scan.Scanner.word.Given as goal

abbrev pub invariant-loop-self : goal.invariant-loop-self
invariant-loop-self l =
    (l.self.sheet.now ≡ l.initial.self.sheet.now)
    × (l.start.at ≤ l.self.at)
    × (l.self.line ≡ l.start.line)
    × (l.self.column + l.start.at ≡ l.start.column + l.self.at)
    × (run (drop l.self.at l.initial.self.sheet.now) + l.self.at ≡ run (drop l.start.at l.initial.self.sheet.now) + l.start.at)

abbrev pub decreases-loop-self : goal.decreases-loop-self
decreases-loop-self l = length l.initial.self.sheet.now - l.self.at
