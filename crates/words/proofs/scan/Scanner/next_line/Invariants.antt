use Rattle.std.proofs.Common.{◌≡◌, ◌-◌, ◌≤◌, length, drop}
use Rattle.words.specs.Bytes.{behind}
use Rattle.words.proofs.scan.Scanner.next_line.Given as goal

abbrev pub invariant-loop-self : goal.invariant-loop-self
invariant-loop-self l =
    (l.self.sheet.now ≡ l.initial.self.sheet.now)
    × (l.self.line ≡ l.initial.self.line)
    × (behind (drop l.self.at l.self.sheet.now) ≡ behind (drop l.initial.self.at l.initial.self.sheet.now))
    × (l.initial.self.at ≤ l.self.at)

abbrev pub decreases-loop-self : goal.decreases-loop-self
decreases-loop-self l = length l.initial.self.sheet.now - l.self.at
