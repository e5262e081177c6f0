use Rattle.std.proofs.Common.{refl, rules}
use Rattle.words.specs.Bytes.{none}
use Rattle.words.proofs.Spaces.{past_more}
use Rattle.words.proofs.scan.Scanner.spaces.Goals as goal

pub loop-self-init : goal.loop-self-init
loop-self-init c = record { same = refl; line = refl; skips = none }

pub loop-self-preserved : goal.loop-self-preserved
loop-self-preserved c = let m = c.step.ensures in past_more c.args.self.now c.loop-self.self c.step.new.self c.loop-self.invariant (search rules) m.at m.sheet m.line m.column
