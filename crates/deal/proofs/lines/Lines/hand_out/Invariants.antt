use Rattle.std.proofs.Common.{length}
use Rattle.deal.proofs.Handing.{Handed}
use Rattle.deal.proofs.lines.Lines.hand_out.Given as goal

abbrev pub invariant-loop-turn : goal.invariant-loop-turn
invariant-loop-turn l = Handed l.level l.self l.parts l.initial.out (length l.yielded) l.out
