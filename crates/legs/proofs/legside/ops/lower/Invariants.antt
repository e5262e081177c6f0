use Rattle.legs.proofs.Lowering.{Lowering}
use Rattle.legs.proofs.legside.ops.lower.Given as goal

abbrev pub invariant-loop-i : goal.invariant-loop-i
invariant-loop-i l = Lowering l.initial.quotes l.quotes l.by l.i
