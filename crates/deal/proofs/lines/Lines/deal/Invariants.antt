use Rattle.deal.proofs.Descent.{Served, height}
use Rattle.deal.proofs.lines.Lines.deal.Given as goal

abbrev pub invariant-loop-level : goal.invariant-loop-level
invariant-loop-level l = Served l.plan l.self l.out l.bound

abbrev pub decreases-loop-level : goal.decreases-loop-level
decreases-loop-level l = height l.bound
