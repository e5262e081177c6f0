use Rattle.std.proofs.Common.{drop}
use Rattle.deal.proofs.Climbing.{Climbs}
use Rattle.deal.proofs.lines.Lines.climb.Given as goal

abbrev pub invariant-loop-line : goal.invariant-loop-line
invariant-loop-line l = Climbs l.size l.gain l.self l.best l.ceiling (drop l.line-index l.self)
