use Rattle.legs.proofs.Sided.{Quoting}
use Rattle.legs.proofs.legside.LegSide.quoted.Given as goal

abbrev pub invariant-loop-place : goal.invariant-loop-place
invariant-loop-place l = Quoting l.sizes l.quotes l.place
