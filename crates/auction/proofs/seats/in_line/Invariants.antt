use Rattle.auction.proofs.Seated.{InFront}
use Rattle.auction.proofs.seats.in_line.Given as goal

abbrev pub invariant-loop-line : goal.invariant-loop-line
invariant-loop-line l = InFront l.lines l.line-index l.front.low l.front.taken
