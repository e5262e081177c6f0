use Rattle.std.proofs.Common.{◌≡◌, ◌≤◌, ◌++◌, map, drop, length}
use Rattle.auction.specs.Lines.{interest_of, interest}
use Rattle.auction.proofs.counting.counted.Given as goal

abbrev pub invariant-loop-line : goal.invariant-loop-line
invariant-loop-line l =
    (length l.counted.items ≤ l.line-index)
    × (l.counted.items ++ map (interest_of l.order) (drop l.line-index l.lines) ≡ interest l.order l.lines)
