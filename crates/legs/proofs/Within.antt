-- Implied orders are within the limits of entries.
use Rattle.std.proofs.Common.{◌≤◌, List, [], ◌∷◌, map, arith}
use Rattle.market.specs.declared.names.Side.{Side}
use Rattle.market.specs.Limits.{most_size}
use Rattle.legs.specs.declared.leg.LegQuotes.{LegQuotes}
use Rattle.legs.specs.Model.{leg_size, net_size}
use Rattle.legs.specs.Legs.{leg_held}
use Rattle.legs.proofs.Used.{size_bound}
use Rattle.legs.proofs.Taken.{fold_least}

pub net_size_few : (s : Side) (ls : List LegQuotes) → net_size s (map leg_held ls) ≤ most_size
net_size_few s [] = omega arith
net_size_few s (l ∷ ls) = let f = fold_least (leg_size s (leg_held l)) (map (leg_size s) (map leg_held ls)) in let a = f.0 in let b = size_bound s l in omega arith
