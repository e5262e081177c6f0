-- The edge of a leg that an implied order uses.
use Rattle.std.proofs.Common.{◌≤◌, sum, div-le_self, arith}
use Rattle.market.specs.declared.names.Side.{Side}
use Rattle.market.specs.declared.names.Side.TheVariants.{Buy, Sell}
use Rattle.legs.specs.declared.leg.LegQuotes.{LegQuotes}
use Rattle.legs.specs.Model.{by_side, used, leg_size}
use Rattle.legs.specs.Sides.{side_held}
use Rattle.legs.specs.Legs.{leg_held}
use Rattle.legs.proofs.Sided.{side_bound}

pub either : {X : Type 0} (P : X → Type 0) (s t : Side) (x y : X) → P x → P y → P (by_side s t x y)
either P Buy Buy x y p q = p
either P Buy Sell x y p q = q
either P Sell Buy x y p q = q
either P Sell Sell x y p q = p

pub used_bound : (s : Side) (l : LegQuotes) → sum (used s (leg_held l)).quotes ≤ 1000000
used_bound s l = either (λ e. sum e.quotes ≤ 1000000) s l.side (side_held l.bid) (side_held l.offer) (side_bound l.bid) (side_bound l.offer)

-- a leg has contracts for at most 1,000,000 implied orders
pub size_bound : (s : Side) (l : LegQuotes) → leg_size s (leg_held l) ≤ 1000000
size_bound s l = let b = used_bound s l in let d = div-le_self (sum (used s (leg_held l)).quotes) l.ratio in omega arith
