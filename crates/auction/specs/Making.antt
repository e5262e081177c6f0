-- Orders and lines of some fields.
use Rattle.std.specs.Prelude.{ℕ, cond, ℤ, Ok, Err, Result}
use Rattle.market.specs.Fields.{nat_of}
use Rattle.market.specs.declared.names.Mechanism.{Mechanism}
use Rattle.market.specs.declared.names.Side.{Side}
use Rattle.market.specs.declared.names.Class.{Class}
use Rattle.market.specs.declared.fill.Party.{Party}
use Rattle.market.specs.declared.refusal.Refusal.{Refusal}
use Rattle.market.specs.declared.refusal.Refusal.TheVariants.{OutOfLimits}
use Rattle.auction.specs.declared.order.Order.{Order}
use Rattle.auction.specs.declared.line.Line.{Line}
use Rattle.auction.specs.Limits.{order_ok, line_ok}

-- the fields of the order that was made: mechanism, side, size, price, reserve
abbrev pub order_told : Result Order Refusal → Result (Mechanism × Side × ℕ × ℤ × ℕ) Refusal
order_told (Ok o) = Ok (o.mechanism, o.side, o.size, o.price, o.reserve)
order_told (Err e) = Err e

abbrev pub new_order : Mechanism → Side → ℤ → ℤ → ℤ → Result (Mechanism × Side × ℕ × ℤ × ℕ) Refusal
new_order m s size price reserve = cond (order_ok m size price reserve) (Ok (m, s, nat_of size, price, nat_of reserve)) (Err OutOfLimits)

-- the fields of the line that was made: party, price, size, class
abbrev pub line_told : Result Line Refusal → Result (Party × ℤ × ℕ × Class) Refusal
line_told (Ok l) = Ok (l.party, l.price, l.size, l.class)
line_told (Err e) = Err e

abbrev pub new_line : Party → ℤ → ℤ → Class → Result (Party × ℤ × ℕ × Class) Refusal
new_line p price size k = cond (line_ok price size) (Ok (p, price, nat_of size, k)) (Err OutOfLimits)
