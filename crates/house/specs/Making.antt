-- The order and the line of a call's fields, cut to the limits: fields within them are not changed.
use Rattle.std.specs.Prelude.{◌≡◌, ℕ, ◌≤◌, min, max, Bool, true, false, cond, ℤ, refl}
use Rattle.std.proofs.Common.{arith}
use Rattle.market.specs.Limits.{most_size}
use Rattle.market.specs.Fields.{nat_of}
use Rattle.market.specs.Making.{cut_price, cut_low, cut_high}
use Rattle.market.specs.declared.names.Mechanism.{Mechanism}
use Rattle.market.specs.declared.names.Mechanism.TheVariants.{Block, Facilitation, Solicited}
use Rattle.market.specs.declared.names.Side.{Side}
use Rattle.market.specs.declared.names.Class.{Class}
use Rattle.market.specs.declared.fill.Party.{Party}
use Rattle.auction.specs.declared.order.Order.{Order}
use Rattle.auction.specs.declared.line.Line.{Line}
use Rattle.auction.specs.Limits.{reserve_ok}

abbrev pub cut_size : ℕ → ℕ
cut_size n = max 1 (min n most_size)

abbrev pub cut_reserve : Mechanism → ℕ → ℕ
cut_reserve m r = cond (reserve_ok m r) r 0

pub cut_reserve_ok : (m : Mechanism) (r : ℕ) (b : Bool) → reserve_ok m r ≡ b → reserve_ok m (cond b r 0) ≡ true
cut_reserve_ok m r true e = e
cut_reserve_ok Block r false e = refl
cut_reserve_ok Facilitation r false e = refl
cut_reserve_ok Solicited r false e = refl

-- mechanism, side, size, price and reserve
abbrev pub order_of : Mechanism → Side → ℤ → ℤ → ℤ → Order
order_of m s size price reserve = record {
  mechanism = m;
  side = s;
  size = cut_size (nat_of size);
  price = cut_price price;
  reserve = cut_reserve m (nat_of reserve);
  some = let h : 1 ≤ max 1 (min (nat_of size) most_size) = omega arith in h;
  few = let h : max 1 (min (nat_of size) most_size) ≤ most_size = omega arith in h;
  low = cut_low price _ _ refl;
  high = cut_high price _ _ refl;
  reserved = cut_reserve_ok m (nat_of reserve) _ refl;
}

-- party, price, size and class
abbrev pub line_of : Party → ℤ → ℤ → Class → Line
line_of who price size k = record {
  party = who;
  price = cut_price price;
  size = cut_size (nat_of size);
  class = k;
  some = let h : 1 ≤ max 1 (min (nat_of size) most_size) = omega arith in h;
  few = let h : max 1 (min (nat_of size) most_size) ≤ most_size = omega arith in h;
  low = cut_low price _ _ refl;
  high = cut_high price _ _ refl;
}
