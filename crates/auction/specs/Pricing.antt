-- The price of each line.
use Rattle.std.specs.Prelude.{cond, List, ℤ, ◌≤ℤ◌, nat_lt}
use Rattle.market.specs.Limits.{lowest_price, highest_price}
use Rattle.market.specs.declared.names.Mechanism.{Mechanism}
use Rattle.market.specs.declared.names.Mechanism.TheVariants.{Block, Facilitation, Solicited}
use Rattle.filling.specs.declared.interest.Interest.{Interest}
use Rattle.filling.specs.Totals.{better, contracts}
use Rattle.filling.specs.Mechanisms.{block_gain}
use Rattle.auction.specs.declared.order.Order.{Order}
use Rattle.auction.specs.declared.line.Line.{Line}
use Rattle.auction.specs.declared.blotter.Pricing.{Pricing}
use Rattle.auction.specs.declared.blotter.Pricing.TheVariants.{Own, CustomersAt, AllAt}
use Rattle.auction.specs.Gains.{gain, is_customer}
use Rattle.auction.specs.Lines.{gain_of}

-- the price of a line
abbrev pub paid : Pricing → Line → ℤ
paid Own l = l.price
paid (CustomersAt p) l = cond (is_customer l.class) p l.price
paid (AllAt p) l = p

-- how the lines of an order are priced, by the lines as they are counted
abbrev pub pricing_in : Mechanism → Order → List Interest → Pricing
pricing_in Facilitation o is = cond (nat_lt (contracts (better (gain_of o)) is) o.size) (CustomersAt o.price) Own
pricing_in Solicited o is = Own
pricing_in Block o is = AllAt (gain o.side (block_gain o.size (gain_of o) is))

-- a gain at a price within the limits
pub record Priced (i : Interest) : Type 0 where
  pub low : lowest_price ≤ℤ i.gain
  pub high : i.gain ≤ℤ highest_price
