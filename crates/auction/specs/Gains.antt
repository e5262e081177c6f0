-- What an order gains at a price.
use Rattle.std.specs.Prelude.{Bool, true, false, ℤ, neg_ℤ}
use Rattle.market.specs.declared.names.Side.{Side}
use Rattle.market.specs.declared.names.Side.TheVariants.{Buy, Sell}
use Rattle.market.specs.declared.names.Class.{Class}
use Rattle.market.specs.declared.names.Class.TheVariants.{Customer, Other}
use Rattle.market.specs.declared.fill.Party.{Party}
use Rattle.market.specs.declared.fill.Party.TheVariants.{Entry, Response, Contra}

-- The gain of an order on this side at a price: the price where it sells, else minus the price. A larger gain is better.
-- The same leads from a gain back to the price.
abbrev pub gain : Side → ℤ → ℤ
gain Sell price = price
gain Buy price = neg_ℤ price

-- a Priority Customer
abbrev pub is_customer : Class → Bool
is_customer Customer = true
is_customer Other = false

-- an entry of the pool
abbrev pub is_pooled : Party → Bool
is_pooled (Entry place) = true
is_pooled (Response member slot) = false
is_pooled Contra = false
