-- Replacing one side of one leg.
use Rattle.std.specs.Prelude.{ℕ, ◌-◌, Bool, cond, ◌&&◌, List, map, length, ℤ, pos, Ok, Err, Result}
use Rattle.market.specs.declared.refusal.Refusal.{Refusal}
use Rattle.market.specs.declared.refusal.Refusal.TheVariants.{OutOfLimits}
use Rattle.market.specs.declared.names.Edge.{Edge}
use Rattle.market.specs.declared.names.Edge.TheVariants.{Bid, Offer}
use Rattle.market.specs.Lists.{change_at}
use Rattle.legs.specs.Model.{SideHeld, LegHeld}
use Rattle.market.specs.Fields.{in_range, nat_of}
use Rattle.legs.specs.Fields.{price_ok, sizes_ok}

-- a price, with a quote of each size
abbrev pub quoted_side : ℤ → List ℤ → SideHeld
quoted_side price zs = record { price = nat_of price; quotes = map nat_of zs }

-- a leg with one side replaced
abbrev pub quoted_leg : Edge → SideHeld → LegHeld → LegHeld
quoted_leg Bid e l = record { side = l.side; ratio = l.ratio; bid = e; offer = l.offer }
quoted_leg Offer e l = record { side = l.side; ratio = l.ratio; bid = l.bid; offer = e }

-- the leg, counted from 1, the price and the sizes within their limits
abbrev pub quote_ok : ℕ → ℤ → ℤ → List ℤ → Bool
quote_ok n leg price zs = in_range (pos 1) (pos n) leg && (price_ok price && sizes_ok zs)

-- what a quote answers: leg, price, sizes
abbrev pub quote_answer : List LegHeld → ℤ → ℤ → List ℤ → Result (Unit {0}) Refusal
quote_answer ls leg price zs = cond (quote_ok (length ls) leg price zs) (Ok tt) (Err OutOfLimits)

-- the legs after it
abbrev pub after_quote : List LegHeld → ℤ → Edge → ℤ → List ℤ → List LegHeld
after_quote ls leg edge price zs = cond (quote_ok (length ls) leg price zs) (change_at (quoted_leg edge (quoted_side price zs)) ls (nat_of leg - 1)) ls
