-- Resting an order in a book.
use Rattle.std.specs.Prelude.{ℕ, Bool, cond, ◌&&◌, [], ◌∷◌, ◌++◌, ℤ, pos, is_ok, Ok, Err, count_by, filter, Result, ◌==◌, nat_lt}
use Rattle.std.specs.List.{list_any}
use Rattle.market.specs.declared.names.Kind.{Kind}
use Rattle.market.specs.declared.names.Kind.TheVariants.{Series, Net}
use Rattle.market.specs.declared.names.Side.{Side}
use Rattle.market.specs.declared.names.Class.{Class}
use Rattle.market.specs.declared.refusal.Refusal.{Refusal}
use Rattle.market.specs.declared.refusal.Refusal.TheVariants.{OutOfLimits, NumberStands, NoSpace}
use Rattle.market.specs.Limits.{lowest_price, highest_price, most_size}
use Rattle.market.specs.Fields.{in_range, nat_of}
use Rattle.market.specs.Making.{entry_of}
use Rattle.pools.specs.declared.book.Order.{Order}
use Rattle.pools.specs.Limits.{most_orders, highest_number}
use Rattle.pools.specs.Books.{BookHeld}

-- an order with contracts
abbrev pub live : Order → Bool
live o = nat_lt 0 o.entry.size

-- an order with contracts under a number
abbrev pub stands_as : ℕ → Order → Bool
stands_as n o = o.number == n && live o

-- the lowest price of an order, by the kind of market
abbrev pub lowest_of : Kind → ℤ
lowest_of Series = pos 1
lowest_of Net = lowest_price

-- a number, a price and a size within their limits
abbrev pub rest_ok : Kind → ℤ → ℤ → ℤ → Bool
rest_ok kind n p z = in_range (pos 1) (pos highest_number) n && (in_range (lowest_of kind) highest_price p && in_range (pos 1) (pos most_size) z)

-- the order of these fields: number, side, price, size, class
abbrev pub order_of : ℤ → Side → ℤ → ℤ → Class → Order
order_of n s p z k = record { number = nat_of n; entry = entry_of s p (nat_of z) k }

-- what resting an order of this number, price and size answers
abbrev pub rest_answer : BookHeld → ℤ → ℤ → ℤ → Result (Unit {0}) Refusal
rest_answer b n p z =
    cond (rest_ok b.kind n p z)
    (cond (list_any (stands_as (nat_of n)) b.orders) (Err NumberStands) (cond (nat_lt (count_by live b.orders) most_orders) (Ok tt) (Err NoSpace)))
    (Err OutOfLimits)

-- the book after it: without the emptied orders, and with the new one at the end
abbrev pub after_rest : BookHeld → ℤ → Side → ℤ → ℤ → Class → BookHeld
after_rest b n s p z k = cond (is_ok (rest_answer b n p z)) (record { kind = b.kind; orders = filter live b.orders ++ order_of n s p z k ∷ [] }) b
