-- What a call's fields may be, and the price tests of an enter.
use Rattle.std.specs.Prelude.{ℕ, ◌*◌, Bool, true, false, cond, not, ◌&&◌, ◌||◌, List, [], ◌∷◌, ℤ, pos, int_le, int_lt, nat_lt}
use Rattle.market.specs.Limits.{lowest_price, highest_price, most_size}
use Rattle.market.specs.Fields.{in_range, nat_of}
use Rattle.market.specs.declared.names.Kind.{Kind}
use Rattle.market.specs.declared.names.Kind.TheVariants.{Series, Net}
use Rattle.market.specs.declared.names.Side.{Side}
use Rattle.market.specs.declared.names.Side.TheVariants.{Buy, Sell}
use Rattle.market.specs.declared.names.Mechanism.{Mechanism}
use Rattle.market.specs.declared.names.Mechanism.TheVariants.{Block, Facilitation, Solicited}
use Rattle.market.specs.declared.fill.Party.{Party}
use Rattle.market.specs.declared.fill.Party.TheVariants.{Response}
use Rattle.market.specs.declared.entry.Entry.{Entry}
use Rattle.auction.specs.declared.order.Order.{Order}
use Rattle.auction.specs.declared.line.Line.{Line}
use Rattle.auction.specs.Limits.{most_members, most_slots, most_reserve, is_facilitation}
use Rattle.auction.specs.Gains.{gain, is_customer}
use Rattle.auction.specs.Lines.{gain_of}
use Rattle.house.specs.declared.entering.Entering.{Entering}
use Rattle.house.specs.declared.responding.Responding.{Responding}
use Rattle.house.specs.Making.{order_of, line_of}

-- prices in a series start at 1
abbrev pub lowest_in : Kind → ℤ
lowest_in Series = pos 1
lowest_in Net = lowest_price

abbrev pub is_net : Kind → Bool
is_net Series = false
is_net Net = true

abbrev pub is_block : Mechanism → Bool
is_block Block = true
is_block Facilitation = false
is_block Solicited = false

-- the latest moment of an enter, and that of the other calls
abbrev pub last_enter : ℤ
last_enter = pos 1000000000000

abbrev pub last_moment : ℤ
last_moment = pos 1000000001000

abbrev pub shortest : ℤ
shortest = pos 100

abbrev pub longest : ℤ
longest = pos 1000

-- a price and a size within their limits
abbrev pub offer_ok : Kind → ℤ → ℤ → Bool
offer_ok kind price size = in_range (lowest_in kind) highest_price price && in_range (pos 1) (pos most_size) size

abbrev pub moment_ok : ℤ → Bool
moment_ok at = int_le at last_moment

-- a net has no blocks
abbrev pub trades : Kind → Mechanism → Bool
trades kind m = not (is_net kind && is_block m)

-- only a facilitation has a reserve
abbrev pub share_ok : Mechanism → ℤ → Bool
share_ok m reserve = in_range (pos 0) (pos (cond (is_facilitation m) most_reserve 0)) reserve

-- the response time, and the moment of an enter
abbrev pub times_ok : ℤ → ℤ → Bool
times_ok time at = in_range shortest longest time && int_le at last_enter

-- the fields of an enter within their limits
abbrev pub enter_ok : Kind → Entering → Bool
enter_ok kind e = (trades kind e.mechanism && share_ok e.mechanism e.reserve) && (offer_ok kind e.price e.size && times_ok e.time e.at)

abbrev pub seat_ok : ℤ → ℤ → Bool
seat_ok member slot = in_range (pos 1) (pos most_members) member && in_range (pos 1) (pos most_slots) slot

-- those of a response
abbrev pub response_ok : Kind → Responding → Bool
response_ok kind r = (seat_ok r.member r.slot && offer_ok kind r.price r.size) && moment_ok r.at

-- the order of an enter, the member's slot of two numbers, and the line of a response
abbrev pub entered_order : Entering → Order
entered_order e = order_of e.mechanism e.side e.size e.price e.reserve

abbrev pub seat_party : ℤ → ℤ → Party
seat_party member slot = Response (nat_of member) (nat_of slot)

abbrev pub response_line : Responding → Line
response_line r = line_of (seat_party r.member r.slot) r.price r.size r.class

-- the least size, which a net's order reaches times its smallest ratio
abbrev pub least_size : Mechanism → ℕ
least_size Block = 50
least_size Facilitation = 50
least_size Solicited = 500

abbrev pub too_small : ℕ → Order → Bool
too_small ratio o = nat_lt (o.size * ratio) (least_size o.mechanism)

-- THE PRICE TESTS, of facilitation and solicited orders. Emptied entries are no interest.

abbrev pub same_side : Side → Side → Bool
same_side Buy Buy = true
same_side Buy Sell = false
same_side Sell Buy = false
same_side Sell Sell = true

abbrev pub live : Entry → Bool
live e = nat_lt 0 e.size

-- interest on the order's own side, and on the other
abbrev pub beside : Side → Entry → Bool
beside side e = same_side side e.side && live e

abbrev pub against : Side → Entry → Bool
against side e = not (same_side side e.side) && live e

abbrev pub any_entry : (Entry → Bool) → List Entry → Bool
any_entry p [] = false
any_entry p (e ∷ es) = p e || any_entry p es

-- somebody beside the order would buy for more or sell for less
abbrev pub outbids : Order → Entry → Bool
outbids o e = beside o.side e && int_lt (gain o.side e.price) (gain_of o)

-- a customer on that side at the order's price
abbrev pub customer_beside : Order → Entry → Bool
customer_beside o e = beside o.side e && (is_customer e.class && (int_le e.price o.price && int_le o.price e.price))

-- on the other side, an entry with a larger gain
abbrev pub gains_more : Order → Entry → Bool
gains_more o e = against o.side e && int_lt (gain_of o) (gain o.side e.price)

-- the order is outbid, in the pool or away
abbrev pub is_outbid : Order → List Entry → List Entry → Bool
is_outbid o pool away = not (is_block o.mechanism) && (any_entry (outbids o) pool || any_entry (outbids o) away)

-- a customer of the pool stands beside it
abbrev pub has_customer_beside : Order → List Entry → Bool
has_customer_beside o pool = not (is_block o.mechanism) && any_entry (customer_beside o) pool

-- another market has a better price for it
abbrev pub is_better_away : Order → List Entry → Bool
is_better_away o away = not (is_block o.mechanism) && any_entry (gains_more o) away

-- a line that gains less than the order asks
abbrev pub gains_less : Order → Line → Bool
gains_less o l = not (is_block o.mechanism) && int_lt (gain o.side l.price) (gain_of o)
