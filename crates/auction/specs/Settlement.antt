-- One settlement: what goes onto the blotter, or the reason why nothing executes.
use Rattle.std.specs.Prelude.{ℕ, ◌+◌, ◌-◌, cond, ◌&&◌, List, [], ◌∷◌, ◌++◌, ℤ, ◌==◌, nat_lt}
use Rattle.std.specs.List.{sum_by}
use Rattle.market.specs.declared.names.Mechanism.{Mechanism}
use Rattle.market.specs.declared.names.Mechanism.TheVariants.{Block, Facilitation, Solicited}
use Rattle.market.specs.declared.fill.Party.{Party}
use Rattle.market.specs.declared.fill.Party.TheVariants.{Contra}
use Rattle.market.specs.declared.fill.Fill.{Fill}
use Rattle.market.specs.declared.fill.Reason.{Reason}
use Rattle.filling.specs.Mechanisms as count
use Rattle.auction.specs.declared.order.Order.{Order}
use Rattle.auction.specs.declared.line.Line.{Line}
use Rattle.auction.specs.Gains.{gain, is_customer}
use Rattle.auction.specs.Lines.{same_party, gain_of, reserved_of, interest, better_than}

pub data Outcome : Type 0 where
  executed : List Fill → Outcome
  cancelled : Reason → Outcome

-- what n contracts put on the blotter: nothing where n is 0
abbrev pub noted : Party → ℤ → ℕ → List Fill
noted who price n = cond (n == 0) [] (record { party = who; price = price; contracts = n } ∷ [])

-- the fills of the lines, in line order, each at its price
abbrev pub note_all : (Line → ℤ) → List Line → List ℕ → List Fill
note_all pays [] fs = []
note_all pays (l ∷ ls) [] = []
note_all pays (l ∷ ls) (f ∷ fs) = noted l.party (pays l) f ++ note_all pays ls fs

-- the contra comes last, at the order's price
abbrev pub blotted : Order → (Line → ℤ) → List Line → List ℕ → ℕ → List Fill
blotted o pays ls fs contra = note_all pays ls fs ++ noted Contra o.price contra

abbrev pub answered : Order → (Line → ℤ) → List Line → count.Outcome → Outcome
answered o pays ls (count.executed fs contra) = executed (blotted o pays ls fs contra)
answered o pays ls (count.cancelled reason) = cancelled reason

-- The price of a line. Lines fill at their own prices,
abbrev pub own : Line → ℤ
own l = l.price

-- but in a facilitation that better lines do not fill, customers at the order's,
abbrev pub facilitation_price : Order → List Line → Line → ℤ
facilitation_price o ls l = cond (is_customer l.class && nat_lt (better_than o ls (gain_of o)) o.size) o.price l.price

-- and in a block all at one price: the best of those at which the block executes as fully as at its own.
abbrev pub block_price : Order → List Line → ℤ
block_price o ls = gain o.side (count.block_gain o.size (gain_of o) (interest o ls))

abbrev pub price_in : Mechanism → Order → List Line → Line → ℤ
price_in Facilitation o ls = facilitation_price o ls
price_in Solicited o ls = own
price_in Block o ls = λ _. block_price o ls

abbrev pub settle_as : Mechanism → Order → List Line → Outcome
settle_as m o ls = answered o (price_in m o ls) ls (count.allocation m o.size (gain_of o) (reserved_of o) (interest o ls))

abbrev pub settlement : Order → List Line → Outcome
settlement o ls = settle_as o.mechanism o ls

-- the lines that a settlement writes
abbrev pub fills_of : Outcome → List Fill
fills_of (executed fs) = fs
fills_of (cancelled reason) = []

-- the contracts on blotter lines
abbrev pub total : List Fill → ℕ
total fs = sum_by (λ f. f.contracts) fs

-- what one party receives on them
abbrev pub received : Party → List Fill → ℕ
received p [] = 0
received p (f ∷ fs) = cond (same_party p f.party) f.contracts 0 + received p fs

abbrev pub filled_by : Outcome → ℕ
filled_by out = total (fills_of out)

-- what is cancelled of the order
abbrev pub cancelled_by : Order → Outcome → ℕ
cancelled_by o out = o.size - filled_by out
