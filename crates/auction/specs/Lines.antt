-- Lines: who stands against an order, in line order.
use Rattle.std.specs.Prelude.{◌≡◌, ℕ, ◌+◌, ◌≤◌, min, Bool, true, false, cond, not, ◌&&◌, ◌||◌, List, [], ◌∷◌, ◌++◌, map, length, ℤ, Some, ◌==◌, nat_le}
use Rattle.std.proofs.Common.{arith}
use Rattle.std.specs.List.{slice_get}
use Rattle.market.specs.Limits.{most_size, most_entries}
use Rattle.market.specs.Lists.{up_to}
use Rattle.market.specs.declared.names.Class.TheVariants.{Other}
use Rattle.market.specs.declared.fill.Party.{Party}
use Rattle.market.specs.declared.fill.Party.TheVariants.{Entry, Response, Contra}
use Rattle.filling.specs.declared.interest.Interest.{Interest}
use Rattle.filling.specs.Totals.{better, customer_at, other_at, contracts}
use Rattle.filling.specs.Mechanisms.{at_least, reserved}
use Rattle.auction.specs.declared.order.Order.{Order}
use Rattle.auction.specs.declared.line.Line.{Line}
use Rattle.deal.specs.Answers.{most_lines}
use Rattle.auction.specs.Limits.{most_members, most_slots}
use Rattle.auction.specs.Gains.{gain, is_customer, is_pooled}

abbrev pub same_party : Party → Party → Bool
same_party (Entry a) (Entry b) = a == b
same_party (Entry a) (Response m s) = false
same_party (Entry a) Contra = false
same_party (Response m s) (Entry b) = false
same_party (Response m s) (Response n t) = m == n && s == t
same_party (Response m s) Contra = false
same_party Contra (Entry b) = false
same_party Contra (Response n t) = false
same_party Contra Contra = true

-- what the order gains at its own price, and at a line's
abbrev pub gain_of : Order → ℤ
gain_of o = gain o.side o.price

abbrev pub stated_gain : Order → Line → ℤ
stated_gain o l = gain o.side l.price

-- the contracts reserved for the facilitator: the reserve in percent of the order, rounded up
abbrev pub reserved_of : Order → ℕ
reserved_of o = reserved o.size o.reserve

-- the contracts of a line as counted: a response counts at most the order's size
abbrev pub counted : Order → Line → ℕ
counted o l = cond (is_pooled l.party) l.size (min l.size o.size)

pub counted_few : (b : Bool) (n z : ℕ) → n ≤ most_size → cond b n (min n z) ≤ most_size
counted_few true n z h = h
counted_few false n z h = omega arith

-- a line as it is counted
abbrev pub interest_of : Order → Line → Interest
interest_of o l = record {
  gain = stated_gain o l;
  size = counted o l;
  customer = is_customer l.class;
  pooled = is_pooled l.party;
  few = counted_few (is_pooled l.party) l.size o.size l.few;
}

abbrev pub interest : Order → List Line → List Interest
interest o ls = map (interest_of o) ls

-- the contra stands too, as class other, with the order's size at the order's price
abbrev pub contra_of : Order → Line
contra_of o = record {
  party = Contra;
  price = o.price;
  size = o.size;
  class = Other;
  some = o.some;
  few = o.few;
  low = o.low;
  high = o.high;
}

-- k stands among these
abbrev pub Stands : List Line → Line → Type 0
Stands ls k = (i : ℕ) × (slice_get ls i ≡ Some k)

-- The counted contracts of lines that gain more than v, of those that gain at least v, and of the customers and the
-- others whose gain is v.
abbrev pub better_than : Order → List Line → ℤ → ℕ
better_than o ls v = contracts (better v) (interest o ls)

abbrev pub from_gain : Order → List Line → ℤ → ℕ
from_gain o ls v = contracts (at_least v) (interest o ls)

abbrev pub customers_at : Order → List Line → ℤ → ℕ
customers_at o ls v = contracts (customer_at v) (interest o ls)

abbrev pub others_at : Order → List Line → ℤ → ℕ
others_at o ls v = contracts (other_at v) (interest o ls)

-- LINE ORDER. Entries of the pool come first, by rising place, then the responses, each place of a member once.

-- whether a party has one of these lines
abbrev pub has_line : Party → List Line → Bool
has_line p [] = false
has_line p (l ∷ ls) = same_party p l.party || has_line p ls

-- whether a party may stand next, behind these lines, where entries stand from the place low on
abbrev pub may_stand : ℕ → List Line → Party → Bool
may_stand low before (Entry place) = nat_le low place && nat_le place most_entries
may_stand low before (Response m s) = (up_to most_members m && up_to most_slots s) && not (has_line (Response m s) before)
may_stand low before Contra = false

-- the place from which entries may stand behind a party: none behind a response
abbrev pub next_place : Party → ℕ
next_place (Entry place) = place + 1
next_place (Response m s) = most_entries + 1
next_place Contra = most_entries + 1

abbrev pub in_line_from : ℕ → List Line → List Line → Bool
in_line_from low before [] = true
in_line_from low before (l ∷ ls) = may_stand low before l.party && in_line_from (next_place l.party) (before ++ l ∷ []) ls

-- lines in line order, not too many
abbrev pub stands_in_line : List Line → Bool
stands_in_line ls = in_line_from 1 [] ls

abbrev pub lawful : List Line → Bool
lawful ls = nat_le (length ls) most_lines && stands_in_line ls
