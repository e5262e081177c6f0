-- What one settlement promises, of an order o against the lines ls, with what comes of it.
use Rattle.std.specs.Prelude.{◌≡◌, ℕ, ◌+◌, ◌-◌, ◌*◌, ◌/◌, ◌<◌, ◌≤◌, min, max, true, false, cond, ◌⊎◌, List, [], ◌∷◌, ◌++◌, ℤ, ◌≤ℤ◌, ◌<ℤ◌, Some, ◌≢◌}
use Rattle.std.specs.List.{AllByRecursion, slice_get}
use Rattle.market.specs.declared.names.Mechanism.TheVariants.{Block, Facilitation, Solicited}
use Rattle.market.specs.declared.fill.Party.TheVariants.{Contra}
use Rattle.market.specs.declared.fill.Fill.{Fill}
use Rattle.market.specs.declared.fill.Reason.{Reason}
use Rattle.market.specs.declared.fill.Reason.TheVariants.{CustomerStands, BetterStands, NoInterest}
use Rattle.auction.specs.declared.order.Order.{Order}
use Rattle.auction.specs.declared.line.Line.{Line}
use Rattle.auction.specs.Limits.{is_facilitation}
use Rattle.auction.specs.Gains.{gain, is_customer, is_pooled}
use Rattle.auction.specs.Lines.{same_party, gain_of, stated_gain, reserved_of, counted, contra_of, Stands, better_than, from_gain, customers_at, others_at}
use Rattle.auction.specs.Settlement.{Outcome, cancelled, fills_of, total, received, filled_by, cancelled_by}

-- what happens exactly when something holds
abbrev pub Exactly : Type 0 → Type 0 → Type 0
Exactly A B = (A → B) × (B → A)

-- how many contracts a block executes at a gain: the interest there or better, at most the order
abbrev pub executes : Order → List Line → ℤ → ℕ
executes o ls v = min o.size (from_gain o ls v)

-- CONTRACTS ARE CONSERVED

pub record Conserved (o : Order) (ls : List Line) (out : Outcome) : Type 0 where
  -- every contract of the order is filled or cancelled
  pub whole : filled_by out + cancelled_by o out ≡ o.size
  -- a facilitated order is filled whole
  pub facilitation : o.mechanism ≡ Facilitation → filled_by out ≡ o.size
  -- a solicited order whole or not at all
  pub solicited : o.mechanism ≡ Solicited → (filled_by out ≡ o.size) ⊎ ((r : Reason) × (out ≡ cancelled r))
  -- a block by the smaller of its size and the interest at its price or better
  pub block : o.mechanism ≡ Block → filled_by out ≡ executes o ls (gain_of o)

-- NOBODY BEYOND SIZE OR PRICE

-- a blotter line is of one who stands, line or contra: at most the contracts that stand, at a price no worse than the
-- order's for the order and no worse than its own for itself
pub record Allowed (o : Order) (ls : List Line) (f : Fill) : Type 0 where
  pub whose : Line
  pub stands : Stands (ls ++ contra_of o ∷ []) whose
  pub party : whose.party ≡ f.party
  pub size : f.contracts ≤ whose.size
  pub order : gain_of o ≤ℤ gain o.side f.price
  pub own : gain o.side f.price ≤ℤ stated_gain o whose

pub record NobodyBeyond (o : Order) (ls : List Line) (fs : List Fill) : Type 0 where
  pub each : AllByRecursion (Allowed o ls) fs
  -- a line receives at most its standing size
  pub line : (k : Line) → Stands ls k → received k.party fs ≤ k.size
  -- the contra at most the order's, exactly at the order's price
  pub contra : received Contra fs ≤ o.size
  pub contra_price : AllByRecursion (λ f. f.party ≡ Contra → f.price ≡ o.price) fs
  -- the order at most its own in all
  pub order : total fs ≤ o.size

-- CUSTOMERS FIRST

-- l stands behind the customer k: at a worse price, or at that price as class other
abbrev pub Behind : Order → Line → Line → Type 0
Behind o k l = (stated_gain o l <ℤ stated_gain o k) ⊎ ((stated_gain o l ≡ stated_gain o k) × (is_customer l.class ≡ false))

-- where a customer is left short of its standing size, nobody behind it receives a contract, the contra included
abbrev pub CustomersFirst : Order → List Line → List Fill → Type 0
CustomersFirst o ls fs = (k l : Line) → Stands ls k → Stands (ls ++ contra_of o ∷ []) l →
    is_customer k.class ≡ true → received k.party fs < k.size → Behind o k l → received l.party fs ≡ 0

-- CUSTOMERS AT ONE PRICE IN LINE ORDER

abbrev pub CustomersInLine : Order → List Line → List Fill → Type 0
CustomersInLine o ls fs = (i j : ℕ) (k l : Line) → slice_get ls i ≡ Some k → slice_get ls j ≡ Some l → i < j → stated_gain o k ≡ stated_gain o l →
    is_customer k.class ≡ true → is_customer l.class ≡ true → received k.party fs < k.size → received l.party fs ≡ 0

-- BETTER PRICES FIRST

-- while somebody still lacks contracts that it stands with, nobody at a worse price is filled, but the contra
abbrev pub BetterFirst : Order → List Line → List Fill → Type 0
BetterFirst o ls fs = (k l : Line) → Stands ls k → Stands ls l →
    received k.party fs < k.size → stated_gain o l <ℤ stated_gain o k → received l.party fs ≡ 0

-- WHAT COUNTS

-- an entry of the pool counts with all that stands, a response with the order's size at most
pub record CountedSize (o : Order) (k : Line) : Type 0 where
  pub pooled : is_pooled k.party ≡ true → counted o k ≡ k.size
  pub response : is_pooled k.party ≡ false → counted o k ≡ min k.size o.size

-- THE RESERVED SHARE

-- the fewest contracts that are at least the reserve in percent of the order
pub record ReservedShare (o : Order) : Type 0 where
  pub enough : o.size * o.reserve ≤ 100 * reserved_of o
  pub least : 100 * reserved_of o < o.size * o.reserve + 100

-- THE FACILITATOR'S SHARE

-- what better priced lines and customers at the gain v leave of the order
abbrev pub left_at : Order → List Line → ℤ → ℕ
left_at o ls v = o.size - better_than o ls v - customers_at o ls v

-- the smaller of what is left at the order's price and the reserved share, or what the others there leave, if more
abbrev pub facilitator_share : Order → List Line → ℕ
facilitator_share o ls = max (min (left_at o ls (gain_of o)) (reserved_of o)) (left_at o ls (gain_of o) - others_at o ls (gain_of o))

-- PROPORTIONS AT THE LAST PRICE

-- v is the gain of the last price: of the lines that receive contracts, which the contra is not, the worst price stated
pub record LastPrice (o : Order) (ls : List Line) (fs : List Fill) (v : ℤ) : Type 0 where
  pub reached : (k : Line) × Stands ls k × (1 ≤ received k.party fs) × (stated_gain o k ≡ v)
  pub worst : (k : Line) → Stands ls k → 1 ≤ received k.party fs → v ≤ℤ stated_gain o k

-- the reserved share as the facilitator takes it, while contracts last
abbrev pub reserved_taken : Order → List Line → ℕ
reserved_taken o ls = cond (is_facilitation o.mechanism) (min (left_at o ls (gain_of o)) (reserved_of o)) 0

-- what is left at a level once better ones, its customers and the facilitator's reserve are served, as far as the others
-- there want it
abbrev pub for_others : Order → List Line → ℤ → ℕ
for_others o ls v = min (others_at o ls v) (left_at o ls v - reserved_taken o ls)

-- the proportion of it that a line of class other has in whole contracts
abbrev pub proportion : Order → List Line → ℤ → Line → ℕ
proportion o ls v k = for_others o ls v * counted o k / others_at o ls v

-- Each line of class other at the gain v receives its proportion, or one contract more; where one that wants more receives
-- just its proportion, so does each behind it.
abbrev pub InProportion : Order → List Line → List Fill → ℤ → Type 0
InProportion o ls fs v =
    ((k : Line) → Stands ls k → stated_gain o k ≡ v → is_customer k.class ≡ false →
    (received k.party fs ≡ proportion o ls v k) ⊎ (received k.party fs ≡ proportion o ls v k + 1))
    × ((i j : ℕ) (k l : Line) → slice_get ls i ≡ Some k → slice_get ls j ≡ Some l → i < j → stated_gain o k ≡ v → stated_gain o l ≡ v →
    is_customer k.class ≡ false → is_customer l.class ≡ false → proportion o ls v k < counted o k → received k.party fs ≡ proportion o ls v k → received l.party fs ≡ proportion o ls v l)

-- CANCELLED EXACTLY WHEN

-- a customer stands at the order's price or better
abbrev pub CustomerThere : Order → List Line → Type 0
CustomerThere o ls = (k : Line) × Stands ls k × (is_customer k.class ≡ true) × (gain_of o ≤ℤ stated_gain o k)

-- the pool has a better priced entry
abbrev pub BetterThere : Order → List Line → Type 0
BetterThere o ls = (k : Line) × Stands ls k × (is_pooled k.party ≡ true) × (gain_of o <ℤ stated_gain o k)

pub record CancelledWhen (o : Order) (ls : List Line) (out : Outcome) : Type 0 where
  -- `customer`: a solicited order that better interest does not fill, with a customer at its price or better, and too
  -- little interest there
  pub customer : Exactly (out ≡ cancelled CustomerStands)
      ((o.mechanism ≡ Solicited) × (better_than o ls (gain_of o) < o.size) × CustomerThere o ls × (from_gain o ls (gain_of o) < o.size))
  -- `better`: a solicited order that better interest does not fill, with no such customer, and a better entry of the pool
  pub better : Exactly (out ≡ cancelled BetterStands)
      ((o.mechanism ≡ Solicited) × (better_than o ls (gain_of o) < o.size) × (CustomerThere o ls → ⊥) × BetterThere o ls)
  -- `none`: a block with no interest at its price or better
  pub none : Exactly (out ≡ cancelled NoInterest) ((o.mechanism ≡ Block) × (from_gain o ls (gain_of o) ≡ 0))
  -- a facilitation never
  pub never : (r : Reason) → o.mechanism ≡ Facilitation → out ≢ cancelled r

-- THE BLOCK'S PRICE

-- all fills are at it, as many contracts execute at it as at the order's price, and fewer at any better one
pub record BlockPrice (o : Order) (ls : List Line) (fs : List Fill) (price : ℤ) : Type 0 where
  pub all : AllByRecursion (λ f. f.price ≡ price) fs
  pub as_many : executes o ls (gain o.side price) ≡ executes o ls (gain_of o)
  pub best : (v : ℤ) → gain o.side price <ℤ v → executes o ls v < executes o ls (gain_of o)

pub record BlockPriced (o : Order) (ls : List Line) (fs : List Fill) : Type 0 where
  pub price : 1 ≤ from_gain o ls (gain_of o) → (p : ℤ) × BlockPrice o ls fs p
  pub no_contra : received Contra fs ≡ 0

-- THE AGREED PRICE

pub record Agreed (o : Order) (ls : List Line) (k : Line) (price : ℤ) : Type 0 where
  -- in a facilitation that better interest does not fill, a customer is filled at the order's price
  pub customer : o.mechanism ≡ Facilitation → better_than o ls (gain_of o) < o.size → is_customer k.class ≡ true → price ≡ o.price
  -- and anybody else at its own
  pub other : o.mechanism ≡ Facilitation → is_customer k.class ≡ false → price ≡ k.price
  -- where better interest fills it, everyone at its own
  pub filled : o.mechanism ≡ Facilitation → o.size ≤ better_than o ls (gain_of o) → price ≡ k.price
  -- and so in a solicited order
  pub solicited : o.mechanism ≡ Solicited → price ≡ k.price

-- each blotter line is at the price agreed with one who stands
abbrev pub AgreedPrice : Order → List Line → List Fill → Type 0
AgreedPrice o ls fs = AllByRecursion (λ f. (k : Line) × Stands (ls ++ contra_of o ∷ []) k × (k.party ≡ f.party) × Agreed o ls k f.price) fs

-- A SOLICITED ORDER IS CROSSED EXACTLY WHEN

pub record CrossedWhen (o : Order) (ls : List Line) (fs : List Fill) : Type 0 where
  -- the contra takes all of it, or nothing
  pub whole : (received Contra fs ≡ o.size) ⊎ (received Contra fs ≡ 0)
  -- all where better interest does not fill it, no customer stands at its price or better, and the pool has no better entry
  pub crossed : Exactly (received Contra fs ≡ o.size)
      ((better_than o ls (gain_of o) < o.size) × (CustomerThere o ls → ⊥) × (BetterThere o ls → ⊥))

-- BLOTTER ORDER

-- the blotter lines are of some of these, in their order
abbrev pub InOrder : List Line → List Fill → Type 0
InOrder [] [] = Unit {0}
InOrder [] (f ∷ fs) = ⊥
InOrder (l ∷ ls) [] = Unit {0}
InOrder (l ∷ ls) (f ∷ fs) = ((l.party ≡ f.party) × InOrder ls fs) ⊎ InOrder ls (f ∷ fs)

-- nobody has two blotter lines
abbrev pub Once : List Fill → Type 0
Once [] = Unit {0}
Once (f ∷ fs) = AllByRecursion (λ h. same_party f.party h.party ≡ false) fs × Once fs

pub record BlotterOrder (o : Order) (ls : List Line) (fs : List Fill) : Type 0 where
  -- fills stand as their lines do, the contra behind them
  pub in_order : InOrder (ls ++ contra_of o ∷ []) fs
  pub once : Once fs
  -- no line of zero
  pub some : AllByRecursion (λ f. 1 ≤ f.contracts) fs

-- ONE SETTLEMENT: all of it

pub record OneSettlement (o : Order) (ls : List Line) (out : Outcome) : Type 0 where
  pub conserved : Conserved o ls out
  pub nobody_beyond : NobodyBeyond o ls (fills_of out)
  pub customers_first : CustomersFirst o ls (fills_of out)
  pub customers_in_line : CustomersInLine o ls (fills_of out)
  pub better_first : BetterFirst o ls (fills_of out)
  pub counted_sizes : (k : Line) → CountedSize o k
  pub reserved_share : ReservedShare o
  pub facilitators_share : o.mechanism ≡ Facilitation → received Contra (fills_of out) ≡ facilitator_share o ls
  pub proportions : (v : ℤ) → LastPrice o ls (fills_of out) v → InProportion o ls (fills_of out) v
  pub cancelled_when : CancelledWhen o ls out
  pub block_priced : o.mechanism ≡ Block → BlockPriced o ls (fills_of out)
  pub agreed_price : AgreedPrice o ls (fills_of out)
  pub crossed_when : o.mechanism ≡ Solicited → CrossedWhen o ls (fills_of out)
  pub blotter_order : BlotterOrder o ls (fills_of out)
