-- What a legs market holds and lists, and what a take leaves of it.
use Rattle.std.specs.Prelude.{ℕ, zero, suc, ◌-◌, ◌*◌, ◌/◌, min, Bool, cond, List, [], ◌∷◌, map, ℤ, pos, ◌+ℤ◌, neg_ℤ, Ok, Err, fold, sum, Result}
use Rattle.market.specs.declared.refusal.Refusal.{Refusal}
use Rattle.market.specs.declared.refusal.Refusal.TheVariants.{NotTakable}
use Rattle.market.specs.declared.names.Side.{Side}
use Rattle.market.specs.declared.names.Side.TheVariants.{Buy, Sell}
use Rattle.market.specs.declared.names.Class.TheVariants.{Other}
use Rattle.market.specs.declared.entry.Entry.{Entry}
use Rattle.market.specs.Lists.{up_to}
use Rattle.market.specs.Making.{entry_of}
use Rattle.share.specs.Shares.{shares}

-- the bid or the offer of a leg: its price, and the sizes of its quotes in line
pub record SideHeld : Type 0 where
  pub price : ℕ
  pub quotes : List ℕ

-- a leg that is bought or sold in the net so often, its bid and its offer
pub record LegHeld : Type 0 where
  pub side : Side
  pub ratio : ℕ
  pub bid : SideHeld
  pub offer : SideHeld

-- at first the price is 1, and there are no quotes
abbrev pub bare : SideHeld
bare = record { price = 1; quotes = [] }

-- by whether two sides are the same
abbrev pub by_side : {X : Type 0} → Side → Side → X → X → X
by_side Buy Buy x y = x
by_side Buy Sell x y = y
by_side Sell Buy x y = y
by_side Sell Sell x y = x

-- the side of a leg that an implied order uses: a buy the bids of bought legs and the offers of sold legs, a sell the others
abbrev pub used : Side → LegHeld → SideHeld
used s l = by_side s l.side l.bid l.offer

-- bought legs are added, and sold legs taken off
abbrev pub signed : Side → ℕ → ℤ
signed Buy n = pos n
signed Sell n = neg_ℤ (pos n)

-- what a leg adds to the price of an implied order
abbrev pub leg_price : Side → LegHeld → ℤ
leg_price s l = signed l.side (l.ratio * (used s l).price)

-- how many times a leg can be had
abbrev pub leg_size : Side → LegHeld → ℕ
leg_size s l = sum (used s l).quotes / l.ratio

-- the least of some numbers
abbrev pub least : List ℕ → ℕ
least [] = 0
least (x ∷ xs) = fold min x xs

-- the price of an implied order
abbrev pub net_price : Side → List LegHeld → ℤ
net_price s ls = fold ◌+ℤ◌ (pos 0) (map (leg_price s) ls)

-- its size: as often as every leg can be had
abbrev pub net_size : Side → List LegHeld → ℕ
net_size s ls = least (map (leg_size s) ls)

-- the implied order of a side
abbrev pub implied : Side → List LegHeld → Entry
implied s ls = entry_of s (net_price s ls) (net_size s ls) Other

-- the list of a legs market: the implied buy, then the implied sell
abbrev pub listed : List LegHeld → List Entry
listed ls = implied Buy ls ∷ implied Sell ls ∷ []

-- sizes with so many contracts less
abbrev pub less : List ℕ → List ℕ → List ℕ
less [] rs = []
less (q ∷ qs) [] = q ∷ qs
less (q ∷ qs) (r ∷ rs) = (q - r) ∷ less qs rs

-- a leg side of which a contracts are taken by the share-out
abbrev pub taken_side : ℕ → SideHeld → SideHeld
taken_side a e = record { price = e.price; quotes = less e.quotes (shares a e.quotes) }

-- a leg after n implied orders of a side are taken
abbrev pub taken_leg : Side → ℕ → LegHeld → LegHeld
taken_leg s n l = record {
  side = l.side;
  ratio = l.ratio;
  bid = by_side s l.side (taken_side (n * l.ratio) l.bid) l.bid;
  offer = by_side s l.side l.offer (taken_side (n * l.ratio) l.offer);
}

-- whether n implied orders of a side can be taken
abbrev pub can_take : Side → ℕ → List LegHeld → Bool
can_take s n ls = up_to (net_size s ls) n

-- the legs after it
abbrev pub taken_legs : Side → ℕ → List LegHeld → List LegHeld
taken_legs s n ls = cond (can_take s n ls) (map (taken_leg s n) ls) ls

-- what a take of n implied orders of a side answers
abbrev pub taken_answer : Side → ℕ → List LegHeld → Result (Unit {0}) Refusal
taken_answer s n ls = cond (can_take s n ls) (Ok tt) (Err NotTakable)

-- the legs after a take of n at a place of the list
abbrev pub taken_at : ℕ → ℕ → List LegHeld → List LegHeld
taken_at zero n ls = ls
taken_at (suc zero) n ls = taken_legs Buy n ls
taken_at (suc (suc zero)) n ls = taken_legs Sell n ls
taken_at (suc (suc (suc p))) n ls = ls
