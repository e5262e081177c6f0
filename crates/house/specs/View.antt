-- A house as its callers may think of it.
use Rattle.std.specs.Prelude.{ℕ, Bool, List, [], ℤ, pos, Some, None, Option}
use Rattle.market.specs.declared.names.Kind.{Kind}
use Rattle.auction.specs.declared.order.Order.{Order}
use Rattle.auction.specs.declared.line.Line.{Line}

-- a running auction: its order, and the moment at which the exposure ends
pub record Auction : Type 0 where
  pub order : Order
  pub end : ℤ

-- Its number, what it trades, the smallest leg ratio (1 in a series), the last moment, how many auctions it started,
-- the running one, the responses in line order, and the contracts entered, filled and cancelled.
pub record Held : Type 0 where
  pub number : ℕ
  pub kind : Kind
  pub ratio : ℕ
  pub last : ℤ
  pub started : ℕ
  pub running : Option Auction
  pub line : List Line
  pub entered : ℕ
  pub filled : ℕ
  pub cancelled : ℕ

-- a house that has started no auction
abbrev pub fresh : ℕ → Kind → ℕ → Held
fresh n kind ratio = record {
  number = n;
  kind = kind;
  ratio = ratio;
  last = pos 0;
  started = 0;
  running = None;
  line = [];
  entered = 0;
  filled = 0;
  cancelled = 0;
}

-- the contracts of the running order
abbrev pub open_of : Option Auction → ℕ
open_of None = 0
open_of (Some a) = a.order.size

abbrev pub end_of : Option Auction → ℤ
end_of None = pos 0
end_of (Some a) = a.end

-- a ticket: the house's number, the auction's, counted from 1, and whether it was spent
pub record Bears : Type 0 where
  pub house : ℕ
  pub auction : ℕ
  pub spent : Bool
