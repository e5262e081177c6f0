-- The running auction.
use Rattle.std.specs.Prelude.{ℕ, Some, None, Option}
use Rattle.house.specs.declared.running.Running.{Running}
use Rattle.house.specs.View.{Auction}

-- the contracts of the order that runs
abbrev pub open_in : Option Running → ℕ
open_in None = 0
open_in (Some r) = r.order.size

abbrev pub running_of : Option Running → Option Auction
running_of None = None
running_of (Some r) = Some (record { order = r.order; end = r.end })
