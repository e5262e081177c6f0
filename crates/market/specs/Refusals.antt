-- The number of each refusal.
use Rattle.std.specs.Prelude.{ℕ}
use Rattle.market.specs.declared.refusal.Refusal.{Refusal}
use Rattle.market.specs.declared.refusal.Refusal.TheVariants.{MomentPassed, AuctionOpen, NotRunning, ExposureOver, ExposureRuns, OutOfLimits, TooManyAuctions, TooSmall, PoolTooDeep, PriceOutside, WorseThanOrder, PlaceTaken, PlaceEmpty, BlotterShort, NotTakable, NumberStands, NoSpace}

abbrev pub refusal_number : Refusal → ℕ
refusal_number MomentPassed = 1
refusal_number AuctionOpen = 2
refusal_number NotRunning = 3
refusal_number ExposureOver = 4
refusal_number ExposureRuns = 5
refusal_number OutOfLimits = 6
refusal_number TooManyAuctions = 7
refusal_number TooSmall = 8
refusal_number PoolTooDeep = 9
refusal_number PriceOutside = 10
refusal_number WorseThanOrder = 11
refusal_number PlaceTaken = 12
refusal_number PlaceEmpty = 13
refusal_number BlotterShort = 14
refusal_number NotTakable = 15
refusal_number NumberStands = 16
refusal_number NoSpace = 17
