-- The market of a sheet: what it holds, and what resting, quoting and showing away do in it.
use Rattle.std.specs.Prelude.{List, ℤ, Err, Result}
use Rattle.market.specs.declared.names.Side.{Side}
use Rattle.market.specs.declared.names.Edge.{Edge}
use Rattle.market.specs.declared.names.Class.{Class}
use Rattle.market.specs.declared.entry.Entry.{Entry}
use Rattle.market.specs.declared.refusal.Refusal.{Refusal}
use Rattle.market.specs.declared.refusal.Refusal.TheVariants.{OutOfLimits}
use Rattle.legs.specs.Model.{LegHeld}
use Rattle.legs.specs.Held.{legs_held}
use Rattle.legs.specs.Quoting.{quote_answer, after_quote}
use Rattle.pools.specs.declared.sheet.SheetMarket.{SheetMarket}
use Rattle.pools.specs.declared.sheet.SheetMarket.TheVariants.{Series, Net}
use Rattle.pools.specs.Books.{BookHeld, book_held}
use Rattle.pools.specs.Resting.{rest_answer, after_rest}
use Rattle.pools.specs.Away.{board_held, away_answer, after_away}

-- a book and the entries away, or a book and the legs
pub data MarketHeld : Type 0 where
  series : BookHeld → List Entry → MarketHeld
  net : BookHeld → List LegHeld → MarketHeld

abbrev pub market_held : SheetMarket → MarketHeld
market_held (Series book away) = series (book_held book) (board_held away)
market_held (Net pool away) = net (book_held pool.first) (legs_held pool.second)

-- resting goes into the book: number, price, size
abbrev pub rest_in : MarketHeld → ℤ → ℤ → ℤ → Result (Unit {0}) Refusal
rest_in (series b es) n p z = rest_answer b n p z
rest_in (net b ls) n p z = rest_answer b n p z

abbrev pub after_rest_in : MarketHeld → ℤ → Side → ℤ → ℤ → Class → MarketHeld
after_rest_in (series b es) n s p z k = series (after_rest b n s p z k) es
after_rest_in (net b ls) n s p z k = net (after_rest b n s p z k) ls

-- quoting is for nets: leg, price, sizes
abbrev pub quote_in : MarketHeld → ℤ → ℤ → List ℤ → Result (Unit {0}) Refusal
quote_in (series b es) leg p zs = Err OutOfLimits
quote_in (net b ls) leg p zs = quote_answer ls leg p zs

abbrev pub after_quote_in : MarketHeld → ℤ → Edge → ℤ → List ℤ → MarketHeld
after_quote_in (series b es) leg edge p zs = series b es
after_quote_in (net b ls) leg edge p zs = net b (after_quote ls leg edge p zs)

-- showing away is for series
abbrev pub away_in : MarketHeld → ℤ → Result (Unit {0}) Refusal
away_in (series b es) p = away_answer es p
away_in (net b ls) p = Err OutOfLimits

abbrev pub after_away_in : MarketHeld → Side → ℤ → MarketHeld
after_away_in (series b es) s p = series b (after_away es s p)
after_away_in (net b ls) s p = net b ls
