-- What an edge holds.
use Rattle.std.specs.Prelude.{List, take}
use Rattle.legs.specs.declared.quote.Quote.{Quote}
use Rattle.legs.specs.declared.legside.LegSide.{LegSide}
use Rattle.legs.specs.Model.{SideHeld}
use Rattle.legs.specs.Quotes.{sizes}

-- its quotes, as many as it counts
abbrev pub quotes_of : LegSide → List Quote
quotes_of e = take e.count e.quotes

abbrev pub side_held : LegSide → SideHeld
side_held e = record { price = e.price; quotes = sizes (quotes_of e) }
