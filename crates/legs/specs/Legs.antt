-- What a leg holds.
use Rattle.legs.specs.declared.leg.LegQuotes.{LegQuotes}
use Rattle.legs.specs.Model.{LegHeld}
use Rattle.legs.specs.Sides.{side_held}

abbrev pub leg_held : LegQuotes → LegHeld
leg_held l = record { side = l.side; ratio = l.ratio; bid = side_held l.bid; offer = side_held l.offer }
