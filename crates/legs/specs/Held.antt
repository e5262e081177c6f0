-- What a legs market holds.
use Rattle.std.specs.Prelude.{List, map, Ok, Err, Result}
use Rattle.legs.specs.declared.pool.LegsMarket.{LegsMarket}
use Rattle.legs.specs.Model.{LegHeld}
use Rattle.legs.specs.Legs.{leg_held}

abbrev pub legs_held : LegsMarket → List LegHeld
legs_held m = map leg_held m.legs.items

-- what an answer holds
abbrev pub answer_held : {E : Type 0} → Result LegsMarket E → Result (List LegHeld) E
answer_held (Ok m) = Ok (legs_held m)
answer_held (Err e) = Err e
