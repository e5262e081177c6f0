-- A legs market as it is made, of sides and ratios.
use Rattle.std.specs.Prelude.{Bool, cond, ◌&&◌, List, map, length, ℤ, Ok, Err, Result, nat_le}
use Rattle.market.specs.declared.names.Side.{Side}
use Rattle.market.specs.declared.names.Leg.{Leg}
use Rattle.market.specs.declared.refusal.Refusal.{Refusal}
use Rattle.market.specs.declared.refusal.Refusal.TheVariants.{OutOfLimits}
use Rattle.market.specs.Lists.{all_of}
use Rattle.legs.specs.Limits.{least_legs, most_legs}
use Rattle.legs.specs.Model.{LegHeld, bare}
use Rattle.market.specs.Fields.{nat_of}
use Rattle.legs.specs.Fields.{ratio_ok}

-- a leg as it is made, without quotes
abbrev pub fresh_leg : Side → ℤ → LegHeld
fresh_leg s ratio = record { side = s; ratio = nat_of ratio; bid = bare; offer = bare }

-- a leg with a ratio within its limits
abbrev pub part_ok : Leg → Bool
part_ok p = ratio_ok p.ratio

-- a leg as it is handed in, made
abbrev pub part_leg : Leg → LegHeld
part_leg p = fresh_leg p.side p.ratio

-- not too few legs and not too many, with ratios within their limits
abbrev pub parts_ok : List Leg → Bool
parts_ok ps = (nat_le least_legs (length ps) && nat_le (length ps) most_legs) && all_of part_ok ps

-- what making a legs market answers
abbrev pub new_answer : List Leg → Result (List LegHeld) Refusal
new_answer ps = cond (parts_ok ps) (Ok (map part_leg ps)) (Err OutOfLimits)
