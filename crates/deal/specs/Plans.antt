-- What comes down to a level, and how much of it is for those who are no customers.
use Rattle.std.specs.Prelude.{ℕ, List, ℤ}
use Rattle.filling.specs.declared.interest.Interest.{Interest}
use Rattle.filling.specs.Filling.{dealt, reaching, left_over}
use Rattle.filling.specs.Mechanisms.{fac_room, fac_pot}
use Rattle.deal.specs.declared.plans.Plan.{Plan}
use Rattle.deal.specs.declared.plans.Plan.TheVariants.{Down, Facilitated}

-- what comes down to a level
abbrev pub room_of : Plan → List Interest → ℤ → ℕ
room_of (Down a) ls = reaching a ls
room_of (Facilitated t) ls = fac_room t.size t.gain ls

-- what the others of a level share out
abbrev pub pot_of : Plan → List Interest → ℤ → ℕ
pot_of (Down a) ls = left_over a ls
pot_of (Facilitated t) ls = fac_pot t.size t.gain t.reserved ls

-- what each line gets
abbrev pub planned : Plan → List Interest → List ℕ
planned p ls = dealt (room_of p ls) (pot_of p ls) ls
