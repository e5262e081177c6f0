-- Who may stand next in line, by what is noted of those in front.
use Rattle.std.specs.Prelude.{ℕ, ◌+◌, ◌-◌, ◌*◌, Bool, true, false, cond, not, ◌&&◌, List, nat_le, slice_index_or, slice_set}
use Rattle.market.specs.Limits.{most_entries}
use Rattle.market.specs.Lists.{up_to}
use Rattle.market.specs.declared.fill.Party.{Party}
use Rattle.market.specs.declared.fill.Party.TheVariants.{Entry, Response, Contra}
use Rattle.auction.specs.Limits.{most_members, most_slots}

-- a slot of a member
abbrev pub is_seat : ℕ → ℕ → Bool
is_seat m s = up_to most_members m && up_to most_slots s

-- the number of a member's slot, from 0
abbrev pub seat_of : ℕ → ℕ → ℕ
seat_of m s = (m - 1) * most_slots + (s - 1)

-- a seat that nobody in front has
abbrev pub free_seat : List Bool → ℕ → ℕ → Bool
free_seat taken m s = is_seat m s && not (slice_index_or taken (seat_of m s) false)

-- whether a party may stand next, where entries stand from the place low on
abbrev pub may_follow : ℕ → List Bool → Party → Bool
may_follow low taken (Entry place) = nat_le low place && nat_le place most_entries
may_follow low taken (Response m s) = free_seat taken m s
may_follow low taken Contra = false

-- the seats taken once it stands
abbrev pub seats_after : List Bool → Party → List Bool
seats_after taken (Entry place) = taken
seats_after taken (Response m s) = cond (free_seat taken m s) (slice_set taken (seat_of m s) true) taken
seats_after taken Contra = taken
