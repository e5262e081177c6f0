-- Limits of an auction.
use Rattle.std.specs.Prelude.{ℕ, Bool, true, false, cond, ◌&&◌, ℤ, pos, nat_le}
use Rattle.market.specs.Limits.{lowest_price, highest_price, most_size}
use Rattle.market.specs.Fields.{in_range}
use Rattle.market.specs.declared.names.Mechanism.{Mechanism}
use Rattle.market.specs.declared.names.Mechanism.TheVariants.{Block, Facilitation, Solicited}

-- the most percent of an order that can be reserved
abbrev pub most_reserve : ℕ
most_reserve = 40

-- members of the house, and the slots of each
abbrev pub most_members : ℕ
most_members = 16

abbrev pub most_slots : ℕ
most_slots = 4

-- the fewest lines that a blotter has: one for each line and one for the contra
abbrev pub least_blotter : ℕ
least_blotter = 129

abbrev pub is_facilitation : Mechanism → Bool
is_facilitation Block = false
is_facilitation Facilitation = true
is_facilitation Solicited = false

-- a reserve for this mechanism: none outside facilitation
abbrev pub reserve_ok : Mechanism → ℕ → Bool
reserve_ok m r = nat_le r (cond (is_facilitation m) most_reserve 0)

-- the fields of an order, as a caller hands them in
abbrev pub order_ok : Mechanism → ℤ → ℤ → ℤ → Bool
order_ok m size price reserve =
    in_range (pos 1) (pos most_size) size
    && (in_range lowest_price highest_price price && in_range (pos 0) (pos (cond (is_facilitation m) most_reserve 0)) reserve)

-- the fields of a line
abbrev pub line_ok : ℤ → ℤ → Bool
line_ok price size = in_range lowest_price highest_price price && in_range (pos 1) (pos most_size) size
