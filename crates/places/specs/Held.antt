-- What the table of places holds, by place and in turn.
use Rattle.std.specs.Prelude.{◌≡◌, ℕ, ◌+◌, ◌/◌, ◌%◌, List, [], ◌∷◌, ◌++◌, is_some, Some, None, Option, slice_index_or}
use Rattle.std.specs.Option.{option_to_list}
use Rattle.market.specs.declared.fill.Party.{Party}
use Rattle.market.specs.declared.fill.Party.TheVariants.{Response}
use Rattle.auction.specs.declared.line.Line.{Line}
use Rattle.places.specs.Turns.{has}

-- the member's slot of a place of the table
abbrev pub party_at : ℕ → Party
party_at p = Response (p / 4 + 1) (p % 4 + 1)

-- a place holds something exactly where it has a turn
abbrev pub Lined : List (Option Line) → List ℕ → Type 0
Lined held turns = (p : ℕ) → is_some (slice_index_or held p None) ≡ has p turns

-- what a place holds is of that member's slot
abbrev pub Owned : List (Option Line) → Type 0
Owned held = (p : ℕ) (l : Line) → slice_index_or held p None ≡ Some l → l.party ≡ party_at p

-- what is held, turn by turn
abbrev pub in_turn : List (Option Line) → List ℕ → List Line
in_turn held [] = []
in_turn held (p ∷ ps) = option_to_list (slice_index_or held p None) ++ in_turn held ps
