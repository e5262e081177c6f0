-- The limits of what a legs market holds.
use Rattle.std.specs.Prelude.{ℕ}

-- how many legs
abbrev pub least_legs : ℕ
least_legs = 2

abbrev pub most_legs : ℕ
most_legs = 4

-- how often a leg stands in the net
abbrev pub highest_ratio : ℕ
highest_ratio = 10

-- the highest price of a leg
abbrev pub highest_quote : ℕ
highest_quote = 25000

-- how many quotes stand at a leg's price, and how many contracts each has
abbrev pub most_quotes : ℕ
most_quotes = 8

abbrev pub most_quoted : ℕ
most_quoted = 125000
