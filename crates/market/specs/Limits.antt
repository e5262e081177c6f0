-- Limits that hold everywhere.
use Rattle.std.specs.Prelude.{ℕ, ℤ, pos, negsuc}

-- prices, in cents
abbrev pub lowest_price : ℤ
lowest_price = negsuc 999999

abbrev pub highest_price : ℤ
highest_price = pos 1000000

-- the most contracts of an entry
abbrev pub most_size : ℕ
most_size = 1000000

-- the most entries that a depth lists
abbrev pub most_entries : ℕ
most_entries = 65535
