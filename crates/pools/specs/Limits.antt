-- Limits of books and away boards.
use Rattle.std.specs.Prelude.{ℕ}

-- the most orders that rest at a time
abbrev pub most_orders : ℕ
most_orders = 48

-- the highest number of an order
abbrev pub highest_number : ℕ
highest_number = 65535

-- the most entries of an away board
abbrev pub most_away : ℕ
most_away = 16
