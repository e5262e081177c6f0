-- Fields as a caller hands them in.
use Rattle.std.specs.Prelude.{ℕ, Bool, ◌&&◌, ℤ, pos, negsuc, int_le}

-- from low to high
abbrev pub in_range : ℤ → ℤ → ℤ → Bool
in_range low high z = int_le low z && int_le z high

-- a number that is not below 0
abbrev pub nat_of : ℤ → ℕ
nat_of (pos n) = n
nat_of (negsuc n) = 0
