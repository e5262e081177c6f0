-- The number that a word is, computed.
use Rattle.std.specs.Prelude.{ℕ, ◌-◌, Bool, true, cond, ◌&&◌, List, [], ◌∷◌, length, ℤ, pos, neg_ℤ, Some, None, codes, Option, ◌==◌, nat_le}
use Rattle.std.specs.Option.{option_map}
use Rattle.std.specs.Str.{bytes_eq}
use Rattle.words.specs.Number.{decimal}

abbrev pub all_digits : List ℕ → Bool
all_digits [] = true
all_digits (d ∷ ds) = (nat_le 48 d && nat_le d 57) && all_digits ds

abbrev pub read_numeral : List ℕ → Option ℕ
read_numeral [] = None
read_numeral (d ∷ ds) = cond ((nat_le 49 d && nat_le d 57) && (all_digits ds && nat_le (length ds) 12)) (Some (decimal (d - 48) ds)) None

abbrev pub read_number : List ℕ → Option ℤ
read_number [] = None
read_number (b ∷ ds) = cond (b == 45) (option_map (λ n. neg_ℤ (pos n)) (read_numeral ds)) (cond (bytes_eq (b ∷ ds) (codes "0")) (Some (pos 0)) (option_map pos (read_numeral (b ∷ ds))))
