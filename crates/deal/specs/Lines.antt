-- Calls that test lines.
use Rattle.std.specs.Prelude.{◌≡◌, Bool}
use Rattle.filling.specs.declared.interest.Interest.{Interest}

-- whose answer is the test p
abbrev pub Tells : (Interest → Bool → Type 0) → (Interest → Bool) → Type 0
Tells calls p = (l : Interest) (r : Bool) → calls l r → r ≡ p l
