-- Tests along a list.
use Rattle.std.proofs.Common.{◌≡◌, Bool, ◌&&◌, List, [], ◌∷◌, refl, ap}
use Rattle.std.specs.List.{list_all}
use Rattle.market.specs.Lists.{all_of}

pub all_same : {X : Type 0} (p : X → Bool) (xs : List X) → list_all p xs ≡ all_of p xs
all_same p [] = refl
all_same p (x ∷ xs) = ap (λ b. p x && b) (all_same p xs)
