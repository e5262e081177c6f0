-- Tests along a list: of every element, one more.
use Rattle.std.proofs.Common.{◌≡◌, ℕ, zero, suc, ◌+◌, ◌<◌, ◌≤◌, Bool, true, false, ◌&&◌, List, [], ◌∷◌, length, get_or, drop, ap, ◌∙◌, arith}
use Rattle.std.proofs.lemmas.List.{at_drop_more, at_drop_all}
use Rattle.std.proofs.lemmas.Bool.{and_parts, and_left}
use Rattle.market.specs.Lists.{all_of}

module _ {X : Type 0} (p : X → Bool) (xs : List X) (i : ℕ) (d : X) (inv : all_of p xs ≡ all_of p (drop i xs)) where
  split : i < length xs → all_of p xs ≡ p (get_or xs i d) && all_of p (drop (i + 1) xs)
  split h = inv ∙ at_drop_more (all_of p) xs i d h

  pub all_fails : i < length xs → p (get_or xs i d) ≡ false → all_of p xs ≡ false
  all_fails h e = split h ∙ and_left (p (get_or xs i d)) (all_of p (drop (i + 1) xs)) e

  pub all_more : i < length xs → p (get_or xs i d) ≡ true → all_of p xs ≡ all_of p (drop (i + 1) xs)
  all_more h e = split h ∙ ap (λ t. t && all_of p (drop (i + 1) xs)) e

  pub all_done : length xs ≤ i → all_of p xs ≡ true
  all_done h = inv ∙ at_drop_all (all_of p) xs i h

pub each_ok : {X : Type 0} (p : X → Bool) (xs : List X) (i : ℕ) (d : X) → all_of p xs ≡ true → i < length xs → p (get_or xs i d) ≡ true
each_ok p [] i d ok h = absurd (omega arith)
each_ok p (x ∷ xs) zero d ok h = (and_parts (p x) (all_of p xs) ok).0
each_ok p (x ∷ xs) (suc i) d ok h = each_ok p xs i d (and_parts (p x) (all_of p xs) ok).1 (omega arith)
