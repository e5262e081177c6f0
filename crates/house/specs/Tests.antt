-- Tests of entries, as closures answer them.
use Rattle.std.specs.Prelude.{◌≡◌, Bool, false, Ok, Err, Result}
use Rattle.market.specs.declared.refusal.Refusal.{Refusal}

-- each answer to x is p x
abbrev pub Tells : {X : Type 0} → (X → Bool → Type 0) → (X → Bool) → Type 0
Tells {X} post p = (x : X) (b : Bool) → post x b → b ≡ p x

-- whether an answer is one that passes
abbrev pub passes : {X : Type 0} → (X → Bool) → Result X Refusal → Bool
passes p (Ok x) = p x
passes p (Err r) = false
