-- Who stands at each turn.
use Rattle.std.proofs.Common.{◌≡◌, ℕ, zero, suc, ◌<◌, true, false, cond, eqb, List, [], ◌∷◌, ◌++◌, length, get_or, is_some, Some, None, Option, refl, ap, ◌∙◌, arith}
use Rattle.std.specs.List.{slice_get}
use Rattle.std.specs.Option.{option_to_list}
use Rattle.std.proofs.lemmas.Bool.{eq-eqb}
use Rattle.auction.specs.declared.line.Line.{Line}
use Rattle.places.specs.Turns.{has}
use Rattle.places.specs.Held.{Lined, in_turn}

-- each turn's place holds a response
abbrev pub AllHeld : List (Option Line) → List ℕ → Type 0
AllHeld held turns = (q : ℕ) → has q turns ≡ true → is_some (get_or held q None) ≡ true

pub all_held : (held : List (Option Line)) (turns : List ℕ) → Lined held turns → AllHeld held turns
all_held held turns lined q h = lined q ∙ h

has_head : (q : ℕ) (qs : List ℕ) → has q (q ∷ qs) ≡ true
has_head q qs = ap (λ b. cond b true (has q qs)) (eq-eqb q q refl)

has_tail : (q p : ℕ) (qs : List ℕ) → has q qs ≡ true → has q (p ∷ qs) ≡ true
has_tail q p qs h = ap (cond (eqb p q) true) h ∙ elim (eqb p q) as (λ b. cond b true true ≡ true) [ true ↦ refl | false ↦ refl ]

held_tail : (held : List (Option Line)) (p : ℕ) (qs : List ℕ) → AllHeld held (p ∷ qs) → AllHeld held qs
held_tail held p qs all q h = all q (has_tail q p qs h)

one_held : (o : Option Line) (rest : List Line) → is_some o ≡ true → length (option_to_list o ++ rest) ≡ suc (length rest)
one_held (Some l) rest h = refl
one_held None rest h = cc

-- there are as many responses as turns
pub as_many : (held : List (Option Line)) (turns : List ℕ) → AllHeld held turns → length (in_turn held turns) ≡ length turns
as_many held [] all = refl
as_many held (q ∷ qs) all =
    one_held (get_or held q None) (in_turn held qs) (all q (has_head q qs)) ∙ ap suc (as_many held qs (held_tail held q qs all))

here : (o : Option Line) (rest : List Line) → is_some o ≡ true → slice_get (option_to_list o ++ rest) 0 ≡ o
here (Some l) rest h = refl
here None rest h = cc

behind : (o : Option Line) (rest : List Line) (i : ℕ) → is_some o ≡ true → slice_get (option_to_list o ++ rest) (suc i) ≡ slice_get rest i
behind (Some l) rest i h = refl
behind None rest i h = cc

-- at a turn stands what its place holds
pub at_turn : (held : List (Option Line)) (turns : List ℕ) (i : ℕ) → AllHeld held turns → i < length turns → slice_get (in_turn held turns) i ≡ get_or held (get_or turns i 0) None
at_turn held [] i all h = absurd (omega arith)
at_turn held (q ∷ qs) zero all h = here (get_or held q None) (in_turn held qs) (all q (has_head q qs))
at_turn held (q ∷ qs) (suc i) all h = behind (get_or held q None) (in_turn held qs) i (all q (has_head q qs)) ∙ at_turn held qs i (held_tail held q qs all) (omega arith)

-- and it holds something
pub held_turn : (held : List (Option Line)) (turns : List ℕ) (i : ℕ) → AllHeld held turns → i < length turns → is_some (get_or held (get_or turns i 0) None) ≡ true
held_turn held [] i all h = absurd (omega arith)
held_turn held (q ∷ qs) zero all h = all q (has_head q qs)
held_turn held (q ∷ qs) (suc i) all h = held_turn held qs i (held_tail held q qs all) (omega arith)
