-- Chains over lines that test each.
use Rattle.std.proofs.Common.{◌≡◌, Bool, true, false, cond, List, [], ◌∷◌, refl, sum, sum_by, filter, arith}
use Rattle.std.specs.List.{list_any}
use Rattle.std.proofs.lemmas.List.Sums.{sum_by-cons}
use Rattle.filling.specs.declared.interest.Interest.{Interest}
use Rattle.filling.specs.Totals.{sizes, contracts}
use Rattle.filling.specs.Mechanisms.{some}
use Rattle.filling.proofs.Counting.{sum_cons}

pub filtered : (p : Interest → Bool) (ls : List Interest) → sum_by (λ l. l.size) (filter p ls) ≡ contracts p ls
filtered p [] = refl
filtered p (l ∷ ls) =
    let ih = filtered p ls in
    elim (p l) as (λ b. sum_by (λ m. m.size) (cond b (l ∷ filter p ls) (filter p ls)) ≡ sum (cond b (l.size ∷ sizes p ls) (sizes p ls))) [
      | true ↦ omega (arith, sum_by-cons (λ m. m.size) l (filter p ls), sum_cons l.size (sizes p ls))
      | false ↦ ih
    ]

pub anywhere : (p : Interest → Bool) (ls : List Interest) → list_any p ls ≡ some p ls
anywhere p [] = refl
anywhere p (l ∷ ls) = grind (arith, anywhere p ls)
