-- A test along the places of a list.
use Rattle.std.proofs.Common.{◌≡◌, ℕ, zero, suc, ◌+◌, ◌<◌, Bool, ◌||◌, List, [], ◌∷◌, length, drop, refl, subst, arith}
use Rattle.market.specs.declared.entry.Entry.{Entry}
use Rattle.market.specs.Lists.{entry_at}
use Rattle.house.specs.Tests.{passes}
use Rattle.house.specs.Fields.{any_entry}

from_suc : (p : Entry → Bool) (es : List Entry) (i : ℕ) → i < length es → any_entry p (drop i es) ≡ passes p (entry_at es (suc i)) || any_entry p (drop (suc i) es)
from_suc p [] i h = absurd (omega arith)
from_suc p (e ∷ es) zero h = refl
from_suc p (e ∷ es) (suc i) h = from_suc p es i (omega arith)

-- behind some entries: what stands next, or what stands behind it
pub from_index : (p : Entry → Bool) (es : List Entry) (i : ℕ) → i < length es → any_entry p (drop i es) ≡ passes p (entry_at es (i + 1)) || any_entry p (drop (i + 1) es)
from_index p es i h =
    let one : suc i ≡ i + 1 = omega arith in
    subst (λ j. any_entry p (drop i es) ≡ passes p (entry_at es j) || any_entry p (drop j es)) one (from_suc p es i h)
