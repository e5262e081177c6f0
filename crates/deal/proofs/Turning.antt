-- The others of a level, gathered to share out.
use Rattle.std.proofs.Common.{◌≡◌, ℕ, ◌+◌, ◌≤◌, true, false, cond, leb, List, [], ◌∷◌, map, ℤ, refl, ap, arith}
use Rattle.std.proofs.lemmas.Bool.{and_from, le-leb}
use Rattle.share.specs.Shares.{rises_from}
use Rattle.filling.specs.declared.interest.Interest.{Interest}
use Rattle.filling.specs.Totals.{other_at, sizes}
use Rattle.deal.specs.declared.turns.Turn.{Turn}
use Rattle.deal.specs.Levels.{turns_from}

abbrev pub turn : ℕ → Interest → Turn
turn n l = record { place = n; size = l.size }

pub turn_sizes : (v : ℤ) (n : ℕ) (ls : List Interest) → map (λ t. t.size) (turns_from v n ls) ≡ sizes (other_at v) ls
turn_sizes v n [] = refl
turn_sizes v n (l ∷ ls) =
    let ih = turn_sizes v (n + 1) ls in
    let ts = turns_from v (n + 1) ls in
    elim (other_at v l) as (λ b. map (λ t. t.size) (cond b (turn n l ∷ ts) ts) ≡ cond b (l.size ∷ sizes (other_at v) ls) (sizes (other_at v) ls))
    [ true ↦ ap (λ zs. l.size ∷ zs) ih | false ↦ ih ]

pub turns_rise : (v : ℤ) (low n : ℕ) (ls : List Interest) → low ≤ n → rises_from low (map (λ t. t.place) (turns_from v n ls)) ≡ true
turns_rise v low n [] h = refl
turns_rise v low n (l ∷ ls) h =
    let ts = turns_from v (n + 1) ls in
    elim (other_at v l) as (λ b. rises_from low (map (λ t. t.place) (cond b (turn n l ∷ ts) ts)) ≡ true) [
      | true ↦ and_from (leb low n) (rises_from (n + 1) (map (λ t. t.place) ts)) (le-leb low n h) (turns_rise v (n + 1) (n + 1) ls (omega arith))
      | false ↦ turns_rise v low (n + 1) ls (omega arith)
    ]
