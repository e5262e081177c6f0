-- The best gain of a block, a line on.
use Rattle.std.proofs.Common.{◌≡◌, ℕ, ◌+◌, ◌<◌, ◌≤◌, Bool, true, false, cond, ◌&&◌, eqb, List, length, get_or, drop, ℤ, ◌≤ℤ◌, Some, Option, sym, ap, ◌∙◌, ⊎_elim, arith}
use lib.Signed.{lt_z}
use Rattle.std.proofs.lemmas.Int.{ints}
use Rattle.std.proofs.lemmas.Bool.{cond-true, cond-false, and_parts, and_cases, and_from, and_left, and_right, eq-eqb, ne_eqb}
use Rattle.filling.specs.declared.interest.Interest.{Interest}
use Rattle.filling.specs.Mechanisms.{executing, best_from, block_gain}
use Rattle.filling.proofs.Other.{at_least_down}
use Rattle.deal.specs.Levels.{under}
use Rattle.deal.proofs.Steps.{back}

module _ (Z : ℕ) (g : ℤ) (ls : List Interest) where
  -- fewer execute from the ceiling on
  abbrev pub Capped : Option ℤ → Type 0
  Capped ceiling = (w : ℤ) → under ceiling w ≡ false → executing Z ls w < executing Z ls g

  -- what is left of the lines raises the best so far to the block's gain
  abbrev pub Climbs : ℤ → Option ℤ → List Interest → Type 0
  Climbs b ceiling xs = (block_gain Z g ls ≡ best_from Z g ls b xs) × (g ≤ℤ b) × Capped ceiling

  fewer : (v w : ℤ) → v ≤ℤ w → executing Z ls w ≤ executing Z ls v
  fewer v w h = omega (arith, at_least_down v w ls h)

  module _ (i : ℕ) (x : Interest) (h : i < length ls) (at : x ≡ get_or ls i x) (v b : ℤ) (same : v ≡ x.gain) (ceiling : Option ℤ) (inv : Climbs b ceiling (drop i ls)) where
    abbrev test : Bool
    test = lt_z b v && eqb (executing Z ls v) (executing Z ls g)

    step : block_gain Z g ls ≡ best_from Z g ls (cond test v b) (drop (i + 1) ls)
    step =
        inv.0 ∙ ap (best_from Z g ls b) (back ls i x h at) ∙
        ap (λ y. best_from Z g ls (cond (lt_z b y && eqb (executing Z ls y) (executing Z ls g)) y b) (drop (i + 1) ls)) (sym same)

    up : test ≡ true → block_gain Z g ls ≡ best_from Z g ls v (drop (i + 1) ls)
    up t = step ∙ ap (λ w. best_from Z g ls w (drop (i + 1) ls)) (cond-true test v b t)

    stay : test ≡ false → block_gain Z g ls ≡ best_from Z g ls b (drop (i + 1) ls)
    stay t = step ∙ ap (λ w. best_from Z g ls w (drop (i + 1) ls)) (cond-false test v b t)

    pub climb_up : (lt_z b v && under ceiling v) ≡ true → executing Z ls v ≡ executing Z ls g → Climbs v ceiling (drop (i + 1) ls)
    climb_up t e =
        let lt = (and_parts (lt_z b v) (under ceiling v) t).0 in
        let le = inv.1 in
        (up (and_from (lt_z b v) (eqb (executing Z ls v) (executing Z ls g)) lt (eq-eqb (executing Z ls v) (executing Z ls g) e)), grind (arith, ints), inv.2)

    pub climb_cap : (lt_z b v && under ceiling v) ≡ true → (executing Z ls v ≡ executing Z ls g → ⊥) → Climbs b (Some v) (drop (i + 1) ls)
    climb_cap t ne =
        let lt = (and_parts (lt_z b v) (under ceiling v) t).0 in
        let le = inv.1 in
        let gv : g ≤ℤ v = grind (arith, ints) in
        let f = fewer g v gv in (
          stay (and_right (lt_z b v) (eqb (executing Z ls v) (executing Z ls g)) (ne_eqb (executing Z ls v) (executing Z ls g) ne)),
          le,
          λ w n. let vw : v ≤ℤ w = grind (arith, ints) in let k = fewer v w vw in omega arith,
        )

    pub climb_on : (lt_z b v && under ceiling v) ≡ false → Climbs b ceiling (drop (i + 1) ls)
    climb_on t = (
      stay (⊎_elim
          (λ n. and_left (lt_z b v) (eqb (executing Z ls v) (executing Z ls g)) n)
          (λ n. and_right (lt_z b v) (eqb (executing Z ls v) (executing Z ls g)) (ne_eqb (executing Z ls v) (executing Z ls g) (λ e. let k = inv.2 v n in omega arith)))
          (and_cases (lt_z b v) (under ceiling v) t)),
      inv.1,
      inv.2,
    )
