-- A pass over the lines that writes a count for each line that passes a test.
use Rattle.std.proofs.Common.{◌≡◌, ℕ, ◌+◌, ◌-◌, ◌<◌, ◌≤◌, min, Bool, true, false, cond, ◌≢◌, List, length, get_or, take, set, ℤ, Some, sym, ap, ◌∙◌, ⊎_elim, arith}
use Rattle.std.specs.List.{slice_get}
use Rattle.std.proofs.lemmas.Option.{slice_get_past}
use Rattle.std.proofs.lemmas.List.{get_or-set_same, get_or-set_other}
use Rattle.std.proofs.lemmas.Bool.{cond-true, cond-false, cases_eq, cases_lt}
use Rattle.filling.specs.declared.interest.Interest.{Interest}
use Rattle.filling.specs.Totals.{customer_at, other_at, sizes, contracts}

-- what the pass leaves of old counts
abbrev pub Passed : (Interest → Bool) → (ℕ → Interest → ℕ) → List Interest → List ℕ → List ℕ → Type 0
Passed p f ls old out = (k : ℕ) (x : Interest) → slice_get ls k ≡ Some x → get_or out k 0 ≡ cond (p x) (f k x) (get_or old k 0)

-- after i lines
abbrev pub Passing : (Interest → Bool) → (ℕ → Interest → ℕ) → List Interest → List ℕ → List ℕ → ℕ → Type 0
Passing p f ls old out i =
    ((k : ℕ) → i ≤ k → get_or out k 0 ≡ get_or old k 0)
    × ((k : ℕ) (x : Interest) → slice_get ls k ≡ Some x → k < i → get_or out k 0 ≡ cond (p x) (f k x) (get_or old k 0))

module _ (p : Interest → Bool) (f : ℕ → Interest → ℕ) (ls : List Interest) (old out : List ℕ) (i : ℕ) where
  pub pass_all : length ls ≤ i → Passing p f ls old out i → Passed p f ls old out
  pass_all h q k x e =
      ⊎_elim
      (λ lt. q.1 k x e lt)
      (λ le. let n = slice_get_past ls k (omega arith) in cc)
      (cases_lt k i)

  module _ (x : Interest) (at : slice_get ls i ≡ Some x) (q : Passing p f ls old out i) where
    same : (k : ℕ) (z : Interest) → slice_get ls k ≡ Some z → k ≡ i → z ≡ x
    same k z e ek = let s = ap (slice_get ls) ek in cc

    pub pass_yes : (y : ℕ) → i < length out → p x ≡ true → y ≡ f i x → Passing p f ls old (set out i y) (i + 1)
    pass_yes y lt t e = (
      λ k h. get_or-set_other out i k y 0 (other k h) ∙ q.0 k (omega arith),
      λ k z ez h. ⊎_elim
          (λ ek.
          ap (λ j. get_or (set out i y) j 0) ek ∙ get_or-set_same out i y 0 lt ∙ e ∙ sym (ap (λ w. cond (p w) (f k w) (get_or old k 0)) (same k z ez ek) ∙ cond-true (p x) (f k x) (get_or old k 0) t ∙ ap (λ j. f j x) ek))
          (λ ne. get_or-set_other out i k y 0 ne ∙ q.1 k z ez (less k h ne))
          (cases_eq k i),
    )
      where
        other : (k : ℕ) → i + 1 ≤ k → k ≢ i
        other k h = omega arith

        less : (k : ℕ) → k < i + 1 → k ≢ i → k < i
        less k h ne = omega arith

    pub pass_no : p x ≡ false → Passing p f ls old out (i + 1)
    pass_no t = (
      λ k h. q.0 k (omega arith),
      λ k z ez h. ⊎_elim
          (λ ek. q.0 k (omega arith) ∙ sym (ap (λ w. cond (p w) (f k w) (get_or old k 0)) (same k z ez ek) ∙ cond-false (p x) (f k x) (get_or old k 0) t))
          (λ ne. q.1 k z ez (less k h ne))
          (cases_eq k i),
    )
      where
        less : (k : ℕ) → k < i + 1 → k ≢ i → k < i
        less k h ne = omega arith

-- what customers of the level v get of a room
abbrev pub left_for : ℤ → ℕ → List Interest → ℕ → Interest → ℕ
left_for v room ls k x = min x.size (room - contracts (customer_at v) (take k ls))

-- what others of the level v get of their parts
abbrev pub part_for : ℤ → List ℕ → List Interest → ℕ → Interest → ℕ
part_for v parts ls k x = get_or parts (length (sizes (other_at v) (take k ls))) 0
