-- What shares come to.
use Rattle.std.proofs.Common.{◌≡◌, ℕ, zero, suc, ◌+◌, ◌-◌, ◌*◌, ◌/◌, ◌%◌, ◌<◌, ◌≤◌, min, cond, ltb, ◌⊎◌, List, [], ◌∷◌, map, length, get_or, sum, sym, refl, ap, ◌∙◌, ⊎_elim, mul-le-mul_right, mod-lt, mul_comm, add-mul, div-add-mod', zero-mul, mul-add, le_of_mul-le-mul_right, arith}
use Rattle.std.proofs.lemmas.Simd.{map-map}
use Rattle.std.proofs.lemmas.List.Sums.{sum_by-cons}
use Rattle.std.proofs.lemmas.Bool.Decides.{nat_tests}
use Rattle.std.proofs.lemmas.Bool.{lt-ltb, cases_lt}
use Rattle.share.specs.Shares.{floors, extra, topped, shares, Fair}
use native.Mathlib.Nat.{div-le_of_le-mul}

part_le : (a S s : ℕ) → a ≤ S → a * s / S ≤ s
part_le a S s h = div-le_of_le-mul S (mul-le-mul_right s h)

module _ (a S : ℕ) where
  -- what is cut off where a part is rounded down
  abbrev cut : ℕ → ℕ
  cut s = a * s % S

  -- 1 for a claim that wants more than its part
  abbrev more : ℕ → ℕ
  more s = cond (ltb (a * s / S) s) 1 0

  parts_cuts : (ss : List ℕ) → sum (floors a S ss) * S + sum (map cut ss) ≡ a * sum ss
  parts_cuts [] = omega arith
  parts_cuts (s ∷ ss) =
      let f = sum_by-cons (λ x. x) (a * s / S) (floors a S ss) in
      let r = sum_by-cons (λ x. x) (cut s) (map cut ss) in
      let t = sum_by-cons (λ x. x) s ss in
      let d = div-add-mod' (a * s) S in
      let l = add-mul (a * s / S) (sum (floors a S ss)) S in
      let m = mul-add a s (sum ss) in
      let more = parts_cuts ss in
      let goal : (a * s / S + sum (floors a S ss)) * S + (cut s + sum (map cut ss)) ≡ a * (s + sum ss) = omega arith in
      ap (λ x. x * S + sum (map cut (s ∷ ss))) f ∙ ap (λ x. (a * s / S + sum (floors a S ss)) * S + x) r ∙ goal ∙ ap (λ x. a * x) (sym t)

  -- a claim that wants more has lost less than a contract
  cut_more : a ≤ S → (s : ℕ) → a * s / S < s → cut s ≤ more s * S
  cut_more h s lt =
      let d = div-add-mod' (a * s) S in
      let u = mul-le-mul_right s h in
      let none : S ≤ 0 → cut s ≤ S = λ z. let e : S ≡ 0 = omega arith in let w : S * s ≡ 0 = ap (λ k. k * s) e ∙ zero-mul s in omega arith in
      let some : 0 < S → cut s ≤ S = λ p. let m : a * s % S < S = mod-lt (a * s) p in omega arith in
      let le : cut s ≤ S = ⊎_elim some none (cases_lt 0 S) in
      rw (lt-ltb (a * s / S) s lt) (omega arith)

  -- any other has lost nothing
  cut_none : a ≤ S → (s : ℕ) → s ≤ a * s / S → cut s ≤ more s * S
  cut_none h s ge =
      let d = div-add-mod' (a * s) S in
      let u = mul-le-mul_right s h in
      let v = mul-le-mul_right S ge in
      let w = mul_comm s S in
      omega arith

  cut_le : a ≤ S → (s : ℕ) → cut s ≤ more s * S
  cut_le h s = ⊎_elim (cut_more h s) (cut_none h s) (cases_lt (a * s / S) s)

  cuts_le : a ≤ S → (ss : List ℕ) → sum (map cut ss) ≤ sum (map more ss) * S
  cuts_le h [] = omega arith
  cuts_le h (s ∷ ss) =
      let r = sum_by-cons (λ x. x) (cut s) (map cut ss) in
      let k = sum_by-cons (λ x. x) (more s) (map more ss) in
      let l = add-mul (more s) (sum (map more ss)) S in
      let one = cut_le h s in
      let rest = cuts_le h ss in
      let e : sum (map more (s ∷ ss)) * S ≡ (more s + sum (map more ss)) * S = ap (λ x. x * S) k in
      omega arith

  parts_le : a ≤ S → (ss : List ℕ) → sum (floors a S ss) ≤ sum ss
  parts_le h [] = omega arith
  parts_le h (s ∷ ss) =
      let f = sum_by-cons (λ x. x) (a * s / S) (floors a S ss) in
      let t = sum_by-cons (λ x. x) s ss in
      let one = part_le a S s h in
      let rest = parts_le h ss in
      omega arith

  extra_min : (n f s k : ℕ) → extra n f s + min (n - extra n f s) k ≡ min n (cond (ltb f s) 1 0 + k)
  extra_min n f s k = grind (arith, nat_tests)

  topped_sum : (n : ℕ) (ss : List ℕ) → sum (topped n a S ss) ≡ sum (floors a S ss) + min n (sum (map more ss))
  topped_sum n [] = omega arith
  topped_sum n (s ∷ ss) =
      let x = extra n (a * s / S) s in
      let t = sum_by-cons (λ y. y) (a * s / S + x) (topped (n - x) a S ss) in
      let f = sum_by-cons (λ y. y) (a * s / S) (floors a S ss) in
      let k = sum_by-cons (λ y. y) (more s) (map more ss) in
      let rest = topped_sum (n - x) ss in
      let e : x + min (n - x) (sum (map more ss)) ≡ min n (more s + sum (map more ss)) = extra_min n (a * s / S) s (sum (map more ss)) in
      omega arith

  pub topped_length : (n : ℕ) (ss : List ℕ) → length (topped n a S ss) ≡ length ss
  topped_length n [] = refl
  topped_length n (s ∷ ss) = ap suc (topped_length (n - extra n (a * s / S) s) ss)

  extra_le : (n f s : ℕ) → f ≤ s → f + extra n f s ≤ s
  extra_le n f s h = grind (arith, nat_tests)

  topped_le : a ≤ S → (n : ℕ) (ss : List ℕ) (i : ℕ) → get_or (topped n a S ss) i 0 ≤ get_or ss i 0
  topped_le h n [] i = omega arith
  topped_le h n (s ∷ ss) zero = extra_le n (a * s / S) s (part_le a S s h)
  topped_le h n (s ∷ ss) (suc i) = topped_le h (n - extra n (a * s / S) s) ss i

  extra_near : (n f s : ℕ) → (f + extra n f s ≡ f) ⊎ (f + extra n f s ≡ f + 1)
  extra_near n f s = grind (arith, nat_tests)

  pub topped_near : (n : ℕ) (ss : List ℕ) (i : ℕ) → i < length ss → (get_or (topped n a S ss) i 0 ≡ a * get_or ss i 0 / S) ⊎ (get_or (topped n a S ss) i 0 ≡ a * get_or ss i 0 / S + 1)
  topped_near n [] i h = absurd (omega arith)
  topped_near n (s ∷ ss) zero h = extra_near n (a * s / S) s
  topped_near n (s ∷ ss) (suc i) h = topped_near (n - extra n (a * s / S) s) ss i (omega arith)

  -- with nothing left over, each has its part
  topped_none : (ss : List ℕ) (j : ℕ) → j < length ss → get_or (topped 0 a S ss) j 0 ≡ a * get_or ss j 0 / S
  topped_none [] j h = absurd (omega arith)
  topped_none (s ∷ ss) zero h = omega arith
  topped_none (s ∷ ss) (suc j) h = topped_none ss j (omega arith)

  -- a claim that wants more gets none only where none is left
  used_up : (n f s : ℕ) → f < s → f + extra n f s ≡ f → n - extra n f s ≡ 0
  used_up n f s h e = grind (arith, nat_tests)

  pub topped_first : (n : ℕ) (ss : List ℕ) (i j : ℕ) → i < j → j < length ss → a * get_or ss i 0 / S < get_or ss i 0 → get_or (topped n a S ss) i 0 ≡ a * get_or ss i 0 / S → get_or (topped n a S ss) j 0 ≡ a * get_or ss j 0 / S
  topped_first n [] i j h k w e = absurd (omega arith)
  topped_first n (s ∷ ss) i zero h k w e = absurd (omega arith)
  topped_first n (s ∷ ss) zero (suc j) h k w e =
      let z = used_up n (a * s / S) s w e in
      ap (λ m. get_or (topped m a S ss) j 0) z ∙ topped_none ss j (omega arith)
  topped_first n (s ∷ ss) (suc i) (suc j) h k w e = topped_first (n - extra n (a * s / S) s) ss i j (omega arith) (omega arith) w e

  -- the parts come to no more than the amount, and what they leave is no more than the claims that want more
  pub left_over_fits : (ss : List ℕ) → S ≡ sum ss → a ≤ S → (sum (floors a S ss) ≤ a) × (a ≤ sum (floors a S ss) + sum (map more ss))
  left_over_fits ss e h =
      let F = sum (floors a S ss) in
      let K = sum (map more ss) in
      let p = parts_cuts ss in
      let c = cuts_le h ss in
      let w = parts_le h ss in
      let same : a * sum ss ≡ a * S = ap (λ x. a * x) (sym e) in
      let split = add-mul F K S in
      ⊎_elim
      (λ pos. let u : F * S ≤ a * S = omega arith in let v : a * S ≤ (F + K) * S = omega arith in (le_of_mul-le-mul_right u pos, le_of_mul-le-mul_right v pos))
      (λ z. (omega arith, omega arith))
      (cases_lt 0 S)

pub parts_fit : {C : Type 0} (W : C → ℕ) (a S : ℕ) (cs : List C) (top : ℕ) → a ≤ S → S ≡ sum (map W cs) → S < top → sum (map (λ x. a * W x / S) cs) < top
parts_fit W a S cs top h all few =
    let e = map-map (λ s. a * s / S) W cs in
    let le = parts_le a S h (map W cs) in
    rw (← e) (omega arith)

pub get_d_sum : (ss : List ℕ) (i : ℕ) → get_or ss i 0 ≤ sum ss
get_d_sum [] i = omega arith
get_d_sum (s ∷ ss) zero = let t = sum_by-cons (λ x. x) s ss in omega arith
get_d_sum (s ∷ ss) (suc i) = let t = sum_by-cons (λ x. x) s ss in let k = get_d_sum ss i in omega arith

pub fair : (a : ℕ) (ss : List ℕ) → a ≤ sum ss → Fair a ss (shares a ss)
fair a ss h =
    let S = sum ss in
    let n = a - sum (floors a S ss) in
    let l = left_over_fits a S ss refl h in
    let t = topped_sum a S n ss in
    record {
      whole = omega arith;
      within = topped_le a S h n ss;
      near = topped_near a S n ss;
      long = topped_length a S n ss;
      first = topped_first a S n ss;
      none = λ z i. let w = topped_le a S h n ss i in let k = get_d_sum ss i in omega arith;
    }
