-- The places of two lists as one, cut after n entries.
use Rattle.std.proofs.Common.{◌≡◌, ℕ, zero, suc, ◌+◌, ◌-◌, ◌<◌, ◌≤◌, Bool, true, false, cond, List, [], ◌∷◌, ◌++◌, length, take, None, Err, sym, refl, ap, ◌∙◌, inr, arith}
use Rattle.std.specs.List.{slice_get}
use Rattle.std.proofs.lemmas.List.{length-take}
use Rattle.market.specs.declared.entry.Entry.{Entry}
use Rattle.market.specs.declared.refusal.Refusal.TheVariants.{NotTakable}
use Rattle.market.specs.Lists.{placed, entry_at, takable, take_answer, after_take, lowered, change_at}
use Rattle.market.proofs.Placing.{placed_out}

nth_take : {X : Type 0} (n : ℕ) (xs : List X) (i : ℕ) → i < n → slice_get (take n xs) i ≡ slice_get xs i
nth_take zero xs i h = absurd (omega arith)
nth_take (suc n) [] i h = refl
nth_take (suc n) (x ∷ xs) zero h = refl
nth_take (suc n) (x ∷ xs) (suc i) h = nth_take n xs i (omega arith)

nth_left : {X : Type 0} (xs ys : List X) (i : ℕ) → i < length xs → slice_get (xs ++ ys) i ≡ slice_get xs i
nth_left [] ys i h = absurd (omega arith)
nth_left (x ∷ xs) ys zero h = refl
nth_left (x ∷ xs) ys (suc i) h = nth_left xs ys i (omega arith)

nth_right : {X : Type 0} (xs ys : List X) (i : ℕ) → slice_get (xs ++ ys) (length xs + i) ≡ slice_get ys i
nth_right [] ys i = ap (slice_get ys) (omega arith)
nth_right (x ∷ xs) ys i =
    let e : suc (length xs) + i ≡ suc (length xs + i) = omega arith in
    ap (slice_get (x ∷ (xs ++ ys))) e ∙ nth_right xs ys i

module _ {X : Type 0} (f : X → X) where
  change_take : (n : ℕ) (xs : List X) (i : ℕ) → change_at f (take n xs) i ≡ take n (change_at f xs i)
  change_take zero xs i = refl
  change_take (suc n) [] i = refl
  change_take (suc n) (x ∷ xs) zero = refl
  change_take (suc n) (x ∷ xs) (suc i) = ap (λ ys. x ∷ ys) (change_take n xs i)

  change_left : (xs ys : List X) (i : ℕ) → i < length xs → change_at f (xs ++ ys) i ≡ change_at f xs i ++ ys
  change_left [] ys i h = absurd (omega arith)
  change_left (a ∷ xs) ys zero h = refl
  change_left (a ∷ xs) ys (suc i) h = ap (λ zs. a ∷ zs) (change_left xs ys i (omega arith))

  change_right : (xs ys : List X) (i : ℕ) → change_at f (xs ++ ys) (length xs + i) ≡ xs ++ change_at f ys i
  change_right [] ys i = ap (change_at f ys) (omega arith)
  change_right (a ∷ xs) ys i =
      let e : suc (length xs) + i ≡ suc (length xs + i) = omega arith in
      ap (change_at f (a ∷ (xs ++ ys))) e ∙ ap (λ zs. a ∷ zs) (change_right xs ys i)

module _ (n : ℕ) (xs ys : List Entry) where
  placed_left : (place : ℕ) → place ≤ n → place ≤ length xs → placed (take n (xs ++ ys)) place ≡ placed xs place
  placed_left zero h k = refl
  placed_left (suc i) h k = nth_take n (xs ++ ys) i (omega arith) ∙ nth_left xs ys i (omega arith)

  -- i places past the first list
  placed_right : (i : ℕ) → length xs + suc i ≤ n → placed (take n (xs ++ ys)) (length xs + suc i) ≡ placed ys (suc i)
  placed_right i h =
      let e : length xs + suc i ≡ suc (length xs + i) = omega arith in
      ap (placed (take n (xs ++ ys))) e ∙ nth_take n (xs ++ ys) (length xs + i) (omega arith) ∙ nth_right xs ys i

  abbrev both : List Entry
  both = take n (xs ++ ys)

  past : (place : ℕ) → n < place → placed both place ≡ None
  past place h = let e = length-take n (xs ++ ys) in placed_out both place (inr (omega arith))

  pub entry_past : (place : ℕ) → n < place → Err NotTakable ≡ entry_at both place
  entry_past place h = rw (past place h) refl

  pub entry_left : (place k : ℕ) → k ≡ length xs → place ≤ n → place ≤ k → entry_at xs place ≡ entry_at both place
  entry_left place k e h l = rw (placed_left place h (omega arith)) refl

  pub take_past : (place m : ℕ) → n < place → (Err NotTakable ≡ take_answer both place m) × (both ≡ after_take both place m)
  take_past place m h =
      let e = past place h in
      (rw e refl, rw e refl)

  after_left : (place m : ℕ) (t : Bool) → place ≤ length xs → takable (placed xs place) m ≡ t → take n (cond t (change_at (lowered m) xs (place - 1)) xs ++ ys) ≡ cond t (change_at (lowered m) both (place - 1)) both
  after_left place m false h e = refl
  after_left zero m true h e = cc
  after_left (suc i) m true h e =
      let j : suc i - 1 < length xs = omega arith in
      sym (change_take (lowered m) n (xs ++ ys) (suc i - 1) ∙ ap (take n) (change_left (lowered m) xs ys (suc i - 1) j))

  pub take_left : (place m k : ℕ) → k ≡ length xs → place ≤ n → place ≤ k → (take_answer xs place m ≡ take_answer both place m) × (take n (after_take xs place m ++ ys) ≡ after_take both place m)
  take_left place m k e h l =
      let same = placed_left place h (omega arith) in
      (rw same refl, rw same (after_left place m (takable (placed xs place) m) (omega arith) refl))

  module _ (place k : ℕ) (e : k ≡ length xs) (h : place ≤ n) (l : k < place) where
    index : length xs + suc (place - k - 1) ≡ place
    index = omega arith

    rest : suc (place - k - 1) ≡ place - k
    rest = omega arith

    right : placed both place ≡ placed ys (place - k)
    right =
        sym (ap (placed both) index)
        ∙ placed_right (place - k - 1) (omega arith)
        ∙ ap (placed ys) rest

    pub entry_right : entry_at ys (place - k) ≡ entry_at both place
    entry_right = rw right refl

    after_right : (m : ℕ) (t : Bool) → take n (xs ++ cond t (change_at (lowered m) ys (place - k - 1)) ys) ≡ cond t (change_at (lowered m) both (place - 1)) both
    after_right m false = refl
    after_right m true =
        let j : length xs + (place - k - 1) ≡ place - 1 = omega arith in
        sym (change_take (lowered m) n (xs ++ ys) (place - 1) ∙ ap (take n) (sym (ap (change_at (lowered m) (xs ++ ys)) j) ∙ change_right (lowered m) xs ys (place - k - 1)))

    pub take_right : (m : ℕ) → (take_answer ys (place - k) m ≡ take_answer both place m) × (take n (xs ++ after_take ys (place - k) m) ≡ after_take both place m)
    take_right m = (rw right refl, rw right (after_right m (takable (placed ys (place - k)) m)))
