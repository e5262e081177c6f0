-- A list copied to the front of another, element by element.
use Rattle.std.proofs.Common.{◌≡◌, ℕ, zero, suc, ◌+◌, ◌-◌, ◌<◌, ◌≤◌, cond, List, [], ◌∷◌, ◌++◌, length, get_or, take, drop, set, Some, Ok, Err, Result, sym, refl, ap, ◌∙◌, append_assoc, take_all, arith}
use Rattle.std.specs.List.{slice_get}
use Rattle.std.proofs.lemmas.List.{length-take, take_more, at_drop_more, set-append_right}
use Rattle.std.proofs.lemmas.Bool.{le-leb, lt-leb}
use Rattle.market.specs.declared.refusal.Refusal.{Refusal}
use Rattle.market.specs.declared.refusal.Refusal.TheVariants.{OutOfLimits}
use Rattle.auction.specs.declared.line.Line.{Line}
use Rattle.places.specs.Standing.{copy_answer, after_copy}

got : (xs : List Line) (i : ℕ) (y : Line) → Some y ≡ slice_get xs i → get_or xs i y ≡ y
got [] i y e = refl
got (x ∷ xs) zero y e = cc
got (x ∷ xs) (suc i) y e = got xs i y e

front : (z : Line) (zs : List Line) (i : ℕ) (y : Line) → set (z ∷ zs) (i - i) y ≡ y ∷ zs
front z zs i y = let none : i - i ≡ 0 = omega arith in ap (λ j. set (z ∷ zs) j y) none

pub copied_more : (xs out cur : List Line) (i : ℕ) (y : Line) → cur ≡ take i xs ++ drop i out → i < length xs → length xs ≤ length out → Some y ≡ slice_get xs i →
    set cur i y ≡ take (i + 1) xs ++ drop (i + 1) out
copied_more xs out cur i y inv h k e =
    let t = length-take i xs in
    ap (λ c. set c i y) inv
    ∙ set-append_right (take i xs) (drop i out) i i y (omega arith) (omega arith)
    ∙ ap (λ z. take i xs ++ z) (at_drop_more (λ d. set d (i - i) y) out i y (omega arith) ∙ front (get_or out i y) (drop (i + 1) out) i y)
    ∙ sym (append_assoc (take i xs) (y ∷ []) (drop (i + 1) out))
    ∙ ap (λ z. z ++ drop (i + 1) out) (ap (λ z. take i xs ++ z ∷ []) (sym (got xs i y e)) ∙ sym (take_more xs i y h))

-- once all is copied
pub copied_all : (xs out cur : List Line) (i : ℕ) → cur ≡ take i xs ++ drop i out → length xs ≡ i → length xs ≤ length out →
    (Ok i ≡ copy_answer xs (length out)) × (cur ≡ after_copy xs out)
copied_all xs out cur i inv e k =
    let t = le-leb (length xs) (length out) k in
    let answer : Result ℕ Refusal = Ok (length xs) in (
      ap (λ n. Ok n) (sym e) ∙ sym (ap (λ b. cond b answer (Err OutOfLimits)) t),
      inv ∙ ap (λ n. take n xs ++ drop n out) (sym e) ∙ ap (λ z. z ++ drop (length xs) out) (take_all (length xs) xs (omega arith))
          ∙ sym (ap (λ b. cond b (xs ++ drop (length xs) out) out) t),
    )

-- a table without room
pub no_room : (xs out : List Line) → length out < length xs → (Err OutOfLimits ≡ copy_answer xs (length out)) × (out ≡ after_copy xs out)
no_room xs out h =
    let t = lt-leb (length xs) (length out) h in
    let answer : Result ℕ Refusal = Ok (length xs) in
    (sym (ap (λ b. cond b answer (Err OutOfLimits)) t), sym (ap (λ b. cond b (xs ++ drop (length xs) out) out) t))
