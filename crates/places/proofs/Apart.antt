-- Turns: places, each at most once.
use Rattle.std.proofs.Common.{◌≡◌, ℕ, zero, suc, ◌<◌, ◌≤◌, Bool, true, false, cond, eqb, ltb, List, [], ◌∷◌, ◌++◌, length, get_or, sym, refl, ap, ◌∙◌, ⊎_elim, true≢false, arith}
use Rattle.std.proofs.lemmas.List.{length_push}
use Rattle.std.proofs.lemmas.Bool.{cases_eq}
use Rattle.places.specs.Turns.{has, apart, under, without_turn}

cond_both : (a b : Bool) → cond a false b ≡ true → (a ≡ false) × (b ≡ true)
cond_both true b h = absurd (true≢false (sym h))
cond_both false b h = (refl, h)

pub cond_two : (a b : Bool) → cond a b false ≡ true → (a ≡ true) × (b ≡ true)
cond_two true b h = (refl, h)
cond_two false b h = absurd (true≢false (sym h))

turn_here : (p x : ℕ) (xs : List ℕ) → x ≡ p → without_turn p (x ∷ xs) ≡ without_turn p xs
turn_here p x xs e = grind arith

turn_other : (p x : ℕ) (xs : List ℕ) → (x ≡ p → ⊥) → without_turn p (x ∷ xs) ≡ x ∷ without_turn p xs
turn_other p x xs e = grind arith

eqb_is : (x p : ℕ) → x ≡ p → eqb x p ≡ true
eqb_is x p e = grind arith

eqb_not : (x p : ℕ) → (x ≡ p → ⊥) → eqb x p ≡ false
eqb_not x p e = grind arith

pub has_without : (p q : ℕ) (xs : List ℕ) → has q (without_turn p xs) ≡ cond (eqb q p) false (has q xs)
has_without p q [] = grind arith
has_without p q (x ∷ xs) =
    let ih = has_without p q xs in
    ⊎_elim
    (λ (e : x ≡ p). rw (turn_here p x xs e) (ih ∙ ⊎_elim (λ (f : q ≡ p). rw (eqb_is q p f)) (λ (f : q ≡ p → ⊥).
    let ne : x ≡ q → ⊥ = λ u. f (sym u ∙ e) in
    rw (eqb_not q p f, eqb_not x q ne)) (cases_eq q p)))
    (λ (e : x ≡ p → ⊥). rw (turn_other p x xs e) (rw ih (⊎_elim (λ (f : x ≡ q).
    let ne : q ≡ p → ⊥ = λ u. e (f ∙ u) in rw (eqb_is x q f, eqb_not q p ne))
    (λ (f : x ≡ q → ⊥). rw (eqb_not x q f)) (cases_eq x q))))
    (cases_eq x p)

pub without_apart : (p : ℕ) (xs : List ℕ) → apart xs ≡ true → apart (without_turn p xs) ≡ true
without_apart p [] h = refl
without_apart p (x ∷ xs) h =
    let b = cond_both (has x xs) (apart xs) h in
    let ih = without_apart p xs b.1 in
    ⊎_elim
    (λ (e : x ≡ p). rw (turn_here p x xs e) ih)
    (λ (e : x ≡ p → ⊥).
    let f : has x (without_turn p xs) ≡ false = has_without p x xs ∙ rw (eqb_not x p e) b.0 in
    rw (turn_other p x xs e) (rw f ih))
    (cases_eq x p)

pub without_under : (p n : ℕ) (xs : List ℕ) → under n xs ≡ true → under n (without_turn p xs) ≡ true
without_under p n [] h = refl
without_under p n (x ∷ xs) h =
    let b = cond_two (ltb x n) (under n xs) h in
    let ih = without_under p n xs b.1 in
    ⊎_elim
    (λ (e : x ≡ p). rw (turn_here p x xs e) ih)
    (λ (e : x ≡ p → ⊥). rw (turn_other p x xs e) (rw b.0 ih))
    (cases_eq x p)

under_down : (n : ℕ) (xs : List ℕ) → under (suc n) xs ≡ true → under n (without_turn n xs) ≡ true
under_down n [] h = refl
under_down n (x ∷ xs) h =
    let b = cond_two (ltb x (suc n)) (under (suc n) xs) h in
    let ih = under_down n xs b.1 in
    ⊎_elim
    (λ (e : x ≡ n). rw (turn_here n x xs e) ih)
    (λ (e : x ≡ n → ⊥).
    let l : ltb x (suc n) ≡ true = b.0 in
    let f : ltb x n ≡ true = grind arith in
    rw (turn_other n x xs e) (rw f ih))
    (cases_eq x n)

pub without_absent : (p : ℕ) (xs : List ℕ) → has p xs ≡ false → without_turn p xs ≡ xs
without_absent p [] h = refl
without_absent p (x ∷ xs) h =
    ⊎_elim
    (λ (e : x ≡ p). absurd (true≢false (rw (eqb_is x p e) at h)))
    (λ (e : x ≡ p → ⊥). rw (turn_other p x xs e) (ap (λ (l : List ℕ). x ∷ l) (without_absent p xs (rw (eqb_not x p e) at h))))
    (cases_eq x p)

pub length_without : (p : ℕ) (xs : List ℕ) → apart xs ≡ true → length xs ≤ suc (length (without_turn p xs))
length_without p [] h = omega arith
length_without p (x ∷ xs) h =
    let b = cond_both (has x xs) (apart xs) h in
    ⊎_elim
    (λ (e : x ≡ p).
    let w : without_turn p xs ≡ xs = without_absent p xs (rw e at b.0) in
    rw (turn_here p x xs e, w) (omega arith))
    (λ (e : x ≡ p → ⊥). rw (turn_other p x xs e) (omega (arith, length_without p xs b.1)))
    (cases_eq x p)

-- at most n places below n
pub pigeon : (n : ℕ) (xs : List ℕ) → apart xs ≡ true → under n xs ≡ true → length xs ≤ n
pigeon zero [] a u = omega arith
pigeon zero (x ∷ xs) a u =
    let b = cond_two (ltb x 0) (under 0 xs) u in
    let l : ltb x 0 ≡ true = b.0 in
    absurd (let f : ltb x 0 ≡ false = grind arith in true≢false (sym l ∙ f))
pigeon (suc n) xs a u =
    omega (arith, pigeon n (without_turn n xs) (without_apart n xs a) (under_down n xs u), length_without n xs a)

pub has_push : (q p : ℕ) (xs : List ℕ) → has q (xs ++ p ∷ []) ≡ cond (has q xs) true (eqb p q)
has_push q p [] = grind arith
has_push q p (x ∷ xs) = let ih = has_push q p xs in grind arith

pub push_apart : (p : ℕ) (xs : List ℕ) → apart xs ≡ true → has p xs ≡ false → apart (xs ++ p ∷ []) ≡ true
push_apart p [] a h = refl
push_apart p (x ∷ xs) a h =
    let b = cond_both (has x xs) (apart xs) a in
    let ne : x ≡ p → ⊥ = λ e. true≢false (rw (eqb_is x p e) at h) in
    let h' : has p xs ≡ false = rw (eqb_not x p ne) at h in
    let f : has x (xs ++ p ∷ []) ≡ false = has_push x p xs ∙ rw b.0 (eqb_not p x (λ e. ne (sym e))) in
    rw f (push_apart p xs b.1 h')

pub push_under : (n p : ℕ) (xs : List ℕ) → under n xs ≡ true → p < n → under n (xs ++ p ∷ []) ≡ true
push_under n p [] u l = grind arith
push_under n p (x ∷ xs) u l =
    let b = cond_two (ltb x n) (under n xs) u in
    rw b.0 (push_under n p xs b.1 l)

-- a line that is full has every place, so one that lacks a place has space
pub space : (n p : ℕ) (xs : List ℕ) → apart xs ≡ true → under n xs ≡ true → p < n → has p xs ≡ false → length xs < n
space n p xs a u l h =
    let k = pigeon n (xs ++ p ∷ []) (push_apart p xs a h) (push_under n p xs u l) in
    omega (arith, k, length_push xs p)

pub under_at : (n : ℕ) (xs : List ℕ) (i : ℕ) → under n xs ≡ true → i < length xs → get_or xs i 0 < n
under_at n [] i u h = absurd (omega arith)
under_at n (x ∷ xs) zero u h =
    let l : ltb x n ≡ true = (cond_two (ltb x n) (under n xs) u).0 in
    let k : x < n = grind arith in k
under_at n (x ∷ xs) (suc i) u h = under_at n xs i (cond_two (ltb x n) (under n xs) u).1 (omega arith)

-- a place that left has no turn
pub gone : (p : ℕ) (xs : List ℕ) → has p (without_turn p xs) ≡ false
gone p xs = has_without p p xs ∙ ap (λ b. cond b false (has p xs)) (eqb_is p p refl)

-- a place that left can come back
pub room : (n p : ℕ) (xs : List ℕ) → apart xs ≡ true → under n xs ≡ true → p < n → length (without_turn p xs) < n
room n p xs a u l = space n p (without_turn p xs) (without_apart p xs a) (without_under p n xs u) l (gone p xs)
