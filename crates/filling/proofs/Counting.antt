-- Sums over the lines that pass a test.
use Rattle.std.proofs.Common.{◌≡◌, ℕ, zero, suc, ◌+◌, Bool, true, false, cond, not, ◌&&◌, List, [], ◌∷◌, ◌++◌, length, get_or, drop, ℤ, sum, refl, ap, ◌∙◌, add-one, arith, length-append}
use lib.Signed.{le_z}
use Rattle.std.specs.List.{AllByRecursion}
use Rattle.std.proofs.lemmas.List.Sums.{sum_by-cons, sum_by-append}
use Rattle.std.proofs.lemmas.Int.{ints}
use Rattle.std.proofs.lemmas.Bool.{and_parts}
use Rattle.filling.specs.declared.interest.Interest.{Interest}
use Rattle.filling.specs.Totals.{level, customer_at, other_at, sizes, contracts, filled}

pub sum_cons : (x : ℕ) (xs : List ℕ) → sum (x ∷ xs) ≡ x + sum xs
sum_cons x xs = sum_by-cons (λ y. y) x xs

pub sum_append : (xs ys : List ℕ) → sum (xs ++ ys) ≡ sum xs + sum ys
sum_append xs ys = sum_by-append (λ y. y) xs ys

pub sum_drop : (xs : List ℕ) (k : ℕ) → sum (drop k xs) ≡ get_or xs k 0 + sum (drop (k + 1) xs)
sum_drop [] zero = omega arith
sum_drop [] (suc k) = simp add-one (omega arith)
sum_drop (x ∷ xs) zero = sum_cons x xs
sum_drop (x ∷ xs) (suc k) = sum_drop xs k ∙ ap (λ n. get_or xs k 0 + sum (drop n (x ∷ xs))) (let e : suc (k + 1) ≡ suc k + 1 = omega arith in e)

pub contracts_cons : (p : Interest → Bool) (l : Interest) (ls : List Interest) → contracts p (l ∷ ls) ≡ cond (p l) l.size 0 + contracts p ls
contracts_cons p l ls = elim (p l) as (λ b. sum (cond b (l.size ∷ sizes p ls) (sizes p ls)) ≡ cond b l.size 0 + contracts p ls) [ true ↦ sum_cons l.size (sizes p ls) | false ↦ omega arith ]

-- tests that agree on each line
pub contracts_same : (p q : Interest → Bool) (ls : List Interest) → AllByRecursion (λ l. p l ≡ q l) ls → contracts p ls ≡ contracts q ls
contracts_same p q [] h = refl
contracts_same p q (l ∷ ls) h = omega (arith, contracts_cons p l ls, contracts_cons q l ls, ap (λ b. cond b l.size 0) h.0, contracts_same p q ls h.1)

pub sizes_append : (p : Interest → Bool) (xs ys : List Interest) → sizes p (xs ++ ys) ≡ sizes p xs ++ sizes p ys
sizes_append p [] ys = refl
sizes_append p (l ∷ xs) ys =
    elim (p l) as (λ b. cond b (l.size ∷ sizes p (xs ++ ys)) (sizes p (xs ++ ys)) ≡ cond b (l.size ∷ sizes p xs) (sizes p xs) ++ sizes p ys)
    [ true ↦ ap (λ zs. l.size ∷ zs) (sizes_append p xs ys) | false ↦ sizes_append p xs ys ]

pub contracts_append : (p : Interest → Bool) (xs ys : List Interest) → contracts p (xs ++ ys) ≡ contracts p xs + contracts p ys
contracts_append p xs ys = ap sum (sizes_append p xs ys) ∙ sum_append (sizes p xs) (sizes p ys)

pub contracts_push : (p : Interest → Bool) (xs : List Interest) (l : Interest) → contracts p (xs ++ l ∷ []) ≡ contracts p xs + cond (p l) l.size 0
contracts_push p xs l = omega (arith, contracts_append p xs (l ∷ []), contracts_cons p l [])

pub count_push : (p : Interest → Bool) (xs : List Interest) (l : Interest) → length (sizes p (xs ++ l ∷ [])) ≡ length (sizes p xs) + cond (p l) 1 0
count_push p xs l =
    let e = ap length (sizes_append p xs (l ∷ [])) ∙ length-append (sizes p xs) (sizes p (l ∷ [])) in
    e ∙ ap (λ n. length (sizes p xs) + n) (elim (p l) as (λ b. length (cond b (l.size ∷ []) []) ≡ cond b 1 0) [ true ↦ refl | false ↦ refl ])

-- a test that is one of two others
abbrev pub Splits : (Interest → Bool) → (Interest → Bool) → (Interest → Bool) → Type 0
Splits p q r = (l : Interest) (x : ℕ) → cond (p l) x 0 ≡ cond (q l) x 0 + cond (r l) x 0

pub contracts_split : (p q r : Interest → Bool) → Splits p q r → (ls : List Interest) → contracts p ls ≡ contracts q ls + contracts r ls
contracts_split p q r s [] = omega arith
contracts_split p q r s (l ∷ ls) =
    omega (arith, contracts_cons p l ls, contracts_cons q l ls, contracts_cons r l ls, s l l.size, contracts_split p q r s ls)

pub filled_split : (p q r : Interest → Bool) → Splits p q r → (ls : List Interest) (fs : List ℕ) → filled p ls fs ≡ filled q ls fs + filled r ls fs
filled_split p q r s [] fs = omega arith
filled_split p q r s (l ∷ ls) [] = omega arith
filled_split p q r s (l ∷ ls) (f ∷ fs) = omega (arith, s l f, filled_split p q r s ls fs)

pub level_splits : (v : ℤ) → Splits (level v) (customer_at v) (other_at v)
level_splits v l x =
    elim (level v l) as (λ b. cond b x 0 ≡ cond (b && l.customer) x 0 + cond (b && not l.customer) x 0)
    [ true ↦ elim l.customer as (λ c. x ≡ cond c x 0 + cond (not c) x 0) [ true ↦ omega arith | false ↦ omega arith ] | false ↦ omega arith ]

pub level_is : (v : ℤ) (l : Interest) → level v l ≡ true → l.gain ≡ v
level_is v l e = let p = and_parts (le_z v l.gain) (le_z l.gain v) e in grind (arith, ints)
