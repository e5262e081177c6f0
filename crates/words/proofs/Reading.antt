-- The number that a word is, by the relation and by the function.
use Rattle.std.proofs.Common.{◌≡◌, ℕ, ◌-◌, ◌≤◌, Bool, true, false, ◌&&◌, eqb, leb, List, [], ◌∷◌, length, get_or, ℤ, pos, neg_ℤ, Some, None, codes, Decides, Option, sym, refl, ap, ◌∙◌, subst, arith}
use Rattle.std.specs.List.{AllByRecursion}
use Rattle.std.specs.Option.{option_map}
use Rattle.std.specs.Str.{bytes_eq}
use Rattle.std.proofs.lemmas.Slice.Eq.{bytes_eq-Decides}
use Rattle.std.proofs.lemmas.Bool.{cond-true, cond-false, eqb-true, eqb-false, leb-true, le-leb, both_ways}
use Rattle.std.proofs.lemmas.Bool.Decides.{Decides-and, not_from_Decides}
use Rattle.std.proofs.ByRecursion.{Decides-by_and}
use Rattle.words.specs.Answer.{Answers}
use Rattle.words.specs.Number.{decimal, Digit, Numeral, numeral, Number, nought, plain, minus}
use Rattle.words.specs.Numerals.{all_digits, read_numeral, read_number}
use Rattle.words.proofs.Numbers.{parts, after_minus, nought_is}

-- two answers for one relation are the same
pub answers_same : {A : Type 0} (P : A → Type 0) (a b : Option A) → Answers a P → Answers b P → a ≡ b
answers_same P None None p q = refl
answers_same P None (Some y) p q = absurd (p y q.0)
answers_same P (Some x) None p q = absurd (q x p.0)
answers_same P (Some x) (Some y) p q = ap Some (q.1 x p.0)

pub answers_some : {A : Type 0} (P : A → Type 0) (a : Option A) (v : A) → Answers a P → P v → a ≡ Some v
answers_some P None v p h = absurd (p v h)
answers_some P (Some x) v p h = ap Some (sym (p.1 v h))

decides_leb : (a b : ℕ) → Decides (leb a b) (a ≤ b)
decides_leb a b = (leb-true a b, le-leb a b)

decides_digits : (ds : List ℕ) → Decides (all_digits ds) (AllByRecursion Digit ds)
decides_digits = Decides-by_and (λ d. leb 48 d && leb d 57) Digit all_digits (λ d. Decides-and (leb 48 d) (leb d 57) (decides_leb 48 d) (decides_leb d 57)) refl (λ _ _. refl)

some_digit : {w : List ℕ} {n : ℕ} → Numeral w n → 1 ≤ length w
some_digit (numeral lo hi all few) = omega arith

numeral_read : (w : List ℕ) → Answers (read_numeral w) (Numeral w)
numeral_read [] = λ n r. omega (arith, some_digit r)
numeral_read (d ∷ ds) = go ((leb 49 d && leb d 57) && (all_digits ds && leb (length ds) 12)) refl
  where
    test : Decides ((leb 49 d && leb d 57) && (all_digits ds && leb (length ds) 12)) (((49 ≤ d) × (d ≤ 57)) × (AllByRecursion Digit ds × (length ds ≤ 12)))
    test = Decides-and _ _ (Decides-and _ _ (decides_leb 49 d) (decides_leb d 57)) (Decides-and _ _ (decides_digits ds) (decides_leb (length ds) 12))

    go : (t : Bool) → ((leb 49 d && leb d 57) && (all_digits ds && leb (length ds) 12)) ≡ t → Answers (read_numeral (d ∷ ds)) (Numeral (d ∷ ds))
    go true e =
        let h = test.0 e in
        subst (λ o. Answers o (Numeral (d ∷ ds))) (sym (cond-true _ (Some (decimal (d - 48) ds)) None e))
        (numeral h.0.0 h.0.1 h.1.0 h.1.1, λ n r. (parts r).4)
    go false e =
        subst (λ o. Answers o (Numeral (d ∷ ds))) (sym (cond-false _ (Some (decimal (d - 48) ds)) None e))
        (λ n r. let p = parts r in not_from_Decides _ test e ((p.0, p.1), (p.2, p.3)))

signed_minus : (ds : List ℕ) (o : Option ℕ) → Answers o (Numeral ds) → Answers (option_map (λ n. neg_ℤ (pos n)) o) (Number (45 ∷ ds))
signed_minus ds None a = λ x r. let p = after_minus r ds refl in a p.0 p.1
signed_minus ds (Some n) a = (minus a.0, λ x r. let p = after_minus r ds refl in p.2 ∙ ap (λ m. neg_ℤ (pos m)) (a.1 p.0 p.1))

only_plain : {w : List ℕ} {x : ℤ} → Number w x → (get_or w 0 0 ≡ 45 → ⊥) → (w ≡ 48 ∷ [] → ⊥) → (n : ℕ) × Numeral w n × (x ≡ pos n)
only_plain nought a b = absurd (b refl)
only_plain (plain {n = n} r) a b = (n, r, refl)
only_plain (minus r) a b = absurd (a refl)

signed_plain : (w : List ℕ) (o : Option ℕ) → (get_or w 0 0 ≡ 45 → ⊥) → (w ≡ 48 ∷ [] → ⊥) → Answers o (Numeral w) → Answers (option_map pos o) (Number w)
signed_plain w None a b h = λ x r. let p = only_plain r a b in h p.0 p.1
signed_plain w (Some n) a b h = (plain h.0, λ x r. let p = only_plain r a b in p.2 ∙ ap pos (h.1 p.0 p.1))

some_byte : {w : List ℕ} {x : ℤ} → Number w x → 1 ≤ length w
some_byte nought = omega arith
some_byte (plain r) = some_digit r
some_byte (minus r) = omega arith

pub number_read : (w : List ℕ) → Answers (read_number w) (Number w)
number_read [] = λ x r. omega (arith, some_byte r)
number_read (b ∷ ds) = go (eqb b 45) refl (bytes_eq (b ∷ ds) (codes "0")) refl
  where
    go : (s : Bool) → eqb b 45 ≡ s → (z : Bool) → bytes_eq (b ∷ ds) (codes "0") ≡ z → Answers (read_number (b ∷ ds)) (Number (b ∷ ds))
    go true e z f =
        subst (λ o. Answers o (Number (b ∷ ds))) (sym (cond-true _ _ _ e))
        (subst (λ x. Answers (option_map (λ n. neg_ℤ (pos n)) (read_numeral ds)) (Number (x ∷ ds))) (sym (eqb-true b 45 e)) (signed_minus ds (read_numeral ds) (numeral_read ds)))
    go false e true f =
        let w : b ∷ ds ≡ 48 ∷ [] = (bytes_eq-Decides (b ∷ ds) (codes "0")).0 f in
        subst (λ o. Answers o (Number (b ∷ ds))) (sym (cond-false _ _ _ e ∙ cond-true _ _ _ f)) (nought_is (b ∷ ds) (ap length w) (ap (λ l. get_or l 0 0) w))
    go false e false f =
        subst (λ o. Answers o (Number (b ∷ ds))) (sym (cond-false _ _ _ e ∙ cond-false _ _ _ f))
        (signed_plain (b ∷ ds) (read_numeral (b ∷ ds)) (eqb-false b 45 e) (λ h. both_ways _ f ((bytes_eq-Decides (b ∷ ds) (codes "0")).1 h)) (numeral_read (b ∷ ds)))

pub read_is : (w : List ℕ) (o : Option ℤ) → Answers o (Number w) → read_number w ≡ o
read_is w o a = answers_same (Number w) (read_number w) o (number_read w) a
