-- What the line at a place gets.
use Rattle.std.proofs.Common.{◌≡◌, ℕ, zero, suc, ◌+◌, ◌-◌, ◌*◌, ◌/◌, ◌<◌, ◌≤◌, min, Bool, true, false, cond, not, subst, ◌⊎◌, List, [], ◌∷◌, ◌++◌, length, get_or, take, drop, ℤ, Some, sym, refl, ap, ◌∙◌, inl, inr, ⊎_elim, append_assoc, append-nil, arith, length-append}
use Rattle.std.specs.List.{slice_get}
use Rattle.std.proofs.lemmas.List.{get_or_at}
use Rattle.std.proofs.lemmas.Int.{ints}
use Rattle.std.proofs.lemmas.Bool.{and_from, cases_Bool, cond-true, not_from_false, cases_lt}
use Rattle.share.specs.Shares.{shares}
use Rattle.filling.proofs.Sharing.{none_over, in_full, none_given, in_proportion, first_in_line}
use Rattle.filling.specs.declared.interest.Interest.{Interest}
use Rattle.filling.specs.Totals.{level, customer_at, other_at, sizes, contracts}
use Rattle.filling.specs.Filling.{fill, fills_from, dealt}
use Rattle.filling.specs.Fair.{InLine}
use Rattle.filling.proofs.Counting.{contracts_cons, contracts_append, sizes_append}
use Rattle.filling.proofs.Levels.{fill_customer, fill_other}

-- a list around a place
around : (ls : List Interest) (i : ℕ) (l : Interest) → slice_get ls i ≡ Some l → ls ≡ take i ls ++ l ∷ drop (suc i) ls
around [] i l e = cc
around (x ∷ ls) zero l e = ap (λ y. y ∷ ls) (let s : x ≡ l = cc in s)
around (x ∷ ls) (suc i) l e = ap (λ zs. x ∷ zs) (around ls i l e)

level_own : (l : Interest) → level l.gain l ≡ true
level_own l = grind (arith, ints)

pub own_customer : (l : Interest) → l.customer ≡ true → customer_at l.gain l ≡ true
own_customer l e = and_from (level l.gain l) l.customer (level_own l) e

pub own_other : (l : Interest) → l.customer ≡ false → other_at l.gain l ≡ true
own_other l e = and_from (level l.gain l) (not l.customer) (level_own l) (not_from_false l.customer e)

module _ (room pot : ℤ → ℕ) where
  from_at : (ls before rest : List Interest) (i : ℕ) (l : Interest) → slice_get rest i ≡ Some l →
      get_or (fills_from room pot ls before rest) i 0 ≡ fill room pot ls (before ++ take i rest) l
  from_at ls before [] i l e = cc
  from_at ls before (x ∷ rest) zero l e = ap (λ b. fill room pot ls b x) (sym (append-nil before)) ∙ ap (λ y. fill room pot ls (before ++ []) y) (let s : x ≡ l = cc in s)
  from_at ls before (x ∷ rest) (suc i) l e = from_at ls (before ++ x ∷ []) rest i l e ∙ ap (λ b. fill room pot ls b l) (append_assoc before (x ∷ []) (take i rest))

  module _ (ls : List Interest) (i : ℕ) (l : Interest) (e : slice_get ls i ≡ Some l) where
    pub customer_gets : (v : ℤ) → customer_at v l ≡ true → get_or (dealt room pot ls) i 0 ≡ min l.size (room v - contracts (customer_at v) (take i ls))
    customer_gets v t = from_at ls [] ls i l e ∙ fill_customer room pot ls v (take i ls) l t

    pub other_gets : (v : ℤ) → other_at v l ≡ true → get_or (dealt room pot ls) i 0 ≡ get_or (shares (pot v) (sizes (other_at v) ls)) (length (sizes (other_at v) (take i ls))) 0
    other_gets v t = from_at ls [] ls i l e ∙ fill_other room pot ls v (take i ls) l t

    -- the contracts at its place, among those of the lines that pass a test
    pub size_here : (p : Interest → Bool) → p l ≡ true → get_or (sizes p ls) (length (sizes p (take i ls))) 0 ≡ l.size
    size_here p t =
        let s : sizes p ls ≡ sizes p (take i ls) ++ sizes p (l ∷ drop (suc i) ls) = ap (sizes p) (around ls i l e) ∙ sizes_append p (take i ls) (l ∷ drop (suc i) ls) in
        let c : sizes p (l ∷ drop (suc i) ls) ≡ l.size ∷ sizes p (drop (suc i) ls) = cond-true (p l) (l.size ∷ sizes p (drop (suc i) ls)) (sizes p (drop (suc i) ls)) t in
        ap (λ zs. get_or zs (length (sizes p (take i ls))) 0) (s ∙ ap (λ zs. sizes p (take i ls) ++ zs) c) ∙
        get_or_at (sizes p (take i ls)) l.size (sizes p (drop (suc i) ls)) 0 (length (sizes p (take i ls))) refl

    pub place_here : (p : Interest → Bool) → p l ≡ true → length (sizes p (take i ls)) < length (sizes p ls)
    place_here p t =
        let s : sizes p ls ≡ sizes p (take i ls) ++ sizes p (l ∷ drop (suc i) ls) = ap (sizes p) (around ls i l e) ∙ sizes_append p (take i ls) (l ∷ drop (suc i) ls) in
        let c : sizes p (l ∷ drop (suc i) ls) ≡ l.size ∷ sizes p (drop (suc i) ls) = cond-true (p l) (l.size ∷ sizes p (drop (suc i) ls)) (sizes p (drop (suc i) ls)) t in
        omega (arith, ap length s, length-append (sizes p (take i ls)) (sizes p (l ∷ drop (suc i) ls)), ap length c)

    pub before_and_here : (p : Interest → Bool) → p l ≡ true → contracts p (take i ls) + l.size ≤ contracts p ls
    before_and_here p t =
        omega (arith, ap (contracts p) (around ls i l e), contracts_append p (take i ls) (l ∷ drop (suc i) ls), contracts_cons p l (drop (suc i) ls), cond-true (p l) l.size 0 t)

    -- a customer left short: the customers of its level want more than there is
    pub customer_short : (v : ℤ) → customer_at v l ≡ true → get_or (dealt room pot ls) i 0 < l.size → room v < contracts (customer_at v) ls
    customer_short v t h = omega (arith, customer_gets v t, before_and_here (customer_at v) t)

    pub customer_none : (v : ℤ) → customer_at v l ≡ true → room v ≡ 0 → get_or (dealt room pot ls) i 0 ≡ 0
    customer_none v t h = omega (arith, customer_gets v t)

    other_full : (v : ℤ) → other_at v l ≡ true → pot v ≡ contracts (other_at v) ls → get_or (dealt room pot ls) i 0 ≡ l.size
    other_full v t q =
        let f : shares (pot v) (sizes (other_at v) ls) ≡ sizes (other_at v) ls = ap (λ a. shares a (sizes (other_at v) ls)) q ∙ in_full (sizes (other_at v) ls) in
        other_gets v t ∙ ap (λ zs. get_or zs (length (sizes (other_at v) (take i ls))) 0) f ∙ size_here (other_at v) t

    pub other_short : (v : ℤ) → other_at v l ≡ true → get_or (dealt room pot ls) i 0 < l.size → pot v ≤ contracts (other_at v) ls → pot v < contracts (other_at v) ls
    other_short v t h k =
        ⊎_elim (λ lt. lt)
        (λ le. absurd (omega (arith, other_full v t (omega arith))))
        (cases_lt (pot v) (contracts (other_at v) ls))

    pub other_none : (v : ℤ) → other_at v l ≡ true → pot v ≡ 0 → get_or (dealt room pot ls) i 0 ≡ 0
    other_none v t h =
        let n = length (sizes (other_at v) (take i ls)) in
        other_gets v t ∙ ap (λ a. get_or (shares a (sizes (other_at v) ls)) n 0) h ∙ none_given (sizes (other_at v) ls) n

    pub other_within : (v : ℤ) → other_at v l ≡ true → pot v ≤ contracts (other_at v) ls → get_or (dealt room pot ls) i 0 ≤ l.size
    other_within v t h =
        omega (arith, other_gets v t, size_here (other_at v) t, none_over (pot v) (sizes (other_at v) ls) (length (sizes (other_at v) (take i ls))) h)

    pub other_proportion : (v : ℤ) → other_at v l ≡ true →
        (get_or (dealt room pot ls) i 0 ≡ pot v * l.size / contracts (other_at v) ls) ⊎ (get_or (dealt room pot ls) i 0 ≡ pot v * l.size / contracts (other_at v) ls + 1)
    other_proportion v t =
        let n = length (sizes (other_at v) (take i ls)) in
        let S = contracts (other_at v) ls in
        let s : pot v * get_or (sizes (other_at v) ls) n 0 / S ≡ pot v * l.size / S = ap (λ y. pot v * y / S) (size_here (other_at v) t) in
        ⊎_elim
        (λ q. inl (other_gets v t ∙ q ∙ s))
        (λ q. inr (other_gets v t ∙ q ∙ ap (λ y. y + 1) s))
        (in_proportion (pot v) (sizes (other_at v) ls) n (place_here (other_at v) t))

    -- whose level gets nothing
    pub none_here : room l.gain ≡ 0 → pot l.gain ≡ 0 → get_or (dealt room pot ls) i 0 ≡ 0
    none_here r p =
        ⊎_elim
        (λ c. customer_none l.gain (own_customer l c) r)
        (λ c. other_none l.gain (own_other l c) p)
        (cases_Bool l.customer)

    pub within_here : pot l.gain ≤ contracts (other_at l.gain) ls → get_or (dealt room pot ls) i 0 ≤ l.size
    within_here p =
        ⊎_elim
        (λ c. omega (arith, customer_gets l.gain (own_customer l c)))
        (λ c. other_within l.gain (own_other l c) p)
        (cases_Bool l.customer)

    -- whose level gets all that it wants
    pub full_here : contracts (customer_at l.gain) ls ≤ room l.gain → pot l.gain ≡ contracts (other_at l.gain) ls → get_or (dealt room pot ls) i 0 ≡ l.size
    full_here r p =
        ⊎_elim
        (λ c. omega (arith, customer_gets l.gain (own_customer l c), before_and_here (customer_at l.gain) (own_customer l c)))
        (λ c. other_full l.gain (own_other l c) p)
        (cases_Bool l.customer)

before_more : (p : Interest → Bool) (ls : List Interest) (i j : ℕ) (k : Interest) → slice_get ls i ≡ Some k → i < j → p k ≡ true → contracts p (take i ls) + k.size ≤ contracts p (take j ls)
before_more p [] i j k e h t = cc
before_more p (x ∷ ls) i zero k e h t = absurd (omega arith)
before_more p (x ∷ ls) zero (suc j) k e h t =
    let s : x ≡ k = cc in
    omega (arith, contracts_cons p x (take j ls), cond-true (p x) x.size 0 (ap p s ∙ t), ap (λ (y : Interest). y.size) s)
before_more p (x ∷ ls) (suc i) (suc j) k e h t =
    omega (arith, contracts_cons p x (take i ls), contracts_cons p x (take j ls), before_more p ls i j k e (omega arith) t)

count_cons : (p : Interest → Bool) (l : Interest) (ls : List Interest) → length (sizes p (l ∷ ls)) ≡ cond (p l) 1 0 + length (sizes p ls)
count_cons p l ls = elim (p l) as (λ b. length (cond b (l.size ∷ sizes p ls) (sizes p ls)) ≡ cond b 1 0 + length (sizes p ls)) [ true ↦ omega arith | false ↦ omega arith ]

count_before : (p : Interest → Bool) (ls : List Interest) (i j : ℕ) (k : Interest) → slice_get ls i ≡ Some k → i < j → p k ≡ true → length (sizes p (take i ls)) < length (sizes p (take j ls))
count_before p [] i j k e h t = absurd (let z : ◌≡◌ {A = ℕ} 0 1 = cc in let y : ⊥ = omega arith in y)
count_before p (x ∷ ls) i zero k e h t = absurd (let z : ⊥ = omega arith in z)
count_before p (x ∷ ls) zero (suc j) k e h t =
    let s : x ≡ k = cc in
    omega (arith, count_cons p x (take j ls), cond-true {A = ℕ} (p x) 1 0 (ap p s ∙ t))
count_before p (x ∷ ls) (suc i) (suc j) k e h t =
    omega (arith, count_cons p x (take i ls), count_cons p x (take j ls), count_before p ls i j k e (omega arith) t)

-- of two others of a level, the one behind has no odd contract where the one in front goes without one that it wants
pub dealt_odd_first : (room pot : ℤ → ℕ) (ls : List Interest) (v : ℤ) (i j : ℕ) (k l : Interest) → slice_get ls i ≡ Some k → slice_get ls j ≡ Some l → i < j →
    other_at v k ≡ true → other_at v l ≡ true → pot v * k.size / contracts (other_at v) ls < k.size →
    get_or (dealt room pot ls) i 0 ≡ pot v * k.size / contracts (other_at v) ls → get_or (dealt room pot ls) j 0 ≡ pot v * l.size / contracts (other_at v) ls
dealt_odd_first room pot ls v i j k l ek el lt tk tl h e =
    let ss = sizes (other_at v) ls in
    let S = contracts (other_at v) ls in
    let m = length (sizes (other_at v) (take i ls)) in
    let n = length (sizes (other_at v) (take j ls)) in
    let sk = size_here room pot ls i k ek (other_at v) tk in
    let sl = size_here room pot ls j l el (other_at v) tl in
    let more : pot v * get_or ss m 0 / S < get_or ss m 0 = subst (λ (y : ℕ). pot v * y / S < y) (sym sk) h in
    let part : get_or (shares (pot v) ss) m 0 ≡ pot v * get_or ss m 0 / S = sym (other_gets room pot ls i k ek v tk) ∙ e ∙ sym (ap (λ y. pot v * y / S) sk) in
    other_gets room pot ls j l el v tl ∙
    first_in_line (pot v) ss m n (count_before (other_at v) ls i j k ek lt tk) (place_here room pot ls j l el (other_at v) tl) more part ∙
    ap (λ y. pot v * y / S) sl

pub dealt_in_line : (room pot : ℤ → ℕ) (ls : List Interest) → InLine ls (dealt room pot ls)
dealt_in_line room pot ls i j k l ek el lt same ck cl h =
    let v = k.gain in
    let tk = own_customer k ck in
    let tl : customer_at v l ≡ true = ap (λ w. customer_at w l) same ∙ own_customer l cl in
    omega (arith, customer_gets room pot ls i k ek v tk, customer_gets room pot ls j l el v tl, before_more (customer_at v) ls i j k ek lt tk)
