-- Fills of lines, and the blotter lines that they make.
use Rattle.std.proofs.Common.{◌≡◌, ℕ, zero, suc, ◌+◌, ◌≤◌, true, false, cond, eqb, List, [], ◌∷◌, ◌++◌, length, get_or, ℤ, Some, sum, sym, refl, ap, ◌∙◌, subst, inl, inr, arith}
use Rattle.std.specs.List.{AllByRecursion, slice_get}
use Rattle.std.proofs.ByRecursion.{All-append}
use Rattle.std.proofs.lemmas.List.Sums.{sum_by-append}
use Rattle.std.proofs.lemmas.Bool.{cond-true, cond-false, cond_both, eqb-true}
use Rattle.std.proofs.lemmas.Bool.Decides.{nat_tests}
use Rattle.market.specs.declared.fill.Party.{Party}
use Rattle.market.specs.declared.fill.Party.TheVariants.{Entry, Response, Contra}
use Rattle.market.specs.declared.fill.Fill.{Fill}
use Rattle.auction.specs.declared.line.Line.{Line}
use Rattle.auction.specs.Lines.{same_party}
use Rattle.auction.specs.Settlement.{noted, note_all, total, received}
use Rattle.auction.specs.Promises.{Once, InOrder}
use Rattle.filling.proofs.Counting.{sum_cons}

pub same_itself : (p : Party) → same_party p p ≡ true
same_itself (Entry a) = grind (arith, nat_tests)
same_itself (Response m s) = grind (arith, nat_tests)
same_itself Contra = refl

pub same_back : (p q : Party) → same_party p q ≡ same_party q p
same_back (Entry a) (Entry b) = grind (arith, nat_tests)
same_back (Entry a) (Response m s) = refl
same_back (Entry a) Contra = refl
same_back (Response m s) (Entry b) = refl
same_back (Response m s) (Response n t) = grind (arith, nat_tests)
same_back (Response m s) Contra = refl
same_back Contra (Entry b) = refl
same_back Contra (Response n t) = refl
same_back Contra Contra = refl

-- nobody stands twice
abbrev pub Apart : List Line → Type 0
Apart [] = Unit {0}
Apart (i ∷ is) = AllByRecursion (λ k. same_party i.party k.party ≡ false) is × Apart is

-- somebody else than p
abbrev pub Others : Party → List Line → Type 0
Others p is = AllByRecursion (λ k. same_party p k.party ≡ false) is

pub all_nth : {X : Type 0} (P : X → Type 0) (xs : List X) (i : ℕ) (x : X) → slice_get xs i ≡ Some x → AllByRecursion P xs → P x
all_nth P [] i x e a = cc
all_nth P (y ∷ xs) zero x e a = subst P (let s : y ≡ x = cc in s) a.0
all_nth P (y ∷ xs) (suc i) x e a = all_nth P xs i x e a.1

pub total_append : (xs ys : List Fill) → total (xs ++ ys) ≡ total xs + total ys
total_append = sum_by-append (λ (f : Fill). f.contracts)

pub received_append : (p : Party) (xs ys : List Fill) → received p (xs ++ ys) ≡ received p xs + received p ys
received_append p [] ys = omega arith
received_append p (x ∷ xs) ys = omega (arith, received_append p xs ys)

-- contracts make no line or one
pub noted_either : (P : List Fill → Type 0) (who : Party) (price : ℤ) (n : ℕ) → (n ≡ 0 → P []) → (1 ≤ n → P (record { party = who; price = price; contracts = n } ∷ [])) → P (noted who price n)
noted_either P who price n none some =
    cond_both (eqb n 0) [] (record { party = who; price = price; contracts = n } ∷ []) P (λ e. none (eqb-true n 0 e)) (λ e. some (grind (arith, nat_tests)))

pub total_noted : (who : Party) (price : ℤ) (n : ℕ) → total (noted who price n) ≡ n
total_noted who price n = noted_either (λ fs. total fs ≡ n) who price n (λ z. sym z) (λ _. omega arith)

pub received_noted : (p who : Party) (price : ℤ) (n : ℕ) → received p (noted who price n) ≡ cond (same_party p who) n 0
received_noted p who price n = noted_either (λ fs. received p fs ≡ cond (same_party p who) n 0) who price n (λ z. grind (arith, nat_tests)) (λ _. omega arith)

pub order_none : (is : List Line) → InOrder is []
order_none [] = tt
order_none (x ∷ is) = tt

order_skip : (x : Line) (is : List Line) (fs : List Fill) → InOrder is fs → InOrder (x ∷ is) fs
order_skip x is [] h = tt
order_skip x is (f ∷ fs) h = inr h

order_skips : (xs is : List Line) (fs : List Fill) → InOrder is fs → InOrder (xs ++ is) fs
order_skips [] is fs h = h
order_skips (x ∷ xs) is fs h = order_skip x (xs ++ is) fs (order_skips xs is fs h)

module _ (pays : Line → ℤ) where
  pub total_all : (is : List Line) (fs : List ℕ) → length fs ≡ length is → total (note_all pays is fs) ≡ sum fs
  total_all [] [] e = refl
  total_all [] (f ∷ fs) e = absurd (omega arith)
  total_all (i ∷ is) [] e = absurd (omega arith)
  total_all (i ∷ is) (f ∷ fs) e =
      omega (arith, total_append (noted i.party (pays i) f) (note_all pays is fs), total_noted i.party (pays i) f, total_all is fs (omega arith), sum_cons f fs)

  pub received_none : (p : Party) (is : List Line) (fs : List ℕ) → Others p is → received p (note_all pays is fs) ≡ 0
  received_none p [] fs a = refl
  received_none p (i ∷ is) [] a = refl
  received_none p (i ∷ is) (f ∷ fs) a =
      omega (
        arith,
        received_append p (noted i.party (pays i) f) (note_all pays is fs),
        received_noted p i.party (pays i) f,
        cond-false (same_party p i.party) f 0 a.0,
        received_none p is fs a.1,
      )

  pub received_at : (is : List Line) (fs : List ℕ) → Apart is → (i : ℕ) (k : Line) → slice_get is i ≡ Some k → received k.party (note_all pays is fs) ≡ get_or fs i 0
  received_at [] fs a i k e = cc
  received_at (x ∷ is) [] a i k e = refl
  received_at (x ∷ is) (f ∷ fs) a zero k e =
      let s : x ≡ k = cc in
      let g : received x.party (note_all pays (x ∷ is) (f ∷ fs)) ≡ f =
      omega (
        arith,
        received_append x.party (noted x.party (pays x) f) (note_all pays is fs),
        received_noted x.party x.party (pays x) f,
        cond-true (same_party x.party x.party) f 0 (same_itself x.party),
        received_none x.party is fs a.0,
      ) in
      ap (λ (y : Line). received y.party (note_all pays (x ∷ is) (f ∷ fs))) (sym s) ∙ g
  received_at (x ∷ is) (f ∷ fs) a (suc i) k e =
      let d : same_party k.party x.party ≡ false = same_back k.party x.party ∙ all_nth (λ y. same_party x.party y.party ≡ false) is i k e a.0 in
      omega (
        arith,
        received_append k.party (noted x.party (pays x) f) (note_all pays is fs),
        received_noted k.party x.party (pays x) f,
        cond-false (same_party k.party x.party) f 0 d,
        received_at is fs a.1 i k e,
      )

  -- what holds of the blotter line of each line that is filled
  pub each_noted : (Q : Fill → Type 0) (is : List Line) (fs : List ℕ)
      → ((i : ℕ) (k : Line) → slice_get is i ≡ Some k → 1 ≤ get_or fs i 0 → Q (record { party = k.party; price = pays k; contracts = get_or fs i 0 }))
      → AllByRecursion Q (note_all pays is fs)
  each_noted Q [] fs h = tt
  each_noted Q (x ∷ is) [] h = tt
  each_noted Q (x ∷ is) (f ∷ fs) h =
      let later : AllByRecursion Q (note_all pays is fs) = each_noted Q is fs (λ i. h (suc i)) in
      noted_either (λ xs. AllByRecursion Q (xs ++ note_all pays is fs)) x.party (pays x) f (λ _. later) (λ u. (h 0 x refl u, later))

  pub once_noted : (is : List Line) (fs : List ℕ) → Apart is → Once (note_all pays is fs)
  once_noted [] fs a = tt
  once_noted (x ∷ is) [] a = tt
  once_noted (x ∷ is) (f ∷ fs) a =
      let later : Once (note_all pays is fs) = once_noted is fs a.1 in
      let apart : AllByRecursion (λ h. same_party x.party h.party ≡ false) (note_all pays is fs) =
      each_noted (λ h. same_party x.party h.party ≡ false) is fs (λ i k e u. all_nth (λ y. same_party x.party y.party ≡ false) is i k e a.0) in
      noted_either (λ xs. Once (xs ++ note_all pays is fs)) x.party (pays x) f (λ _. later) (λ _. (apart, later))

  -- the lines come in order, with more behind them
  pub order_noted : (is : List Line) (fs : List ℕ) (later : List Line) (more : List Fill) → InOrder later more → InOrder (is ++ later) (note_all pays is fs ++ more)
  order_noted [] fs later more h = h
  order_noted (x ∷ is) [] later more h = order_skip x (is ++ later) more (order_skips is later more h)
  order_noted (x ∷ is) (f ∷ fs) later more h =
      let ih : InOrder (is ++ later) (note_all pays is fs ++ more) = order_noted is fs later more h in
      noted_either (λ xs. InOrder (x ∷ is ++ later) ((xs ++ note_all pays is fs) ++ more)) x.party (pays x) f
      (λ _. order_skip x (is ++ later) (note_all pays is fs ++ more) ih) (λ _. inl (refl, ih))

-- one line more, of a party that has none
pub once_more : (xs ys : List Fill) → Once xs → Once ys → AllByRecursion (λ f. AllByRecursion (λ h. same_party f.party h.party ≡ false) ys) xs → Once (xs ++ ys)
once_more [] ys a b c = b
once_more (x ∷ xs) ys a b c = (All-append (λ (h : Fill). same_party x.party h.party ≡ false) xs ys a.0 c.0, once_more xs ys a.1 b c.1)
