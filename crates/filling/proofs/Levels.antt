-- What a level gets.
use Rattle.std.proofs.Common.{◌≡◌, ℕ, ◌+◌, ◌-◌, ◌≤◌, min, true, cond, not, List, [], ◌∷◌, ◌++◌, length, get_or, drop, ℤ, sum, sym, refl, ap, ◌∙◌, ⊎_elim, append_assoc, append-nil, add-zero, arith}
use Rattle.std.proofs.lemmas.List.{drop_all}
use Rattle.std.proofs.lemmas.Bool.{and_parts, cases_Bool, not-true, cond-true, cond-false}
use Rattle.share.specs.Shares.{shares}
use Rattle.filling.proofs.Sharing.{one_each, all_given}
use Rattle.filling.specs.declared.interest.Interest.{Interest}
use Rattle.filling.specs.Totals.{level, customer_at, other_at, sizes, contracts, filled}
use Rattle.filling.specs.Filling.{fill, fills_from, dealt}
use Rattle.filling.proofs.Counting.{sum_drop, contracts_cons, contracts_push, count_push, filled_split, level_splits, level_is}

module _ (room pot : ℤ → ℕ) (ls : List Interest) where
  pub fill_customer : (v : ℤ) (before : List Interest) (l : Interest) → customer_at v l ≡ true →
      fill room pot ls before l ≡ min l.size (room v - contracts (customer_at v) before)
  fill_customer v before l e =
      let p = and_parts (level v l) l.customer e in
      rw p.1 (ap (λ w. min l.size (room w - contracts (customer_at w) before)) (level_is v l p.0))

  pub fill_other : (v : ℤ) (before : List Interest) (l : Interest) → other_at v l ≡ true →
      fill room pot ls before l ≡ get_or (shares (pot v) (sizes (other_at v) ls)) (length (sizes (other_at v) before)) 0
  fill_other v before l e =
      let p = and_parts (level v l) (not l.customer) e in
      rw (not-true l.customer p.1) (ap (λ w. get_or (shares (pot w) (sizes (other_at w) ls)) (length (sizes (other_at w) before)) 0) (level_is v l p.0))

  pub customers_from : (v : ℤ) (before rest : List Interest) →
      filled (customer_at v) rest (fills_from room pot ls before rest) ≡ min (contracts (customer_at v) rest) (room v - contracts (customer_at v) before)
  customers_from v before [] = omega arith
  customers_from v before (l ∷ rest) =
      let ih = customers_from v (before ++ l ∷ []) rest in
      let p = contracts_push (customer_at v) before l in
      let q = contracts_cons (customer_at v) l rest in
      let b = customer_at v l in
      let x = fill room pot ls before l in
      ⊎_elim
      (λ e. omega (arith, fill_customer v before l e, cond-true b x 0 e, cond-true b l.size 0 e))
      (λ e. omega (arith, cond-false b x 0 e, cond-false b l.size 0 e))
      (cases_Bool b)

  pub others_from : (v : ℤ) (before rest : List Interest) → ls ≡ before ++ rest →
      filled (other_at v) rest (fills_from room pot ls before rest) ≡ sum (drop (length (sizes (other_at v) before)) (shares (pot v) (sizes (other_at v) ls)))
  others_from v before [] e =
      let same : ls ≡ before = e ∙ append-nil before in
      let long : length (shares (pot v) (sizes (other_at v) ls)) ≡ length (sizes (other_at v) before) = one_each (pot v) (sizes (other_at v) ls) ∙ ap (λ zs. length (sizes (other_at v) zs)) same in
      sym (ap sum (drop_all (length (sizes (other_at v) before)) (shares (pot v) (sizes (other_at v) ls)) (omega arith)))
  others_from v before (l ∷ rest) e =
      let ih = others_from v (before ++ l ∷ []) rest (e ∙ sym (append_assoc before (l ∷ []) rest)) in
      let sh = shares (pot v) (sizes (other_at v) ls) in
      let k = length (sizes (other_at v) before) in
      let q = sum_drop sh k in
      let b = other_at v l in
      let x = fill room pot ls before l in
      let n = count_push (other_at v) before l in
      ⊎_elim
      (λ t.
      let n' : length (sizes (other_at v) (before ++ l ∷ [])) ≡ k + 1 = n ∙ ap (λ c. k + cond c 1 0) t in
      omega (arith, fill_other v before l t, cond-true b x 0 t, ap (λ m. sum (drop m sh)) n'))
      (λ t.
      let n' : length (sizes (other_at v) (before ++ l ∷ [])) ≡ k = n ∙ ap (λ c. k + cond c 1 0) t ∙ add-zero k in
      omega (arith, cond-false b x 0 t, ap (λ m. sum (drop m sh)) n'))
      (cases_Bool b)

  -- a level gets what its customers can take of its room, and its pot
  pub level_gets : (v : ℤ) → pot v ≤ contracts (other_at v) ls →
      filled (level v) ls (dealt room pot ls) ≡ min (contracts (customer_at v) ls) (room v) + pot v
  level_gets v h =
      omega (
        arith,
        filled_split (level v) (customer_at v) (other_at v) (level_splits v) ls (dealt room pot ls),
        customers_from v [] ls,
        others_from v [] ls refl,
        all_given (pot v) (sizes (other_at v) ls) h,
      )
