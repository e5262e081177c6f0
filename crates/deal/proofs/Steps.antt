-- The loops over lines, one line on.
use Rattle.std.proofs.Common.{◌≡◌, ℕ, ◌+◌, ◌<◌, Bool, true, false, cond, List, [], ◌∷◌, ◌++◌, length, get_or, take, drop, Some, sym, ap, ◌∙◌, arith}
use Rattle.std.proofs.lemmas.List.{take_more, drop_more}
use Rattle.std.specs.List.{slice_get}
use Rattle.std.proofs.lemmas.Option.{slice_get-get_or}
use Rattle.std.proofs.lemmas.Bool.{cond-true, cond-false}
use Rattle.filling.specs.declared.interest.Interest.{Interest}
use Rattle.filling.specs.Totals.{contracts}
use Rattle.filling.proofs.Counting.{contracts_push}

-- the line x stands at the place i
module _ (ls : List Interest) (i : ℕ) (x : Interest) (h : i < length ls) (at : x ≡ get_or ls i x) where
  pub front : take (i + 1) ls ≡ take i ls ++ x ∷ []
  front = take_more ls i x h ∙ ap (λ y. take i ls ++ y ∷ []) (sym at)

  pub back : drop i ls ≡ x ∷ drop (i + 1) ls
  back = drop_more ls i x h ∙ ap (λ y. y ∷ drop (i + 1) ls) (sym at)

  pub stands : slice_get ls i ≡ Some x
  stands = slice_get-get_or ls i x h ∙ ap Some (sym at)

  module _ (p : Interest → Bool) where
    pub total_more : contracts p (take (i + 1) ls) ≡ contracts p (take i ls) + cond (p x) x.size 0
    total_more = ap (contracts p) front ∙ contracts_push p (take i ls) x

    pub total_yes : (n : ℕ) → p x ≡ true → n ≡ contracts p (take i ls) → n + x.size ≡ contracts p (take (i + 1) ls)
    total_yes n t e = omega (arith, total_more, cond-true (p x) x.size 0 t)

    pub total_no : (n : ℕ) → p x ≡ false → n ≡ contracts p (take i ls) → n ≡ contracts p (take (i + 1) ls)
    total_no n t e = omega (arith, total_more, cond-false (p x) x.size 0 t)
