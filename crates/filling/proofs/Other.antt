-- Solicited orders and blocks.
use Rattle.std.proofs.Common.{◌≡◌, ℕ, zero, suc, ◌<◌, ◌≤◌, Bool, true, false, cond, ◌&&◌, eqb, leb, ◌⊎◌, List, [], ◌∷◌, get_or, ℤ, ◌≤ℤ◌, ◌<ℤ◌, Some, sum, sym, refl, ap, ◌∙◌, inl, inr, ⊎_elim, arith}
use lib.Signed.{lt_z, le_z}
use Rattle.std.specs.List.{AllByRecursion, slice_get}
use Rattle.std.proofs.lemmas.List.{length-map}
use Rattle.std.proofs.ByRecursion.{All-weaker}
use Rattle.std.proofs.lemmas.Int.{ints, by_lt_z}
use Rattle.std.proofs.lemmas.Bool.{cond_both, leb-true, eqb-true, eq-eqb, and_parts, and_from, and_cases, or_parts, both_ways, cases_lt}
use Rattle.filling.specs.declared.interest.Interest.{Interest}
use Rattle.filling.specs.Totals.{better, contracts}
use Rattle.filling.specs.Filling.{reaching, left_over, fill_down}
use Rattle.filling.specs.Mechanisms.{Outcome, executed, at_least, customer_from, pooled_over, some, nothing, solicited, executing, best_from, block_gain, blocked}
use Rattle.filling.specs.Rules.{Fair, Settles, AllOrNone, Solicitation, Block}
use Rattle.filling.proofs.Counting.{contracts_same}
use Rattle.filling.proofs.Ladder.{dealt_long, none_pass, fill_down_total}
use Rattle.filling.proofs.Places.{none_here, dealt_in_line}
use Rattle.filling.proofs.Down.{contracts_under, fill_down_within, fill_down_customers}

-- a test that another follows from
pub contracts_mono : (p q : Interest → Bool) → ((l : Interest) (x : ℕ) → cond (q l) x 0 ≤ cond (p l) x 0) → (ls : List Interest) → contracts q ls ≤ contracts p ls
contracts_mono p q s ls = omega (arith, contracts_under p q (λ _. false) (λ l x. omega (arith, s l x)) ls)

pub at_least_all : (g : ℤ) (ls : List Interest) → contracts (at_least g) ls ≤ contracts (λ _. true) ls
at_least_all g ls = contracts_mono (λ _. true) (at_least g) (λ l x. grind (arith, ints)) ls

pub better_at_least : (g : ℤ) (ls : List Interest) → contracts (better g) ls ≤ contracts (at_least g) ls
better_at_least g ls = contracts_mono (at_least g) (better g) (λ l x. grind (arith, ints)) ls

pub at_least_above : (v w : ℤ) (ls : List Interest) → v <ℤ w → contracts (at_least w) ls ≤ contracts (better v) ls
at_least_above v w ls h = contracts_mono (better v) (at_least w) (λ l x. grind (arith, ints)) ls

pub at_least_down : (v w : ℤ) (ls : List Interest) → v ≤ℤ w → contracts (at_least w) ls ≤ contracts (at_least v) ls
at_least_down v w ls h = contracts_mono (at_least v) (at_least w) (λ l x. grind (arith, ints)) ls

-- an amount that the lines down to v take leaves nothing below
pub none_under : (a : ℕ) (v : ℤ) (ls : List Interest) → a ≤ contracts (at_least v) ls → (i : ℕ) (l : Interest) → slice_get ls i ≡ Some l → l.gain <ℤ v → get_or (fill_down a ls) i 0 ≡ 0
none_under a v ls h i l e lt =
    let u = at_least_above l.gain v ls lt in
    none_here (reaching a ls) (left_over a ls) ls i l e (omega arith) (omega arith)

pub down_total : (a : ℕ) (g : ℤ) (ls : List Interest) → a ≤ contracts (at_least g) ls → sum (fill_down a ls) ≡ a
down_total a g ls h = omega (arith, fill_down_total a ls, at_least_all g ls)

pub down_fair : (a Z : ℕ) (g : ℤ) (ls : List Interest) → a ≤ Z → a ≤ contracts (at_least g) ls → Fair Z g ls (fill_down a ls) 0
down_fair a Z g ls h k = record {
  one_each = dealt_long (reaching a ls) (left_over a ls) ls;
  conserved = omega (arith, down_total a g ls k);
  within = fill_down_within a ls;
  none_below = none_under a g ls k;
  customers_first = fill_down_customers a ls;
  in_line = dealt_in_line (reaching a ls) (left_over a ls) ls;
  contra_last = λ i l e c s b. refl;
}

pub zeros_sum : (ls : List Interest) → sum (nothing ls) ≡ 0
zeros_sum [] = refl
zeros_sum (l ∷ ls) = zeros_sum ls

pub zeros_at : (ls : List Interest) (i : ℕ) → get_or (nothing ls) i 0 ≡ 0
zeros_at [] i = refl
zeros_at (l ∷ ls) zero = refl
zeros_at (l ∷ ls) (suc i) = zeros_at ls i

pub none_such : (p : Interest → Bool) (ls : List Interest) → some p ls ≡ false → (i : ℕ) (l : Interest) → slice_get ls i ≡ Some l → p l ≡ false
none_such p [] h i l e = cc
none_such p (x ∷ ls) h zero l e = let s : x ≡ l = cc in ap p (sym s) ∙ (or_parts (p x) (some p ls) h).0
none_such p (x ∷ ls) h (suc i) l e = none_such p ls (or_parts (p x) (some p ls) h).1 i l e

module _ (Z : ℕ) (g : ℤ) (ls : List Interest) where
  pub contra_fair : some (customer_from g) ls ≡ false → Fair Z g ls (nothing ls) Z
  contra_fair h = record {
    one_each = length-map ls (λ _. 0);
    conserved = omega (arith, zeros_sum ls);
    within = λ i l e. omega (arith, zeros_at ls i);
    none_below = λ i l e lt. zeros_at ls i;
    customers_first = λ i j k l ek el c s b. zeros_at ls j;
    in_line = λ i j k l ek el lt e c d s. zeros_at ls j;
    contra_last = λ i k e c s le.
        absurd (both_ways (k.customer && at_least g k) (none_such (customer_from g) ls h i k e)
        (and_from k.customer (at_least g k) c (let t : le_z g k.gain ≡ true = grind (arith, ints) in t)));
  }

  abbrev Good : Outcome → Type 0
  Good o = Settles Z g ls o × AllOrNone Z o

  filled_good : Z ≤ contracts (at_least g) ls → Good (executed (fill_down Z ls) 0)
  filled_good h = (down_fair Z Z g ls (omega arith) h, omega (arith, down_total Z g ls h))

  pub solicited_good : Good (solicited Z g ls)
  solicited_good =
      cond_both (leb Z (contracts (better g) ls)) _ _ Good
      (λ e. filled_good (omega (arith, leb-true Z (contracts (better g) ls) e, better_at_least g ls)))
      (λ e.
      cond_both (some (customer_from g) ls) _ _ Good
      (λ c.
      cond_both (leb Z (contracts (at_least g) ls)) _ _ Good
      (λ t. filled_good (leb-true Z (contracts (at_least g) ls) t))
      (λ t. (tt, tt)))
      (λ c.
      cond_both (some (pooled_over g) ls) _ _ Good
      (λ b. (tt, tt))
      (λ b. (contra_fair c, omega (arith, zeros_sum ls)))))

pub solicitation : Solicitation
solicitation = record {
  fair = λ Z g ls. (solicited_good Z g ls).0;
  whole = λ Z g ls. (solicited_good Z g ls).1;
}

module _ (Z : ℕ) (g : ℤ) (ls : List Interest) where
  as_many_from : (b : ℤ) (xs : List Interest) → executing Z ls b ≡ executing Z ls g → executing Z ls (best_from Z g ls b xs) ≡ executing Z ls g
  as_many_from b [] h = h
  as_many_from b (l ∷ xs) h =
      as_many_from (cond (lt_z b l.gain && eqb (executing Z ls l.gain) (executing Z ls g)) l.gain b) xs
      (cond_both (lt_z b l.gain && eqb (executing Z ls l.gain) (executing Z ls g)) l.gain b (λ w. executing Z ls w ≡ executing Z ls g)
      (λ e. eqb-true (executing Z ls l.gain) (executing Z ls g) (and_parts (lt_z b l.gain) (eqb (executing Z ls l.gain) (executing Z ls g)) e).1)
      (λ e. h))

  step_up : (b : ℤ) (l : Interest) → b ≤ℤ cond (lt_z b l.gain && eqb (executing Z ls l.gain) (executing Z ls g)) l.gain b
  step_up b l =
      cond_both (lt_z b l.gain && eqb (executing Z ls l.gain) (executing Z ls g)) l.gain b (λ w. b ≤ℤ w)
      (λ e. let t = (and_parts (lt_z b l.gain) (eqb (executing Z ls l.gain) (executing Z ls g)) e).0 in grind (arith, ints))
      (λ e. omega (arith, ints))

  best_rises : (b : ℤ) (xs : List Interest) → b ≤ℤ best_from Z g ls b xs
  best_rises b [] = omega (arith, ints)
  best_rises b (l ∷ xs) =
      let c = cond (lt_z b l.gain && eqb (executing Z ls l.gain) (executing Z ls g)) l.gain b in
      let s = step_up b l in
      let r = best_rises c xs in
      omega (arith, ints)

  -- each line at which as many execute
  covers : (b : ℤ) (xs : List Interest) (i : ℕ) (l : Interest) → slice_get xs i ≡ Some l → executing Z ls l.gain ≡ executing Z ls g → l.gain ≤ℤ best_from Z g ls b xs
  covers b [] i l e h = cc
  covers b (x ∷ xs) zero l e h =
      let c : ℤ = cond (lt_z b x.gain && eqb (executing Z ls x.gain) (executing Z ls g)) x.gain b in
      let r = best_rises c xs in
      let s : x ≡ l = cc in
      let same : x.gain ≡ l.gain = ap (λ (y : Interest). y.gain) s in
      let q : eqb (executing Z ls x.gain) (executing Z ls g) ≡ true = eq-eqb (executing Z ls x.gain) (executing Z ls g) (ap (executing Z ls) same ∙ h) in
      let up : x.gain ≤ℤ c =
      cond_both (lt_z b x.gain && eqb (executing Z ls x.gain) (executing Z ls g)) x.gain b (λ w. x.gain ≤ℤ w)
      (λ t. omega (arith, ints))
      (λ t. ⊎_elim (λ n. grind (arith, ints)) (λ n. absurd (both_ways _ n q)) (and_cases (lt_z b x.gain) (eqb (executing Z ls x.gain) (executing Z ls g)) t)) in
      omega (arith, ints)
  covers b (x ∷ xs) (suc i) l e h = covers (cond (lt_z b x.gain && eqb (executing Z ls x.gain) (executing Z ls g)) x.gain b) xs i l e h

tests_same : (v g m : ℤ) → v ≤ℤ g → (v ≤ℤ m → g ≤ℤ m) → le_z g m ≡ le_z v m
tests_same v g m h f = by_lt_z m v (λ lt. grind (arith, ints)) (λ le. let k = f le in grind (arith, ints))

-- the lowest of the lines from v on
abbrev Lowest : ℤ → List Interest → Type 0
Lowest v ls = (i : ℕ) × (l : Interest) × (slice_get ls i ≡ Some l) × (v ≤ℤ l.gain) × AllByRecursion (λ m. v ≤ℤ m.gain → l.gain ≤ℤ m.gain) ls

lowest : (v : ℤ) (ls : List Interest) → AllByRecursion (λ l. l.gain <ℤ v) ls ⊎ Lowest v ls
lowest v [] = inl tt
lowest v (x ∷ ls) =
    by_lt_z x.gain v
    (λ lt. ⊎_elim
    (λ none. inl (lt, none))
    (λ w. inr (suc w.0, w.1, w.2, w.3, ((λ le. let l = w.1 in omega (arith, ints)), w.4)))
    (lowest v ls))
    (λ le. ⊎_elim
    (λ none. inr (0, x, refl, le, ((λ _. omega (arith, ints)), All-weaker (λ l. l.gain <ℤ v) (λ m. v ≤ℤ m.gain → x.gain ≤ℤ m.gain) (λ m lt ge. omega (arith, ints)) ls none)))
    (λ w.
    let l = w.1 in
    by_lt_z x.gain l.gain
    (λ lt. inr (0, x, refl, le, ((λ _. omega (arith, ints)), All-weaker (λ m. v ≤ℤ m.gain → l.gain ≤ℤ m.gain) (λ m. v ≤ℤ m.gain → x.gain ≤ℤ m.gain) (λ m f ge. let k = f ge in omega (arith, ints)) ls w.4)))
    (λ ge. inr (suc w.0, l, w.2, w.3, ((λ _. ge), w.4))))
    (lowest v ls))

module _ (Z : ℕ) (g : ℤ) (ls : List Interest) where
  abbrev p : ℤ
  p = block_gain Z g ls

  as_many : executing Z ls p ≡ executing Z ls g
  as_many = as_many_from Z g ls g ls refl

  from_order : g ≤ℤ p
  from_order = best_rises Z g ls g ls

  no_better : (v : ℤ) → 0 < executing Z ls g → p <ℤ v → executing Z ls v < executing Z ls g
  no_better v h lt =
      ⊎_elim
      (λ none. omega (arith, none_pass (at_least v) ls (All-weaker (λ l. l.gain <ℤ v) (λ l. at_least v l ≡ false) (λ l b. grind (arith, ints)) ls none)))
      (λ w.
      let l = w.1 in
      let le = w.3 in
      let fo = from_order in
      let up : g ≤ℤ l.gain = omega (arith, ints) in
      let same : contracts (at_least l.gain) ls ≡ contracts (at_least v) ls =
      contracts_same (at_least l.gain) (at_least v) ls (All-weaker (λ m. v ≤ℤ m.gain → l.gain ≤ℤ m.gain) (λ m. at_least l.gain m ≡ at_least v m) (λ m f. tests_same v l.gain m.gain le f) ls w.4) in
      ⊎_elim
      (λ few. omega (arith, same))
      (λ many.
      let q : executing Z ls l.gain ≡ executing Z ls g = omega (arith, at_least_down g l.gain ls up) in
      let c = covers Z g ls g ls w.0 l w.2 q in
      absurd (omega (arith, ints)))
      (cases_lt (executing Z ls l.gain) (executing Z ls g)))
      (lowest v ls)

  total : sum (fill_down (executing Z ls g) ls) ≡ executing Z ls g
  total = down_total (executing Z ls g) g ls (omega arith)

  paid : (i : ℕ) (l : Interest) → slice_get ls i ≡ Some l → 0 < get_or (fill_down (executing Z ls g) ls) i 0 → p ≤ℤ l.gain
  paid i l e h =
      by_lt_z l.gain p
      (λ lt. absurd (omega (arith, none_under (executing Z ls g) p ls (omega (arith, as_many)) i l e lt)))
      (λ ge. ge)

  block_fair : Settles Z g ls (blocked Z g ls)
  block_fair =
      cond_both (eqb (contracts (at_least g) ls) 0) _ _ (Settles Z g ls)
      (λ e. tt)
      (λ e. down_fair (executing Z ls g) Z g ls (omega arith) (omega arith))

pub block : Block
block = record { fair = block_fair; as_many = as_many; no_better = no_better; from_order = from_order; total = total; paid = paid }
