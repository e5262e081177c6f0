-- Filling down, a gain at a time.
use Rattle.std.proofs.Common.{◌≡◌, ℕ, zero, suc, ◌+◌, ◌<◌, ◌≤◌, min, Bool, true, false, List, [], ◌∷◌, ◌++◌, length, ℤ, pos, negsuc, ◌+ℤ◌, ◌≤ℤ◌, ◌<ℤ◌, sum, refl, ap, arith}
use lib.Signed.{mag}
use Rattle.std.specs.List.{AllByRecursion}
use Rattle.std.proofs.lemmas.Int.{ints}
use Rattle.std.proofs.ByRecursion.{All-weaker}
use Rattle.std.proofs.lemmas.Bool.{cond-true, cond-false}
use Rattle.filling.specs.declared.interest.Interest.{Interest}
use Rattle.filling.specs.Totals.{better, level, customer_at, other_at, contracts, filled}
use Rattle.filling.specs.Filling.{fills_from, dealt, reaching, left_over, fill_down}
use Rattle.filling.proofs.Counting.{sum_cons, Splits, contracts_cons, contracts_same, contracts_split, filled_split, level_splits}
use Rattle.filling.proofs.Levels.{level_gets}

pub better_splits : (v : ℤ) → Splits (better v) (better (v +ℤ pos 1)) (level (v +ℤ pos 1))
better_splits v l x = grind (arith, ints)

-- tests that no line passes
pub none_pass : (p : Interest → Bool) (ls : List Interest) → AllByRecursion (λ l. p l ≡ false) ls → contracts p ls ≡ 0
none_pass p [] h = refl
none_pass p (l ∷ ls) h = omega (arith, contracts_cons p l ls, cond-false (p l) l.size 0 h.0, none_pass p ls h.1)

pub none_filled : (p : Interest → Bool) (ls : List Interest) (fs : List ℕ) → AllByRecursion (λ l. p l ≡ false) ls → filled p ls fs ≡ 0
none_filled p [] fs h = refl
none_filled p (l ∷ ls) [] h = refl
none_filled p (l ∷ ls) (f ∷ fs) h = omega (arith, cond-false (p l) f 0 h.0, none_filled p ls fs h.1)

-- tests that each line passes
pub all_pass : (p : Interest → Bool) (ls : List Interest) → AllByRecursion (λ l. p l ≡ true) ls → contracts p ls ≡ contracts (λ _. true) ls
all_pass p ls h = contracts_same p (λ _. true) ls h

pub all_filled : (p : Interest → Bool) (ls : List Interest) (fs : List ℕ) → length fs ≡ length ls → AllByRecursion (λ l. p l ≡ true) ls → filled p ls fs ≡ sum fs
all_filled p [] [] e h = refl
all_filled p [] (f ∷ fs) e h = absurd (omega arith)
all_filled p (l ∷ ls) [] e h = refl
all_filled p (l ∷ ls) (f ∷ fs) e h = omega (arith, cond-true (p l) f 0 h.0, sum_cons f fs, all_filled p ls fs (omega arith) h.1)

-- a number past all gains, either way
pub spread : List Interest → ℕ
spread [] = 0
spread (l ∷ ls) = suc (mag l.gain) + spread ls

gain_within : (g : ℤ) (n : ℕ) → mag g < n → (negsuc n <ℤ g) × (g ≤ℤ pos n)
gain_within (pos m) n h = (omega (arith, ints), omega (arith, ints))
gain_within (negsuc m) n h = (omega (arith, ints), omega (arith, ints))

pub within_spread : (ls : List Interest) (n : ℕ) → spread ls ≤ n → AllByRecursion (λ l. (negsuc n <ℤ l.gain) × (l.gain ≤ℤ pos n)) ls
unfolding spread
within_spread [] n h = tt
within_spread (l ∷ ls) n h = (gain_within l.gain n (omega arith), within_spread ls n (omega arith))

far_enough : (v g : ℤ) (n : ℕ) → g ≤ℤ pos n → g ≤ℤ (v +ℤ pos (n + suc (mag v)))
far_enough (pos m) g n h = omega (arith, ints)
far_enough (negsuc m) g n h = omega (arith, ints)

module _ (room pot : ℤ → ℕ) (ls : List Interest) (a : ℕ) where
  -- above v, room and pot give each level what better levels leave of the amount a
  abbrev pub Down : ℤ → Type 0
  Down v = (w : ℤ) → v <ℤ w → (pot w ≤ contracts (other_at w) ls) × (min (contracts (customer_at w) ls) (room w) + pot w ≡ min (contracts (level w) ls) (reaching a ls w))

  ladder : (k : ℕ) (v : ℤ) → AllByRecursion (λ l. l.gain ≤ℤ (v +ℤ pos k)) ls → Down v → filled (better v) ls (dealt room pot ls) ≡ min a (contracts (better v) ls)
  ladder zero v h d =
      let none : AllByRecursion (λ l. better v l ≡ false) ls = All-weaker (λ l. l.gain ≤ℤ (v +ℤ pos 0)) (λ l. better v l ≡ false) (λ l le. grind (arith, ints)) ls h in
      omega (arith, none_pass (better v) ls none, none_filled (better v) ls (dealt room pot ls) none)
  ladder (suc k) v h d =
      let w = v +ℤ pos 1 in
      let up : AllByRecursion (λ l. l.gain ≤ℤ (w +ℤ pos k)) ls = All-weaker (λ l. l.gain ≤ℤ (v +ℤ pos (suc k))) (λ l. l.gain ≤ℤ (w +ℤ pos k)) (λ l le. omega (arith, ints)) ls h in
      let ih = ladder k w up (λ u lt. d u (omega (arith, ints))) in
      let here = d w (omega (arith, ints)) in
      omega (
        arith,
        ih,
        level_gets room pot ls w here.0,
        here.1,
        filled_split (better v) (better w) (level w) (better_splits v) ls (dealt room pot ls),
        contracts_split (better v) (better w) (level w) (better_splits v) ls,
      )

  -- above v the amount a goes as far as it does
  pub down_to : (v : ℤ) → Down v → filled (better v) ls (dealt room pot ls) ≡ min a (contracts (better v) ls)
  down_to v d =
      let n = spread ls in
      let b = within_spread ls n (omega arith) in
      ladder (n + suc (mag v)) v (All-weaker (λ l. (negsuc n <ℤ l.gain) × (l.gain ≤ℤ pos n)) (λ l. l.gain ≤ℤ (v +ℤ pos (n + suc (mag v)))) (λ l h. far_enough v l.gain n h.1) ls b) d

fills_long : (room pot : ℤ → ℕ) (ls before rest : List Interest) → length (fills_from room pot ls before rest) ≡ length rest
fills_long room pot ls before [] = refl
fills_long room pot ls before (l ∷ rest) = ap suc (fills_long room pot ls (before ++ l ∷ []) rest)

pub dealt_long : (room pot : ℤ → ℕ) (ls : List Interest) → length (dealt room pot ls) ≡ length ls
dealt_long room pot ls = fills_long room pot ls [] ls

pub fills_down : (a : ℕ) (ls : List Interest) (v : ℤ) → Down (reaching a ls) (left_over a ls) ls a v
fills_down a ls v w lt = (omega arith, omega (arith, contracts_split (level w) (customer_at w) (other_at w) (level_splits w) ls))

pub fill_down_above : (a : ℕ) (ls : List Interest) (v : ℤ) → filled (better v) ls (fill_down a ls) ≡ min a (contracts (better v) ls)
fill_down_above a ls v = down_to (reaching a ls) (left_over a ls) ls a v (fills_down a ls v)

pub fill_down_total : (a : ℕ) (ls : List Interest) → sum (fill_down a ls) ≡ min a (contracts (λ _. true) ls)
fill_down_total a ls =
    let n = spread ls in
    let b = within_spread ls n (omega arith) in
    let each : AllByRecursion (λ l. better (negsuc n) l ≡ true) ls = All-weaker (λ l. (negsuc n <ℤ l.gain) × (l.gain ≤ℤ pos n)) (λ l. better (negsuc n) l ≡ true) (λ l h. let lt = h.0 in grind (arith, ints)) ls b in
    omega (
      arith,
      fill_down_above a ls (negsuc n),
      all_pass (better (negsuc n)) ls each,
      all_filled (better (negsuc n)) ls (fill_down a ls) (dealt_long (reaching a ls) (left_over a ls) ls) each,
    )
