-- Shares as filling uses them.
use Rattle.std.proofs.Common.{◌≡◌, ℕ, suc, ◌+◌, ◌-◌, ◌*◌, ◌/◌, ◌<◌, ◌≤◌, ◌⊎◌, List, [], ◌∷◌, length, get_or, sum, refl, ap, ◌∙◌, arith}
use Rattle.std.proofs.lemmas.List.Sums.{sum_by-cons}
use Rattle.share.specs.Shares.{floors, shares}
use Rattle.share.proofs.Rounding.{topped_length, topped_near, topped_first, get_d_sum, fair}

-- there is a share for each claim
pub one_each : (a : ℕ) (ss : List ℕ) → length (shares a ss) ≡ length ss
one_each a ss = topped_length a (sum ss) (a - sum (floors a (sum ss) ss)) ss

-- the amount is given out
pub all_given : (a : ℕ) (ss : List ℕ) → a ≤ sum ss → sum (shares a ss) ≡ a
all_given a ss h = (fair a ss h).whole

-- nobody gets more than it wants
pub none_over : (a : ℕ) (ss : List ℕ) (k : ℕ) → a ≤ sum ss → get_or (shares a ss) k 0 ≤ get_or ss k 0
none_over a ss k h = (fair a ss h).within k

-- each gets its part, or one contract more
pub in_proportion : (a : ℕ) (ss : List ℕ) (k : ℕ) → k < length ss →
    (get_or (shares a ss) k 0 ≡ a * get_or ss k 0 / sum ss) ⊎ (get_or (shares a ss) k 0 ≡ a * get_or ss k 0 / sum ss + 1)
in_proportion a ss k h = topped_near a (sum ss) (a - sum (floors a (sum ss) ss)) ss k h

-- where one that wants more has just its part, so has each behind it
pub first_in_line : (a : ℕ) (ss : List ℕ) (i j : ℕ) → i < j → j < length ss → a * get_or ss i 0 / sum ss < get_or ss i 0 →
    get_or (shares a ss) i 0 ≡ a * get_or ss i 0 / sum ss → get_or (shares a ss) j 0 ≡ a * get_or ss j 0 / sum ss
first_in_line a ss i j = topped_first a (sum ss) (a - sum (floors a (sum ss) ss)) ss i j

-- nothing gives nobody anything
pub none_given : (ss : List ℕ) (k : ℕ) → get_or (shares 0 ss) k 0 ≡ 0
none_given ss k = omega (arith, all_given 0 ss (omega arith), get_d_sum (shares 0 ss) k)

sum_le : (xs ys : List ℕ) → length xs ≡ length ys → ((k : ℕ) → get_or xs k 0 ≤ get_or ys k 0) → sum xs ≤ sum ys
sum_le [] [] e h = omega arith
sum_le [] (y ∷ ys) e h = absurd (omega arith)
sum_le (x ∷ xs) [] e h = absurd (omega arith)
sum_le (x ∷ xs) (y ∷ ys) e h = omega (arith, sum_by-cons (λ n. n) x xs, sum_by-cons (λ n. n) y ys, sum_le xs ys (omega arith) (λ i. h (suc i)), h 0)

-- a list that is nowhere above another, and as much in all, is the other
same_from_sum : (xs ys : List ℕ) → length xs ≡ length ys → ((k : ℕ) → get_or xs k 0 ≤ get_or ys k 0) → sum ys ≤ sum xs → xs ≡ ys
same_from_sum [] [] e h k = refl
same_from_sum [] (y ∷ ys) e h k = absurd (omega arith)
same_from_sum (x ∷ xs) [] e h k = absurd (omega arith)
same_from_sum (x ∷ xs) (y ∷ ys) e h k =
    let below : (i : ℕ) → get_or xs i 0 ≤ get_or ys i 0 = λ i. h (suc i) in
    let le : sum xs ≤ sum ys = sum_le xs ys (omega arith) below in
    let s = sum_by-cons (λ n. n) x xs in
    let t = sum_by-cons (λ n. n) y ys in
    let xy : x ≤ y = h 0 in
    let hd : x ≡ y = omega arith in
    let tl = same_from_sum xs ys (omega arith) below (omega arith) in
    ap (λ z. z ∷ xs) hd ∙ ap (λ zs. y ∷ zs) tl

-- as much as is wanted gives each what it wants
pub in_full : (ss : List ℕ) → shares (sum ss) ss ≡ ss
in_full ss =
    let h : sum ss ≤ sum ss = omega arith in
    same_from_sum (shares (sum ss) ss) ss (one_each (sum ss) ss) (λ k. none_over (sum ss) ss k h) (omega (arith, all_given (sum ss) ss h))
