-- What a take of n implied orders does to the list: the size of the order that is taken falls by n, and the rest stays.
use Rattle.std.proofs.Common.{◌≡◌, ℕ, suc, ◌+◌, ◌-◌, ◌*◌, ◌/◌, ◌≤◌, min, List, [], ◌∷◌, map, length, get_or, pos, ◌+ℤ◌, fold, sum, refl, ap, ◌∙◌, arith}
use native.Mathlib.Nat.{add-mul-div_right}
use Rattle.std.specs.List.{AllByRecursion}
use Rattle.std.proofs.lemmas.List.Sums.{sum_by-cons}
use Rattle.market.specs.declared.names.Side.{Side}
use Rattle.market.specs.declared.names.Side.TheVariants.{Buy, Sell}
use Rattle.market.specs.declared.names.Class.TheVariants.{Other}
use Rattle.market.specs.Limits.{most_size}
use Rattle.market.specs.Lists.{lowered}
use Rattle.market.specs.Making.{cut_price, entry_of}
use Rattle.market.proofs.Entries.{entry_same}
use Rattle.share.specs.Shares.{shares}
use Rattle.share.proofs.Rounding.{fair}
use Rattle.legs.specs.Model.{LegHeld, by_side, used, signed, leg_price, leg_size, least, net_price, net_size, implied, less, taken_side, taken_leg}
use Rattle.legs.proofs.Amounts.{amount_le}

sum_less : (qs rs : List ℕ) → length rs ≡ length qs → ((i : ℕ) → get_or rs i 0 ≤ get_or qs i 0) → sum (less qs rs) + sum rs ≡ sum qs
sum_less [] [] e h = refl
sum_less [] (r ∷ rs) e h = absurd (omega arith)
sum_less (q ∷ qs) [] e h = absurd (omega arith)
sum_less (q ∷ qs) (r ∷ rs) e h =
    let a = sum_by-cons (λ x. x) (q - r) (less qs rs) in
    let b = sum_by-cons (λ x. x) r rs in
    let d = sum_by-cons (λ x. x) q qs in
    let z : r ≤ q = h 0 in
    let k : length rs ≡ length qs = omega arith in
    let rest = sum_less qs rs k (λ i. h (suc i)) in
    omega arith

-- the quotes have a contracts less
pub taken_sum : (a : ℕ) (qs : List ℕ) → a ≤ sum qs → sum (less qs (shares a qs)) ≡ sum qs - a
taken_sum a qs h =
    let f = fair a qs h in
    let s = sum_less qs (shares a qs) f.long f.within in
    let w = f.whole in
    omega arith

div_less : (S n r : ℕ) → 1 ≤ r → n * r ≤ S → (S - n * r) / r ≡ S / r - n
div_less S n r p h =
    let e : S - n * r + n * r ≡ S = omega arith in
    let d : (S - n * r + n * r) / r ≡ (S - n * r) / r + n = add-mul-div_right (S - n * r) n p in
    let f : (S - n * r + n * r) / r ≡ S / r = ap (λ x. x / r) e in
    omega arith

-- the side that is used, and the other
used_taken : (s : Side) (n : ℕ) (l : LegHeld) → used s (taken_leg s n l) ≡ taken_side (n * l.ratio) (used s l)
used_taken s n l = either_side s l.side
  where
    either_side : (s t : Side) → by_side s t (by_side s t (taken_side (n * l.ratio) l.bid) l.bid) (by_side s t l.offer (taken_side (n * l.ratio) l.offer)) ≡ taken_side (n * l.ratio) (by_side s t l.bid l.offer)
    either_side Buy Buy = refl
    either_side Buy Sell = refl
    either_side Sell Buy = refl
    either_side Sell Sell = refl

abbrev pub against : Side → Side
against Buy = Sell
against Sell = Buy

used_other : (s : Side) (n : ℕ) (l : LegHeld) → used (against s) (taken_leg s n l) ≡ used (against s) l
used_other s n l = either_side s l.side
  where
    either_side : (s t : Side) → by_side (against s) t (by_side s t (taken_side (n * l.ratio) l.bid) l.bid) (by_side s t l.offer (taken_side (n * l.ratio) l.offer)) ≡ by_side (against s) t l.bid l.offer
    either_side Buy Buy = refl
    either_side Buy Sell = refl
    either_side Sell Buy = refl
    either_side Sell Sell = refl

size_taken : (s : Side) (n : ℕ) (l : LegHeld) → 1 ≤ l.ratio → n ≤ leg_size s l → leg_size s (taken_leg s n l) ≡ leg_size s l - n
size_taken s n l p h =
    let S = sum (used s l).quotes in
    let a = amount_le n S l.ratio h in
    ap (λ e. sum e.quotes / l.ratio) (used_taken s n l) ∙ ap (λ x. x / l.ratio) (taken_sum (n * l.ratio) (used s l).quotes a) ∙ div_less S n l.ratio p a

size_other : (s : Side) (n : ℕ) (l : LegHeld) → leg_size (against s) (taken_leg s n l) ≡ leg_size (against s) l
size_other s n l = ap (λ e. sum e.quotes / l.ratio) (used_other s n l)

price_taken : (s : Side) (n : ℕ) (l : LegHeld) → leg_price s (taken_leg s n l) ≡ leg_price s l
price_taken s n l = ap (λ e. signed l.side (l.ratio * e.price)) (used_taken s n l)

price_other : (s : Side) (n : ℕ) (l : LegHeld) → leg_price (against s) (taken_leg s n l) ≡ leg_price (against s) l
price_other s n l = ap (λ e. signed l.side (l.ratio * e.price)) (used_other s n l)

-- the same of all legs
map_same : {X Y : Type 0} (g : X → Y) (f : X → X) → ((x : X) → g (f x) ≡ g x) → (xs : List X) → map g (map f xs) ≡ map g xs
map_same g f h [] = refl
map_same g f h (x ∷ xs) = ap (λ y. y ∷ map g (map f xs)) (h x) ∙ ap (λ ys. g x ∷ ys) (map_same g f h xs)

sizes_taken : (s : Side) (n : ℕ) (ls : List LegHeld) → AllByRecursion (λ l. 1 ≤ l.ratio) ls → AllByRecursion (λ l. n ≤ leg_size s l) ls → map (leg_size s) (map (taken_leg s n) ls) ≡ map (λ x. x - n) (map (leg_size s) ls)
sizes_taken s n [] p h = refl
sizes_taken s n (l ∷ ls) p h = ap (λ y. y ∷ map (leg_size s) (map (taken_leg s n) ls)) (size_taken s n l p.0 h.0) ∙ ap (λ ys. (leg_size s l - n) ∷ ys) (sizes_taken s n ls p.1 h.1)

fold_less : (n x : ℕ) (xs : List ℕ) → fold min (x - n) (map (λ y. y - n) xs) ≡ fold min x xs - n
fold_less n x [] = refl
fold_less n x (y ∷ ys) = let e : min (x - n) (y - n) ≡ min x y - n = omega arith in ap (λ z. fold min z (map (λ y. y - n) ys)) e ∙ fold_less n (min x y) ys

least_less : (n : ℕ) (xs : List ℕ) → least (map (λ y. y - n) xs) ≡ least xs - n
least_less n [] = omega arith
least_less n (x ∷ xs) = fold_less n x xs

pub fold_least : (x : ℕ) (xs : List ℕ) → (fold min x xs ≤ x) × AllByRecursion (λ y. fold min x xs ≤ y) xs
fold_least x [] = (omega arith, tt)
fold_least x (y ∷ ys) =
    let r = fold_least (min x y) ys in
    let a = r.0 in
    (omega arith, (omega arith, r.1))

least_each : {X : Type 0} (f : X → ℕ) (n m : ℕ) (xs : List X) → n ≤ m → AllByRecursion (λ y. m ≤ y) (map f xs) → AllByRecursion (λ x. n ≤ f x) xs
least_each f n m [] h a = tt
least_each f n m (x ∷ xs) h a = let k = a.0 in (omega arith, least_each f n m xs h a.1)

-- every leg has contracts for as many implied orders as the net
pub enough_each : (s : Side) (n : ℕ) (ls : List LegHeld) → n ≤ net_size s ls → AllByRecursion (λ l. n ≤ leg_size s l) ls
enough_each s n [] h = tt
enough_each s n (l ∷ ls) h =
    let r = fold_least (leg_size s l) (map (leg_size s) ls) in
    let a = r.0 in
    (omega arith, least_each (leg_size s) n (net_size s (l ∷ ls)) ls h r.1)

module _ (s : Side) (n : ℕ) (ls : List LegHeld) where
  abbrev after : List LegHeld
  after = map (taken_leg s n) ls

  pub implied_taken : AllByRecursion (λ l. 1 ≤ l.ratio) ls → n ≤ net_size s ls → net_size s ls ≤ most_size → implied s after ≡ lowered n (implied s ls)
  implied_taken p h few =
      let prices : map (leg_price s) after ≡ map (leg_price s) ls = map_same (leg_price s) (taken_leg s n) (price_taken s n) ls in
      let size : net_size s after ≡ net_size s ls - n = ap least (sizes_taken s n ls p (enough_each s n ls h)) ∙ least_less n (map (leg_size s) ls) in
      let cut : min (net_size s after) most_size ≡ min (net_size s ls) most_size - n = omega arith in
      entry_same (implied s after) (lowered n (implied s ls)) refl (ap (λ zs. cut_price (fold ◌+ℤ◌ (pos 0) zs)) prices) cut refl

  pub implied_other : implied (against s) after ≡ implied (against s) ls
  implied_other =
      let prices : map (leg_price (against s)) after ≡ map (leg_price (against s)) ls = map_same (leg_price (against s)) (taken_leg s n) (price_other s n) ls in
      let sizes : map (leg_size (against s)) after ≡ map (leg_size (against s)) ls = map_same (leg_size (against s)) (taken_leg s n) (size_other s n) ls in
      ap (λ zs. entry_of (against s) (fold ◌+ℤ◌ (pos 0) zs) (net_size (against s) after) Other) prices ∙ ap (λ ms. entry_of (against s) (net_price (against s) ls) (least ms) Other) sizes
