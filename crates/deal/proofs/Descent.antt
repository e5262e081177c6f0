-- Levels from the best one down.
use Rattle.std.proofs.Common.{◌≡◌, ℕ, zero, suc, ◌+◌, ◌-◌, ◌^◌, ◌<◌, true, false, cond, not, ◌&&◌, List, [], ◌∷◌, length, get_or, map, ℤ, int_lt, pos, negsuc, Some, None, Option, sym, refl, ap, ◌∙◌, ⊎_elim, arith, w32, SFits}
use lib.Signed.{lt_z, le_z}
use Rattle.std.specs.List.{slice_get, filter, fold, reduce}
use Rattle.std.specs.Ordering.{int_cmp, max_by_ordering}
use Rattle.std.proofs.lemmas.Option.{slice_get-get_or}
use Rattle.std.proofs.lemmas.List.{ext_get_or}
use Rattle.std.proofs.lemmas.Int.{ints}
use Rattle.std.proofs.lemmas.Bool.{cases_Bool, cond-true, cond-false, cond_both, and_parts, and_cases, and_left, and_right, and_from, both_ways, ltb-true, not_from_true, not_from_false}
use Rattle.share.specs.Shares.{shares}
use Rattle.filling.specs.declared.interest.Interest.{Interest}
use Rattle.filling.specs.Totals.{level, customer_at, other_at, sizes}
use Rattle.filling.proofs.Ladder.{dealt_long}
use Rattle.filling.proofs.Places.{customer_gets, other_gets}
use Rattle.deal.specs.declared.plans.Plan.{Plan}
use Rattle.deal.specs.Plans.{room_of, pot_of, planned}
use Rattle.deal.specs.Levels.{under, over, best_under}
use Rattle.deal.proofs.Passes.{Passed, left_for, part_for}

abbrev raise : Option ℤ → Option ℤ → ℤ → Option ℤ
raise bound best g = cond (under bound g && over best g) (Some g) best

-- the greater, as `max` picks it
abbrev pick : ℤ → ℤ → ℤ
pick b g = max_by_ordering (int_cmp b g) b g

picked : (b g : ℤ) → Some (pick b g) ≡ cond (int_lt b g) (Some g) (Some b)
picked b g = grind (arith, ints)

module _ (bound : Option ℤ) where
  best_from : (b : ℤ) (ls : List Interest) → Some (fold pick b (filter (under bound) (map (λ l. l.gain) ls))) ≡ best_under bound (Some b) ls
  best_from b [] = refl
  best_from b (l ∷ ls) =
      let later = filter (under bound) (map (λ m. m.gain) ls) in
      elim (under bound l.gain) as (λ u. Some (fold pick b (cond u (l.gain ∷ later) later)) ≡ best_under bound (cond (u && int_lt b l.gain) (Some l.gain) (Some b)) ls) [
        | true ↦ best_from (pick b l.gain) ls ∙ ap (λ o. best_under bound o ls) (picked b l.gain)
        | false ↦ best_from b ls
      ]

  pub best_of : (ls : List Interest) → reduce pick (filter (under bound) (map (λ l. l.gain) ls)) ≡ best_under bound None ls
  best_of [] = refl
  best_of (l ∷ ls) =
      let later = filter (under bound) (map (λ m. m.gain) ls) in
      elim (under bound l.gain) as (λ u. reduce pick (cond u (l.gain ∷ later) later) ≡ best_under bound (cond (u && true) (Some l.gain) None) ls) [
        | true ↦ best_from l.gain ls
        | false ↦ best_of ls
      ]

not_over : (best : Option ℤ) (g x : ℤ) → over best g ≡ true → over best x ≡ false → lt_z g x ≡ false
not_over None g x t h = absurd (both_ways true h refl)
not_over (Some b) g x t h = grind (arith, ints)

module _ (bound : Option ℤ) where
  raise_keeps : (best : Option ℤ) (g x : ℤ) → over best x ≡ false → over (raise bound best g) x ≡ false
  raise_keeps best g x h =
      cond_both (under bound g && over best g) (Some g) best (λ o. over o x ≡ false)
      (λ t. not_over best g x (and_parts (under bound g) (over best g) t).1 h) (λ t. h)

  keeps : (best : Option ℤ) (ls : List Interest) (x : ℤ) → over best x ≡ false → over (best_under bound best ls) x ≡ false
  keeps best [] x h = h
  keeps best (l ∷ ls) x h = keeps (raise bound best l.gain) ls x (raise_keeps best l.gain x h)

  raise_covers : (best : Option ℤ) (g : ℤ) → under bound g ≡ true → over (raise bound best g) g ≡ false
  raise_covers best g u =
      cond_both (under bound g && over best g) (Some g) best (λ o. over o g ≡ false)
      (λ t. grind (arith, ints))
      (λ t. ⊎_elim (λ n. absurd (both_ways (under bound g) n u)) (λ n. n) (and_cases (under bound g) (over best g) t))

  -- no line below the bound is above the best
  covers : (best : Option ℤ) (ls : List Interest) (i : ℕ) (l : Interest) → slice_get ls i ≡ Some l → under bound l.gain ≡ true → over (best_under bound best ls) l.gain ≡ false
  covers best [] i l e u = cc
  covers best (x ∷ ls) zero l e u =
      let s : x ≡ l = cc in
      let s' : x.gain ≡ l.gain = ap (λ (y : Interest). y.gain) s in
      keeps (raise bound best x.gain) ls l.gain (ap (λ g. over (raise bound best g) l.gain) s' ∙ raise_covers best l.gain u)
  covers best (x ∷ ls) (suc i) l e u = covers (raise bound best x.gain) ls i l e u

  abbrev Held : Option ℤ → Type 0
  Held None = Unit {0}
  Held (Some v) = under bound v ≡ true

  held : (best : Option ℤ) (ls : List Interest) → Held best → Held (best_under bound best ls)
  held best [] h = h
  held best (l ∷ ls) h =
      held (raise bound best l.gain) ls
      (cond_both (under bound l.gain && over best l.gain) (Some l.gain) best Held
      (λ t. (and_parts (under bound l.gain) (over best l.gain) t).0) (λ t. h))

  pub best_is_under : (ls : List Interest) (v : ℤ) → Some v ≡ best_under bound None ls → under bound v ≡ true
  best_is_under ls v e = go (best_under bound None ls) e (held None ls tt)
    where
      go : (o : Option ℤ) → Some v ≡ o → Held o → under bound v ≡ true
      go None e h = cc
      go (Some w) e h = let s : v ≡ w = cc in ap (under bound) s ∙ h

-- how far down a bound is
abbrev pub height : Option ℤ → ℕ
height None = 2 ^ 32
height (Some (pos n)) = 2 ^ 31 + n
height (Some (negsuc n)) = 2 ^ 31 - suc n

pub falls : (bound : Option ℤ) (v : ℤ) → SFits w32 v → under bound v ≡ true → height (Some v) < height bound
falls None (pos n) f u = let k = f.sfits in omega arith
falls None (negsuc n) f u = omega arith
falls (Some (pos m)) (pos n) f u = let k = ltb-true n m u in omega arith
falls (Some (pos m)) (negsuc n) f u = omega arith
falls (Some (negsuc m)) (pos n) f u = absurd (both_ways false refl u)
falls (Some (negsuc m)) (negsuc n) f u = let k = f.sfits in let j = ltb-true m n u in omega arith

-- the lines that are not below a bound have what they get
abbrev pub Served : Plan → List Interest → List ℕ → Option ℤ → Type 0
Served plan ls out bound = (i : ℕ) (l : Interest) → slice_get ls i ≡ Some l → under bound l.gain ≡ false → get_or out i 0 ≡ get_or (planned plan ls) i 0

-- the lines of the level v have what they get, and the others what they had
abbrev pub LevelServed : Plan → List Interest → ℤ → List ℕ → List ℕ → Type 0
LevelServed plan ls v old out = (i : ℕ) (l : Interest) → slice_get ls i ≡ Some l → get_or out i 0 ≡ cond (level v l) (get_or (planned plan ls) i 0) (get_or old i 0)

pub level_more : (plan : Plan) (ls : List Interest) (old out : List ℕ) (bound : Option ℤ) (v : ℤ) → Some v ≡ best_under bound None ls →
    LevelServed plan ls v old out → Served plan ls old bound → Served plan ls out (Some v)
level_more plan ls old out bound v b s inv i l e h =
    ⊎_elim
    (λ t. s i l e ∙ cond-true (level v l) (get_or (planned plan ls) i 0) (get_or old i 0) t)
    (λ t.
    s i l e ∙ cond-false (level v l) (get_or (planned plan ls) i 0) (get_or old i 0) t ∙
    inv i l e
    (⊎_elim
    (λ u.
    let o : lt_z v l.gain ≡ false = ap (λ r. over r l.gain) b ∙ covers bound None ls i l e u in
    absurd (both_ways (level v l) t (let y : (le_z v l.gain && le_z l.gain v) ≡ true = grind (arith, ints) in y)))
    (λ u. u)
    (cases_Bool (under bound l.gain))))
    (cases_Bool (level v l))

nobody : Interest
nobody = record { gain = pos 0; size = 0; customer = false; pooled = false; few = omega arith }

pub all_served : (plan : Plan) (ls : List Interest) (out : List ℕ) (bound : Option ℤ) → length out ≡ length ls → None ≡ best_under bound None ls →
    Served plan ls out bound → out ≡ planned plan ls
all_served plan ls out bound long b inv =
    let m = dealt_long (room_of plan ls) (pot_of plan ls) ls in
    ext_get_or 0 out (planned plan ls) (long ∙ sym m)
    (λ k lt.
    let e = slice_get-get_or ls k nobody (omega arith) in
    let l = get_or ls k nobody in
    inv k l e
    (⊎_elim
    (λ u. absurd (both_ways true (ap (λ r. over r l.gain) b ∙ covers bound None ls k l e u) refl))
    (λ u. u)
    (cases_Bool (under bound l.gain))))

-- a level whose customers and then others are served
pub both_served : (plan : Plan) (ls : List Interest) (v : ℤ) (old mid out : List ℕ) →
    Passed (customer_at v) (left_for v (room_of plan ls v) ls) ls old mid →
    Passed (other_at v) (part_for v (shares (pot_of plan ls v) (sizes (other_at v) ls)) ls) ls mid out → LevelServed plan ls v old out
both_served plan ls v old mid out q r i l e =
    let room = room_of plan ls in
    let pot = pot_of plan ls in
    let x = left_for v (room v) ls i l in
    let y = part_for v (shares (pot v) (sizes (other_at v) ls)) ls i l in
    let z = get_or (planned plan ls) i 0 in
    ⊎_elim
    (λ t.
    ⊎_elim
    (λ c.
    let tc = and_from (level v l) l.customer t c in
    let no = and_right (level v l) (not l.customer) (not_from_true l.customer c) in
    r i l e ∙ cond-false (other_at v l) y (get_or mid i 0) no ∙ q i l e ∙ cond-true (customer_at v l) x (get_or old i 0) tc ∙
    sym (cond-true (level v l) z (get_or old i 0) t ∙ customer_gets room pot ls i l e v tc))
    (λ c.
    let to = and_from (level v l) (not l.customer) t (not_from_false l.customer c) in
    r i l e ∙ cond-true (other_at v l) y (get_or mid i 0) to ∙
    sym (cond-true (level v l) z (get_or old i 0) t ∙ other_gets room pot ls i l e v to))
    (cases_Bool l.customer))
    (λ t.
    r i l e ∙ cond-false (other_at v l) y (get_or mid i 0) (and_left (level v l) (not l.customer) t) ∙
    q i l e ∙ cond-false (customer_at v l) x (get_or old i 0) (and_left (level v l) l.customer t) ∙
    sym (cond-false (level v l) z (get_or old i 0) t))
    (cases_Bool (level v l))
