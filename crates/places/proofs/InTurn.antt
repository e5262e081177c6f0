-- The line that the table holds, as the responses that stand.
use Rattle.std.proofs.Common.{◌≡◌, ℕ, ◌+◌, ◌/◌, ◌%◌, ◌<◌, ◌≤◌, Bool, true, false, cond, not, ◌&&◌, eqb, leb, ltb, List, [], ◌∷◌, ◌++◌, length, get_or, set, replicate, is_some, Some, None, Option, sym, refl, ap, ◌∙◌, ⊎_elim, append_assoc, arith}
use Rattle.std.specs.Option.{option_to_list}
use Rattle.std.proofs.lemmas.List.{get_or-set_same, get_or-set_other, get_or-replicate, get_or_past, length-replicate}
use Rattle.std.proofs.lemmas.Bool.{and_parts, leb-true, le-leb, ltb-true, cases_Bool, cases_eq, cases_lt, cond-true, cond-false, both_ways, eq-eqb, ne_eqb, eqb-true}
use Rattle.market.specs.declared.fill.Party.{Party}
use Rattle.market.specs.declared.fill.Party.TheVariants.{Response}
use Rattle.market.specs.Lists.{up_to}
use Rattle.auction.specs.declared.line.Line.{Line}
use Rattle.auction.specs.Limits.{most_members, most_slots}
use Rattle.auction.specs.Lines.{same_party}
use Rattle.auction.specs.Seats.{is_seat, seat_of}
use Rattle.places.specs.Turns.{has, under, without_turn}
use Rattle.places.specs.Standing.{standing, without, has_seat, after_put}
use Rattle.places.specs.Held.{party_at, Lined, Owned, in_turn}
use Rattle.places.proofs.Apart.{has_push, has_without, cond_two}

-- nothing is held anywhere in an empty table
pub nothing_held : {X : Type 0} (n p : ℕ) → get_or {A = Option X} (replicate n None) p None ≡ None
nothing_held {X} n p =
    ⊎_elim
    (λ (l : p < n). get_or-replicate n p None None l)
    (λ (l : n ≤ p). get_or_past (replicate n None) p None (omega (arith, length-replicate {A = Option X} n None)))
    (cases_lt p n)

place_parts : (m s : ℕ) → 1 ≤ m → 1 ≤ s → s ≤ 4 → (seat_of m s / 4 + 1 ≡ m) × (seat_of m s % 4 + 1 ≡ s)
place_parts m s a b c = (omega arith, omega arith)

place_back : (q m s : ℕ) → m ≡ q / 4 + 1 → s ≡ q % 4 + 1 → q ≡ seat_of m s
place_back q m s a b = omega arith

and_back : (x y z : Bool) → ((x ≡ true) → (y ≡ true) → z ≡ true) → (z ≡ true → (x ≡ true) × (y ≡ true)) → (x && y) ≡ z
and_back true true true f g = refl
and_back true true false f g = sym (f refl refl)
and_back true false true f g = (g refl).1
and_back true false false f g = refl
and_back false y true f g = (g refl).0
and_back false y false f g = refl

-- a place is a member's slot exactly where it is that slot's
at_place : (m s q : ℕ) → 1 ≤ m → 1 ≤ s → s ≤ 4 → same_party (Response m s) (party_at q) ≡ eqb q (seat_of m s)
at_place m s q a b c =
    and_back (eqb m (q / 4 + 1)) (eqb s (q % 4 + 1)) (eqb q (seat_of m s))
    (λ u v. eq-eqb q (seat_of m s) (place_back q m s (eqb-true m (q / 4 + 1) u) (eqb-true s (q % 4 + 1) v)))
    (λ u.
    let e = eqb-true q (seat_of m s) u in
    let k = place_parts m s a b c in
    (eq-eqb m (q / 4 + 1) (sym (ap (λ y. y / 4 + 1) e ∙ k.0)), eq-eqb s (q % 4 + 1) (sym (ap (λ y. y % 4 + 1) e ∙ k.1))))

turns_append : (held : List (Option Line)) (xs ys : List ℕ) → in_turn held (xs ++ ys) ≡ in_turn held xs ++ in_turn held ys
turns_append held [] ys = refl
turns_append held (x ∷ xs) ys =
    let o = option_to_list (get_or held x None) in
    ap (λ l. o ++ l) (turns_append held xs ys) ∙ sym (append_assoc o (in_turn held xs) (in_turn held ys))

-- a place that has no turn does not matter
pub turn_elsewhere : (held : List (Option Line)) (p : ℕ) (v : Option Line) (qs : List ℕ) → has p qs ≡ false → in_turn (set held p v) qs ≡ in_turn held qs
turn_elsewhere held p v [] h = refl
turn_elsewhere held p v (q ∷ qs) h =
    ⊎_elim
    (λ (e : q ≡ p). absurd (both_ways (cond (eqb q p) true (has p qs)) h (cond-true (eqb q p) true (has p qs) (eq-eqb q p e))))
    (λ (e : q ≡ p → ⊥).
    let k : has p qs ≡ false = sym (cond-false (eqb q p) true (has p qs) (ne_eqb q p e)) ∙ h in
    ap (λ o. option_to_list o ++ in_turn (set held p v) qs) (get_or-set_other held p q v None e) ∙ ap (λ l. option_to_list (get_or held q None) ++ l) (turn_elsewhere held p v qs k))
    (cases_eq q p)

-- one more at the end of the line
pub turn_joined : (held : List (Option Line)) (p : ℕ) (l : Line) (qs : List ℕ) → p < length held → has p qs ≡ false → in_turn (set held p (Some l)) (qs ++ p ∷ []) ≡ in_turn held qs ++ l ∷ []
turn_joined held p l qs lt h =
    turns_append (set held p (Some l)) qs (p ∷ [])
    ∙ ap (λ ls. ls ++ in_turn (set held p (Some l)) (p ∷ [])) (turn_elsewhere held p (Some l) qs h)
    ∙ ap (λ o. in_turn held qs ++ (option_to_list o ++ [])) (get_or-set_same held p (Some l) None lt)

either_true : (b : Bool) → cond b true true ≡ true
either_true true = refl
either_true false = refl

either_false : (b : Bool) → cond b true false ≡ b
either_false true = refl
either_false false = refl

-- the table is in step with its turns once a place has joined, and once one has left
pub lined_joined : (held : List (Option Line)) (turns : List ℕ) (q : ℕ) (l : Line) → q < length held → Lined held turns → Lined (set held q (Some l)) (without_turn q turns ++ q ∷ [])
lined_joined held turns q l lt h p =
    ⊎_elim
    (λ (s : p ≡ q).
    rw (has_push p q (without_turn q turns), s, get_or-set_same held q (Some l) None lt, eq-eqb q q refl) (sym (either_true (has q (without_turn q turns)))))
    (λ (s : p ≡ q → ⊥).
    rw (has_push p q (without_turn q turns), has_without q p turns, get_or-set_other held q p (Some l) None s, ne_eqb p q s, ne_eqb q p (λ u. s (sym u))) (h p ∙ sym (either_false (has p turns))))
    (cases_eq p q)

pub lined_left : (held : List (Option Line)) (turns : List ℕ) (q : ℕ) → q < length held → Lined held turns → Lined (set held q None) (without_turn q turns)
lined_left held turns q lt h p =
    ⊎_elim
    (λ (s : p ≡ q). rw (has_without q p turns, s, get_or-set_same held q None None lt, eq-eqb q q refl))
    (λ (s : p ≡ q → ⊥). rw (has_without q p turns, get_or-set_other held q p None None s, ne_eqb p q s) (h p))
    (cases_eq p q)

some_same : (k l : Line) → Some k ≡ Some l → k ≡ l
some_same k l e = cc

pub none_some : {A : Type 0} (l : Line) → None ≡ Some l → A
none_some l e = cc

pub owned_joined : (held : List (Option Line)) (q : ℕ) (k : Line) → q < length held → Owned held → k.party ≡ party_at q → Owned (set held q (Some k))
owned_joined held q k lt own e p l h =
    ⊎_elim
    (λ (s : p ≡ q).
    let t : Some k ≡ Some l = sym (get_or-set_same held q (Some k) None lt) ∙ (ap (λ y. get_or (set held q (Some k)) y None) (sym s) ∙ h) in
    ap (λ y. y.party) (sym (some_same k l t)) ∙ (e ∙ ap party_at (sym s)))
    (λ (s : p ≡ q → ⊥). own p l (sym (get_or-set_other held q p (Some k) None s) ∙ h))
    (cases_eq p q)

pub owned_left : (held : List (Option Line)) (q : ℕ) → q < length held → Owned held → Owned (set held q None)
owned_left held q lt own p l h =
    ⊎_elim
    (λ (s : p ≡ q). none_some l (sym (get_or-set_same held q None None lt) ∙ (ap (λ y. get_or (set held q None) y None) (sym s) ∙ h)))
    (λ (s : p ≡ q → ⊥). own p l (sym (get_or-set_other held q p None None s) ∙ h))
    (cases_eq p q)

module _ (m s : ℕ) (a : 1 ≤ m) (b : 1 ≤ s) (c : s ≤ 4) (held : List (Option Line)) (own : Owned held) where
  abbrev who : Party
  who = Response m s

  abbrev p : ℕ
  p = seat_of m s

  is_its : (q : ℕ) (l : Line) → get_or held q None ≡ Some l → same_party who l.party ≡ eqb q p
  is_its q l e = ap (same_party who) (own q l e) ∙ at_place m s q a b c

  standing_head : (o : Option Line) (q : ℕ) (rest : List Line) → get_or held q None ≡ o → standing who (option_to_list o ++ rest) ≡ cond (eqb q p && is_some o) o (standing who rest)
  standing_head None q rest e = elim (eqb q p) as (λ v. standing who rest ≡ cond (v && false) None (standing who rest)) [ true ↦ refl | false ↦ refl ]
  standing_head (Some l) q rest e =
      ap (λ v. cond v (Some l) (standing who rest)) (is_its q l e)
      ∙ elim (eqb q p) as (λ v. cond v (Some l) (standing who rest) ≡ cond (v && true) (Some l) (standing who rest)) [ true ↦ refl | false ↦ refl ]

  -- what stands there is what the place holds, if it has a turn
  standing_turn : (qs : List ℕ) → standing who (in_turn held qs) ≡ cond (has p qs) (get_or held p None) None
  standing_turn [] = refl
  standing_turn (q ∷ qs) =
      let ih = standing_turn qs in
      let here = get_or held p None in
      ⊎_elim
      (λ (e : q ≡ p).
      let t = eq-eqb q p e in
      let u : get_or held q None ≡ here = ap (λ y. get_or held y None) e in
      standing_head (get_or held q None) q (in_turn held qs) refl
      ∙ (rw (t, u, ih) (none_or here (has p qs))))
      (λ (e : q ≡ p → ⊥).
      let t = ne_eqb q p e in
      standing_head (get_or held q None) q (in_turn held qs) refl ∙ (rw (t, ih)))
      (cases_eq q p)
    where
      none_or : (o : Option Line) (h : Bool) → cond (true && is_some o) o (cond h o None) ≡ o
      none_or None true = refl
      none_or None false = refl
      none_or (Some l) h = refl

  held_or : (o : Option Line) → cond (is_some o) o None ≡ o
  held_or None = refl
  held_or (Some l) = refl

  pub standing_held : (qs : List ℕ) → Lined held qs → standing who (in_turn held qs) ≡ get_or held p None
  standing_held qs lined = standing_turn qs ∙ (ap (λ v. cond v (get_or held p None) None) (sym (lined p)) ∙ held_or (get_or held p None))

  without_head : (o : Option Line) (q : ℕ) (rest : List Line) → get_or held q None ≡ o → without who (option_to_list o ++ rest) ≡ cond (eqb q p) (without who rest) (option_to_list o ++ without who rest)
  without_head None q rest e = elim (eqb q p) as (λ v. without who rest ≡ cond v (without who rest) (without who rest)) [ true ↦ refl | false ↦ refl ]
  without_head (Some l) q rest e =
      ap (λ v. cond (not v) (l ∷ without who rest) (without who rest)) (is_its q l e)
      ∙ elim (eqb q p) as (λ v. cond (not v) (l ∷ without who rest) (without who rest) ≡ cond v (without who rest) (l ∷ without who rest)) [ true ↦ refl | false ↦ refl ]

  -- one less in line
  pub turn_left : (qs : List ℕ) → without who (in_turn held qs) ≡ in_turn held (without_turn p qs)
  turn_left [] = refl
  turn_left (q ∷ qs) =
      without_head (get_or held q None) q (in_turn held qs) refl
      ∙ ap (λ l. cond (eqb q p) l (option_to_list (get_or held q None) ++ l)) (turn_left qs)
      ∙ elim (eqb q p) as (λ v. cond v (in_turn held (without_turn p qs)) (option_to_list (get_or held q None) ++ in_turn held (without_turn p qs)) ≡ in_turn held (cond (not v) (q ∷ without_turn p qs) (without_turn p qs))) [ true ↦ refl | false ↦ refl ]

-- a seat's member and slot are within their limits
pub seat_bounds : (m s : ℕ) → is_seat m s ≡ true → (1 ≤ m) × (m ≤ 16) × (1 ≤ s) × (s ≤ 4)
seat_bounds m s h =
    let a = and_parts (up_to most_members m) (up_to most_slots s) h in
    let b = and_parts (leb 1 m) (leb m most_members) a.0 in
    let c = and_parts (leb 1 s) (leb s most_slots) a.1 in
    (leb-true 1 m b.0, leb-true m most_members b.1, leb-true 1 s c.0, leb-true s most_slots c.1)

within : (m s : ℕ) → 1 ≤ m → m ≤ 16 → 1 ≤ s → s ≤ 4 → is_seat m s ≡ true
within m s a b c d = rw (le-leb 1 m a, le-leb m 16 b, le-leb 1 s c, le-leb s 4 d)

-- a party without a seat has no place of the table
no_seat : (m s q : ℕ) → is_seat m s ≡ false → q < 64 → same_party (Response m s) (party_at q) ≡ false
no_seat m s q h lt =
    ⊎_elim
    (λ (t : same_party (Response m s) (party_at q) ≡ true).
    let a = and_parts (eqb m (q / 4 + 1)) (eqb s (q % 4 + 1)) t in
    let b = eqb-true m (q / 4 + 1) a.0 in
    let c = eqb-true s (q % 4 + 1) a.1 in
    absurd (both_ways (is_seat m s) h (within m s (omega arith) (omega arith) (omega arith) (omega arith))))
    (λ (f : same_party (Response m s) (party_at q) ≡ false). f)
    (cases_Bool (same_party (Response m s) (party_at q)))

module _ (m s : ℕ) (no : is_seat m s ≡ false) (held : List (Option Line)) (own : Owned held) where
  skipped : (q : ℕ) (o : Option Line) → q < 64 → get_or held q None ≡ o → (rest : List Line) →
      (standing (Response m s) (option_to_list o ++ rest) ≡ standing (Response m s) rest) × (without (Response m s) (option_to_list o ++ rest) ≡ option_to_list o ++ without (Response m s) rest)
  skipped q None lt e rest = (refl, refl)
  skipped q (Some l) lt e rest =
      let f : same_party (Response m s) l.party ≡ false = ap (same_party (Response m s)) (own q l e) ∙ no_seat m s q no lt in
      (ap (λ b. cond b (Some l) (standing (Response m s) rest)) f, ap (λ b. cond (not b) (l ∷ without (Response m s) rest) (without (Response m s) rest)) f)

  -- who has no seat has nothing in line
  pub none_stands : (qs : List ℕ) → under 64 qs ≡ true → standing (Response m s) (in_turn held qs) ≡ None
  none_stands [] u = refl
  none_stands (q ∷ qs) u =
      let a = cond_two (ltb q 64) (under 64 qs) u in
      (skipped q (get_or held q None) (ltb-true q 64 a.0) refl (in_turn held qs)).0 ∙ none_stands qs a.1

  pub none_leaves : (qs : List ℕ) → under 64 qs ≡ true → without (Response m s) (in_turn held qs) ≡ in_turn held qs
  none_leaves [] u = refl
  none_leaves (q ∷ qs) u =
      let a = cond_two (ltb q 64) (under 64 qs) u in
      (skipped q (get_or held q None) (ltb-true q 64 a.0) refl (in_turn held qs)).1
      ∙ ap (λ ls. option_to_list (get_or held q None) ++ ls) (none_leaves qs a.1)

-- a seat is a place of the table, and the place is its own
pub seat_low : (m s : ℕ) → is_seat m s ≡ true → seat_of m s < 64
seat_low m s h = let a = seat_bounds m s h in omega (arith, a)

pub seat_own : (m s : ℕ) → is_seat m s ≡ true → Response m s ≡ party_at (seat_of m s)
seat_own m s h =
    let a = seat_bounds m s h in
    let b = place_parts m s a.0 a.2 a.3 in
    ap (λ x. Response x s) (sym b.0) ∙ ap (Response (seat_of m s / 4 + 1)) (sym b.1)

-- the line once a response of a seat is put
pub line_put : (l : Line) (m s : ℕ) (ls : List Line) → l.party ≡ Response m s → is_seat m s ≡ true → without (Response m s) ls ++ l ∷ [] ≡ after_put l ls
line_put l m s ls e h =
    sym (ap (λ q. cond (has_seat q) (without q ls ++ l ∷ []) ls) e
    ∙ ap (λ b. cond b (without (Response m s) ls ++ l ∷ []) ls) h)
