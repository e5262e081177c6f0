-- The seats that are taken tell who may stand next.
use Rattle.std.proofs.Common.{◌≡◌, ℕ, ◌+◌, ◌<◌, ◌≤◌, Bool, true, false, not, ◌&&◌, ◌||◌, List, [], ◌∷◌, ◌++◌, length, get_or, take, drop, set, replicate, sym, refl, ap, ◌∙◌, ⊎_elim, subst, arith, get_or-set_other, length-set}
use lib.ListN.{get_or-replicate}
use Rattle.std.proofs.lemmas.List.{take_more, at_drop_more}
use Rattle.std.proofs.Math.Bool.{or-false}
use Rattle.std.proofs.lemmas.Grind.{common_steps}
use Rattle.std.proofs.lemmas.Bool.{and_parts, and_left, or_right, cond-true, cond_both, cases_Bool, cases_eq}
use Rattle.std.proofs.lemmas.Bool.Decides.{nat_tests}
use Rattle.market.specs.declared.fill.Party.{Party}
use Rattle.market.specs.declared.fill.Party.TheVariants.{Entry, Response, Contra}
use Rattle.auction.specs.declared.line.Line.{Line}
use Rattle.auction.specs.Lines.{same_party, has_line, may_stand, next_place, in_line_from, stands_in_line}
use Rattle.auction.specs.Seats.{is_seat, seat_of, free_seat, may_follow, seats_after}
use Rattle.auction.proofs.Standing.{has_push}

-- each seat is taken exactly where a line in front has it
abbrev pub Noted : List Bool → List Line → Type 0
Noted taken before = (m s : ℕ) → is_seat m s ≡ true → get_or taken (seat_of m s) false ≡ has_line (Response m s) before

-- the members and slots of a seat
seat_parts : (m s : ℕ) → is_seat m s ≡ true → (1 ≤ m) × (m ≤ 16) × (1 ≤ s) × (s ≤ 4)
seat_parts m s h = grind (arith, nat_tests)

-- seats of one number are one seat
same_seat : (m s n t : ℕ) → is_seat m s ≡ true → is_seat n t ≡ true → seat_of n t ≡ seat_of m s → same_party (Response n t) (Response m s) ≡ true
same_seat m s n t h k e =
    let a = seat_parts m s h in
    let b = seat_parts n t k in
    grind (arith, nat_tests)

-- a seat is taken
noted_set : (taken : List Bool) (m s n t : ℕ) → length taken ≡ 64 → is_seat m s ≡ true → is_seat n t ≡ true →
    get_or (set taken (seat_of m s) true) (seat_of n t) false ≡ get_or taken (seat_of n t) false || same_party (Response n t) (Response m s)
noted_set taken m s n t long h k =
    let a = seat_parts m s h in
    let lt : seat_of m s < length taken = omega arith in
    ⊎_elim
    (λ (e : seat_of n t ≡ seat_of m s). let q = same_seat m s n t h k e in grind (arith, common_steps, or_right))
    (λ (e : seat_of n t ≡ seat_of m s → ⊥).
    let q : same_party (Response n t) (Response m s) ≡ false = grind (arith, nat_tests) in
    get_or-set_other taken (seat_of m s) (seat_of n t) true false e ∙ grind (arith, or-false))
    (cases_eq (seat_of n t) (seat_of m s))

module _ (taken : List Bool) (before : List Line) (low : ℕ) (long : length taken ≡ 64) (noted : Noted taken before) where
  free_same : (m s : ℕ) → free_seat taken m s ≡ is_seat m s && not (has_line (Response m s) before)
  free_same m s =
      ⊎_elim
      (λ (t : is_seat m s ≡ true). let q = noted m s t in cc)
      (λ (f : is_seat m s ≡ false). grind (arith, and_left))
      (cases_Bool (is_seat m s))

  pub follows_on : (p : Party) → may_follow low taken p ≡ may_stand low before p
  follows_on (Entry place) = refl
  follows_on (Response m s) = free_same m s
  follows_on Contra = refl

  -- one who may stand has its seat taken
  pub notes : (y : Line) (p : Party) → y.party ≡ p → may_stand low before p ≡ true → Noted (seats_after taken p) (before ++ y ∷ [])
  notes y (Entry place) e h n t k =
      let q : same_party (Response n t) y.party ≡ false = ap (same_party (Response n t)) e in
      let r = has_push (Response n t) before y in
      let o = or-false (has_line (Response n t) before) in
      cc (noted n t k)
  notes y (Response m s) e h n t k =
      let free : free_seat taken m s ≡ true = free_same m s ∙ h in
      let is = (and_parts (is_seat m s) (not (get_or taken (seat_of m s) false)) free).0 in
      let w = cond-true (free_seat taken m s) (set taken (seat_of m s) true) taken free in
      let q : same_party (Response n t) y.party ≡ same_party (Response n t) (Response m s) = ap (same_party (Response n t)) e in
      let r = has_push (Response n t) before y in
      let x = noted_set taken m s n t long is k in
      cc (noted n t k)
  notes y Contra e h n t k = cc

  still_long : (p : Party) → length (seats_after taken p) ≡ 64
  still_long (Entry place) = long
  still_long (Response m s) = cond_both (free_seat taken m s) (set taken (seat_of m s) true) taken (λ xs. length xs ≡ 64) (λ _. simp length-set long) (λ _. long)
  still_long Contra = long

-- what stands in front of the line at i
pub record InFront (ls : List Line) (i low : ℕ) (taken : List Bool) : Type 0 where
  pub long : length taken ≡ 64
  pub ahead : stands_in_line ls ≡ in_line_from low (take i ls) (drop i ls)
  pub noted : Noted taken (take i ls)

pub at_start : (ls : List Line) → InFront ls 0 1 (replicate 64 false)
at_start ls = record {
  long = refl;
  ahead = refl;
  noted = λ m s t. let a = seat_parts m s t in get_or-replicate 64 (seat_of m s) false false (omega arith);
}

module _ (ls : List Line) (i low : ℕ) (taken : List Bool) (x : Line) (h : i < length ls) (is : x ≡ get_or ls i x) (front : InFront ls i low taken) where
  step : stands_in_line ls ≡ may_follow low taken x.party && in_line_from (next_place x.party) (take (i + 1) ls) (drop (i + 1) ls)
  step =
      let more : in_line_from low (take i ls) (drop i ls) ≡ may_stand low (take i ls) (get_or ls i x).party && in_line_from (next_place (get_or ls i x).party) (take i ls ++ get_or ls i x ∷ []) (drop (i + 1) ls) = at_drop_more (in_line_from low (take i ls)) ls i x h in
      let t = take_more ls i x h in
      let f = follows_on taken (take i ls) low front.long front.noted x.party in
      let a = front.ahead in
      cc

  pub one_on : (next : ℕ) (seats : List Bool) → may_follow low taken x.party ≡ true → next ≡ next_place x.party → seats ≡ seats_after taken x.party → InFront ls (i + 1) next seats
  one_on next seats t n s =
      let whole : take i ls ++ x ∷ [] ≡ take (i + 1) ls = let m = take_more ls i x h in cc in
      rw (n, s) (record {
        long = still_long taken (take i ls) low front.long front.noted x.party;
        ahead = step ∙ ap (λ b. b && in_line_from (next_place x.party) (take (i + 1) ls) (drop (i + 1) ls)) t;
        noted = subst (Noted (seats_after taken x.party)) whole
            (notes taken (take i ls) low front.long front.noted x x.party refl (sym (follows_on taken (take i ls) low front.long front.noted x.party) ∙ t));
      })
