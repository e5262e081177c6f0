-- Who stands: nobody twice, and the contra apart.
use Rattle.std.proofs.Common.{◌≡◌, ℕ, zero, suc, ◌+◌, ◌≤◌, min, true, false, cond, not, ◌&&◌, ◌||◌, ◌⊎◌, List, [], ◌∷◌, ◌++◌, map, length, Some, sym, refl, ap, ◌∙◌, inl, inr, ⊎_elim, arith}
use Rattle.std.specs.List.{AllByRecursion, slice_get}
use Rattle.std.proofs.ByRecursion.{All-weaker}
use Rattle.std.proofs.lemmas.List.Recursion.{or_push}
use Rattle.std.proofs.lemmas.Option.{slice_get-map}
use Rattle.std.specs.Option.{option_map}
use Rattle.std.proofs.lemmas.Bool.{cond_both, and_parts, or_parts, not-true, ne_eqb, cases_lt}
use Rattle.std.proofs.lemmas.Bool.Decides.{nat_tests}
use Rattle.market.specs.Limits.{most_entries}
use Rattle.market.specs.Lists.{up_to}
use Rattle.market.specs.declared.fill.Party.{Party}
use Rattle.market.specs.declared.fill.Party.TheVariants.{Entry, Response, Contra}
use Rattle.auction.specs.declared.order.Order.{Order}
use Rattle.auction.specs.declared.line.Line.{Line}
use Rattle.auction.specs.Limits.{most_members, most_slots}
use Rattle.auction.specs.Gains.{is_pooled}
use Rattle.auction.specs.Lines.{same_party, counted, has_line, may_stand, next_place, in_line_from, stands_in_line}
use Rattle.auction.specs.Promises.{CountedSize, ReservedShare}
use Rattle.auction.proofs.Noting.{Apart, Others, same_back}

-- one who may stand behind lines, where entries stand from the place low on
abbrev Beyond : ℕ → List Line → Party → Type 0
Beyond low before (Entry place) = low ≤ place
Beyond low before (Response m s) = has_line (Response m s) before ≡ false
Beyond low before Contra = ⊥

pub has_push : (p : Party) (xs : List Line) (y : Line) → has_line p (xs ++ y ∷ []) ≡ has_line p xs || same_party p y.party
has_push p = or_push (has_line p) (λ (y : Line). same_party p y.party) refl (λ _ _. refl)

-- who has no line among these and one more has none among these, and is not the one
none_pushed : (p : Party) (xs : List Line) (y : Line) → has_line p (xs ++ y ∷ []) ≡ false → (has_line p xs ≡ false) × (same_party p y.party ≡ false)
none_pushed p xs y h = or_parts (has_line p xs) (same_party p y.party) (sym (has_push p xs y) ∙ h)

-- one who may stand is beyond what stands
stands_beyond : (low : ℕ) (before : List Line) (p : Party) → may_stand low before p ≡ true → Beyond low before p
stands_beyond low before (Entry place) h = grind (arith, nat_tests)
stands_beyond low before (Response m s) h =
    not-true (has_line (Response m s) before) (and_parts (up_to most_members m && up_to most_slots s) (not (has_line (Response m s) before)) h).1
stands_beyond low before Contra h = cc

-- where a party stands next, those beyond it are beyond what was before it
next_high : (low : ℕ) (before : List Line) (p : Party) → low ≤ most_entries + 1 → may_stand low before p ≡ true → (low ≤ next_place p) × (next_place p ≤ most_entries + 1)
next_high low before (Entry place) l h = grind (arith, nat_tests)
next_high low before (Response m s) l h = (l, omega arith)
next_high low before Contra l h = (l, omega arith)

beyond_more : (low high : ℕ) (before : List Line) (x : Line) (p : Party) → low ≤ high → Beyond high (before ++ x ∷ []) p → Beyond low before p
beyond_more low high before x (Entry place) l h = omega arith
beyond_more low high before x (Response m s) l h = (none_pushed (Response m s) before x h).0
beyond_more low high before x Contra l h = h

beyond_all : (low : ℕ) (before ls : List Line) → low ≤ most_entries + 1 → in_line_from low before ls ≡ true → AllByRecursion (λ k. Beyond low before k.party) ls
beyond_all low before [] l h = tt
beyond_all low before (x ∷ ls) l h =
    let t = and_parts (may_stand low before x.party) (in_line_from (next_place x.party) (before ++ x ∷ []) ls) h in
    let n = next_high low before x.party l t.0 in
    let later = beyond_all (next_place x.party) (before ++ x ∷ []) ls n.1 t.1 in (
      stands_beyond low before x.party t.0,
      All-weaker (λ k. Beyond (next_place x.party) (before ++ x ∷ []) k.party) (λ k. Beyond low before k.party) (λ k b. beyond_more low (next_place x.party) before x k.party n.0 b) ls later,
    )

-- one beyond the next place is somebody else
beyond_other : (before : List Line) (x : Line) (p q : Party) → x.party ≡ p → Beyond (next_place p) (before ++ x ∷ []) q → same_party p q ≡ false
beyond_other before x (Entry a) (Entry b) e h = ne_eqb a b (λ z. omega arith)
beyond_other before x (Entry a) (Response m s) e h = refl
beyond_other before x (Entry a) Contra e h = refl
beyond_other before x (Response m s) (Entry b) e h = refl
beyond_other before x (Response m s) (Response n t) e h =
    same_back (Response m s) (Response n t) ∙ ap (same_party (Response n t)) (sym e) ∙ (none_pushed (Response n t) before x h).1
beyond_other before x (Response m s) Contra e h = refl
beyond_other before x Contra (Entry b) e h = refl
beyond_other before x Contra (Response n t) e h = refl
beyond_other before x Contra Contra e h = absurd h

apart_from : (low : ℕ) (before ls : List Line) → low ≤ most_entries + 1 → in_line_from low before ls ≡ true → Apart ls
apart_from low before [] l h = tt
apart_from low before (x ∷ ls) l h =
    let t = and_parts (may_stand low before x.party) (in_line_from (next_place x.party) (before ++ x ∷ []) ls) h in
    let n = next_high low before x.party l t.0 in
    let later = beyond_all (next_place x.party) (before ++ x ∷ []) ls n.1 t.1 in (
      All-weaker (λ k. Beyond (next_place x.party) (before ++ x ∷ []) k.party) (λ k. same_party x.party k.party ≡ false) (λ k b. beyond_other before x x.party k.party refl b) ls later,
      apart_from (next_place x.party) (before ++ x ∷ []) ls n.1 t.1,
    )

-- nobody has two lines
pub apart : (ls : List Line) → stands_in_line ls ≡ true → Apart ls
apart ls h = apart_from 1 [] ls (omega arith) h

beyond_contra : (low : ℕ) (before : List Line) (p : Party) → Beyond low before p → same_party Contra p ≡ false
beyond_contra low before (Entry b) h = refl
beyond_contra low before (Response n t) h = refl
beyond_contra low before Contra h = absurd h

-- and the contra has none
pub no_contra : (ls : List Line) → stands_in_line ls ≡ true → Others Contra ls
no_contra ls h = All-weaker (λ k. Beyond 1 [] k.party) (λ k. same_party Contra k.party ≡ false) (λ k b. beyond_contra 1 [] k.party b) ls (beyond_all 1 [] ls (omega arith) h)

-- a line counts in full, or as the whole order
pub counted_either : (o : Order) (l : Line) → (counted o l ≡ l.size) ⊎ (counted o l ≡ o.size)
counted_either o l =
    cond_both (is_pooled l.party) l.size (min l.size o.size) (λ n. (n ≡ l.size) ⊎ (n ≡ o.size)) (λ _. inl refl)
    (λ _. ⊎_elim (λ u. inl (omega arith)) (λ u. inr (omega arith)) (cases_lt l.size o.size))

pub counted_within : (o : Order) (l : Line) → counted o l ≤ l.size
counted_within o l = cond_both (is_pooled l.party) l.size (min l.size o.size) (λ n. n ≤ l.size) (λ _. omega arith) (λ _. omega arith)

-- Places of lists.
pub nth_more : {X : Type 0} (xs ys : List X) (i : ℕ) (x : X) → slice_get xs i ≡ Some x → slice_get (xs ++ ys) i ≡ Some x
nth_more [] ys i x e = cc
nth_more (y ∷ xs) ys zero x e = e
nth_more (y ∷ xs) ys (suc i) x e = nth_more xs ys i x e

pub nth_last : {X : Type 0} (xs : List X) (y : X) → slice_get (xs ++ y ∷ []) (length xs) ≡ Some y
nth_last [] y = refl
nth_last (x ∷ xs) y = nth_last xs y

pub nth_mapped : {X Y : Type 0} (f : X → Y) (xs : List X) (i : ℕ) (x : X) → slice_get xs i ≡ Some x → slice_get (map f xs) i ≡ Some (f x)
nth_mapped f xs i x e = slice_get-map f xs i ∙ ap (option_map f) e

-- one more at the end: it was there, or is the last
pub nth_either : {X : Type 0} (xs : List X) (y : X) (i : ℕ) (x : X) → slice_get (xs ++ y ∷ []) i ≡ Some x → (slice_get xs i ≡ Some x) ⊎ (y ≡ x)
nth_either [] y zero x e = inr (let s : y ≡ x = cc in s)
nth_either [] y (suc i) x e = cc
nth_either (z ∷ xs) y zero x e = inl e
nth_either (z ∷ xs) y (suc i) x e = nth_either xs y i x e

-- what counts of a line
pub counted_size : (o : Order) (k : Line) → CountedSize o k
counted_size o k = record {
  pooled = λ p. ap (λ b. cond b k.size (min k.size o.size)) p;
  response = λ p. ap (λ b. cond b k.size (min k.size o.size)) p;
}

-- the reserved share is the reserve, rounded up
pub reserved_share : (o : Order) → ReservedShare o
reserved_share o = record { enough = omega arith; least = omega arith }
