-- The lists in a form: items up to a closing bracket.
use Rattle.std.proofs.Common.{◌≡◌, ℕ, zero, suc, ◌<◌, ◌≤◌, List, [], ◌∷◌, ◌++◌, length, ℤ, Some, None, Ok, Err, Option, sym, refl, ap, ◌∙◌, subst, append_assoc, arith, length-append}
use Rattle.market.specs.Names.{side_name}
use Rattle.words.specs.Number.{Number}
use Rattle.words.specs.Numerals.{read_number}
use Rattle.words.specs.Place.{Placed}
use Rattle.words.specs.Tokens.{Tok}
use Rattle.words.specs.Tokens as toks
use Rattle.market.specs.declared.names.Leg.{Leg}
use Rattle.forms.specs.declared.trouble.Expected.{Expected}
use Rattle.forms.specs.declared.trouble.Expected.TheVariants as expected
use Rattle.parse.specs.Parser.{Read, seen, beside, known, size_of, next_leg_of, onto, up_to, items_of}
use Rattle.parse.specs.Parser as parser
use Rattle.grammar.specs.Grammar.{Bare, keyed, Numbers, Legs}
use Rattle.grammar.proofs.Spelling.{Spells, opens, closes, words, join, one_word, nothing_left, spelt_length}
use Rattle.grammar.proofs.Spelling as spelling
use Rattle.grammar.proofs.Fields.{ok_same, Reads, step, follow, closing_read, number, number_from, number_is, side}

-- an item, or the closing bracket behind the last
abbrev pub or_closing : {A : Type 0} → (List ℕ → A → List Bare) → List ℕ → Option A → List Bare
or_closing shape w None = Bare.closing ∷ []
or_closing shape w (Some x) = shape w x

abbrev pub OrDone : {A : Type 0} → (List ℕ → A → Type 0) → List ℕ → Option A → Type 0
OrDone P w None = Unit {0}
OrDone P w (Some x) = P w x

pub data Items {A : Type 0} (shape : List ℕ → A → List Bare) (P : List ℕ → A → Type 0) : List Bare → List A → Type 0 where
  none : Items shape P [] []
  more : {w : List ℕ} {x : A} {bs : List Bare} {xs : List A} → P w x → Items shape P bs xs → Items shape P (shape w x ++ bs) (x ∷ xs)

onto_ok : {A : Type 0} (x : A) (r : Read (List A)) (xs : List A) (us : List Tok) → onto (x ∷ []) r ≡ Ok (xs, us) → (ys : List A) × (r ≡ Ok (ys, us)) × (x ∷ ys ≡ xs)
onto_ok x (Err t) xs us e = cc
onto_ok x (Ok r) xs us e = let q = ok_same _ _ e in (r.0, (λ j. Ok (r.0, (q j).1)), λ j. (q j).0)

items_sound : {A : Type 0} {r : List Tok → Read (Option A)} {shape : List ℕ → A → List Bare} {P : List ℕ → A → Type 0} → Reads r (or_closing shape) (OrDone P) → (n : ℕ) (ts us : List Tok) (xs : List A) → up_to r n ts ≡ Ok (xs, us) → (bs : List Bare) × Items shape P bs xs × Spells ts (bs ++ Bare.closing ∷ []) us
items_sound s zero ts us xs e = cc
items_sound {A} {r} {shape} {P} s (suc n) ts us xs e = let a = step s e in go (items_sound s n) a.text a.value a.left a.is a.spelt a.next
  where
    go : ((vs zs : List Tok) (ys : List A) → up_to r n vs ≡ Ok (ys, zs) → (bs : List Bare) × Items shape P bs ys × Spells vs (bs ++ Bare.closing ∷ []) zs) → (w : List ℕ) (o : Option A) (vs : List Tok) → OrDone P w o → Spells ts (or_closing shape w o) vs → parser.more o vs (up_to r n) ≡ Ok (xs, us) → (bs : List Bare) × Items shape P bs xs × Spells ts (bs ++ Bare.closing ∷ []) us
    go ih w None vs h p e =
        let q = ok_same _ _ e in
        ([], subst (Items shape P []) (λ j. (q j).0) none, subst (Spells ts (Bare.closing ∷ [])) (λ j. (q j).1) p)
    go ih w (Some x) vs h p e =
        let q = onto_ok x (up_to r n vs) xs us e in
        let i = ih vs us q.0 q.1 in
        (shape w x ++ i.0, subst (Items shape P (shape w x ++ i.0)) q.2 (more h i.1), rw append_assoc (join p i.2))

items_complete : {A : Type 0} {r : List Tok → Read (Option A)} {shape : List ℕ → A → List Bare} {P : List ℕ → A → Type 0} → Reads r (or_closing shape) (OrDone P) → ((w : List ℕ) (x : A) → 1 ≤ length (shape w x)) → {bs : List Bare} {xs : List A} → Items shape P bs xs → (n : ℕ) (ts us : List Tok) → length bs < n → Spells ts (bs ++ Bare.closing ∷ []) us → up_to r n ts ≡ Ok (xs, us)
items_complete s some none zero ts us l p = absurd (omega arith)
items_complete s some none (suc n) ts us l p = follow s _ [] None tt p (λ vs q. ap (λ t. Ok ([], t)) (nothing_left q))
items_complete s some (more h i) zero ts us l p = absurd (omega arith)
items_complete {shape = shape} s some (more {w = w} {x = x} {bs = bs} {xs = xs} h i) (suc n) ts us l p =
    follow s _ w (Some x) h (rw append_assoc at p)
    (λ vs q. ap (onto (x ∷ [])) (items_complete s some i n vs us (omega (arith, some w x, length-append (shape w x) bs)) q))

-- The list reader of r takes what R tells of, and the closing bracket.
pub record ReadsAll {A : Type 0} (r : List Tok → Read (Option A)) (R : List Bare → List A → Type 0) : Type 0 where
  pub sound : (ts us : List Tok) (xs : List A) → items_of r ts ≡ Ok (xs, us) → (bs : List Bare) × R bs xs × Spells ts (bs ++ Bare.closing ∷ []) us
  pub complete : (ts us : List Tok) (bs : List Bare) (xs : List A) → R bs xs → Spells ts (bs ++ Bare.closing ∷ []) us → items_of r ts ≡ Ok (xs, us)

reads_all : {A : Type 0} {r : List Tok → Read (Option A)} {shape : List ℕ → A → List Bare} {P : List ℕ → A → Type 0} (R : List Bare → List A → Type 0) → Reads r (or_closing shape) (OrDone P) → ((w : List ℕ) (x : A) → 1 ≤ length (shape w x)) → ((bs : List Bare) (xs : List A) → Items shape P bs xs → R bs xs) → ((bs : List Bare) (xs : List A) → R bs xs → Items shape P bs xs) → ReadsAll r R
reads_all R s some from to = record {
  sound = λ ts us xs e. let p = items_sound s (suc (length ts)) ts us xs e in (p.0, from p.0 xs p.1, p.2);
  complete = λ ts us bs xs h p. items_complete s some (to bs xs h) (suc (length ts)) ts us (omega (arith, spelt_length p, length-append bs (Bare.closing ∷ []))) p;
}

known_some : (o : Option ℤ) (w : Placed) (e : Expected) (ts us : List Tok) (x : Option ℤ) → beside (seen Some (known o w e)) ts ≡ Ok (x, us) → (n : ℤ) × (o ≡ Some n) × (x ≡ Some n) × (ts ≡ us)
known_some None w e ts us x h = cc
known_some (Some n) w e ts us x h = let q = ok_same _ _ h in (n, refl, (λ j. (sym q j).0), λ j. (q j).1)

size : Reads size_of (or_closing (λ w _. Bare.word w ∷ [])) (OrDone Number)
size = record { sound = go; complete = back }
  where
    go : (ts us : List Tok) (x : Option ℤ) → size_of ts ≡ Ok (x, us) → (w : List ℕ) × OrDone Number w x × Spells ts (or_closing (λ w _. Bare.word w ∷ []) w x) us
    go [] us x h = cc
    go (toks.opening c ∷ ts) us x h = cc
    go (toks.closing c ∷ ts) us x h =
        let q = ok_same _ _ h in
        subst (λ y. (w : List ℕ) × OrDone Number w y × Spells (toks.closing c ∷ ts) (or_closing (λ w _. Bare.word w ∷ []) w y) us) (λ j. (q j).0) ([], tt, closes (subst (λ vs. Spells ts [] vs) (λ j. (q j).1) spelling.none))
    go (toks.word l c v ∷ ts) us x h =
        let q = known_some (read_number v) (record { line = l; column = c; bytes = v }) expected.Size ts us x h in
        subst (λ y. (w : List ℕ) × OrDone Number w y × Spells (toks.word l c v ∷ ts) (or_closing (λ w _. Bare.word w ∷ []) w y) us) (sym q.2) (v, number_from v q.0 q.1, words (subst (λ vs. Spells ts [] vs) q.3 spelling.none))
    go (toks.bad_byte c ∷ ts) us x h = cc
    go (toks.long_word c ∷ ts) us x h = cc
    go (toks.end l c s ∷ ts) us x h = cc

    back : (ts us : List Tok) (w : List ℕ) (x : Option ℤ) → OrDone Number w x → Spells ts (or_closing (λ w _. Bare.word w ∷ []) w x) us → size_of ts ≡ Ok (x, us)
    back ts us w None h (closes spelling.none) = refl
    back ts us w (Some n) h p =
        let q = one_word p in
        ap size_of q.2 ∙ ap (λ o. beside (seen Some (known o (record { line = q.0; column = q.1; bytes = w }) expected.Size)) us) (number_is w n h)

abbrev leg_shape : List ℕ → Leg → List Bare
leg_shape w g = keyed (side_name g.side) w []

abbrev LegIs : List ℕ → Leg → Type 0
LegIs w g = Number w g.ratio

leg : Reads next_leg_of (or_closing leg_shape) (OrDone LegIs)
leg = record { sound = go; complete = back }
  where
    go : (ts us : List Tok) (x : Option Leg) → next_leg_of ts ≡ Ok (x, us) → (w : List ℕ) × OrDone LegIs w x × Spells ts (or_closing leg_shape w x) us
    go [] us x h = cc
    go (toks.opening c ∷ ts) us x h =
        let a = step side h in
        let b = step number a.next in
        let d = step closing_read b.next in
        let q = ok_same _ _ d.next in
        subst (λ y. (w : List ℕ) × OrDone LegIs w y × Spells (toks.opening c ∷ ts) (or_closing leg_shape w y) us) (λ j. (q j).0)
        (b.text, b.is, opens (join a.spelt (join b.spelt (subst (Spells b.left (Bare.closing ∷ [])) (λ j. (q j).1) d.spelt))))
    go (toks.closing c ∷ ts) us x h =
        let q = ok_same _ _ h in
        subst (λ y. (w : List ℕ) × OrDone LegIs w y × Spells (toks.closing c ∷ ts) (or_closing leg_shape w y) us) (λ j. (q j).0) ([], tt, closes (subst (λ vs. Spells ts [] vs) (λ j. (q j).1) spelling.none))
    go (toks.word l c v ∷ ts) us x h = cc
    go (toks.bad_byte c ∷ ts) us x h = cc
    go (toks.long_word c ∷ ts) us x h = cc
    go (toks.end l c s ∷ ts) us x h = cc

    back : (ts us : List Tok) (w : List ℕ) (x : Option Leg) → OrDone LegIs w x → Spells ts (or_closing leg_shape w x) us → next_leg_of ts ≡ Ok (x, us)
    back ts us w None h (closes spelling.none) = refl
    back ts us w (Some g) h (opens p) =
        follow side _ [] g.side tt p
        (λ _ p1. follow number _ w g.ratio h p1
        (λ _ p2. follow closing_read _ [] tt tt p2 (λ _ p3. ap (λ vs. Ok (Some g, vs)) (nothing_left p3))))

pub sizes : ReadsAll size_of Numbers
sizes = reads_all Numbers size (λ w x. omega arith) (λ _ _. from) (λ _ _. to)
  where
    from : {bs : List Bare} {ns : List ℤ} → Items (λ w _. Bare.word w ∷ []) Number bs ns → Numbers bs ns
    from none = Numbers.none
    from (more h i) = Numbers.more h (from i)

    to : {bs : List Bare} {ns : List ℤ} → Numbers bs ns → Items (λ w _. Bare.word w ∷ []) Number bs ns
    to Numbers.none = none
    to (Numbers.more h i) = more h (to i)

pub legs : ReadsAll next_leg_of Legs
legs = reads_all Legs leg (λ w x. omega arith) (λ _ _. from) (λ _ _. to)
  where
    from : {bs : List Bare} {ls : List Leg} → Items leg_shape LegIs bs ls → Legs bs ls
    from none = Legs.none
    from (more h i) = Legs.more h (from i)

    to : {bs : List Bare} {ls : List Leg} → Legs bs ls → Items leg_shape LegIs bs ls
    to Legs.none = none
    to (Legs.more h i) = more h (to i)
