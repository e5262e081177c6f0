-- The readers of a form's fields, and what they read.
use Rattle.std.proofs.Common.{◌≡◌, ℕ, Bool, true, false, List, [], ◌∷◌, ◌++◌, ℤ, Some, None, Ok, Err, Option, Result, sym, refl, ap, ◌∙◌, subst}
use Rattle.std.specs.Str.{bytes_eq}
use Rattle.std.proofs.lemmas.Slice.Eq.{bytes_eq-Decides}
use Rattle.std.proofs.lemmas.Bool.{cond-true, cond-false}
use Rattle.market.specs.declared.names.Side.{Side}
use Rattle.market.specs.declared.names.Side.TheVariants.{Buy, Sell}
use Rattle.market.specs.declared.names.Class.{Class}
use Rattle.market.specs.declared.names.Class.TheVariants.{Customer, Other}
use Rattle.market.specs.declared.names.Mechanism.{Mechanism}
use Rattle.market.specs.declared.names.Mechanism.TheVariants.{Block, Facilitation, Solicited}
use Rattle.market.specs.Names.{side_name, class_name, mechanism_name, edge_name}
use Rattle.words.specs.Answer.{Answers}
use Rattle.words.specs.Number.{Number}
use Rattle.words.specs.Numerals.{read_number}
use Rattle.words.specs.Tokens.{Tok}
use Rattle.words.specs.Tokens as toks
use Rattle.words.specs.Place.{Placed}
use Rattle.words.proofs.Reading.{number_read, answers_some}
use Rattle.market.specs.declared.names.Edge.{Edge}
use Rattle.market.specs.declared.names.Edge.TheVariants.{Bid, Offer}
use Rattle.forms.specs.declared.trouble.Expected.{Expected}
use Rattle.forms.specs.declared.trouble.Expected.TheVariants as expected
use Rattle.forms.specs.declared.trouble.Trouble.{Trouble}
use Rattle.parse.specs.Parser.{Read, then, beside, known, named, open_of, close_of, value_of, number_of, side_of, class_of, mechanism_of, edge_of, kind_of, name_of, key_of, keyed_of, read_side, read_class, read_mechanism, read_edge, read_kind, read_name}
use Rattle.grammar.specs.Grammar.{Bare, keyed}
use Rattle.grammar.proofs.Spelling.{Spells, none, opens, closes, words, join, part, one_word, nothing_left}

pub ok_same : {A E : Type 0} (x y : A) → ◌≡◌ {A = Result A E} (Ok x) (Ok y) → x ≡ y
ok_same x y e = cc

pub never_ok : {A B E : Type 0} (t : E) (x : A) → ◌≡◌ {A = Result A E} (Err t) (Ok x) → B
never_ok t x e = cc

pub never_some : {A B : Type 0} (x : A) → ◌≡◌ {A = Option A} None (Some x) → B
never_some x e = cc

pub some_same : {A : Type 0} (x y : A) → Some x ≡ Some y → x ≡ y
some_same x y e = cc

-- what a step read, where the whole was read
pub then_ok : {A B : Type 0} (r : Read A) (k : A → List Tok → Result B Trouble) (y : B) → then r k ≡ Ok y → (x : A) × (us : List Tok) × (r ≡ Ok (x, us)) × (k x us ≡ Ok y)
then_ok (Err t) k y e = cc
then_ok (Ok x) k y e = (x.0, x.1, refl, e)

-- Reads: the reader takes what spells a value, by a text of which P tells the value, and nothing else.
pub record Reads {A : Type 0} (r : List Tok → Read A) (shape : List ℕ → A → List Bare) (P : List ℕ → A → Type 0) : Type 0 where
  pub sound : (ts us : List Tok) (x : A) → r ts ≡ Ok (x, us) → (w : List ℕ) × P w x × Spells ts (shape w x) us
  pub complete : (ts us : List Tok) (w : List ℕ) (x : A) → P w x → Spells ts (shape w x) us → r ts ≡ Ok (x, us)

-- a field in front of what is read next
pub record Step {A B : Type 0} (shape : List ℕ → A → List Bare) (P : List ℕ → A → Type 0) (ts : List Tok) (k : A → List Tok → Result B Trouble) (y : B) : Type 0 where
  pub text : List ℕ
  pub value : A
  pub left : List Tok
  pub is : P text value
  pub spelt : Spells ts (shape text value) left
  pub next : k value left ≡ Ok y

pub step : {A B : Type 0} {r : List Tok → Read A} {shape : List ℕ → A → List Bare} {P : List ℕ → A → Type 0} {ts : List Tok} {k : A → List Tok → Result B Trouble} {y : B} → Reads r shape P → then (r ts) k ≡ Ok y → Step shape P ts k y
step {r = r} {ts = ts} {k = k} {y = y} s e =
    let p = then_ok (r ts) k y e in
    let q = s.sound ts p.1 p.0 p.2 in
    record { text = q.0; value = p.0; left = p.1; is = q.1; spelt = q.2; next = p.3 }

pub follow : {A B : Type 0} {r : List Tok → Read A} {shape : List ℕ → A → List Bare} {P : List ℕ → A → Type 0} {ts us : List Tok} {bs : List Bare} {y : Result B Trouble} → Reads r shape P → (k : A → List Tok → Result B Trouble) (w : List ℕ) (x : A) → P w x → Spells ts (shape w x ++ bs) us → ((vs : List Tok) → Spells vs bs us → k x vs ≡ y) → then (r ts) k ≡ y
follow {shape = shape} {ts = ts} {bs = bs} s k w x h p next =
    let q = part (shape w x) bs p in
    ap (λ o. then o k) (s.complete ts q.0 w x h q.1) ∙ next q.0 q.2

-- no more is told of the text
abbrev pub Any : {A : Type 0} → List ℕ → A → Type 0
Any w x = Unit {0}

pub opening_read : (e : Expected) → Reads (open_of e) (λ _ _. Bare.opening ∷ []) Any
opening_read e = record { sound = go; complete = back }
  where
    go : (ts us : List Tok) (x : Unit {0}) → open_of e ts ≡ Ok (x, us) → (w : List ℕ) × Any w x × Spells ts (Bare.opening ∷ []) us
    go [] us x h = cc
    go (toks.opening c ∷ ts) us x h = ([], tt, subst (λ vs. Spells (toks.opening c ∷ ts) (Bare.opening ∷ []) vs) (λ j. (ok_same _ _ h j).1) (opens none))
    go (toks.closing c ∷ ts) us x h = cc
    go (toks.word l c w ∷ ts) us x h = cc
    go (toks.bad_byte c ∷ ts) us x h = cc
    go (toks.long_word c ∷ ts) us x h = cc
    go (toks.end l c s ∷ ts) us x h = cc

    back : (ts us : List Tok) (w : List ℕ) (x : Unit {0}) → Any w x → Spells ts (Bare.opening ∷ []) us → open_of e ts ≡ Ok (x, us)
    back ts us w x h (opens none) = refl

pub closing_read : Reads close_of (λ _ _. Bare.closing ∷ []) Any
closing_read = record { sound = go; complete = back }
  where
    go : (ts us : List Tok) (x : Unit {0}) → close_of ts ≡ Ok (x, us) → (w : List ℕ) × Any w x × Spells ts (Bare.closing ∷ []) us
    go [] us x h = cc
    go (toks.opening c ∷ ts) us x h = cc
    go (toks.closing c ∷ ts) us x h = ([], tt, subst (λ vs. Spells (toks.closing c ∷ ts) (Bare.closing ∷ []) vs) (λ j. (ok_same _ _ h j).1) (closes none))
    go (toks.word l c w ∷ ts) us x h = cc
    go (toks.bad_byte c ∷ ts) us x h = cc
    go (toks.long_word c ∷ ts) us x h = cc
    go (toks.end l c s ∷ ts) us x h = cc

    back : (ts us : List Tok) (w : List ℕ) (x : Unit {0}) → Any w x → Spells ts (Bare.closing ∷ []) us → close_of ts ≡ Ok (x, us)
    back ts us w x h (closes none) = refl

known_ok : {A : Type 0} (o : Option A) (p : Placed) (e : Expected) (ts us : List Tok) (x : A) → beside (known o p e) ts ≡ Ok (x, us) → (o ≡ Some x) × (ts ≡ us)
known_ok None p e ts us x h = cc
known_ok (Some y) p e ts us x h = let q = ok_same _ _ h in (λ j. Some (q j).0, λ j. (q j).1)

-- a word that f reads
pub value_read : {A : Type 0} (f : List ℕ → Option A) (e : Expected) (name : List ℕ → A → List ℕ) (P : List ℕ → A → Type 0) → ((w : List ℕ) (x : A) → f w ≡ Some x → (v : List ℕ) × P v x × (w ≡ name v x)) → ((w : List ℕ) (x : A) → P w x → f (name w x) ≡ Some x) → Reads (value_of f e) (λ w x. Bare.word (name w x) ∷ []) P
value_read {A} f e name P from to = record { sound = go; complete = back }
  where
    go : (ts us : List Tok) (x : A) → value_of f e ts ≡ Ok (x, us) → (w : List ℕ) × P w x × Spells ts (Bare.word (name w x) ∷ []) us
    go [] us x h = cc
    go (toks.opening c ∷ ts) us x h = cc
    go (toks.closing c ∷ ts) us x h = cc
    go (toks.word l c w ∷ ts) us x h =
        let q = known_ok (f w) (record { line = l; column = c; bytes = w }) e ts us x h in
        let v = from w x q.0 in
        (v.0, v.1, subst (λ u. Spells (toks.word l c w ∷ ts) (Bare.word u ∷ []) us) v.2 (words (subst (λ vs. Spells ts [] vs) q.1 none)))
    go (toks.bad_byte c ∷ ts) us x h = cc
    go (toks.long_word c ∷ ts) us x h = cc
    go (toks.end l c s ∷ ts) us x h = cc

    back : (ts us : List Tok) (w : List ℕ) (x : A) → P w x → Spells ts (Bare.word (name w x) ∷ []) us → value_of f e ts ≡ Ok (x, us)
    back ts us w x h p =
        let q = one_word p in
        ap (value_of f e) q.2 ∙ ap (λ o. beside (known o (record { line = q.0; column = q.1; bytes = name w x }) e) us) (to w x h)

pub number_from : (w : List ℕ) (n : ℤ) → read_number w ≡ Some n → Number w n
number_from w n e = (subst (λ o. Answers o (Number w)) e (number_read w)).0

pub number_is : (w : List ℕ) (n : ℤ) → Number w n → read_number w ≡ Some n
number_is w n r = answers_some (Number w) (read_number w) n (number_read w) r

pub number : Reads number_of (λ w _. Bare.word w ∷ []) Number
number = value_read read_number expected.Number (λ w _. w) Number (λ w x h. (w, number_from w x h, refl)) number_is

-- a word that is one of some names
named_ok : {A : Type 0} (name : A → List ℕ) (w : List ℕ) (x y : A) (o : Option A) → (o ≡ Some y → w ≡ name y) → named w (name x) x o ≡ Some y → w ≡ name y
named_ok {A} name w x y o other e = go (bytes_eq w (name x)) refl
  where
    go : (b : Bool) → bytes_eq w (name x) ≡ b → w ≡ name y
    go true h = (bytes_eq-Decides w (name x)).0 h ∙ ap name (some_same x y (sym (cond-true _ _ _ h) ∙ e))
    go false h = other (sym (cond-false _ _ _ h) ∙ e)

name_read : {A : Type 0} (f : List ℕ → Option A) (e : Expected) (name : A → List ℕ) → ((w : List ℕ) (x : A) → f w ≡ Some x → w ≡ name x) → ((x : A) → f (name x) ≡ Some x) → Reads (value_of f e) (λ _ x. Bare.word (name x) ∷ []) Any
name_read f e name from to = value_read f e (λ _ x. name x) Any (λ w x h. ([], tt, from w x h)) (λ _ x _. to x)

pub side : Reads side_of (λ _ s. Bare.word (side_name s) ∷ []) Any
side = name_read read_side expected.Side side_name (λ w y. named_ok side_name w Buy y _ (named_ok side_name w Sell y None (never_some _))) is
  where
    is : (s : Side) → read_side (side_name s) ≡ Some s
    is Buy = refl
    is Sell = refl

pub class : Reads class_of (λ _ k. Bare.word (class_name k) ∷ []) Any
class = name_read read_class expected.Class class_name (λ w y. named_ok class_name w Customer y _ (named_ok class_name w Other y None (never_some _))) is
  where
    is : (k : Class) → read_class (class_name k) ≡ Some k
    is Customer = refl
    is Other = refl

pub mechanism : Reads mechanism_of (λ _ m. Bare.word (mechanism_name m) ∷ []) Any
mechanism = name_read read_mechanism expected.Mechanism mechanism_name (λ w y. named_ok mechanism_name w Block y _ (named_ok mechanism_name w Facilitation y _ (named_ok mechanism_name w Solicited y None (never_some _)))) is
  where
    is : (m : Mechanism) → read_mechanism (mechanism_name m) ≡ Some m
    is Block = refl
    is Facilitation = refl
    is Solicited = refl

pub edge : Reads edge_of (λ _ x. Bare.word (edge_name x) ∷ []) Any
edge = name_read read_edge expected.Edge edge_name (λ w y. named_ok edge_name w Bid y _ (named_ok edge_name w Offer y None (never_some _))) is
  where
    is : (x : Edge) → read_edge (edge_name x) ≡ Some x
    is Bid = refl
    is Offer = refl

-- the words that a form is known by, as they are read
pub kind : Reads kind_of (λ w _. Bare.word w ∷ []) (λ w k. read_kind w ≡ Some k)
kind = value_read read_kind expected.Kind (λ w _. w) (λ w k. read_kind w ≡ Some k) (λ w x h. (w, h, refl)) (λ w x h. h)

pub name : Reads name_of (λ w _. Bare.word w ∷ []) (λ w n. read_name w ≡ Some n)
name = value_read read_name expected.Name (λ w _. w) (λ w n. read_name w ≡ Some n) (λ w x h. (w, h, refl)) (λ w x h. h)

-- one name after another
pub either_name : {A B C : Type 0} {w k : List ℕ} {x y : A} {o : Option A} {r : B} (g : A → B) → named w k x o ≡ Some y → g y ≡ r → (w ≡ k → g x ≡ r → C) → (o ≡ Some y → C) → C
either_name {A} {B} {C} {w} {k} {x} {y} g e q here on = go (bytes_eq w k) refl
  where
    go : (b : Bool) → bytes_eq w k ≡ b → C
    go true h = here ((bytes_eq-Decides w k).0 h) (ap g (some_same x y (sym (cond-true _ _ _ h) ∙ e)) ∙ q)
    go false h = on (sym (cond-false _ _ _ h) ∙ e)

key : (k : List ℕ) (e : Expected) → Reads (key_of k e) (λ _ _. Bare.word k ∷ []) Any
key k e = name_read (λ w. named w k tt None) e (λ _. k) (λ w y. named_ok (λ _. k) w tt y None (never_some _)) (λ _. cond-true _ _ _ ((bytes_eq-Decides k k).1 refl))

-- (KEY N)
pub key_number : (k : List ℕ) (e : Expected) → Reads (keyed_of k e) (λ w _. keyed k w []) Number
key_number k e = record { sound = go; complete = back }
  where
    go : (ts us : List Tok) (x : ℤ) → keyed_of k e ts ≡ Ok (x, us) → (w : List ℕ) × Number w x × Spells ts (keyed k w []) us
    go ts us x h =
        let a = step (opening_read expected.Opening) h in
        let b = step (key k e) a.next in
        let n = step number b.next in
        let c = step closing_read n.next in
        let q = ok_same _ _ c.next in
        (n.text, subst (Number n.text) (λ j. (q j).0) n.is, join a.spelt (join b.spelt (join n.spelt (subst (λ vs. Spells n.left (Bare.closing ∷ []) vs) (λ j. (q j).1) c.spelt))))

    back : (ts us : List Tok) (w : List ℕ) (x : ℤ) → Number w x → Spells ts (keyed k w []) us → keyed_of k e ts ≡ Ok (x, us)
    back ts us w x h p =
        follow (opening_read expected.Opening) _ [] tt tt p
        (λ _ p1. follow (key k e) _ [] tt tt p1
        (λ _ p2. follow number _ w x h p2
        (λ _ p3. follow closing_read _ [] tt tt p3 (λ _ p4. ap (λ vs. Ok (x, vs)) (nothing_left p4)))))
