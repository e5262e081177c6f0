-- A form's spelling says that form.
use Rattle.std.proofs.Common.{◌≡◌, ℕ, zero, suc, ◌+◌, ◌-◌, ◌*◌, ◌^◌, ◌<◌, ◌≤◌, Bool, true, false, ◌&&◌, leb, List, [], ◌∷◌, ◌++◌, map, length, ℤ, pos, neg_ℤ, codes, Decides, sym, refl, ap, ◌∙◌, subst, append_assoc, arith, rules}
use Rattle.std.specs.Fmt as written
use Rattle.std.specs.Fmt.{signed_decimal}
use Rattle.std.specs.List.{AllByRecursion}
use Rattle.std.proofs.lemmas.Fmt.{decimal-digits_value, decimal_digit}
use Rattle.std.proofs.lemmas.Str.Parse.{IsNumeralModel, numerals_by_fold, digits_value_short}
use Rattle.std.proofs.lemmas.Bool.{leb-true, le-leb}
use Rattle.std.proofs.lemmas.Bool.Decides.{nat_tests, Decides-and}
use Rattle.std.proofs.ByRecursion.{Decides-by_and}
use Rattle.market.specs.declared.names.Class.{Class}
use Rattle.market.specs.declared.names.Class.TheVariants.{Customer, Other}
use Rattle.market.specs.declared.names.Mechanism.{Mechanism}
use Rattle.market.specs.declared.names.Mechanism.TheVariants.{Block, Facilitation, Solicited}
use Rattle.market.specs.declared.names.Side.{Side}
use Rattle.market.specs.declared.names.Side.TheVariants.{Buy, Sell}
use Rattle.market.specs.Names.{side_name, class_name, mechanism_name, edge_name}
use Rattle.words.specs.Bytes.{word_byte, begins}
use Rattle.words.specs.Number.{decimal, Digit, Numeral, numeral, Number, nought, plain, minus}
use Rattle.words.specs.Place.{Placed}
use Rattle.market.specs.declared.names.Edge.{Edge}
use Rattle.market.specs.declared.names.Edge.TheVariants.{Bid, Offer}
use Rattle.market.specs.declared.names.Leg.{Leg}
use Rattle.forms.specs.Shapes.{Shape}
use Rattle.forms.specs.Spelled.{legs_text, more_text, numbers_text, response_text, terms_text, spelling}
use Rattle.grammar.specs.Grammar.{Piece, Pieces, Bare, bare, Numbers, Legs, Writes, Says, states, words_of, keyed, series, net, quote, rest, away, enter, respond, amend, delete, settle, halt}

-- the number that digits write, in the library's words
own : IsNumeralModel (AllByRecursion Digit) (decimal 0)
own = numerals_by_fold (AllByRecursion Digit) (search rules) decimal (search rules)

from_nought : (d : ℕ) (ds : List ℕ) → decimal 0 (d ∷ ds) ≡ decimal (d - 48) ds
from_nought d ds = ap (λ n. decimal n ds) (let e : 0 * 10 + (d - 48) ≡ d - 48 = omega arith in e)

numeral_canon : {w : List ℕ} {n : ℕ} → Numeral w n → w ≡ written.decimal n
numeral_canon (numeral {d = d} {ds = ds} lo hi all few) =
    let a : AllByRecursion Digit (d ∷ ds) = ((omega arith, hi), all) in
    let small : decimal 0 (d ∷ ds) < 10 ^ 13 = digits_value_short own (d ∷ ds) 13 a (omega arith) in
    sym (decimal-digits_value own (d ∷ ds) a (omega arith) (λ e. omega arith) (omega arith)) ∙ ap written.decimal (from_nought d ds)

grows : (n : ℕ) (ds : List ℕ) → 1 ≤ n → 1 ≤ decimal n ds
grows n [] h = h
grows n (d ∷ ds) h = grows (n * 10 + (d - 48)) ds (omega arith)

numeral_some : {w : List ℕ} {n : ℕ} → Numeral w n → 1 ≤ n
numeral_some (numeral {d = d} {ds = ds} lo hi all few) = grows (d - 48) ds (omega arith)

-- a number has one spelling
pub canon : {x : List ℕ} {n : ℤ} → Number x n → x ≡ signed_decimal n
canon nought = sym (decimal_digit 0 (omega arith))
canon (plain r) = numeral_canon r
canon (minus {ds = ds} {n = n} r) = go n (numeral_some r) (numeral_canon r)
  where
    go : (n : ℕ) → 1 ≤ n → ds ≡ written.decimal n → 45 ∷ ds ≡ signed_decimal (neg_ℤ (pos n))
    go zero h e = absurd (omega arith)
    go (suc n) h e = ap (λ l. 45 ∷ l) e

-- what may stand as a word
record Fit (w : List ℕ) : Type 0 where
  some : 1 ≤ length w
  few : length w ≤ 16
  bytes : AllByRecursion (λ b. word_byte b ≡ true) w

digit_byte : (d : ℕ) → Digit d → word_byte d ≡ true
digit_byte d h = grind (arith, nat_tests)

digit_bytes : (ds : List ℕ) → AllByRecursion Digit ds → AllByRecursion (λ b. word_byte b ≡ true) ds
digit_bytes [] a = tt
digit_bytes (d ∷ ds) a = (digit_byte d a.0, digit_bytes ds a.1)

numeral_fit : {w : List ℕ} {n : ℕ} → Numeral w n → (1 ≤ length w) × (length w ≤ 13) × AllByRecursion (λ b. word_byte b ≡ true) w
numeral_fit (numeral {d = d} {ds = ds} lo hi all few) = (omega arith, omega arith, (digit_byte d (omega arith, hi), digit_bytes ds all))

number_fit : {x : List ℕ} {n : ℤ} → Number x n → Fit x
number_fit nought = record { some = omega arith; few = omega arith; bytes = (refl, tt) }
number_fit (plain r) = let p = numeral_fit r in record { some = p.0; few = omega (arith, p.1); bytes = p.2 }
number_fit (minus r) = let p = numeral_fit r in record { some = omega arith; few = omega (arith, p.1); bytes = (refl, p.2) }

-- these bytes are these brackets and words, wherever they stand
abbrev Spelt : List ℕ → List Bare → Type 0
Spelt s bs = (l c : ℕ) → (ps : List Piece) × Pieces l c s ps × (map bare ps ≡ bs)

done : Spelt [] []
done l c = ([], Pieces.end, refl)

space : {s : List ℕ} {bs : List Bare} → Spelt s bs → Spelt (32 ∷ s) bs
space h l c = let p = h l (c + 1) in (p.0, Pieces.space p.1, p.2)

opens : {s : List ℕ} {bs : List Bare} → Spelt s bs → Spelt (40 ∷ s) (Bare.opening ∷ bs)
opens h l c = let p = h l (c + 1) in (Piece.opening ∷ p.0, Pieces.opens p.1, ap (λ x. Bare.opening ∷ x) p.2)

closes : {s : List ℕ} {bs : List Bare} → Spelt s bs → Spelt (41 ∷ s) (Bare.closing ∷ bs)
closes h l c = let p = h l (c + 1) in (Piece.closing ∷ p.0, Pieces.closes p.1, ap (λ x. Bare.closing ∷ x) p.2)

wordy : {s : List ℕ} {bs : List Bare} (w : List ℕ) → Fit w → begins s ≡ false → Spelt s bs → Spelt (w ++ s) (Bare.word w ∷ bs)
wordy w f b h l c = let p = h l (c + length w) in (Piece.word (record { line = l; column = c; bytes = w }) ∷ p.0, Pieces.words f.some f.few f.bytes b p.1, ap (λ x. Bare.word w ∷ x) p.2)

-- a number's word, as it is spelled
figure : {s x : List ℕ} {n : ℤ} {bs : List Bare} → Number x n → begins s ≡ false → Spelt s bs → Spelt (signed_decimal n ++ s) (Bare.word x ∷ bs)
figure {s} {x} {n} {bs} r b h = subst (λ w. Spelt (w ++ s) (Bare.word x ∷ bs)) (canon r) (wordy x (number_fit r) b h)

-- a word that is given: by computation
abbrev all_bytes : List ℕ → Bool
all_bytes [] = true
all_bytes (b ∷ bs) = word_byte b && all_bytes bs

decides_bytes : (w : List ℕ) → Decides (all_bytes w) (AllByRecursion (λ b. word_byte b ≡ true) w)
decides_bytes = Decides-by_and word_byte (λ b. word_byte b ≡ true) all_bytes (λ b. (λ e. e, λ e. e)) refl (λ _ _. refl)

fit : (w : List ℕ) → (leb 1 (length w) && (leb (length w) 16 && all_bytes w)) ≡ true → Fit w
fit w e =
    let p = (Decides-and _ _ (leb-true 1 (length w), le-leb 1 (length w)) (Decides-and _ _ (leb-true (length w) 16, le-leb (length w) 16) (decides_bytes w))).0 e in
    record { some = p.0; few = p.1.0; bytes = p.1.1 }

side_fit : (s : Side) → Fit (side_name s)
side_fit Buy = fit _ refl
side_fit Sell = fit _ refl

edge_fit : (s : Edge) → Fit (edge_name s)
edge_fit Bid = fit _ refl
edge_fit Offer = fit _ refl

mechanism_fit : (m : Mechanism) → Fit (mechanism_name m)
mechanism_fit Block = fit _ refl
mechanism_fit Facilitation = fit _ refl
mechanism_fit Solicited = fit _ refl

class_fit : (s : Class) → Fit (class_name s)
class_fit Customer = fit _ refl
class_fit Other = fit _ refl

legs_spelt : {ws : List Bare} {ls : List Leg} (s : List ℕ) (bs : List Bare) → Legs ws ls → Spelt s bs → Spelt (legs_text ls ++ s) (ws ++ bs)
legs_spelt s bs Legs.none h = h
legs_spelt s bs (Legs.more {s = side} {x = x} {n = n} {ws = ws} {ls = ls} r p) h =
    let text : codes " (" ++ (side_name side ++ (codes " " ++ (signed_decimal n ++ (codes ")" ++ (legs_text ls ++ s))))) ≡ legs_text (record { side = side; ratio = n } ∷ ls) ++ s = sym (simp append_assoc) in
    subst (λ l. Spelt l (keyed (side_name side) x (ws ++ bs))) text
    (space (opens (wordy (side_name side) (side_fit side) refl (space (figure r refl (closes (legs_spelt s bs p h)))))))

more_spelt : {ws : List Bare} {ns : List ℤ} (s : List ℕ) (bs : List Bare) → begins s ≡ false → Numbers ws ns → Spelt s bs → (begins (more_text ns ++ s) ≡ false) × Spelt (more_text ns ++ s) (ws ++ bs)
more_spelt s bs b Numbers.none h = (b, h)
more_spelt s bs b (Numbers.more {x = x} {n = n} {ws = ws} {ns = ns} r p) h =
    let i = more_spelt s bs b p h in
    (refl, subst (λ l. Spelt (32 ∷ l) (Bare.word x ∷ (ws ++ bs))) (sym (append_assoc (signed_decimal n) (more_text ns) s)) (space (figure r i.0 i.1)))

numbers_spelt : {ws : List Bare} {ns : List ℤ} (s : List ℕ) (bs : List Bare) → begins s ≡ false → Numbers ws ns → Spelt s bs → Spelt (numbers_text ns ++ s) (ws ++ bs)
numbers_spelt s bs b Numbers.none h = h
numbers_spelt s bs b (Numbers.more {x = x} {n = n} {ws = ws} {ns = ns} r p) h =
    let i = more_spelt s bs b p h in
    subst (λ l. Spelt l (Bare.word x ∷ (ws ++ bs))) (sym (append_assoc (signed_decimal n) (more_text ns) s)) (figure r i.0 i.1)

-- a word that is given, behind which a space or a bracket comes
named : {s : List ℕ} {bs : List Bare} (w : List ℕ) → (leb 1 (length w) && (leb (length w) 16 && all_bytes w)) ≡ true → begins s ≡ false → Spelt s bs → Spelt (w ++ s) (Bare.word w ∷ bs)
named w e b h = wordy w (fit w e) b h

-- (KEY N)
key_spelt : {s x : List ℕ} {n : ℤ} {bs : List Bare} (w : List ℕ) → (leb 1 (length w) && (leb (length w) 16 && all_bytes w)) ≡ true → Number x n → Spelt s bs → Spelt (40 ∷ (w ++ (32 ∷ (signed_decimal n ++ (41 ∷ s))))) (keyed w x bs)
key_spelt w e r h = opens (named w e refl (space (figure r refl (closes h))))

-- what stands between a response's name and its closing bracket
response_spelt : {v w x y z : List ℕ} {m o p q a : ℤ} {bs : List Bare} (k : Class) (s : List ℕ) → Number v m → Number w o → Number x p → Number y q → Number z a → Spelt s bs
    → Spelt (response_text (record { member = m; slot = o; price = p; size = q; class = k; at = a }) ++ s) (Bare.word v ∷ Bare.word w ∷ Bare.word x ∷ Bare.word y ∷ Bare.word (class_name k) ∷ keyed (codes "at") z bs)
response_spelt {v} {w} {x} {y} {z} {m} {o} {p} {q} {a} {bs} k s i j n t u h =
    let text : signed_decimal m ++ (codes " " ++ (signed_decimal o ++ (codes " " ++ (signed_decimal p ++ (codes " " ++ (signed_decimal q ++ (codes " " ++ (class_name k ++ (codes " (at " ++ (signed_decimal a ++ (codes ")" ++ s))))))))))) ≡ response_text (record { member = m; slot = o; price = p; size = q; class = k; at = a }) ++ s = sym (simp append_assoc) in
    subst (λ t. Spelt t (Bare.word v ∷ Bare.word w ∷ Bare.word x ∷ Bare.word y ∷ Bare.word (class_name k) ∷ keyed (codes "at") z bs)) text
    (figure i refl (space (figure j refl (space (figure n refl (space (figure t refl (space (wordy (class_name k) (class_fit k) refl (space (key_spelt (codes "at") refl u h)))))))))))

terms_spelt : {x y z : List ℕ} {r t a : ℤ} {bs : List Bare} (s : List ℕ) → Number x r → Number y t → Number z a → Spelt s bs → Spelt (terms_text r t a ++ s) (keyed (codes "reserve") x (keyed (codes "time") y (keyed (codes "at") z bs)))
terms_spelt {x} {y} {z} {r} {t} {a} {bs} s rx ry rz h =
    let text : codes "(reserve " ++ (signed_decimal r ++ (codes ") (time " ++ (signed_decimal t ++ (codes ") (at " ++ (signed_decimal a ++ (codes ")" ++ s)))))) ≡ terms_text r t a ++ s = sym (simp append_assoc) in
    subst (λ u. Spelt u (keyed (codes "reserve") x (keyed (codes "time") y (keyed (codes "at") z bs)))) text
    (key_spelt (codes "reserve") refl rx (space (key_spelt (codes "time") refl ry (space (key_spelt (codes "at") refl rz h)))))

legs_begin : (ls : List Leg) → begins (legs_text ls ++ codes ")") ≡ false
legs_begin [] = refl
legs_begin (l ∷ ls) = refl

form_spelt : {bs : List Bare} {f : Shape} → Writes bs f → Spelt (spelling f) bs
form_spelt (series r) = opens (named (codes "house") refl refl (space (figure r refl (space (named (codes "series") refl refl (closes done))))))
form_spelt (net {ls = ls} r p) = opens (named (codes "house") refl refl (space (figure r refl (space (named (codes "net") refl (legs_begin ls) (legs_spelt (codes ")") (Bare.closing ∷ []) p (closes done)))))))
form_spelt (quote {e = e} a b c) = opens (named (codes "quote") refl refl (space (figure a refl (space (wordy (edge_name e) (edge_fit e) refl (space (figure b refl (space (opens (numbers_spelt (codes "))") (Bare.closing ∷ Bare.closing ∷ []) refl c (closes (closes done))))))))))))
form_spelt (rest {s = s} {k = k} a b c) = opens (named (codes "rest") refl refl (space (figure a refl (space (wordy (side_name s) (side_fit s) refl (space (figure b refl (space (figure c refl (space (wordy (class_name k) (class_fit k) refl (closes done))))))))))))
form_spelt (away {s = s} r) = opens (named (codes "away") refl refl (space (wordy (side_name s) (side_fit s) refl (space (figure r refl (closes done))))))
form_spelt (enter {m = m} {s = s} a b c d e) = opens (named (codes "enter") refl refl (space (wordy (mechanism_name m) (mechanism_fit m) refl (space (wordy (side_name s) (side_fit s) refl (space (figure a refl (space (figure b refl (space (terms_spelt (codes ")") c d e (closes done))))))))))))
form_spelt (respond {k = k} a b c d e) = opens (named (codes "respond") refl refl (space (response_spelt k (codes ")") a b c d e (closes done))))
form_spelt (amend {k = k} a b c d e) = opens (named (codes "amend") refl refl (space (response_spelt k (codes ")") a b c d e (closes done))))
form_spelt (delete a b c) = opens (named (codes "delete") refl refl (space (figure a refl (space (figure b refl (space (key_spelt (codes "at") refl c (closes done))))))))
form_spelt (settle r) = opens (named (codes "settle") refl refl (space (key_spelt (codes "at") refl r (closes done))))
form_spelt (halt r) = opens (named (codes "halt") refl refl (space (key_spelt (codes "at") refl r (closes done))))

-- the spelling of a form says it, on any line and from any column
pub says_itself : {bs : List Bare} {f : Shape} → Writes bs f → (l c : ℕ) → (ws : List Placed) × Says l c (spelling f) (states (record { line = l; shape = f; words = ws }))
says_itself {f = f} w l c = let p = form_spelt w l c in (words_of p.0, Says.form p.1 (subst (λ bs. Writes bs f) (sym p.2) w))
