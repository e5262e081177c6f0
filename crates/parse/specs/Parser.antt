-- A form read from the tokens of a line, from left to right, or the first trouble.
use Rattle.std.specs.Prelude.{◌≡◌, ℕ, zero, suc, cond, List, [], ◌∷◌, ◌++◌, length, ℤ, Some, None, Ok, Err, codes, Option, Result}
use Rattle.std.specs.Str.{bytes_eq}
use Rattle.market.specs.declared.names.Side.{Side}
use Rattle.market.specs.declared.names.Side.TheVariants.{Buy, Sell}
use Rattle.market.specs.declared.names.Class.{Class}
use Rattle.market.specs.declared.names.Class.TheVariants.{Customer, Other}
use Rattle.market.specs.declared.names.Mechanism.{Mechanism}
use Rattle.market.specs.declared.names.Mechanism.TheVariants.{Block, Facilitation, Solicited}
use Rattle.market.specs.Names.{side_name, class_name, mechanism_name, edge_name}
use Rattle.words.specs.Numerals.{read_number}
use Rattle.words.specs.Tokens.{Tok, opening, closing, word, bad_byte, long_word, end}
use Rattle.words.specs.Place.{Placed}
use Rattle.market.specs.declared.names.Edge.{Edge}
use Rattle.market.specs.declared.names.Edge.TheVariants.{Bid, Offer}
use Rattle.market.specs.declared.names.Leg.{Leg}
use Rattle.market.specs.declared.names.Kind.{Kind}
use Rattle.market.specs.declared.names.Kind.TheVariants as kinds
use Rattle.parse.specs.declared.names.Name.{Name}
use Rattle.parse.specs.declared.names.Name.TheVariants as names
use Rattle.forms.specs.declared.form.Response.{Response}
use Rattle.forms.specs.declared.trouble.Expected.{Expected}
use Rattle.forms.specs.declared.trouble.Expected.TheVariants as expected
use Rattle.forms.specs.declared.trouble.Found.TheVariants as found
use Rattle.forms.specs.declared.trouble.Trouble.{Trouble}
use Rattle.forms.specs.Shapes.{Shape, series, net, quote, rest, away, enter, respond, amend, delete, settle, halt}
use Rattle.parse.specs.Troubles.{trouble_at}

-- what was read and the tokens that are left, or the trouble
abbrev pub Read : Type 0 → Type 0
Read A = Result (A × List Tok) Trouble

-- the value of an answer, as a definition sees it
abbrev pub seen : {A B E : Type 0} → (A → B) → Result A E → Result B E
seen f (Ok x) = Ok (f x)
seen f (Err e) = Err e

-- one reading after another
abbrev pub then : {A B : Type 0} → Read A → (A → List Tok → Result B Trouble) → Result B Trouble
then (Err t) k = Err t
then (Ok x) k = k x.0 x.1

-- what a method of a reader gave, and the tokens that it left
abbrev pub Gave : {A : Type 0} → Result A Trouble → Read A → List Tok → Type 0
Gave (Err t) all left = all ≡ Err t
Gave (Ok x) all left = all ≡ Ok (x, left)

-- no tokens are left only behind the end of a line
abbrev pub nowhere : Tok
nowhere = end 0 0 []

abbrev pub beside : {A : Type 0} → Result A Trouble → List Tok → Read A
beside (Err t) ts = Err t
beside (Ok x) ts = Ok (x, ts)

-- what the first token is
abbrev pub first : {A : Type 0} → (Tok → Result A Trouble) → List Tok → Read A
first f [] = beside (f nowhere) []
first f (t ∷ ts) = beside (f t) ts

abbrev pub word_in : Expected → Tok → Result Placed Trouble
word_in e (opening c) = Err (trouble_at (opening c) e)
word_in e (closing c) = Err (trouble_at (closing c) e)
word_in e (word l c w) = Ok (record { line = l; column = c; bytes = w })
word_in e (bad_byte c) = Err (trouble_at (bad_byte c) e)
word_in e (long_word c) = Err (trouble_at (long_word c) e)
word_in e (end l c s) = Err (trouble_at (end l c s) e)

abbrev pub open_in : Expected → Tok → Result (Unit {0}) Trouble
open_in e (opening c) = Ok tt
open_in e (closing c) = Err (trouble_at (closing c) e)
open_in e (word l c w) = Err (trouble_at (word l c w) e)
open_in e (bad_byte c) = Err (trouble_at (bad_byte c) e)
open_in e (long_word c) = Err (trouble_at (long_word c) e)
open_in e (end l c s) = Err (trouble_at (end l c s) e)

abbrev pub close_in : Tok → Result (Unit {0}) Trouble
close_in (opening c) = Err (trouble_at (opening c) expected.Closing)
close_in (closing c) = Ok tt
close_in (word l c w) = Err (trouble_at (word l c w) expected.Closing)
close_in (bad_byte c) = Err (trouble_at (bad_byte c) expected.Closing)
close_in (long_word c) = Err (trouble_at (long_word c) expected.Closing)
close_in (end l c s) = Err (trouble_at (end l c s) expected.Closing)

abbrev pub word_of : Expected → List Tok → Read Placed
word_of e = first (word_in e)

abbrev pub open_of : Expected → List Tok → Read (Unit {0})
open_of e = first (open_in e)

abbrev pub close_of : List Tok → Read (Unit {0})
close_of = first close_in

-- what a word stands for, or the trouble with it
abbrev pub known : {A : Type 0} → Option A → Placed → Expected → Result A Trouble
known None w e = Err (record { column = w.column; expected = e; found = found.Word })
known (Some x) w e = Ok x

abbrev pub value_of : {A : Type 0} → (List ℕ → Option A) → Expected → List Tok → Read A
value_of f e ts = then (word_of e ts) (λ w us. beside (known (f w.bytes) w e) us)

abbrev pub number_of : List Tok → Read ℤ
number_of = value_of read_number expected.Number

-- the word that is this name
abbrev pub named : {A : Type 0} → List ℕ → List ℕ → A → Option A → Option A
named w name x o = cond (bytes_eq w name) (Some x) o

abbrev pub read_side : List ℕ → Option Side
read_side w = named w (side_name Buy) Buy (named w (side_name Sell) Sell None)

abbrev pub read_class : List ℕ → Option Class
read_class w = named w (class_name Customer) Customer (named w (class_name Other) Other None)

abbrev pub read_mechanism : List ℕ → Option Mechanism
read_mechanism w = named w (mechanism_name Block) Block (named w (mechanism_name Facilitation) Facilitation (named w (mechanism_name Solicited) Solicited None))

abbrev pub read_edge : List ℕ → Option Edge
read_edge w = named w (edge_name Bid) Bid (named w (edge_name Offer) Offer None)

abbrev pub read_kind : List ℕ → Option Kind
read_kind w = named w (codes "series") kinds.Series (named w (codes "net") kinds.Net None)

abbrev pub read_name : List ℕ → Option Name
read_name w =
    named w (codes "house") names.House
    (named w (codes "quote") names.Quote
    (named w (codes "rest") names.Rest
    (named w (codes "away") names.Away
    (named w (codes "enter") names.Enter
    (named w (codes "respond") names.Respond
    (named w (codes "amend") names.Amend
    (named w (codes "delete") names.Delete
    (named w (codes "settle") names.Settle
    (named w (codes "halt") names.Halt None)))))))))

abbrev pub side_of : List Tok → Read Side
side_of = value_of read_side expected.Side

abbrev pub class_of : List Tok → Read Class
class_of = value_of read_class expected.Class

abbrev pub mechanism_of : List Tok → Read Mechanism
mechanism_of = value_of read_mechanism expected.Mechanism

abbrev pub edge_of : List Tok → Read Edge
edge_of = value_of read_edge expected.Edge

abbrev pub kind_of : List Tok → Read Kind
kind_of = value_of read_kind expected.Kind

abbrev pub name_of : List Tok → Read Name
name_of = value_of read_name expected.Name

-- a word that is given
abbrev pub key_of : List ℕ → Expected → List Tok → Read (Unit {0})
key_of k e = value_of (λ w. named w k tt None) e

-- (at M) and its like
abbrev pub keyed_of : List ℕ → Expected → List Tok → Read ℤ
keyed_of k e ts = then (open_of expected.Opening ts) (λ _ us. then (key_of k e us) (λ _ vs. then (number_of vs) (λ m ws. then (close_of ws) (λ _ xs. Ok (m, xs)))))

abbrev pub moment_of : List Tok → Read ℤ
moment_of = keyed_of (codes "at") expected.At

-- What stands behind a form's name: all of the form, or what comes before its list of legs or sizes.
pub data Beginning : Type 0 where
  whole : Shape → Beginning
  legs_of : ℤ → Beginning
  sizes_of : ℤ → Edge → ℤ → Beginning

-- a form whose closing bracket comes next
abbrev pub closed : Shape → List Tok → Read Beginning
closed f ts = then (close_of ts) (λ _ us. Ok (whole f, us))

abbrev pub house_in : ℤ → Kind → List Tok → Read Beginning
house_in n kinds.Series ts = closed (series n) ts
house_in n kinds.Net ts = Ok (legs_of n, ts)

abbrev pub house_of : List Tok → Read Beginning
house_of ts = then (number_of ts) (λ n us. then (kind_of us) (λ k vs. house_in n k vs))

abbrev pub quote_of : List Tok → Read Beginning
quote_of ts = then (number_of ts) (λ l us. then (edge_of us) (λ e vs. then (number_of vs) (λ p ws. then (open_of expected.Opening ws) (λ _ xs. Ok (sizes_of l e p, xs)))))

abbrev pub rest_of : List Tok → Read Beginning
rest_of ts = then (number_of ts) (λ n us. then (side_of us) (λ s vs. then (number_of vs) (λ p ws. then (number_of ws) (λ q xs. then (class_of xs) (λ k ys. closed (rest n s p q k) ys)))))

abbrev pub away_of : List Tok → Read Beginning
away_of ts = then (side_of ts) (λ s us. then (number_of us) (λ p vs. closed (away s p) vs))

abbrev pub enter_of : List Tok → Read Beginning
enter_of ts =
    then (mechanism_of ts) (λ m us. then (side_of us) (λ s vs. then (number_of vs) (λ z ws. then (number_of ws) (λ p xs.
    then (keyed_of (codes "reserve") expected.Reserve xs) (λ r ys. then (keyed_of (codes "time") expected.Time ys) (λ t zs. then (moment_of zs) (λ a rs. closed (enter m s z p r t a) rs)))))))

abbrev pub response_of : List Tok → Read Response
response_of ts = then (number_of ts) (λ m us. then (number_of us) (λ o vs. then (number_of vs) (λ p ws. then (number_of ws) (λ q xs. then (class_of xs) (λ k ys. then (moment_of ys) (λ a zs. Ok (record { member = m; slot = o; price = p; size = q; class = k; at = a }, zs)))))))

abbrev pub respond_of : List Tok → Read Beginning
respond_of ts = then (response_of ts) (λ r us. closed (respond r) us)

abbrev pub amend_of : List Tok → Read Beginning
amend_of ts = then (response_of ts) (λ r us. closed (amend r) us)

abbrev pub delete_of : List Tok → Read Beginning
delete_of ts = then (number_of ts) (λ m us. then (number_of us) (λ o vs. then (moment_of vs) (λ a ws. closed (delete m o a) ws)))

abbrev pub settle_of : List Tok → Read Beginning
settle_of ts = then (moment_of ts) (λ a us. closed (settle a) us)

abbrev pub halt_of : List Tok → Read Beginning
halt_of ts = then (moment_of ts) (λ a us. closed (halt a) us)

abbrev pub body_of : Name → List Tok → Read Beginning
body_of names.House = house_of
body_of names.Quote = quote_of
body_of names.Rest = rest_of
body_of names.Away = away_of
body_of names.Enter = enter_of
body_of names.Respond = respond_of
body_of names.Amend = amend_of
body_of names.Delete = delete_of
body_of names.Settle = settle_of
body_of names.Halt = halt_of

abbrev pub begin_of : List Tok → Read Beginning
begin_of ts = then (open_of expected.Form ts) (λ _ us. then (name_of us) (λ n vs. body_of n vs))

-- a number of a list, or the list's closing bracket
abbrev pub size_in : Tok → Result (Option ℤ) Trouble
size_in (opening c) = Err (trouble_at (opening c) expected.Size)
size_in (closing c) = Ok None
size_in (word l c w) = seen Some (known (read_number w) (record { line = l; column = c; bytes = w }) expected.Size)
size_in (bad_byte c) = Err (trouble_at (bad_byte c) expected.Size)
size_in (long_word c) = Err (trouble_at (long_word c) expected.Size)
size_in (end l c s) = Err (trouble_at (end l c s) expected.Size)

abbrev pub size_of : List Tok → Read (Option ℤ)
size_of = first size_in

-- a leg behind its opening bracket
abbrev pub leg_of : List Tok → Read (Option Leg)
leg_of ts = then (side_of ts) (λ s us. then (number_of us) (λ r vs. then (close_of vs) (λ _ ws. Ok (Some (record { side = s; ratio = r }), ws))))

-- a leg, or the closing bracket of the form
abbrev pub next_leg_of : List Tok → Read (Option Leg)
next_leg_of [] = Err (trouble_at nowhere expected.Leg)
next_leg_of (opening c ∷ ts) = leg_of ts
next_leg_of (closing c ∷ ts) = Ok (None, ts)
next_leg_of (word l c w ∷ ts) = Err (trouble_at (word l c w) expected.Leg)
next_leg_of (bad_byte c ∷ ts) = Err (trouble_at (bad_byte c) expected.Leg)
next_leg_of (long_word c ∷ ts) = Err (trouble_at (long_word c) expected.Leg)
next_leg_of (end l c s ∷ ts) = Err (trouble_at (end l c s) expected.Leg)

-- items in front of those that are read
abbrev pub onto : {A : Type 0} → List A → Read (List A) → Read (List A)
onto xs (Err t) = Err t
onto xs (Ok r) = Ok (xs ++ r.0, r.1)

abbrev pub more : {A : Type 0} → Option A → List Tok → (List Tok → Read (List A)) → Read (List A)
more None us k = Ok ([], us)
more (Some x) us k = onto (x ∷ []) (k us)

-- items up to a closing bracket, of which n can be told apart
abbrev pub up_to : {A : Type 0} → (List Tok → Read (Option A)) → ℕ → List Tok → Read (List A)
up_to next zero ts = Err (trouble_at nowhere expected.Closing)
up_to next (suc n) ts = then (next ts) (λ o us. more o us (up_to next n))

-- all items up to a closing bracket: each takes a token at least, so there are fewer items than tokens
abbrev pub items_of : {A : Type 0} → (List Tok → Read (Option A)) → List Tok → Read (List A)
items_of next ts = up_to next (suc (length ts)) ts

abbrev pub finish_of : Beginning → List Tok → Read Shape
finish_of (whole f) ts = Ok (f, ts)
finish_of (legs_of n) ts = then (items_of next_leg_of ts) (λ ls us. Ok (net n ls, us))
finish_of (sizes_of l e p) ts = then (items_of size_of ts) (λ ns us. then (close_of us) (λ _ vs. Ok (quote l e p ns, vs)))

-- the form, up to its closing bracket
abbrev pub form_of : List Tok → Read Shape
form_of ts = then (begin_of ts) finish_of

-- the end of the line, which stays before the reader
abbrev pub end_of : List Tok → Read (Unit {0})
end_of [] = Err (trouble_at nowhere expected.LineEnd)
end_of (opening c ∷ ts) = Err (trouble_at (opening c) expected.LineEnd)
end_of (closing c ∷ ts) = Err (trouble_at (closing c) expected.LineEnd)
end_of (word l c w ∷ ts) = Err (trouble_at (word l c w) expected.LineEnd)
end_of (bad_byte c ∷ ts) = Err (trouble_at (bad_byte c) expected.LineEnd)
end_of (long_word c ∷ ts) = Err (trouble_at (long_word c) expected.LineEnd)
end_of (end l c s ∷ ts) = Ok (tt, end l c s ∷ ts)
