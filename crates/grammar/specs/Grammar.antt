-- The grammar of a line: from bytes to a form with its words. Bytes are numbers: 32 is a space, 40 and 41 are brackets, 59 is
-- a semicolon.
use Rattle.std.specs.Prelude.{◌≡◌, ℕ, ◌+◌, ◌≤◌, true, false, List, [], ◌∷◌, ◌++◌, map, length, ℤ, codes}
use Rattle.std.specs.List.{AllByRecursion}
use Rattle.market.specs.declared.names.Side.{Side}
use Rattle.market.specs.declared.names.Class.{Class}
use Rattle.market.specs.declared.names.Mechanism.{Mechanism}
use Rattle.market.specs.Names.{side_name, class_name, mechanism_name, edge_name}
use Rattle.words.specs.Bytes.{word_byte, begins}
use Rattle.words.specs.Number.{Number}
use Rattle.words.specs.Place.{Placed}
use Rattle.market.specs.declared.names.Edge.{Edge}
use Rattle.market.specs.declared.names.Leg.{Leg}
use Rattle.forms.specs.Shapes.{Shape}
use Rattle.forms.specs.Shapes as shapes

-- A bracket, or a word with its place.
pub data Piece : Type 0 where
  opening : Piece
  closing : Piece
  word : Placed → Piece

-- Pieces: the bytes from column c of line l on are brackets and words of 1 to 16 bytes, with spaces anywhere but inside a word,
-- and behind each word a space, a bracket or the end.
pub data Pieces (l : ℕ) : ℕ → List ℕ → List Piece → Type 0 where
  end : {c : ℕ} → Pieces l c [] []
  space : {c : ℕ} {s : List ℕ} {ps : List Piece} → Pieces l (c + 1) s ps → Pieces l c (32 ∷ s) ps
  opens : {c : ℕ} {s : List ℕ} {ps : List Piece} → Pieces l (c + 1) s ps → Pieces l c (40 ∷ s) (opening ∷ ps)
  closes : {c : ℕ} {s : List ℕ} {ps : List Piece} → Pieces l (c + 1) s ps → Pieces l c (41 ∷ s) (closing ∷ ps)
  words : {c : ℕ} {w s : List ℕ} {ps : List Piece} → 1 ≤ length w → length w ≤ 16 → AllByRecursion (λ b. word_byte b ≡ true) w → begins s ≡ false → Pieces l (c + length w) s ps
      → Pieces l c (w ++ s) (word (record { line = l; column = c; bytes = w }) ∷ ps)

-- A bracket, or a word without its place.
pub data Bare : Type 0 where
  opening : Bare
  closing : Bare
  word : List ℕ → Bare

abbrev pub bare : Piece → Bare
bare Piece.opening = opening
bare Piece.closing = closing
bare (Piece.word w) = word w.bytes

-- the words among some pieces
abbrev pub words_of : List Piece → List Placed
words_of [] = []
words_of (Piece.opening ∷ ps) = words_of ps
words_of (Piece.closing ∷ ps) = words_of ps
words_of (Piece.word w ∷ ps) = w ∷ words_of ps

-- (KEY N) in front of more
abbrev pub keyed : List ℕ → List ℕ → List Bare → List Bare
keyed key x more = opening ∷ word key ∷ word x ∷ closing ∷ more

-- Numbers: these words are these numbers.
pub data Numbers : List Bare → List ℤ → Type 0 where
  none : Numbers [] []
  more : {x : List ℕ} {n : ℤ} {ws : List Bare} {ns : List ℤ} → Number x n → Numbers ws ns → Numbers (word x ∷ ws) (n ∷ ns)

-- Legs: these lists, as (buy 2), are these legs.
pub data Legs : List Bare → List Leg → Type 0 where
  none : Legs [] []
  more : {s : Side} {x : List ℕ} {n : ℤ} {ws : List Bare} {ls : List Leg} → Number x n → Legs ws ls → Legs (keyed (side_name s) x ws) (record { side = s; ratio = n } ∷ ls)

-- Writes: these brackets and words are this form.
pub data Writes : List Bare → Shape → Type 0 where
  series : {x : List ℕ} {n : ℤ} → Number x n
      → Writes (opening ∷ word (codes "house") ∷ word x ∷ word (codes "series") ∷ closing ∷ []) (shapes.series n)
  net : {x : List ℕ} {n : ℤ} {ws : List Bare} {ls : List Leg} → Number x n → Legs ws ls
      → Writes (opening ∷ word (codes "house") ∷ word x ∷ word (codes "net") ∷ (ws ++ closing ∷ [])) (shapes.net n ls)
  quote : {x y : List ℕ} {l p : ℤ} {e : Edge} {ws : List Bare} {ns : List ℤ} → Number x l → Number y p → Numbers ws ns
      → Writes (opening ∷ word (codes "quote") ∷ word x ∷ word (edge_name e) ∷ word y ∷ opening ∷ (ws ++ closing ∷ closing ∷ [])) (shapes.quote l e p ns)
  rest : {x y z : List ℕ} {n p q : ℤ} {s : Side} {k : Class} → Number x n → Number y p → Number z q
      → Writes (opening ∷ word (codes "rest") ∷ word x ∷ word (side_name s) ∷ word y ∷ word z ∷ word (class_name k) ∷ closing ∷ []) (shapes.rest n s p q k)
  away : {s : Side} {x : List ℕ} {p : ℤ} → Number x p
      → Writes (opening ∷ word (codes "away") ∷ word (side_name s) ∷ word x ∷ closing ∷ []) (shapes.away s p)
  enter : {m : Mechanism} {s : Side} {v w x y z : List ℕ} {q p r t a : ℤ} → Number v q → Number w p → Number x r → Number y t → Number z a
      → Writes (opening ∷ word (codes "enter") ∷ word (mechanism_name m) ∷ word (side_name s) ∷ word v ∷ word w ∷ keyed (codes "reserve") x (keyed (codes "time") y (keyed (codes "at") z (closing ∷ [])))) (shapes.enter m s q p r t a)
  respond : {v w x y z : List ℕ} {m o p q a : ℤ} {k : Class} → Number v m → Number w o → Number x p → Number y q → Number z a
      → Writes (opening ∷ word (codes "respond") ∷ word v ∷ word w ∷ word x ∷ word y ∷ word (class_name k) ∷ keyed (codes "at") z (closing ∷ [])) (shapes.respond (record { member = m; slot = o; price = p; size = q; class = k; at = a }))
  amend : {v w x y z : List ℕ} {m o p q a : ℤ} {k : Class} → Number v m → Number w o → Number x p → Number y q → Number z a
      → Writes (opening ∷ word (codes "amend") ∷ word v ∷ word w ∷ word x ∷ word y ∷ word (class_name k) ∷ keyed (codes "at") z (closing ∷ [])) (shapes.amend (record { member = m; slot = o; price = p; size = q; class = k; at = a }))
  delete : {x y z : List ℕ} {m o a : ℤ} → Number x m → Number y o → Number z a
      → Writes (opening ∷ word (codes "delete") ∷ word x ∷ word y ∷ keyed (codes "at") z (closing ∷ [])) (shapes.delete m o a)
  settle : {x : List ℕ} {a : ℤ} → Number x a → Writes (opening ∷ word (codes "settle") ∷ keyed (codes "at") x (closing ∷ [])) (shapes.settle a)
  halt : {x : List ℕ} {a : ℤ} → Number x a → Writes (opening ∷ word (codes "halt") ∷ keyed (codes "at") x (closing ∷ [])) (shapes.halt a)

-- A form with the number of its line and its words in their places.
pub record Located : Type 0 where
  pub line : ℕ
  pub shape : Shape
  pub words : List Placed

-- What a line says: nothing, or a form.
pub data Said : Type 0 where
  blank : Said
  states : Located → Said

-- Says: the bytes from column c of line l on say this: after spaces nothing, a semicolon and any bytes, or one form.
pub data Says (l : ℕ) : ℕ → List ℕ → Said → Type 0 where
  nothing : {c : ℕ} → Says l c [] blank
  comment : {c : ℕ} {s : List ℕ} → Says l c (59 ∷ s) blank
  space : {c : ℕ} {s : List ℕ} {x : Said} → Says l (c + 1) s x → Says l c (32 ∷ s) x
  form : {c : ℕ} {s : List ℕ} {ps : List Piece} {f : Shape} → Pieces l c s ps → Writes (map bare ps) f
      → Says l c s (states (record { line = l; shape = f; words = words_of ps }))
