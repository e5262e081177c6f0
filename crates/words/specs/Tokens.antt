-- The tokens of a line.
use Rattle.std.specs.Prelude.{ℕ, ◌+◌, Bool, true, false, cond, List, [], ◌∷◌, length, nat_le}
use Rattle.words.specs.declared.bytes.Kind.{Kind}
use Rattle.words.specs.declared.bytes.Kind.TheVariants.{LineEnd, Space, Open, Close, Semicolon, Letter, Other}
use Rattle.words.specs.Bytes.{kind, begins}

-- A bracket by its column; a word by its line, its column and its bytes; or what ends the reading of a line: a byte that
-- stands in no form or a word of over 16 bytes, by its column, or the line's end, by line, column and what of the sheet
-- stands from there on.
pub data Tok : Type 0 where
  opening : ℕ → Tok
  closing : ℕ → Tok
  word : ℕ → ℕ → List ℕ → Tok
  bad_byte : ℕ → Tok
  long_word : ℕ → Tok
  end : ℕ → ℕ → List ℕ → Tok

-- a word of n bytes in front of other tokens, if it is not too long
abbrev pub capped : ℕ → ℕ → List Tok → List Tok
capped n c ts = cond (nat_le n 16) ts (long_word c ∷ [])

-- a byte in front of the word that comes first
abbrev pub glued : ℕ → ℕ → ℕ → List Tok → List Tok
glued l c b [] = []
glued l c b (opening d ∷ ts) = []
glued l c b (closing d ∷ ts) = []
glued l c b (word m d w ∷ ts) = capped (length (b ∷ w)) c (word l c (b ∷ w) ∷ ts)
glued l c b (bad_byte d ∷ ts) = []
glued l c b (long_word d ∷ ts) = long_word c ∷ []
glued l c b (end m d s ∷ ts) = []

abbrev pub joined : ℕ → ℕ → ℕ → Bool → List Tok → List Tok
joined l c b true ts = glued l c b ts
joined l c b false ts = word l c (b ∷ []) ∷ ts

-- the tokens from the byte b on, by its kind, the bytes behind it and their tokens
abbrev pub by_kind : Kind → ℕ → ℕ → ℕ → List ℕ → List Tok → List Tok
by_kind LineEnd l c b bs ts = end l c (b ∷ bs) ∷ []
by_kind Space l c b bs ts = ts
by_kind Open l c b bs ts = opening c ∷ ts
by_kind Close l c b bs ts = closing c ∷ ts
by_kind Semicolon l c b bs ts = bad_byte c ∷ []
by_kind Letter l c b bs ts = joined l c b (begins bs) ts
by_kind Other l c b bs ts = bad_byte c ∷ []

-- the tokens of the line at the front of these bytes, which stand at column c of line l
abbrev pub lex : ℕ → ℕ → List ℕ → List Tok
lex l c [] = end l c [] ∷ []
lex l c (b ∷ bs) = by_kind (kind b) l c b bs (lex l (c + 1) bs)
