-- The tokens of a line agree with the grammar's pieces.
use Rattle.std.proofs.Common.{◌≡◌, ℕ, ◌+◌, ◌≤◌, Bool, true, false, cond, eqb, leb, List, [], ◌∷◌, ◌++◌, map, length, sym, refl, ap, ◌∙◌, subst, append_assoc, arith}
use Rattle.std.specs.List.{AllByRecursion}
use Rattle.std.proofs.lemmas.Bool.{cond-true, cond-false, le-leb, leb-true, both_ways, ne_eqb, eq-eqb, eqb-true}
use Rattle.words.specs.declared.bytes.Kind.{Kind}
use Rattle.words.specs.declared.bytes.Kind.TheVariants.{LineEnd, Space, Open, Close, Semicolon, Letter, Other}
use Rattle.words.specs.Bytes.{word_byte, kind, next, begins, front, behind}
use Rattle.words.specs.Place.{Placed}
use Rattle.words.specs.Tokens.{Tok, glued, joined, by_kind, lex}
use Rattle.words.specs.Tokens as toks
use Rattle.words.specs.View.{words_in}
use Rattle.words.proofs.ByteKinds.{Told, told}
use Rattle.words.proofs.Lexing.{lex_word, lex_end}
use Rattle.grammar.specs.Grammar.{Piece, Pieces, Bare, bare, words_of}
use Rattle.grammar.proofs.Spelling.{Spells, none, opens, closes, words}

-- the brackets and words up to the end of the line
abbrev pub pieces_in : List Tok → List Piece
pieces_in [] = []
pieces_in (toks.opening c ∷ ts) = Piece.opening ∷ pieces_in ts
pieces_in (toks.closing c ∷ ts) = Piece.closing ∷ pieces_in ts
pieces_in (toks.word l c w ∷ ts) = Piece.word (record { line = l; column = c; bytes = w }) ∷ pieces_in ts
pieces_in (toks.bad_byte c ∷ ts) = []
pieces_in (toks.long_word c ∷ ts) = []
pieces_in (toks.end l c s ∷ ts) = []

pub words_in_pieces : (ts : List Tok) → words_of (pieces_in ts) ≡ words_in ts
words_in_pieces [] = refl
words_in_pieces (toks.opening c ∷ ts) = words_in_pieces ts
words_in_pieces (toks.closing c ∷ ts) = words_in_pieces ts
words_in_pieces (toks.word l c w ∷ ts) = ap (λ ws. record { line = l; column = c; bytes = w } ∷ ws) (words_in_pieces ts)
words_in_pieces (toks.bad_byte c ∷ ts) = refl
words_in_pieces (toks.long_word c ∷ ts) = refl
words_in_pieces (toks.end l c s ∷ ts) = refl

-- there are only brackets and words up to the end of the line
abbrev pub Clean : List Tok → Type 0
Clean [] = ⊥
Clean (toks.opening c ∷ ts) = Clean ts
Clean (toks.closing c ∷ ts) = Clean ts
Clean (toks.word l c w ∷ ts) = Clean ts
Clean (toks.bad_byte c ∷ ts) = ⊥
Clean (toks.long_word c ∷ ts) = ⊥
Clean (toks.end l c s ∷ ts) = Unit {0}

pub spelt_clean : {ts : List Tok} {bs : List Bare} {l c : ℕ} {s : List ℕ} {us : List Tok} → Spells ts bs (toks.end l c s ∷ us) → Clean ts × (map bare (pieces_in ts) ≡ bs)
spelt_clean none = (tt, refl)
spelt_clean (opens p) = let q = spelt_clean p in (q.0, ap (λ bs. Bare.opening ∷ bs) q.1)
spelt_clean (closes p) = let q = spelt_clean p in (q.0, ap (λ bs. Bare.closing ∷ bs) q.1)
spelt_clean (words {w = w} p) = let q = spelt_clean p in (q.0, ap (λ bs. Bare.word w ∷ bs) q.1)

-- the end of the line, if it is reached, is this one
abbrev pub Ends : ℕ → List ℕ → List Tok → Type 0
Ends l t [] = Unit {0}
Ends l t (toks.opening c ∷ ts) = Ends l t ts
Ends l t (toks.closing c ∷ ts) = Ends l t ts
Ends l t (toks.word m c w ∷ ts) = Ends l t ts
Ends l t (toks.bad_byte c ∷ ts) = Unit {0}
Ends l t (toks.long_word c ∷ ts) = Unit {0}
Ends l t (toks.end m c s ∷ ts) = toks.end m c s ∷ ts ≡ toks.end l c t ∷ []

pub spelt_ends : (l : ℕ) (t : List ℕ) {ts us : List Tok} {bs : List Bare} → Spells ts bs us → Ends l t ts → Ends l t us
spelt_ends l t none e = e
spelt_ends l t (opens p) e = spelt_ends l t p e
spelt_ends l t (closes p) e = spelt_ends l t p e
spelt_ends l t (words p) e = spelt_ends l t p e

glued_ends : (l c b : ℕ) (t : List ℕ) (ts : List Tok) → Ends l t ts → Ends l t (glued l c b ts)
glued_ends l c b t [] e = tt
glued_ends l c b t (toks.opening d ∷ ts) e = tt
glued_ends l c b t (toks.closing d ∷ ts) e = tt
glued_ends l c b t (toks.word m d w ∷ ts) e = elim (leb (length (b ∷ w)) 16) as (λ x. Ends l t (cond x (toks.word l c (b ∷ w) ∷ ts) (toks.long_word c ∷ []))) [ true ↦ e | false ↦ tt ]
glued_ends l c b t (toks.bad_byte d ∷ ts) e = tt
glued_ends l c b t (toks.long_word d ∷ ts) e = tt
glued_ends l c b t (toks.end m d s ∷ ts) e = tt

joined_ends : (l c b : ℕ) (t : List ℕ) (x : Bool) (ts : List Tok) → Ends l t ts → Ends l t (joined l c b x ts)
joined_ends l c b t true ts e = glued_ends l c b t ts e
joined_ends l c b t false ts e = e

behind_more : (b : ℕ) (bs : List ℕ) → (b ≡ 10 → ⊥) → behind (b ∷ bs) ≡ behind bs
behind_more b bs h = cond-false _ _ _ (ne_eqb b 10 h)

pub front_more : (b : ℕ) (bs : List ℕ) → (b ≡ 10 → ⊥) → front (b ∷ bs) ≡ b ∷ front bs
front_more b bs h = cond-false _ _ _ (ne_eqb b 10 h)

kind_ends : (l c b : ℕ) (bs : List ℕ) (k : Kind) (ts : List Tok) → Told k b → Ends l (behind bs) ts → Ends l (behind (b ∷ bs)) (by_kind k l c b bs ts)
kind_ends l c b bs LineEnd ts t e = ap (λ u. toks.end l c u ∷ []) (sym (cond-true _ _ _ (eq-eqb b 10 t)))
kind_ends l c b bs Space ts t e = rw (behind_more b bs (λ h. omega arith)) e
kind_ends l c b bs Open ts t e = rw (behind_more b bs (λ h. omega arith)) e
kind_ends l c b bs Close ts t e = rw (behind_more b bs (λ h. omega arith)) e
kind_ends l c b bs Semicolon ts t e = tt
kind_ends l c b bs Letter ts t e = rw (behind_more b bs t.1) (joined_ends l c b (behind bs) (begins bs) ts e)
kind_ends l c b bs Other ts t e = tt

pub lex_ends : (l c : ℕ) (s : List ℕ) → Ends l (behind s) (lex l c s)
lex_ends l c [] = refl
lex_ends l c (b ∷ bs) = kind_ends l c b bs (kind b) (lex l (c + 1) bs) (told b) (lex_ends l (c + 1) bs)

-- a word that a byte is put in front of
record Front (l c : ℕ) (s : List ℕ) (p : Placed) (ps : List Piece) : Type 0 where
  t : List ℕ
  parts : s ≡ p.bytes ++ t
  all : AllByRecursion (λ b. word_byte b ≡ true) p.bytes
  stops : begins t ≡ false
  left : Pieces l (c + length p.bytes) t ps

first_word : {l c : ℕ} {s : List ℕ} {p : Placed} {ps : List Piece} → Pieces l c s (Piece.word p ∷ ps) → begins s ≡ true → Front l c s p ps
first_word (Pieces.space r) e = absurd (both_ways _ refl e)
first_word (Pieces.words {s = t} some few all stops r) e = record { t = t; parts = refl; all = all; stops = stops; left = r }

begins_front : (s : List ℕ) → begins (front s) ≡ begins s
begins_front [] = refl
begins_front (b ∷ bs) = go (eqb b 10) refl
  where
    go : (x : Bool) → eqb b 10 ≡ x → begins (front (b ∷ bs)) ≡ word_byte b
    go true e = ap begins (cond-true _ _ _ e) ∙ sym (ap word_byte (eqb-true b 10 e))
    go false e = ap begins (cond-false _ _ _ e)

-- what clean tokens say of the bytes
abbrev Lexes : ℕ → ℕ → List ℕ → List Tok → Type 0
Lexes l c s ts = Clean ts → Pieces l c s (pieces_in ts)

glued_lexes : (l c b : ℕ) (s : List ℕ) (ts : List Tok) → word_byte b ≡ true → begins s ≡ true → Lexes l (c + 1) s ts → Lexes l c (b ∷ s) (glued l c b ts)
glued_lexes l c b s [] h on ih = λ e. absurd e
glued_lexes l c b s (toks.opening d ∷ ts) h on ih = λ e. absurd e
glued_lexes l c b s (toks.closing d ∷ ts) h on ih = λ e. absurd e
glued_lexes l c b s (toks.word m d w ∷ ts) h on ih = go (leb (length (b ∷ w)) 16) refl
  where
    go : (x : Bool) → leb (length (b ∷ w)) 16 ≡ x → Lexes l c (b ∷ s) (glued l c b (toks.word m d w ∷ ts))
    go true few = subst (Lexes l c (b ∷ s)) (sym (cond-true _ _ _ few)) (λ e.
        let f = first_word (ih e) on in
        subst (λ x. Pieces l c (b ∷ x) (pieces_in (toks.word l c (b ∷ w) ∷ ts))) (sym f.parts)
        (Pieces.words {w = b ∷ w} {s = f.t} (omega arith) (leb-true (length (b ∷ w)) 16 few) (h, f.all) f.stops (subst (λ n. Pieces l n f.t (pieces_in ts)) (omega arith) f.left)))
    go false many = subst (Lexes l c (b ∷ s)) (sym (cond-false _ _ _ many)) (λ e. absurd e)
glued_lexes l c b s (toks.bad_byte d ∷ ts) h on ih = λ e. absurd e
glued_lexes l c b s (toks.long_word d ∷ ts) h on ih = λ e. absurd e
glued_lexes l c b s (toks.end m d t ∷ ts) h on ih = λ e. absurd e

joined_lexes : (l c b : ℕ) (s : List ℕ) (x : Bool) (ts : List Tok) → word_byte b ≡ true → begins s ≡ x → Lexes l (c + 1) s ts → Lexes l c (b ∷ s) (joined l c b x ts)
joined_lexes l c b s true ts h on ih = glued_lexes l c b s ts h on ih
joined_lexes l c b s false ts h on ih = λ e. Pieces.words {w = b ∷ []} {s = s} (omega arith) (omega arith) (h, tt) on (ih e)

kind_lexes : (l c b : ℕ) (bs : List ℕ) (k : Kind) (ts : List Tok) → Told k b → Lexes l (c + 1) (front bs) ts → Lexes l c (front (b ∷ bs)) (by_kind k l c b bs ts)
kind_lexes l c b bs LineEnd ts t ih = λ e. rw (cond-true (eqb b 10) [] (b ∷ front bs) (eq-eqb b 10 t)) Pieces.end
kind_lexes l c b bs Space ts t ih = λ e. rw (front_more b bs (λ x. omega arith)) (rw t (Pieces.space (ih e)))
kind_lexes l c b bs Open ts t ih = λ e. rw (front_more b bs (λ x. omega arith)) (rw t (Pieces.opens (ih e)))
kind_lexes l c b bs Close ts t ih = λ e. rw (front_more b bs (λ x. omega arith)) (rw t (Pieces.closes (ih e)))
kind_lexes l c b bs Semicolon ts t ih = λ e. absurd e
kind_lexes l c b bs Letter ts t ih = rw (front_more b bs t.1) (joined_lexes l c b (front bs) (begins bs) ts t.0 (begins_front bs) ih)
kind_lexes l c b bs Other ts t ih = λ e. absurd e

-- clean tokens are pieces of the line
pub lex_sound : (l c : ℕ) (s : List ℕ) → Clean (lex l c s) → Pieces l c (front s) (pieces_in (lex l c s))
lex_sound l c [] = λ e. Pieces.end
lex_sound l c (b ∷ bs) = kind_lexes l c b bs (kind b) (lex l (c + 1) bs) (told b) (lex_sound l (c + 1) bs)

-- the tokens of some pieces and what ends their line
pub record Lexed (l : ℕ) (t : List ℕ) (ps : List Piece) (ts : List Tok) : Type 0 where
  pub column : ℕ
  pub spelt : Spells ts (map bare ps) (toks.end l column t ∷ [])
  pub words : words_in ts ≡ words_of ps

next_begins : (t : List ℕ) → next t ≡ LineEnd → begins t ≡ false
next_begins [] e = refl
next_begins (b ∷ bs) e = ap word_byte (subst (λ k. Told k b) e (told b))

begins_more : (s t : List ℕ) → begins s ≡ false → begins t ≡ false → begins (s ++ t) ≡ false
begins_more [] t e h = h
begins_more (b ∷ s) t e h = e

word_lexed : (l c : ℕ) (w s t : List ℕ) (ps : List Piece) → 1 ≤ length w → length w ≤ 16 → AllByRecursion (λ b. word_byte b ≡ true) w → begins s ≡ false → Lexed l t ps (lex l (c + length w) s) → Lexed l t (Piece.word (record { line = l; column = c; bytes = w }) ∷ ps) (lex l c (w ++ s))
word_lexed l c [] s t ps some few all stops i = absurd (omega arith)
word_lexed l c (b ∷ w) s t ps some few all stops i =
    subst (Lexed l t (Piece.word (record { line = l; column = c; bytes = b ∷ w }) ∷ ps)) (sym (lex_word l c b w s all stops ∙ cond-true _ _ _ (le-leb _ 16 few)))
    (record { column = i.column; spelt = words i.spelt; words = ap (λ ws. record { line = l; column = c; bytes = b ∷ w } ∷ ws) i.words })

-- pieces are lexed so, whatever line follows
pub lex_complete : {l c : ℕ} {s : List ℕ} {ps : List Piece} (t : List ℕ) → next t ≡ LineEnd → Pieces l c s ps → Lexed l t ps (lex l c (s ++ t))
lex_complete {l} {c} t e Pieces.end = subst (Lexed l t []) (sym (lex_end l c t e)) (record { column = c; spelt = none; words = refl })
lex_complete t e (Pieces.space r) = lex_complete t e r
lex_complete t e (Pieces.opens r) = let i = lex_complete t e r in record { column = i.column; spelt = opens i.spelt; words = i.words }
lex_complete t e (Pieces.closes r) = let i = lex_complete t e r in record { column = i.column; spelt = closes i.spelt; words = i.words }
lex_complete {l} {c} t e (Pieces.words {w = w} {s = s} {ps = ps} some few all stops r) =
    rw append_assoc (word_lexed l c w (s ++ t) t ps some few all (begins_more s t stops (next_begins t e)) (lex_complete t e r))
