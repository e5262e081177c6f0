-- The first token of some bytes.
use Rattle.std.proofs.Common.{◌≡◌, ℕ, ◌+◌, true, false, ◌⊎◌, List, [], ◌∷◌, ◌++◌, length, sym, refl, ap, ◌∙◌, inl, inr, arith}
use Rattle.std.specs.List.{AllByRecursion}
use Rattle.std.proofs.lemmas.Bool.Decides.{nat_tests}
use Rattle.words.specs.declared.bytes.Kind.{Kind}
use Rattle.words.specs.declared.bytes.Kind.TheVariants.{LineEnd, Space, Semicolon, Other}
use Rattle.words.specs.Bytes.{word_byte, next, begins}
use Rattle.words.specs.Tokens.{Tok, word, bad_byte, end, capped, glued, joined, by_kind, lex}
use Rattle.words.proofs.ByteKinds.{word_kind}

pub lex_letter : (l c b : ℕ) (bs : List ℕ) → word_byte b ≡ true → lex l c (b ∷ bs) ≡ joined l c b (begins bs) (lex l (c + 1) bs)
lex_letter l c b bs h = ap (λ k. by_kind k l c b bs (lex l (c + 1) bs)) (word_kind b h)

-- one byte before a word
glue_capped : (l c d b : ℕ) (w : List ℕ) (ts : List Tok) → glued l c b (capped (length w) d (word l d w ∷ ts)) ≡ capped (length (b ∷ w)) c (word l c (b ∷ w) ∷ ts)
glue_capped l c d b w ts = grind (arith, nat_tests)

pub lex_word : (l c b : ℕ) (w s : List ℕ) → AllByRecursion (λ x. word_byte x ≡ true) (b ∷ w) → begins s ≡ false → lex l c ((b ∷ w) ++ s) ≡ capped (length (b ∷ w)) c (word l c (b ∷ w) ∷ lex l (c + length (b ∷ w)) s)
lex_word l c b [] s h e = lex_letter l c b s h.0 ∙ ap (λ t. joined l c b t (lex l (c + 1) s)) e
lex_word l c b (d ∷ w) s h e =
    lex_letter l c b ((d ∷ w) ++ s) h.0
    ∙ ap (λ t. joined l c b t (lex l (c + 1) ((d ∷ w) ++ s))) h.1.0
    ∙ ap (glued l c b) (lex_word l (c + 1) d w s h.1 e)
    ∙ glue_capped l c (c + 1) b (d ∷ w) (lex l (c + 1 + length (d ∷ w)) s)
    ∙ ap (λ n. capped (length (b ∷ d ∷ w)) c (word l c (b ∷ d ∷ w) ∷ lex l n s)) (omega arith)

-- the end of a line, and a byte that stands in no form
pub lex_end : (l c : ℕ) (s : List ℕ) → next s ≡ LineEnd → lex l c s ≡ end l c s ∷ []
lex_end l c [] e = refl
lex_end l c (b ∷ bs) e = ap (λ k. by_kind k l c b bs (lex l (c + 1) bs)) e

pub lex_bad : (l c : ℕ) (s : List ℕ) (k : Kind) → (k ≡ Space → ⊥) → (k ≡ Space) ⊎ ((k ≡ Semicolon) ⊎ (k ≡ Other)) → k ≡ next s → lex l c s ≡ bad_byte c ∷ []
lex_bad l c s k other (inl i) e = absurd (other i)
lex_bad l c [] k other (inr (inl i)) e = cc
lex_bad l c [] k other (inr (inr i)) e = cc
lex_bad l c (b ∷ bs) k other (inr (inl i)) e = ap (λ j. by_kind j l c b bs (lex l (c + 1) bs)) (sym e ∙ i)
lex_bad l c (b ∷ bs) k other (inr (inr i)) e = ap (λ j. by_kind j l c b bs (lex l (c + 1) bs)) (sym e ∙ i)
