-- Spaces that are passed.
use Rattle.std.proofs.Common.{◌≡◌, ℕ, ◌+◌, cond, eqb, get_or, List, [], ◌∷◌, drop, sym, refl, ap, ◌∙◌, subst, subst₂}
use Rattle.words.specs.declared.scan.Scanner.{Scanner}
use Rattle.words.specs.declared.bytes.Kind.TheVariants.{Space}
use Rattle.words.specs.Bytes.{next, behind, Skips, none, more}
use Rattle.words.proofs.ByteKinds.{Told, told}
use Rattle.words.specs.Tokens.{lex}
use Rattle.words.specs.View.{rest, tokens}
use Rattle.words.proofs.Turns.{step_is}

-- from o to r there are only spaces
pub record Past (o r : Scanner) : Type 0 where
  pub same : r.sheet.now ≡ o.sheet.now
  pub line : r.line ≡ o.line
  pub skips : Skips o.column (rest o) r.column (rest r)

skips_more : {c d : ℕ} {s t : List ℕ} → Skips c s d t → (u : List ℕ) → t ≡ 32 ∷ u → Skips c s (d + 1) u
skips_more {c} none u e = subst (λ s. Skips c s (c + 1) u) (sym e) (more none)
skips_more (more p) u e = more (skips_more p u e)

space_first : (s : List ℕ) → next s ≡ Space → s ≡ 32 ∷ drop 1 s
space_first [] e = cc
space_first (b ∷ bs) e = let t : b ≡ 32 = subst (λ k. Told k b) e (told b) in ap (λ x. x ∷ bs) t

pub past_more : (o r q : Scanner) → Past o r → next (rest r) ≡ Space → q.at ≡ r.at + 1 → q.sheet.now ≡ r.sheet.now → q.line ≡ cond (eqb (get_or r.sheet.now r.at 0) 10) (r.line + 1) r.line → q.column ≡ cond (eqb (get_or r.sheet.now r.at 0) 10) 1 (r.column + 1) → Past o q
past_more o r q h is at same line column =
    let t = step_is r q Space is (λ e. cc) at same line column in
    record {
      same = t.same ∙ h.same;
      line = t.line ∙ h.line;
      skips = subst₂ (λ d u. Skips o.column (rest o) d u) (sym t.column) (sym t.rests) (skips_more h.skips (drop 1 (rest r)) (space_first (rest r) is));
    }

-- a line ends where it ends behind spaces
pub skips_behind : {c d : ℕ} {s t : List ℕ} → Skips c s d t → behind t ≡ behind s
skips_behind none = refl
skips_behind (more p) = skips_behind p

skips_lex : {c d : ℕ} {s t : List ℕ} (l : ℕ) → Skips c s d t → lex l d t ≡ lex l c s
skips_lex l none = refl
skips_lex l (more p) = skips_lex l p

-- the tokens behind spaces are those before them
pub spaces_tokens : (o r : Scanner) → r.line ≡ o.line → Skips o.column (rest o) r.column (rest r) → tokens o ≡ tokens r
spaces_tokens o r line skips = sym (skips_lex o.line skips) ∙ (λ j. lex (sym line j) r.column (rest r))
