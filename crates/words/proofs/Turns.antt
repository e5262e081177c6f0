-- One byte and one word further on.
use Rattle.std.proofs.Common.{◌≡◌, ℕ, ◌+◌, ◌≤◌, true, false, cond, eqb, List, [], ◌∷◌, ◌++◌, length, get_or, take, drop, sym, refl, ap, ◌∙◌, arith}
use Rattle.std.specs.List.{AllByRecursion}
use Rattle.std.proofs.lemmas.List.{at_drop_more, drop-drop, take_at, drop_at}
use Rattle.std.proofs.lemmas.Bool.{cond-false, ne_eqb}
use Rattle.words.specs.declared.bytes.Kind.{Kind}
use Rattle.words.specs.declared.bytes.Kind.TheVariants.{LineEnd, Letter}
use Rattle.words.specs.declared.scan.Scanner.{Scanner}
use Rattle.words.specs.Bytes.{word_byte, kind, next, begins, run, behind}
use Rattle.words.specs.Tokens.{word, capped, by_kind, lex}
use Rattle.words.specs.View.{rest, tokens}
use Rattle.words.proofs.ByteKinds.{told_at, within, not_end, cut, letter_at}
use Rattle.words.proofs.Lexing.{lex_word}

-- one byte on
pub record Step (r q : Scanner) (k : Kind) : Type 0 where
  pub same : q.sheet.now ≡ r.sheet.now
  pub line : q.line ≡ r.line
  pub column : q.column ≡ r.column + 1
  pub rests : rest q ≡ drop 1 (rest r)
  pub read : (b : ℕ) × (tokens r ≡ by_kind k r.line r.column b (rest q) (tokens q))
  pub tail : behind (rest q) ≡ behind (rest r)

pub step_is : (r q : Scanner) (k : Kind) → next (rest r) ≡ k → (k ≡ LineEnd → ⊥) → q.at ≡ r.at + 1 → q.sheet.now ≡ r.sheet.now → q.line ≡ cond (eqb (get_or r.sheet.now r.at 0) 10) (r.line + 1) r.line → q.column ≡ cond (eqb (get_or r.sheet.now r.at 0) 10) 1 (r.column + 1) → Step r q k
step_is r q k is on at same line column =
    let s = r.sheet.now in
    let i = r.at in
    let b = get_or s i 0 in
    let l = within s i (λ e. on (sym is ∙ e)) in
    let kd : kind b ≡ k = sym (at_drop_more next s i 0 l) ∙ is in
    let ne = ne_eqb b 10 (not_end k b (told_at s i k l is) on) in
    let ln : q.line ≡ r.line = line ∙ cond-false _ _ _ ne in
    let cl : q.column ≡ r.column + 1 = column ∙ cond-false _ _ _ ne in
    let rs : rest q ≡ drop (i + 1) s = (λ j. drop (at j) (same j)) in
    let lq : tokens q ≡ lex r.line (r.column + 1) (drop (i + 1) s) = (λ j. lex (ln j) (cl j) (rs j)) in
    let lr : tokens r ≡ by_kind (kind b) r.line r.column b (drop (i + 1) s) (lex r.line (r.column + 1) (drop (i + 1) s)) = at_drop_more (lex r.line r.column) s i 0 l in
    let tl : behind (rest r) ≡ cond (eqb b 10) (b ∷ drop (i + 1) s) (behind (drop (i + 1) s)) = at_drop_more behind s i 0 l in
    record {
      same = same;
      line = ln;
      column = cl;
      rests = rs ∙ sym (drop-drop 1 i s);
      read = (b, lr ∙ (λ j. by_kind (kd j) r.line r.column b (sym rs j) (sym lq j)));
      tail = ap behind rs ∙ sym (tl ∙ cond-false _ _ _ ne);
    }

-- one word on
pub record WordStep (r q : Scanner) (bytes : List ℕ) : Type 0 where
  pub some : 1 ≤ length bytes
  pub read : tokens r ≡ capped (length bytes) r.column (word r.line r.column bytes ∷ tokens q)

word_read : (l c : ℕ) (w t : List ℕ) → 1 ≤ length w → AllByRecursion (λ b. word_byte b ≡ true) w → begins t ≡ false → lex l c (w ++ t) ≡ capped (length w) c (word l c w ∷ lex l (c + length w) t)
word_read l c [] t some all e = absurd (omega arith)
word_read l c (b ∷ w) t some all e = lex_word l c b w t all e

pub word_is : (r q : Scanner) (bytes : List ℕ) → next (rest r) ≡ Letter → q.at ≡ r.at + length bytes → q.sheet.now ≡ r.sheet.now → q.line ≡ r.line → q.column ≡ r.column + length bytes → length bytes ≡ run (rest r) → bytes ≡ take (length bytes) (rest r) → WordStep r q bytes
word_is r q bytes is at same line column long part =
    let s = r.sheet.now in
    let l = r.line in
    let c = r.column in
    let k = cut (rest r) in
    let nw : length bytes ≡ length k.w = long ∙ k.long in
    let some : 1 ≤ length k.w = omega (arith, (letter_at s r.at is).more) in
    let bw : bytes ≡ k.w = part ∙ (λ j. take (nw j) (k.parts j)) ∙ take_at k.w k.t _ refl in
    let rq : rest q ≡ k.t = (λ j. drop (at j) (same j)) ∙ sym (drop-drop (length bytes) r.at s) ∙ (λ j. drop (nw j) (k.parts j)) ∙ drop_at k.w k.t _ refl in
    let cl : q.column ≡ c + length k.w = column ∙ ap (λ n. c + n) nw in
    let lq : tokens q ≡ lex l (c + length k.w) k.t = (λ j. lex (line j) (cl j) (rq j)) in
    record {
      some = omega (arith, nw, some);
      read = ap (lex l c) k.parts ∙ word_read l c k.w k.t some k.wordy k.stops ∙ (λ j. capped (length (sym bw j)) c (word l c (sym bw j) ∷ sym lq j));
    }
