-- One line, read by a reader.
use Rattle.std.proofs.Common.{◌≡◌, ◌≢◌, ◌⊎◌, inl, inr, ℕ, ◌+◌, Bool, true, false, List, [], ◌∷◌, drop, Ok, Err, Result, sym, refl, ap, ◌∙◌, subst}
use Rattle.words.specs.declared.bytes.Kind.{Kind}
use Rattle.words.specs.declared.bytes.Kind.TheVariants.{LineEnd, Space, Open, Close, Semicolon, Letter, Other}
use Rattle.words.specs.Bytes.{next, behind, Skips, none, more}
use Rattle.words.specs.Tokens.{Tok, end, lex}
use Rattle.words.specs.View.{rest}
use Rattle.words.proofs.Spaces.{skips_behind}
use Rattle.forms.specs.declared.trouble.Trouble.{Trouble}
use Rattle.forms.specs.Shapes.{Shape, is_house}
use Rattle.parse.specs.declared.reader.Reader.{Reader}
use Rattle.parse.specs.Parser.{Read, form_of, end_of}
use Rattle.parse.specs.View.{tokens, is_house_of}
use Rattle.grammar.specs.Grammar.{Said, blank}
use Rattle.grammar.specs.Reading.{formed, start, line_of}
use Rattle.grammar.proofs.Lexed.{Ends, lex_ends}
use Rattle.grammar.proofs.Saying.{line_end}
use Rattle.sheet.specs.Lines.{line_here, SameLine, LineBegun}

skips_line : {c d : ℕ} {s t : List ℕ} (l : ℕ) → Skips c s d t → line_of l c s ≡ line_of l d t
skips_line l none = refl
skips_line l (more p) = skips_line l p

-- behind spaces the line says the same
spaced : (o r : Reader) → r.scan.line ≡ o.scan.line → Skips o.scan.column (rest o.scan) r.scan.column (rest r.scan) → line_here o ≡ line_here r
spaced o r line skips = skips_line o.scan.line skips ∙ (λ j. line_of (sym line j) r.scan.column (rest r.scan))

spaced_same : (o r : Reader) → r.scan.line ≡ o.scan.line → Skips o.scan.column (rest o.scan) r.scan.column (rest r.scan) → SameLine o r
spaced_same o r line skips = record { line = line; tail = skips_behind skips }

line_start : (l c : ℕ) (s : List ℕ) (k : Kind) → next s ≡ k → line_of l c s ≡ start k (line_of l (c + 1) (drop 1 s)) (formed l (lex l c s))
line_start l c [] k e = ap (λ j. start j (line_of l (c + 1) []) (formed l (lex l c []))) e
line_start l c (b ∷ bs) k e = ap (λ j. start j (line_of l (c + 1) bs) (formed l (lex l c (b ∷ bs)))) e

start_blank : (k : Kind) (r f : Result Said Trouble) → (k ≡ LineEnd) ⊎ (k ≡ Semicolon) → start k r f ≡ Ok blank
start_blank k r f (inl e) = ap (λ j. start j r f) e
start_blank k r f (inr e) = ap (λ j. start j r f) e

start_form : (k : Kind) (r f : Result Said Trouble) → k ≢ LineEnd → k ≢ Semicolon → k ≢ Space → start k r f ≡ f
start_form LineEnd r f a b c = absurd (a refl)
start_form Space r f a b c = absurd (c refl)
start_form Open r f a b c = refl
start_form Close r f a b c = refl
start_form Semicolon r f a b c = absurd (b refl)
start_form Letter r f a b c = refl
start_form Other r f a b c = refl

-- behind spaces the line has no form, or the tokens from here on say what it is
pub begun_blank : (o r : Reader) (k : Kind) → r.scan.line ≡ o.scan.line → Skips o.scan.column (rest o.scan) r.scan.column (rest r.scan) → k ≡ next (rest r.scan) → (k ≡ LineEnd) ⊎ (k ≡ Semicolon) → LineBegun true o r
begun_blank o r k line skips is e = (spaced o r line skips ∙ line_start r.scan.line r.scan.column (rest r.scan) k (sym is) ∙ start_blank k _ _ e, spaced_same o r line skips)

pub begun_form : (o r : Reader) (k : Kind) → r.scan.line ≡ o.scan.line → Skips o.scan.column (rest o.scan) r.scan.column (rest r.scan) → k ≡ next (rest r.scan) → k ≢ LineEnd → k ≢ Semicolon → k ≢ Space → LineBegun false o r
begun_form o r k line skips is a b c = (spaced o r line skips ∙ line_start r.scan.line r.scan.column (rest r.scan) k (sym is) ∙ start_form k _ _ a b c, spaced_same o r line skips)

-- a reader at the end of the line stands on it
pub same_line : (r q : Reader) (f : Shape) (us : List Tok) → form_of (tokens r) ≡ Ok (f, us) → end_of us ≡ Ok (tt, tokens q) → SameLine r q
same_line r q f us e h =
    let p = line_end r.scan.line r.scan.column (rest r.scan) f us (tokens q) e h in
    let w : Ends q.scan.line (behind (rest q.scan)) (end r.scan.line p.0 (behind (rest r.scan)) ∷ []) = subst (Ends q.scan.line (behind (rest q.scan))) p.1 (lex_ends q.scan.line q.scan.column (rest q.scan)) in
    record { line = cc; tail = cc }

-- what a check of a form tells of the form
pub house_trouble : (r : Read Shape) (t : Trouble) → is_house_of r ≡ Err t → r ≡ Err t
house_trouble (Err u) t e = cc
house_trouble (Ok x) t e = cc

pub house_ok : (r : Read Shape) (h : Bool) (us : List Tok) → is_house_of r ≡ Ok (h, us) → (f : Shape) × (r ≡ Ok (f, us)) × (is_house f ≡ h)
house_ok (Err u) h us e = cc
house_ok (Ok (f, vs)) h us e = let p : ◌≡◌ {A = Bool × List Tok} (is_house f, vs) (h, us) = cc in (f, λ j. Ok (f, (p j).1), λ j. (p j).0)
