-- A line, by the relation and by the function.
use Rattle.std.proofs.Common.{◌≡◌, ℕ, ◌+◌, Bool, true, false, eqb, List, [], ◌∷◌, ◌++◌, Ok, sym, refl, ap, ◌∙◌, subst, subst₂, arith}
use Rattle.std.proofs.lemmas.Bool.{cond-true, cond-false, eq-eqb, eqb-true}
use Rattle.words.specs.declared.bytes.Kind.{Kind}
use Rattle.words.specs.declared.bytes.Kind.TheVariants.{LineEnd, Space, Open, Close, Semicolon, Letter, Other}
use Rattle.words.specs.Bytes.{kind, next, front, behind}
use Rattle.words.specs.Tokens.{Tok, end, by_kind, lex}
use Rattle.words.specs.Tokens as toks
use Rattle.words.specs.View.{words_in}
use Rattle.words.proofs.ByteKinds.{Told, told}
use Rattle.forms.specs.Shapes.{Shape}
use Rattle.parse.specs.Parser.{then, form_of, end_of}
use Rattle.grammar.specs.Grammar.{Writes, Said, blank, states, Says}
use Rattle.grammar.specs.Reading.{formed, start, line_of}
use Rattle.grammar.proofs.Spelling.{Spells}
use Rattle.grammar.proofs.Fields.{ok_same, then_ok}
use Rattle.grammar.proofs.Parsing.{form_sound, form_complete}
use Rattle.grammar.proofs.Lexed.{words_in_pieces, spelt_clean, Ends, spelt_ends, lex_ends, front_more, lex_sound, lex_complete}

end_ok : (us vs : List Tok) (x : Unit {0}) → end_of us ≡ Ok (x, vs) → (l c : ℕ) × (s : List ℕ) × (ts : List Tok) × (us ≡ end l c s ∷ ts) × (vs ≡ end l c s ∷ ts)
end_ok [] vs x e = cc
end_ok (toks.opening c ∷ us) vs x e = cc
end_ok (toks.closing c ∷ us) vs x e = cc
end_ok (toks.word l c w ∷ us) vs x e = cc
end_ok (toks.bad_byte c ∷ us) vs x e = cc
end_ok (toks.long_word c ∷ us) vs x e = cc
end_ok (end l c s ∷ us) vs x e = (l, c, s, us, refl, λ j. (ok_same _ _ (sym e) j).1)

pub line_end : (l c : ℕ) (s : List ℕ) (f : Shape) (us vs : List Tok) → form_of (lex l c s) ≡ Ok (f, us) → end_of us ≡ Ok (tt, vs) → (d : ℕ) × (vs ≡ end l d (behind s) ∷ [])
line_end l c s f us vs e h =
    let p = form_sound (lex l c s) us f e in
    let q = end_ok us vs tt h in
    (q.1, q.5 ∙ subst (Ends l (behind s)) q.4 (spelt_ends l (behind s) p.1 (lex_ends l c s)))

form_says : (l c : ℕ) (s : List ℕ) (x : Said) → formed l (lex l c s) ≡ Ok x → Says l c (front s) x
form_says l c s x e =
    let ts = lex l c s in
    let a = then_ok (form_of ts) _ x e in
    let b = then_ok (end_of a.1) _ x a.3 in
    let p = form_sound ts a.1 a.0 a.2 in
    let q = end_ok a.1 b.1 b.0 b.2 in
    let k = spelt_clean (subst (Spells ts p.0) q.4 p.1) in
    subst (Says l c (front s)) ((λ j. states (record { line = l; shape = a.0; words = words_in_pieces ts j })) ∙ ok_same _ _ b.3)
    (Says.form (lex_sound l c s k.0) (subst (λ bs. Writes bs a.0) (sym k.1) p.2))

says_step : (l c b : ℕ) (bs : List ℕ) (k : Kind) (x : Said) → Told k b → ((y : Said) → line_of l (c + 1) bs ≡ Ok y → Says l (c + 1) (front bs) y) → start k (line_of l (c + 1) bs) (formed l (lex l c (b ∷ bs))) ≡ Ok x → Says l c (front (b ∷ bs)) x
says_step l c b bs LineEnd x t ih e = subst₂ (Says l c) (sym (cond-true _ _ _ (eq-eqb b 10 t))) (ok_same _ _ e) Says.nothing
says_step l c b bs Space x t ih e = rw (front_more b bs (λ h. omega arith)) (rw t (Says.space (ih x e)))
says_step l c b bs Semicolon x t ih e = rw (front_more b bs (λ h. omega arith)) (rw t (subst (Says l c (59 ∷ front bs)) (ok_same _ _ e) Says.comment))
says_step l c b bs Open x t ih e = form_says l c (b ∷ bs) x e
says_step l c b bs Close x t ih e = form_says l c (b ∷ bs) x e
says_step l c b bs Letter x t ih e = form_says l c (b ∷ bs) x e
says_step l c b bs Other x t ih e = form_says l c (b ∷ bs) x e

pub line_sound : (l c : ℕ) (s : List ℕ) (x : Said) → line_of l c s ≡ Ok x → Says l c (front s) x
line_sound l c [] x e = subst (Says l c []) (ok_same _ _ e) Says.nothing
line_sound l c (b ∷ bs) x e = says_step l c b bs (kind b) x (told b) (line_sound l (c + 1) bs) e

-- what is read as a form is the line
form_step : (l c b : ℕ) (bs : List ℕ) (k : Kind) (x : Said) → (formed l (lex l (c + 1) bs) ≡ Ok x → line_of l (c + 1) bs ≡ Ok x) → formed l (by_kind k l c b bs (lex l (c + 1) bs)) ≡ Ok x → start k (line_of l (c + 1) bs) (formed l (by_kind k l c b bs (lex l (c + 1) bs))) ≡ Ok x
form_step l c b bs LineEnd x ih e = cc
form_step l c b bs Space x ih e = ih e
form_step l c b bs Open x ih e = e
form_step l c b bs Close x ih e = e
form_step l c b bs Semicolon x ih e = cc
form_step l c b bs Letter x ih e = e
form_step l c b bs Other x ih e = e

form_line : (l c : ℕ) (s : List ℕ) (x : Said) → formed l (lex l c s) ≡ Ok x → line_of l c s ≡ Ok x
form_line l c [] x e = cc
form_line l c (b ∷ bs) x e = form_step l c b bs (kind b) x (form_line l (c + 1) bs x) e

nothing_line : (l c : ℕ) (t : List ℕ) → next t ≡ LineEnd → line_of l c t ≡ Ok blank
nothing_line l c [] e = refl
nothing_line l c (b ∷ bs) e = ap (λ k. start k (line_of l (c + 1) bs) (formed l (lex l c (b ∷ bs)))) e

said : {l c : ℕ} {s : List ℕ} {x : Said} (t : List ℕ) → next t ≡ LineEnd → Says l c s x → line_of l c (s ++ t) ≡ Ok x
said {l} {c} t e Says.nothing = nothing_line l c t e
said t e Says.comment = refl
said t e (Says.space r) = said t e r
said {l} {c} {s} t e (Says.form {ps = ps} {f = f} p w) =
    let i = lex_complete t e p in
    form_line l c (s ++ t) _
    (ap (λ o. then o (λ f us. then (end_of us) (λ _ _. Ok (states (record { line = l; shape = f; words = words_in (lex l c (s ++ t)) }))))) (form_complete w i.spelt)
    ∙ ap (λ ws. Ok (states (record { line = l; shape = f; words = ws }))) i.words)

front_behind : (s : List ℕ) → front s ++ behind s ≡ s
front_behind [] = refl
front_behind (b ∷ bs) = go (eqb b 10) refl (front_behind bs)
  where
    go : (x : Bool) → eqb b 10 ≡ x → front bs ++ behind bs ≡ bs → front (b ∷ bs) ++ behind (b ∷ bs) ≡ b ∷ bs
    go true e ih = (λ j. cond-true _ [] (b ∷ front bs) e j ++ cond-true _ (b ∷ bs) (behind bs) e j)
    go false e ih = (λ j. cond-false _ [] (b ∷ front bs) e j ++ cond-false _ (b ∷ bs) (behind bs) e j) ∙ ap (λ t. b ∷ t) ih

behind_next : (s : List ℕ) → next (behind s) ≡ LineEnd
behind_next [] = refl
behind_next (b ∷ bs) = go (eqb b 10) refl (behind_next bs)
  where
    go : (x : Bool) → eqb b 10 ≡ x → next (behind bs) ≡ LineEnd → next (behind (b ∷ bs)) ≡ LineEnd
    go true e ih = ap next (cond-true _ (b ∷ bs) (behind bs) e) ∙ ap kind (eqb-true b 10 e)
    go false e ih = ap next (cond-false _ (b ∷ bs) (behind bs) e) ∙ ih

pub line_complete : (l c : ℕ) (s : List ℕ) (x : Said) → Says l c (front s) x → line_of l c s ≡ Ok x
line_complete l c s x r = ap (line_of l c) (sym (front_behind s)) ∙ said (behind s) (behind_next s) r
