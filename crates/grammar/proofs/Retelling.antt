-- A listing of forms reads as those forms.
use Rattle.std.proofs.Common.{◌≡◌, ℕ, ◌+◌, true, false, eqb, List, [], ◌∷◌, ◌++◌, map, sym, refl, ap, ◌∙◌, subst}
use Rattle.std.specs.List.{AllByRecursion}
use Rattle.std.proofs.lemmas.Bool.{cond-false, ne_eqb}
use Rattle.words.specs.Bytes.{word_byte}
use Rattle.words.proofs.ByteKinds.{Told, told, word_kind}
use Rattle.forms.specs.Shapes.{Shape, is_house}
use Rattle.forms.specs.Spelled.{spelling}
use Rattle.grammar.specs.Grammar.{Piece, Pieces, Bare, bare, Writes, Said, Says, Located, states}
use Rattle.grammar.specs.Listing.{listing, shapes_of, Retold}
use Rattle.grammar.specs.Sheets.{ahead, lines, Holds, InOrder, some}
use Rattle.grammar.proofs.Canon.{says_itself}

-- these bytes lie on one line
abbrev OneLine : List ℕ → Type 0
OneLine s = AllByRecursion (λ b. eqb b 10 ≡ false) s

word_line : (w s : List ℕ) → AllByRecursion (λ b. word_byte b ≡ true) w → OneLine s → OneLine (w ++ s)
word_line [] s a h = h
word_line (b ∷ w) s a h = (ne_eqb b 10 (subst (λ k. Told k b) (word_kind b a.0) (told b)).1, word_line w s a.1 h)

pieces_line : {l c : ℕ} {s : List ℕ} {ps : List Piece} → Pieces l c s ps → OneLine s
pieces_line Pieces.end = tt
pieces_line (Pieces.space p) = (refl, pieces_line p)
pieces_line (Pieces.opens p) = (refl, pieces_line p)
pieces_line (Pieces.closes p) = (refl, pieces_line p)
pieces_line (Pieces.words {w = w} {s = s} some few all stops p) = word_line w s all (pieces_line p)

says_line : {l c : ℕ} {s : List ℕ} {x : Said} (f : Located) → Says l c s x → x ≡ states f → OneLine s
says_line f Says.nothing e = tt
says_line f Says.comment e = cc
says_line f (Says.space p) e = (refl, says_line f p e)
says_line f (Says.form p w) e = pieces_line p

-- a line in front of others
lines_more : (w t : List ℕ) → OneLine w → lines (w ++ (10 ∷ t)) ≡ w ∷ lines t
lines_more [] t a = refl
lines_more (b ∷ w) t a = cond-false _ _ _ a.0 ∙ ap (ahead b) (lines_more w t a.1)

-- these forms can be written
abbrev Written : Located → Type 0
Written f = (bs : List Bare) × Writes bs f.shape

says_written : {l c : ℕ} {s : List ℕ} {x : Said} (f : Located) → Says l c s x → x ≡ states f → Written f
says_written f Says.nothing e = cc
says_written f Says.comment e = cc
says_written f (Says.space p) e = says_written f p e
says_written f (Says.form {ps = ps} {f = g} p w) e = (map bare ps, subst (Writes (map bare ps)) (ap shape_of e) w)
  where
    shape_of : Said → Shape
    shape_of Said.blank = g
    shape_of (states h) = h.shape

holds_written : {n : ℕ} {ls : List (List ℕ)} {fs : List Located} → Holds n ls fs → AllByRecursion Written fs
holds_written Holds.none = tt
holds_written (Holds.empty a p) = holds_written p
holds_written (Holds.form {f = f} a p) = (says_written f a refl, holds_written p)

retold_holds : (n : ℕ) (fs : List Located) → AllByRecursion Written fs → (gs : List Located) × Holds n (lines (listing fs)) gs × (shapes_of gs ≡ shapes_of fs)
retold_holds n [] a = ([], Holds.empty Says.nothing Holds.none, refl)
retold_holds n (f ∷ fs) a =
    let p = says_itself a.0.1 n 1 in
    let g : Located = record { line = n; shape = f.shape; words = p.0 } in
    let q = retold_holds (n + 1) fs a.1 in
    (g ∷ q.0, subst (λ ls. Holds n ls (g ∷ q.0)) (sym (lines_more (spelling f.shape) (listing fs) (says_line g p.1 refl))) (Holds.form p.1 q.1), ap (λ l. f.shape ∷ l) q.2)

-- the order of forms is that of their shapes
abbrev Ordered : List Shape → Type 0
Ordered [] = Unit {0}
Ordered (f ∷ fs) = (is_house f ≡ true) × AllByRecursion (λ g. is_house g ≡ false) fs

shapes_others : (fs : List Located) → AllByRecursion (λ y. is_house y.shape ≡ false) fs → AllByRecursion (λ g. is_house g ≡ false) (shapes_of fs)
shapes_others [] a = tt
shapes_others (f ∷ fs) a = (a.0, shapes_others fs a.1)

others_shapes : (fs : List Located) → AllByRecursion (λ g. is_house g ≡ false) (shapes_of fs) → AllByRecursion (λ y. is_house y.shape ≡ false) fs
others_shapes [] a = tt
others_shapes (f ∷ fs) a = (a.0, others_shapes fs a.1)

order_shapes : (fs : List Located) → InOrder fs → Ordered (shapes_of fs)
order_shapes [] a = tt
order_shapes (f ∷ fs) a = (a.0, shapes_others fs a.1)

shapes_order : (fs : List Located) → Ordered (shapes_of fs) → InOrder fs
shapes_order [] a = tt
shapes_order (f ∷ fs) a = (a.0, others_shapes fs a.1)

some_shapes : (fs : List Located) → some (shapes_of fs) ≡ some fs
some_shapes [] = refl
some_shapes (f ∷ fs) = refl

pub retold : (fs : List Located) → Retold fs (listing fs)
retold fs s r short =
    let q = retold_holds 1 fs (holds_written r.holds) in
    (q.0, record { short = short; holds = q.1; order = shapes_order q.0 (subst Ordered (sym q.2) (order_shapes fs r.order)); has = sym (some_shapes q.0) ∙ ap some q.2 ∙ some_shapes fs ∙ r.has }, q.2)
