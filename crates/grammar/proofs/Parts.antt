-- The words of a sheet are parts of it.
use Rattle.std.proofs.Common.{◌≡◌, ℕ, ◌+◌, ◌<◌, Bool, true, false, eqb, List, [], ◌∷◌, ◌++◌, map, length, get_or, take, drop, sym, refl, ap, ◌∙◌, subst, append_assoc, add-zero, arith, length-drop}
use Rattle.std.specs.List.{AllByRecursion}
use Rattle.std.proofs.lemmas.List.{at_drop_more, drop-drop, take_at}
use Rattle.std.proofs.lemmas.Bool.{cond-true, cond-false, eqb-true, eq-eqb, ne_eqb}
use Rattle.words.specs.Bytes.{word_byte, front, behind}
use Rattle.words.specs.Place.{line_at, column_at, Placed, PartOf}
use Rattle.words.proofs.ByteKinds.{Told, told, word_kind}
use Rattle.words.proofs.Places.{line_more, column_more}
use Rattle.grammar.specs.Grammar.{Piece, Pieces, Said, Says, Located, states, words_of}
use Rattle.grammar.specs.Reading.{later}
use Rattle.grammar.specs.Sheets.{Holds, Reads, Parts}
use Rattle.grammar.proofs.Sheets.{lines_are}

-- at this offset of the sheet these bytes are left, at this line and column
record At (s : List ℕ) (at l c : ℕ) (t : List ℕ) : Type 0 where
  left : drop at s ≡ t
  line : l ≡ line_at s at
  column : c ≡ column_at s at

inside : (s : List ℕ) (at b : ℕ) (t : List ℕ) → drop at s ≡ b ∷ t → at < length s
inside s at b t e = let n = length-drop at s in omega (arith, ap length e)

byte : (s : List ℕ) (at b : ℕ) (t : List ℕ) → drop at s ≡ b ∷ t → get_or s at 0 ≡ b
byte s at b t e = sym (at_drop_more (λ l. get_or l 0 0) s at 0 (inside s at b t e)) ∙ ap (λ l. get_or l 0 0) e

further : (s : List ℕ) (at b : ℕ) (t : List ℕ) → drop at s ≡ b ∷ t → drop (at + 1) s ≡ t
further s at b t e = sym (drop-drop 1 at s) ∙ ap (drop 1) e

-- one byte on, within a line and from one line to the next
step : {s : List ℕ} {at l c b : ℕ} {t : List ℕ} → At s at l c (b ∷ t) → (b ≡ 10 → ⊥) → At s (at + 1) l (c + 1) t
step {s} {at} {l} {c} {b} {t} h other =
    let lt = inside s at b t h.left in
    let n = ne_eqb (get_or s at 0) 10 (λ e. other (sym (byte s at b t h.left) ∙ e)) in
    record { left = further s at b t h.left; line = h.line ∙ sym (line_more s at lt ∙ cond-false _ _ _ n); column = ap (λ x. x + 1) h.column ∙ sym (column_more s at lt ∙ cond-false _ _ _ n) }

step_line : {s : List ℕ} {at l c b : ℕ} {t : List ℕ} → At s at l c (b ∷ t) → b ≡ 10 → At s (at + 1) (l + 1) 1 t
step_line {s} {at} {l} {c} {b} {t} h ten =
    let lt = inside s at b t h.left in
    let n = eq-eqb (get_or s at 0) 10 (byte s at b t h.left ∙ ten) in
    record { left = further s at b t h.left; line = ap (λ x. x + 1) h.line ∙ sym (line_more s at lt ∙ cond-true _ _ _ n); column = sym (column_more s at lt ∙ cond-true _ _ _ n) }

not_ten : (b : ℕ) → word_byte b ≡ true → b ≡ 10 → ⊥
not_ten b h e = (subst (λ k. Told k b) (word_kind b h) (told b)).1 e

-- past a word
past : {s : List ℕ} {l : ℕ} (w t : List ℕ) (at c : ℕ) → AllByRecursion (λ b. word_byte b ≡ true) w → At s at l c (w ++ t) → At s (at + length w) l (c + length w) t
past {s} {l} [] t at c a h = subst (λ n. At s n l (c + 0) t) (sym (add-zero at)) (subst (λ n. At s at l n t) (sym (add-zero c)) h)
past {s} {l} (b ∷ w) t at c a h =
    let i : at + 1 + length w ≡ at + length (b ∷ w) = omega arith in
    let j : c + 1 + length w ≡ c + length (b ∷ w) = omega arith in
    subst (λ n. At s n l (c + length (b ∷ w)) t) i (subst (λ n. At s (at + 1 + length w) l n t) j (past w t (at + 1) (c + 1) a.1 (step h (not_ten b a.0))))

word_part : {s : List ℕ} {at l c : ℕ} (w t : List ℕ) → At s at l c (w ++ t) → PartOf s (record { line = l; column = c; bytes = w })
word_part {s} {at} w t h = record { at = at; bytes = sym (ap (take (length w)) h.left ∙ take_at w t _ refl); line = h.line; column = h.column }

pieces_parts : {s : List ℕ} {l c : ℕ} {u : List ℕ} {ps : List Piece} (v : List ℕ) (at : ℕ) → Pieces l c u ps → At s at l c (u ++ v) → AllByRecursion (PartOf s) (words_of ps)
pieces_parts v at Pieces.end h = tt
pieces_parts v at (Pieces.space p) h = pieces_parts v (at + 1) p (step h (λ e. omega arith))
pieces_parts v at (Pieces.opens p) h = pieces_parts v (at + 1) p (step h (λ e. omega arith))
pieces_parts v at (Pieces.closes p) h = pieces_parts v (at + 1) p (step h (λ e. omega arith))
pieces_parts {s} {l} {c} v at (Pieces.words {w = w} {s = t} some few all stops p) h =
    let k = subst (At s at l c) (append_assoc w t v) h in
    (word_part w (t ++ v) k, pieces_parts v (at + length w) p (past w (t ++ v) at c all k))

says_parts : {s : List ℕ} {l c : ℕ} {u : List ℕ} {x : Said} (v : List ℕ) (f : Located) (at : ℕ) → Says l c u x → x ≡ states f → At s at l c (u ++ v) → AllByRecursion (PartOf s) f.words
says_parts v f at Says.nothing e h = cc
says_parts v f at Says.comment e h = cc
says_parts v f at (Says.space p) e h = says_parts v f (at + 1) p e (step h (λ i. omega arith))
says_parts {s} v f at (Says.form {ps = ps} p w) e h = let i : words_of ps ≡ f.words = ap said_words e in subst (AllByRecursion (PartOf s)) i (pieces_parts v at p h)
  where
    said_words : Said → List Placed
    said_words Said.blank = []
    said_words (states g) = g.words

front_behind : (s : List ℕ) → front s ++ behind s ≡ s
front_behind [] = refl
front_behind (b ∷ bs) = go (eqb b 10) refl (front_behind bs)
  where
    go : (x : Bool) → eqb b 10 ≡ x → front bs ++ behind bs ≡ bs → front (b ∷ bs) ++ behind (b ∷ bs) ≡ b ∷ bs
    go true e ih = (λ j. cond-true (eqb b 10) [] (b ∷ front bs) e j ++ cond-true (eqb b 10) (b ∷ bs) (behind bs) e j)
    go false e ih = (λ j. cond-false (eqb b 10) [] (b ∷ front bs) e j ++ cond-false (eqb b 10) (b ∷ bs) (behind bs) e j) ∙ ap (λ l. b ∷ l) ih

-- each of these is left at the start of a line of the sheet
abbrev Starts : List ℕ → ℕ → List (List ℕ) → Type 0
Starts s n [] = Unit {0}
Starts s n (u ∷ us) = ((at : ℕ) × At s at n 1 u) × Starts s (n + 1) us

starts : (s : List ℕ) (at n c : ℕ) (u : List ℕ) → At s at n c u → Starts s (n + 1) (later u)
starts s at n c [] h = tt
starts s at n c (b ∷ bs) h = go (λ k. starts s (at + 1) (n + 1) 1 bs k) (λ k. starts s (at + 1) n (c + 1) bs k) (eqb b 10) refl
  where
    go : (At s (at + 1) (n + 1) 1 bs → Starts s (n + 1 + 1) (later bs)) → (At s (at + 1) n (c + 1) bs → Starts s (n + 1) (later bs)) → (x : Bool) → eqb b 10 ≡ x → Starts s (n + 1) (later (b ∷ bs))
    go i j true e = let k = step_line h (eqb-true b 10 e) in subst (Starts s (n + 1)) (sym (cond-true _ _ _ e)) ((at + 1, k), i k)
    go i j false e = subst (Starts s (n + 1)) (sym (cond-false _ _ _ e)) (j (step h (λ z. let t = eq-eqb b 10 z in cc)))

holds_parts : (s : List ℕ) (n : ℕ) (us : List (List ℕ)) (fs : List Located) → Holds n (map front us) fs → Starts s n us → Parts s fs
holds_parts s n [] fs Holds.none h = tt
holds_parts s n (u ∷ us) fs (Holds.empty a p) h = holds_parts s (n + 1) us fs p h.1
holds_parts s n (u ∷ us) fs (Holds.form {f = f} {fs = gs} a p) h =
    (says_parts (behind u) f h.0.0 a refl (subst (At s h.0.0 n 1) (sym (front_behind u)) h.0.1), holds_parts s (n + 1) us gs p h.1)

pub reads_parts : (s : List ℕ) (fs : List Located) → Reads s fs → Parts s fs
reads_parts s fs r =
    let h : At s 0 1 1 s = record { left = refl; line = refl; column = refl } in
    holds_parts s 1 (s ∷ later s) fs (subst (λ l. Holds 1 l fs) (lines_are s) r.holds) ((0, h), starts s 0 1 1 s h)
