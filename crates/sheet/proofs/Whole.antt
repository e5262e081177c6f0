-- A whole sheet, line by line.
use Rattle.std.proofs.Common.{◌≡◌, ℕ, ◌+◌, ◌<◌, ◌≤◌, Bool, true, false, not, eqb, List, [], ◌∷◌, map, length, take, drop, Ok, Err, Result, sym, refl, ap, ◌∙◌, subst, append-nil, arith}
use Rattle.std.proofs.lemmas.List.{take_all}
use Rattle.std.proofs.lemmas.Bool.{cond-true, cond-false, cond_both, ne_eqb}
use Rattle.words.specs.Bytes.{behind}
use Rattle.words.specs.Place.{Onto}
use Rattle.words.specs.View.{rest}
use Rattle.forms.specs.declared.fault.Fault.{Fault}
use Rattle.forms.specs.declared.fault.Fault.TheVariants as faults
use Rattle.forms.specs.declared.fault.Stray.TheVariants as strays
use Rattle.forms.specs.Faults.{number_of}
use Rattle.forms.specs.Faults as fault
use Rattle.parse.specs.declared.reader.Reader.{Reader}
use Rattle.grammar.specs.Grammar as grammar
use Rattle.grammar.specs.Grammar.{Said, states}
use Rattle.grammar.specs.Reading.{line_of, later, on_line, read_lines, read_of, accepted, verdict_of}
use Rattle.grammar.specs.Sheets.{longest, some, Reads}
use Rattle.grammar.proofs.Parts.{reads_parts}
use Rattle.grammar.proofs.Sheets.{whole, read_sound, read_complete, fault_sound, fault_complete}
use Rattle.sheet.specs.declared.located.Located.{Located}
use Rattle.parse.specs.declared.trouble.Failed.{Failed}
use Rattle.parse.specs.declared.trouble.Failed.TheVariants as failed
use Rattle.sheet.specs.Lines.{located, line_here, found, SameLine, LineJudged, LineNoted}
use Rattle.sheet.specs.Promises.{Accepted, Refused, Exactly, Verdict, ReadOnce, ReadAs}

-- the line that follows
pub later_next : (s t : List ℕ) → behind s ≡ 10 ∷ t → later s ≡ t ∷ later t
later_next [] t e = cc
later_next (b ∷ bs) t e = go (λ h. later_next bs t h) (eqb b 10) refl
  where
    go : (behind bs ≡ 10 ∷ t → later bs ≡ t ∷ later t) → (x : Bool) → eqb b 10 ≡ x → later (b ∷ bs) ≡ t ∷ later t
    go ih true i = let h = cond-true (eqb b 10) (b ∷ bs) (behind bs) i in cond-true _ _ _ i ∙ ap (λ l. l ∷ later l) cc
    go ih false i = cond-false _ _ _ i ∙ ih (sym (cond-false (eqb b 10) (b ∷ bs) (behind bs) i) ∙ e)

pub later_none : (s : List ℕ) → behind s ≡ [] → later s ≡ []
later_none [] e = refl
later_none (b ∷ bs) e = go (λ h. later_none bs h) (eqb b 10) refl
  where
    go : (behind bs ≡ [] → later bs ≡ []) → (x : Bool) → eqb b 10 ≡ x → later (b ∷ bs) ≡ []
    go ih true i = let h = cond-true (eqb b 10) (b ∷ bs) (behind bs) i in cc
    go ih false i = cond-false _ _ _ i ∙ ih (sym (cond-false (eqb b 10) (b ∷ bs) (behind bs) i) ∙ e)

behind_short : (s : List ℕ) → length (behind s) ≤ length s
behind_short [] = omega arith
behind_short (b ∷ bs) = cond_both (eqb b 10) (b ∷ bs) (behind bs) (λ l. length l ≤ length (b ∷ bs)) (λ _. omega arith) (λ _. omega (arith, behind_short bs))

pub shorter : (s t : List ℕ) → behind s ≡ 10 ∷ t → length t < length s
shorter s t e = omega (arith, behind_short s, ap length e)

-- the line at the start of which a reader stands
pub turn : (o : Reader) (b : Bool) (ss : List (List ℕ)) → o.scan.column ≡ 1 → read_lines o.scan.line b (rest o.scan ∷ ss) ≡ on_line o.scan.line b (line_here o) (λ c. read_lines (o.scan.line + 1) c ss)
turn o b ss e = ap (λ c. on_line o.scan.line b (line_of o.scan.line c (rest o.scan)) (λ d. read_lines (o.scan.line + 1) d ss)) (sym e)

-- the lines from the next on
pub onward : (o q : Reader) (b : Bool) → behind (rest o.scan) ≡ 10 ∷ rest q.scan → q.scan.line ≡ o.scan.line + 1 → read_lines (o.scan.line + 1) b (later (rest o.scan)) ≡ read_lines q.scan.line b (rest q.scan ∷ later (rest q.scan))
onward o q b tail line = (λ j. read_lines (sym line j) b (later_next (rest o.scan) (rest q.scan) tail j))

pub last : (o : Reader) (b : Bool) → behind (rest o.scan) ≡ [] → read_lines (o.scan.line + 1) b (later (rest o.scan)) ≡ read_lines (o.scan.line + 1) b []
last o b tail = ap (read_lines (o.scan.line + 1) b) (later_none (rest o.scan) tail)

-- what the reader computes is what the grammar says
pub accepted_is : (s : List ℕ) (fs : List grammar.Located) → read_of s ≡ Ok fs → Accepted s
accepted_is s fs e = record { forms = fs; derived = read_sound s fs e; fair = λ k m u. let p = fault_complete s k m u in cc }

pub refused_is : (s : List ℕ) (f : Fault) → read_of s ≡ Err f → Refused s f
refused_is s f e = record {
  ground = fault_sound s f e;
  only = λ k m u. let p = fault_complete s k m u in let i : p.0 ≡ f = cc in (sym p.2 ∙ ap number_of i, sym p.3 ∙ ap fault.line_of i);
  underived = λ fs r. let h = read_complete s fs r in cc;
}

exact : (s : List ℕ) → Exactly s (verdict_of s)
exact s = go (read_of s) refl
  where
    go : (r : Result (List grammar.Located) Fault) → read_of s ≡ r → Exactly s (accepted r)
    go (Ok fs) e = accepted_is s fs e
    go (Err f) e = refused_is s f e

pub verdict_is : (s : List ℕ) (r : Result (Unit {0}) Fault) → r ≡ verdict_of s → Verdict s r
verdict_is s r e = record { answer = e; exactly = subst (Exactly s) (sym e) (exact s) }

pub reads_once : (s : List ℕ) (fs : List grammar.Located) → read_of s ≡ Ok fs → (gs : List grammar.Located) → Reads s gs → gs ≡ fs
reads_once s fs e gs r = let h = read_complete s gs r in cc

some_length : (xs : List Located) (n : ℕ) → n ≡ length xs → some xs ≡ not (eqb n 0)
some_length [] n e = sym (ap (λ m. not (eqb m 0)) e)
some_length (x ∷ xs) n e = sym (ap not (ne_eqb n 0 (λ z. omega arith)))

pub some_found : (xs : List Located) (n : ℕ) (e : Bool) → n ≡ length xs → e ≡ eqb n 0 → (b : Bool) → e ≡ not b → some xs ≡ b
some_found xs n e i j true k = some_length xs n i ∙ ap not (sym j ∙ k)
some_found xs n e i j false k = some_length xs n i ∙ ap not (sym j ∙ k)

-- at the start of a line, where forms stand before it or none does: the verdict is that on the lines left
pub record Judging (s : List ℕ) (r : Reader) (b : Bool) : Type 0 where
  pub column : r.scan.column ≡ 1
  pub left : accepted (read_lines r.scan.line b (rest r.scan ∷ later (rest r.scan))) ≡ verdict_of s

-- at the start of a line, behind these forms: the sheet is what was found and what is left
pub record Noting (s : List ℕ) (r : Reader) (xs : List Located) : Type 0 where
  pub column : r.scan.column ≡ 1
  pub left : found xs (read_lines r.scan.line (some xs) (rest r.scan ∷ later (rest r.scan))) ≡ read_of s

-- the first line
pub first : (s : List ℕ) (r : Reader) → length s ≤ longest → r.scan.sheet.now ≡ take 65536 s → r.scan.at ≡ 0 → r.scan.line ≡ 1 → read_lines r.scan.line false (rest r.scan ∷ later (rest r.scan)) ≡ read_of s
first s r short sheet at line =
    let rests : rest r.scan ≡ s = (λ j. drop (at j) (sheet j)) ∙ take_all 65536 s short in
    (λ j. read_lines (line j) false (rests j ∷ later (rests j))) ∙ sym (whole s short)

pub judging_first : (s : List ℕ) (r : Reader) → length s ≤ longest → r.scan.sheet.now ≡ take 65536 s → r.scan.at ≡ 0 → r.scan.line ≡ 1 → r.scan.column ≡ 1 → Judging s r false
judging_first s r short sheet at line column = record { column = column; left = ap accepted (first s r short sheet at line) }

found_none : (r : Result (List grammar.Located) Fault) → found [] r ≡ r
found_none (Ok fs) = refl
found_none (Err f) = refl

pub noting_first : (s : List ℕ) (r : Reader) (xs : List Located) → xs ≡ [] → length s ≤ longest → r.scan.sheet.now ≡ take 65536 s → r.scan.at ≡ 0 → r.scan.line ≡ 1 → r.scan.column ≡ 1 → Noting s r xs
noting_first s r xs e short sheet at line column = record {
  column = column;
  left = ap (λ l. found l (read_lines r.scan.line (some l) (rest r.scan ∷ later (rest r.scan)))) e ∙ found_none _ ∙ first s r short sheet at line;
}

-- a line with a fault
pub judging_fault : (s : List ℕ) (o q : Reader) (b : Bool) (f : Fault) → Judging s o b → LineJudged (Err f) b o q → Err f ≡ verdict_of s
judging_fault s o q b f h w = ap accepted (sym (turn o b (later (rest o.scan)) h.column ∙ w (λ c. read_lines (o.scan.line + 1) c (later (rest o.scan))))) ∙ h.left

pub noting_fault : (s : List ℕ) (o q : Reader) (xs ys : List Located) (f : Fault) → Noting s o xs → LineNoted (Err (failed.Fault f)) xs ys o q → read_of s ≡ Err f
noting_fault s o q xs ys f h w = sym h.left ∙ ap (found xs) (turn o (some xs) (later (rest o.scan)) h.column ∙ w (λ c. read_lines (o.scan.line + 1) c (later (rest o.scan))))

-- a line without one
judged : (s : List ℕ) (o q : Reader) (b c : Bool) → Judging s o b → LineJudged (Ok c) b o q → accepted (read_lines (o.scan.line + 1) c (later (rest o.scan))) ≡ verdict_of s
judged s o q b c h w = sym (ap accepted (turn o b (later (rest o.scan)) h.column) ∙ w.0 (λ d. read_lines (o.scan.line + 1) d (later (rest o.scan)))) ∙ h.left

noted_line : (s : List ℕ) (o q : Reader) (xs ys : List Located) → Noting s o xs → LineNoted (Ok tt) xs ys o q → found ys (read_lines (o.scan.line + 1) (some ys) (later (rest o.scan))) ≡ read_of s
noted_line s o q xs ys h w = sym (ap (found xs) (turn o (some xs) (later (rest o.scan)) h.column) ∙ w.0 (λ d. read_lines (o.scan.line + 1) d (later (rest o.scan)))) ∙ h.left

-- and the next, or none
pub judging_more : (s : List ℕ) (o q r : Reader) (b c : Bool) → Judging s o b → LineJudged (Ok c) b o q → Onto true (behind (rest q.scan)) (rest r.scan) q.scan.line r.scan.line r.scan.column → Judging s r c
judging_more s o q r b c h w n = record {
  column = n.2;
  left = ap accepted (sym (onward o r c (sym w.1.tail ∙ n.0) (n.1 ∙ ap (λ l. l + 1) w.1.line))) ∙ judged s o q b c h w;
}

pub judging_last : (s : List ℕ) (o q : Reader) (b c : Bool) → Judging s o b → LineJudged (Ok c) b o q → behind (rest q.scan) ≡ [] → accepted (read_lines (o.scan.line + 1) c []) ≡ verdict_of s
judging_last s o q b c h w n = ap accepted (sym (last o c (sym w.1.tail ∙ n))) ∙ judged s o q b c h w

pub noting_more : (s : List ℕ) (o q r : Reader) (xs ys : List Located) → Noting s o xs → LineNoted (Ok tt) xs ys o q → Onto true (behind (rest q.scan)) (rest r.scan) q.scan.line r.scan.line r.scan.column → Noting s r ys
noting_more s o q r xs ys h w n = record {
  column = n.2;
  left = ap (found ys) (sym (onward o r (some ys) (sym w.1.tail ∙ n.0) (n.1 ∙ ap (λ l. l + 1) w.1.line))) ∙ noted_line s o q xs ys h w;
}

pub noting_last : (s : List ℕ) (o q : Reader) (xs ys : List Located) → Noting s o xs → LineNoted (Ok tt) xs ys o q → behind (rest q.scan) ≡ [] → found ys (read_lines (o.scan.line + 1) (some ys) []) ≡ read_of s
noting_last s o q xs ys h w n = ap (found ys) (sym (last o (some ys) (sym w.1.tail ∙ n))) ∙ noted_line s o q xs ys h w

pub next_shorter : (o q : Reader) (t : List ℕ) → SameLine o q → behind (rest q.scan) ≡ 10 ∷ t → length t < length (rest o.scan)
next_shorter o q t w n = shorter (rest o.scan) t (sym w.tail ∙ n)

-- what reading answers
pub read_fault : (s : List ℕ) (f : Fault) → read_of s ≡ Err f → ReadAs s (Err (failed.Fault f))
read_fault s f e = (e, refused_is s f e)

pub read_forms : (s : List ℕ) (fs : List grammar.Located) → read_of s ≡ Ok fs → ReadOnce s fs
read_forms s fs e = let r = read_sound s fs e in record { answer = e; derived = r; only = reads_once s fs e; fair = (accepted_is s fs e).fair; parts = reads_parts s fs r }

pub noting_stop : (s : List ℕ) (o q : Reader) (xs ys : List Located) (e : Failed Fault) → Noting s o xs → LineNoted (Err e) xs ys o q → ReadAs s (Err e)
noting_stop s o q xs ys (failed.Fault f) h w = read_fault s f (noting_fault s o q xs ys f h w)
noting_stop s o q xs ys failed.Memory h w = tt

-- no form, or these
pub noting_none : (s : List ℕ) (n : ℕ) (xs : List Located) → some xs ≡ false → found xs (read_lines n (some xs) []) ≡ read_of s → read_of s ≡ Err (faults.House 1 strays.Missing)
noting_none s n xs e h = sym h ∙ ap (λ b. found xs (read_lines n b [])) e

pub noting_all : (s : List ℕ) (n : ℕ) (xs : List Located) → some xs ≡ true → found xs (read_lines n (some xs) []) ≡ read_of s → read_of s ≡ Ok (map located xs)
noting_all s n xs e h = sym h ∙ ap (λ b. found xs (read_lines n b [])) e ∙ ap Ok (append-nil (map located xs))
