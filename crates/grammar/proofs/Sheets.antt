-- A whole sheet, by the relation and by the function.
use Rattle.std.proofs.Common.{◌≡◌, ℕ, ◌+◌, ◌≤◌, Bool, true, false, cond, eqb, ltb, ◌⊎◌, List, [], ◌∷◌, ◌++◌, map, length, Ok, Err, Result, sym, refl, ap, ◌∙◌, subst, subst₂, inl, inr, add-zero, arith}
use Rattle.std.specs.List.{AllByRecursion}
use Rattle.std.proofs.lemmas.Bool.{cond-true, cond-false, ltb-true, ltb-false, lt-ltb, le-ltb}
use Rattle.words.specs.Bytes.{front}
use Rattle.forms.specs.declared.fault.Fault.{Fault}
use Rattle.forms.specs.declared.fault.Fault.TheVariants as faults
use Rattle.forms.specs.declared.fault.Stray.TheVariants as strays
use Rattle.forms.specs.declared.trouble.Trouble.{Trouble}
use Rattle.forms.specs.Faults as fault
use Rattle.forms.specs.Shapes.{Shape, is_house}
use Rattle.grammar.specs.Grammar.{Located, Said, blank, states, Says}
use Rattle.grammar.specs.Reading.{line_of, later, stray, fits, before, on_line, read_lines, read_of}
use Rattle.grammar.specs.Sheets.{longest, ahead, lines, Holds, InOrder, some, Reads, Flawed, Unread}
use Rattle.grammar.proofs.Fields.{ok_same}
use Rattle.grammar.proofs.Saying.{line_sound, line_complete}

err_one : {A E : Type 0} (x y : E) → ◌≡◌ {A = Result A E} (Err x) (Err y) → x ≡ y
err_one x y h = cc

-- the lines are the fronts of what stands from the start of each on
pub lines_are : (s : List ℕ) → lines s ≡ map front (s ∷ later s)
lines_are [] = refl
lines_are (b ∷ bs) = go (eqb b 10) refl (lines_are bs)
  where
    go : (x : Bool) → eqb b 10 ≡ x → lines bs ≡ map front (bs ∷ later bs) → lines (b ∷ bs) ≡ map front ((b ∷ bs) ∷ later (b ∷ bs))
    go true e ih = cond-true _ _ _ e ∙ ap (λ l. [] ∷ l) ih ∙ (λ j. sym (cond-true (eqb b 10) [] (b ∷ front bs) e) j ∷ map front (sym (cond-true (eqb b 10) (bs ∷ later bs) (later bs) e) j))
    go false e ih = cond-false _ _ _ e ∙ ap (ahead b) ih ∙ (λ j. sym (cond-false (eqb b 10) [] (b ∷ front bs) e) j ∷ map front (sym (cond-false (eqb b 10) (bs ∷ later bs) (later bs) e) j))

-- a form fits where it is a house form exactly if there is no form yet
fits_not : (b : Bool) (f : Shape) → is_house f ≡ b → fits b f ≡ false
fits_not true f e = cond-true _ _ _ e
fits_not false f e = e

not_fits : (b : Bool) (f : Shape) → fits b f ≡ false → is_house f ≡ b
not_fits false f e = e
not_fits true f e = go (is_house f) refl e
  where
    go : (h : Bool) → is_house f ≡ h → cond h false true ≡ false → is_house f ≡ true
    go true i e = i
    go false i e = cc

fits_later : (f : Shape) → is_house f ≡ false → fits true f ≡ true
fits_later f e = cond-false _ _ _ e

later_fits : (f : Shape) → fits true f ≡ true → is_house f ≡ false
later_fits f e = go (is_house f) refl e
  where
    go : (h : Bool) → is_house f ≡ h → cond h false true ≡ true → is_house f ≡ false
    go true i e = cc
    go false i e = i

-- these forms may stand behind others, or where there are none
abbrev Fine : Bool → List Located → Type 0
Fine b [] = Unit {0}
Fine b (x ∷ xs) = (fits b x.shape ≡ true) × Fine true xs

-- whether there are forms, with these behind the others
abbrev also : Bool → List Located → Bool
also b [] = b
also b (x ∷ xs) = true

fine_all : (xs : List Located) → AllByRecursion (λ y. is_house y.shape ≡ false) xs → Fine true xs
fine_all [] a = tt
fine_all (x ∷ xs) a = (fits_later x.shape a.0, fine_all xs a.1)

all_fine : (xs : List Located) → Fine true xs → AllByRecursion (λ y. is_house y.shape ≡ false) xs
all_fine [] a = tt
all_fine (x ∷ xs) a = (later_fits x.shape a.0, all_fine xs a.1)

fine : (xs : List Located) → InOrder xs → Fine false xs
fine [] a = tt
fine (x ∷ xs) a = (a.0, fine_all xs a.1)

ordered : (xs : List Located) → Fine false xs → InOrder xs
ordered [] a = tt
ordered (x ∷ xs) a = (a.0, all_fine xs a.1)

also_some : (xs : List Located) → some xs ≡ also false xs
also_some [] = refl
also_some (x ∷ xs) = refl

also_true : (xs : List Located) → also true xs ≡ true
also_true [] = refl
also_true (x ∷ xs) = refl

before_ok : (x : Located) (r : Result (List Located) Fault) (fs : List Located) → before (x ∷ []) r ≡ Ok fs → (gs : List Located) × (r ≡ Ok gs) × (x ∷ gs ≡ fs)
before_ok x (Ok gs) fs e = (gs, refl, ok_same _ _ e)
before_ok x (Err f) fs e = cc

before_err : (x : Located) (r : Result (List Located) Fault) (f : Fault) → before (x ∷ []) r ≡ Err f → r ≡ Err f
before_err x (Ok gs) f e = cc
before_err x (Err g) f e = e

-- the lines behind a line
abbrev Rest : ℕ → List (List ℕ) → Bool → Result (List Located) Fault
Rest n ss b = read_lines (n + 1) b ss

-- read as forms
abbrev Held : ℕ → Bool → List (List ℕ) → List Located → Type 0
Held n b ss fs = Holds n (map front ss) fs × Fine b fs × (also b fs ≡ true)

read_holds : (n : ℕ) (b : Bool) (ss : List (List ℕ)) (fs : List Located) → read_lines n b ss ≡ Ok fs → Held n b ss fs
read_holds n true [] fs e = subst (λ l. Holds n [] l × Fine true l × (also true l ≡ true)) (ok_same _ _ e) (Holds.none, tt, refl)
read_holds n false [] fs e = cc
read_holds n b (s ∷ ss) fs e = go (λ c gs. read_holds (n + 1) c ss gs) (line_of n 1 s) refl e
  where
    go : ((c : Bool) (gs : List Located) → read_lines (n + 1) c ss ≡ Ok gs → Held (n + 1) c ss gs) → (r : Result Said Trouble) → line_of n 1 s ≡ r → on_line n b r (Rest n ss) ≡ Ok fs → Held n b (s ∷ ss) fs
    go ih (Err t) i e = cc
    go ih (Ok blank) i e = let h = ih b fs e in (Holds.empty (line_sound n 1 s blank i) h.0, h.1, h.2)
    go ih (Ok (states x)) i e = last (fits b x.shape) refl e
      where
        last : (t : Bool) → fits b x.shape ≡ t → cond t (before (x ∷ []) (Rest n ss true)) (Err (faults.House n (stray b))) ≡ Ok fs → Held n b (s ∷ ss) fs
        last false q e = cc
        last true q e =
            let p = before_ok x (Rest n ss true) fs e in
            let h = ih true p.0 p.1 in
            subst (λ l. Holds n (front s ∷ map front ss) l × Fine b l × (also b l ≡ true)) p.2 (Holds.form (line_sound n 1 s (states x) i) h.0, (q, h.1), refl)

holds_read : (n : ℕ) (b : Bool) (ss : List (List ℕ)) (fs : List Located) → Holds n (map front ss) fs → Fine b fs → also b fs ≡ true → read_lines n b ss ≡ Ok fs
holds_read n true [] fs Holds.none g h = refl
holds_read n false [] fs Holds.none g h = cc
holds_read n b (s ∷ ss) fs (Holds.empty a p) g h = ap (λ r. on_line n b r (Rest n ss)) (line_complete n 1 s blank a) ∙ holds_read (n + 1) b ss fs p g h
holds_read n b (s ∷ ss) fs (Holds.form {f = x} {fs = gs} a p) g h =
    ap (λ r. on_line n b r (Rest n ss)) (line_complete n 1 s (states x) a) ∙ cond-true _ _ _ g.0 ∙ ap (before (x ∷ [])) (holds_read (n + 1) true ss gs p g.1 (also_true gs))

-- the first flaw, line by line
data Fails : Bool → ℕ → List (List ℕ) → ℕ → ℕ → Type 0 where
  none : {n : ℕ} → Fails false n [] 22 1
  here : {b : Bool} {n k : ℕ} {s : List ℕ} {ss : List (List ℕ)} → Flawed b n s k → Fails b n (s ∷ ss) k n
  past : {b : Bool} {n m k : ℕ} {s : List ℕ} {ss : List (List ℕ)} → Says n 1 s blank → Fails b (n + 1) ss k m → Fails b n (s ∷ ss) k m
  suits : {b : Bool} {n m k : ℕ} {s : List ℕ} {ss : List (List ℕ)} {f : Located} → Says n 1 s (states f) → fits b f.shape ≡ true → Fails true (n + 1) ss k m → Fails b n (s ∷ ss) k m

abbrev Failed : ℕ → Bool → List (List ℕ) → Fault → Type 0
Failed n b ss f = Fails b n (map front ss) (fault.number_of f) (fault.line_of f)

read_fails : (n : ℕ) (b : Bool) (ss : List (List ℕ)) (f : Fault) → read_lines n b ss ≡ Err f → Failed n b ss f
read_fails n true [] f e = cc
read_fails n false [] f e = subst (Failed n false []) (err_one _ _ e) none
read_fails n b (s ∷ ss) f e = go (λ c g. read_fails (n + 1) c ss g) (line_of n 1 s) refl e
  where
    go : ((c : Bool) (g : Fault) → read_lines (n + 1) c ss ≡ Err g → Failed (n + 1) c ss g) → (r : Result Said Trouble) → line_of n 1 s ≡ r → on_line n b r (Rest n ss) ≡ Err f → Failed n b (s ∷ ss) f
    go ih (Err t) i e = subst (Failed n b (s ∷ ss)) (err_one _ _ e) (here (Flawed.outside (λ x a. let h = line_complete n 1 s x a in cc)))
    go ih (Ok blank) i e = past (line_sound n 1 s blank i) (ih b f e)
    go ih (Ok (states x)) i e = last (fits b x.shape) refl e
      where
        last : (t : Bool) → fits b x.shape ≡ t → cond t (before (x ∷ []) (Rest n ss true)) (Err (faults.House n (stray b))) ≡ Err f → Failed n b (s ∷ ss) f
        last false q e = subst (Failed n b (s ∷ ss)) (err_one _ _ e) (here (Flawed.misplaced (line_sound n 1 s (states x) i) (not_fits b x.shape q)))
        last true q e = suits (line_sound n 1 s (states x) i) q (ih true f (before_err x (Rest n ss true) f e))

-- a fault with this number and line
abbrev Faulty : Result (List Located) Fault → ℕ → ℕ → Type 0
Faulty r k m = (f : Fault) × (r ≡ Err f) × (fault.number_of f ≡ k) × (fault.line_of f ≡ m)

outside_read : (n : ℕ) (b : Bool) (s : List ℕ) (ss : List (List ℕ)) → ((x : Said) → Says n 1 (front s) x → ⊥) → Faulty (read_lines n b (s ∷ ss)) 21 n
outside_read n b s ss h = go (line_of n 1 s) refl
  where
    go : (r : Result Said Trouble) → line_of n 1 s ≡ r → Faulty (read_lines n b (s ∷ ss)) 21 n
    go (Ok x) i = absurd (h x (line_sound n 1 s x i))
    go (Err t) i = (faults.Outside n t, ap (λ r. on_line n b r (Rest n ss)) i, refl, refl)

fails_read : (n : ℕ) (b : Bool) (ss : List (List ℕ)) (k m : ℕ) → Fails b n (map front ss) k m → Faulty (read_lines n b ss) k m
fails_read n b [] k m none = (faults.House 1 strays.Missing, refl, refl, refl)
fails_read n b (s ∷ ss) k m (here (Flawed.outside h)) = outside_read n b s ss h
fails_read n b (s ∷ ss) k m (here (Flawed.misplaced {f = x} a e)) =
    (faults.House n (stray b), ap (λ r. on_line n b r (Rest n ss)) (line_complete n 1 s (states x) a) ∙ cond-false _ _ _ (fits_not b x.shape e), refl, refl)
fails_read n b (s ∷ ss) k m (past a p) = let q = fails_read (n + 1) b ss k m p in (q.0, ap (λ r. on_line n b r (Rest n ss)) (line_complete n 1 s blank a) ∙ q.1, q.2, q.3)
fails_read n b (s ∷ ss) k m (suits {f = x} a h p) =
    let q = fails_read (n + 1) true ss k m p in
    (q.0, ap (λ r. on_line n b r (Rest n ss)) (line_complete n 1 s (states x) a) ∙ cond-true _ _ _ h ∙ ap (before (x ∷ [])) q.1, q.2, q.3)

-- the same flaw, by the lines before it
record Cut (b : Bool) (n : ℕ) (ls : List (List ℕ)) (k m : ℕ) : Type 0 where
  fs : List Located
  front : List (List ℕ)
  line : List ℕ
  back : List (List ℕ)
  parts : ls ≡ front ++ line ∷ back
  held : Holds n front fs
  good : Fine b fs
  flaw : Flawed (also b fs) (n + length front) line k
  at : m ≡ n + length front

-- no form at all
abbrev Formless : Bool → ℕ → List (List ℕ) → ℕ → ℕ → Type 0
Formless b n ls k m = (b ≡ false) × Holds n ls [] × (k ≡ 22) × (m ≡ 1)

fails_cut : {b : Bool} {n k m : ℕ} {ls : List (List ℕ)} → Fails b n ls k m → Cut b n ls k m ⊎ Formless b n ls k m
fails_cut none = inr (refl, Holds.none, refl, refl)
fails_cut {b} {n} {k} (here {s = s} {ss = ss} w) = inl (record { fs = []; front = []; line = s; back = ss; parts = refl; held = Holds.none; good = tt; flaw = subst (λ i. Flawed b i s k) (sym (add-zero n)) w; at = sym (add-zero n) })
fails_cut {b} {n} {k} {m} (past {s = s} {ss = ss} a p) = go (fails_cut p)
  where
    go : Cut b (n + 1) ss k m ⊎ Formless b (n + 1) ss k m → Cut b n (s ∷ ss) k m ⊎ Formless b n (s ∷ ss) k m
    go (inr (e, h, i, j)) = inr (e, Holds.empty a h, i, j)
    go (inl c) =
        let e : n + 1 + length c.front ≡ n + length (s ∷ c.front) = omega arith in
        inl (record { fs = c.fs; front = s ∷ c.front; line = c.line; back = c.back; parts = ap (λ l. s ∷ l) c.parts; held = Holds.empty a c.held; good = c.good; flaw = subst (λ i. Flawed (also b c.fs) i c.line k) e c.flaw; at = c.at ∙ e })
fails_cut {b} {n} {k} {m} (suits {s = s} {ss = ss} {f = x} a h p) = go (fails_cut p)
  where
    go : Cut true (n + 1) ss k m ⊎ Formless true (n + 1) ss k m → Cut b n (s ∷ ss) k m ⊎ Formless b n (s ∷ ss) k m
    go (inr (e, q, i, j)) = cc
    go (inl c) =
        let e : n + 1 + length c.front ≡ n + length (s ∷ c.front) = omega arith in
        inl (record { fs = x ∷ c.fs; front = s ∷ c.front; line = c.line; back = c.back; parts = ap (λ l. s ∷ l) c.parts; held = Holds.form a c.held; good = (h, c.good); flaw = subst₂ (λ t i. Flawed t i c.line k) (also_true c.fs) e c.flaw; at = c.at ∙ e })

cut_fails : {n k : ℕ} {ls : List (List ℕ)} {fs : List Located} (b : Bool) (l : List ℕ) (back : List (List ℕ)) → Holds n ls fs → Fine b fs → Flawed (also b fs) (n + length ls) l k → Fails b n (ls ++ l ∷ back) k (n + length ls)
cut_fails {n} {k} b l back Holds.none i w = subst (Fails b n (l ∷ back) k) (sym (add-zero n)) (here (subst (λ m. Flawed b m l k) (add-zero n) w))
cut_fails {n} {k} b l back (Holds.empty {s = s} {ss = ss} {fs = fs} a p) i w =
    let e : n + 1 + length ss ≡ n + length (s ∷ ss) = omega arith in
    past a (subst (Fails b (n + 1) (ss ++ l ∷ back) k) e (cut_fails b l back p i (subst (λ m. Flawed (also b fs) m l k) (sym e) w)))
cut_fails {n} {k} b l back (Holds.form {s = s} {ss = ss} {fs = fs} a p) i w =
    let e : n + 1 + length ss ≡ n + length (s ∷ ss) = omega arith in
    suits a i.0 (subst (Fails true (n + 1) (ss ++ l ∷ back) k) e (cut_fails true l back p i.1 (subst₂ (λ c m. Flawed c m l k) (sym (also_true fs)) (sym e) w)))

formless_fails : {n : ℕ} {ls : List (List ℕ)} {fs : List Located} → Holds n ls fs → fs ≡ [] → Fails false n ls 22 1
formless_fails Holds.none e = none
formless_fails (Holds.empty a p) e = past a (formless_fails p e)
formless_fails (Holds.form {f = x} {fs = fs} a p) e = cc

-- the sheet is read, or not, by its length first
pub whole : (s : List ℕ) → length s ≤ longest → read_of s ≡ read_lines 1 false (s ∷ later s)
whole s h = cond-false _ _ _ (le-ltb longest (length s) h)

-- the reader gives exactly the forms that the grammar derives
pub read_sound : (s : List ℕ) (fs : List Located) → read_of s ≡ Ok fs → Reads s fs
read_sound s fs e = go (ltb longest (length s)) refl e
  where
    go : (t : Bool) → ltb longest (length s) ≡ t → cond t (Err faults.TooLong) (read_lines 1 false (s ∷ later s)) ≡ Ok fs → Reads s fs
    go true i e = cc
    go false i e =
        let h = read_holds 1 false (s ∷ later s) fs e in
        record { short = ltb-false longest (length s) i; holds = subst (λ l. Holds 1 l fs) (sym (lines_are s)) h.0; order = ordered fs h.1; has = also_some fs ∙ h.2 }

pub read_complete : (s : List ℕ) (fs : List Located) → Reads s fs → read_of s ≡ Ok fs
read_complete s fs r = whole s r.short ∙ holds_read 1 false (s ∷ later s) fs (subst (λ l. Holds 1 l fs) (lines_are s) r.holds) (fine fs r.order) (sym (also_some fs) ∙ r.has)

-- and exactly the refusal that the grammar gives
pub fault_sound : (s : List ℕ) (f : Fault) → read_of s ≡ Err f → Unread s (fault.number_of f) (fault.line_of f)
fault_sound s f e = go (ltb longest (length s)) refl e
  where
    go : (t : Bool) → ltb longest (length s) ≡ t → cond t (Err faults.TooLong) (read_lines 1 false (s ∷ later s)) ≡ Err f → Unread s (fault.number_of f) (fault.line_of f)
    go true i e = subst (λ g. Unread s (fault.number_of g) (fault.line_of g)) (err_one _ _ e) (Unread.long (ltb-true longest (length s) i))
    go false i e = last (fails_cut (read_fails 1 false (s ∷ later s) f e))
      where
        short : length s ≤ longest
        short = ltb-false longest (length s) i

        last : Cut false 1 (map front (s ∷ later s)) (fault.number_of f) (fault.line_of f) ⊎ Formless false 1 (map front (s ∷ later s)) (fault.number_of f) (fault.line_of f) → Unread s (fault.number_of f) (fault.line_of f)
        last (inl c) =
            subst (Unread s (fault.number_of f)) (sym c.at)
            (Unread.flaw c.front c.back c.line short (lines_are s ∙ c.parts) c.held (ordered c.fs c.good) (subst (λ b. Flawed b (1 + length c.front) c.line (fault.number_of f)) (sym (also_some c.fs)) c.flaw))
        last (inr (b, h, k, m)) = subst₂ (Unread s) (sym k) (sym m) (Unread.formless short (subst (λ l. Holds 1 l []) (sym (lines_are s)) h))

pub fault_complete : (s : List ℕ) (k m : ℕ) → Unread s k m → Faulty (read_of s) k m
fault_complete s k m (Unread.long h) = (faults.TooLong, cond-true _ _ _ (lt-ltb longest (length s) h), refl, refl)
fault_complete s k m (Unread.flaw {fs = fs} front back l short e h i w) =
    let p = cut_fails false l back h (fine fs i) (subst (λ b. Flawed b (1 + length front) l k) (also_some fs) w) in
    let q = fails_read 1 false (s ∷ later s) k (1 + length front) (subst (λ ls. Fails false 1 ls k (1 + length front)) (sym e ∙ lines_are s) p) in
    (q.0, whole s short ∙ q.1, q.2, q.3)
fault_complete s k m (Unread.formless short h) =
    let q = fails_read 1 false (s ∷ later s) 22 1 (subst (λ ls. Fails false 1 ls 22 1) (lines_are s) (formless_fails h refl)) in
    (q.0, whole s short ∙ q.1, q.2, q.3)
