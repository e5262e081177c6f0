-- The grammar of a whole sheet, and why one is not read.
use Rattle.std.specs.Prelude.{◌≡◌, ℕ, ◌+◌, ◌<◌, ◌≤◌, Bool, true, false, cond, List, [], ◌∷◌, ◌++◌, length, ◌==◌}
use Rattle.std.specs.List.{AllByRecursion}
use Rattle.words.specs.Place.{PartOf}
use Rattle.forms.specs.Shapes.{is_house}
use Rattle.grammar.specs.Grammar.{Located, Said, blank, states, Says}

-- the most bytes that a sheet has
abbrev pub longest : ℕ
longest = 65536

-- a byte in front of the first line
abbrev pub ahead : ℕ → List (List ℕ) → List (List ℕ)
ahead b [] = (b ∷ []) ∷ []
ahead b (s ∷ ss) = (b ∷ s) ∷ ss

-- the lines, which byte 10 parts
abbrev pub lines : List ℕ → List (List ℕ)
lines [] = [] ∷ []
lines (b ∷ bs) = cond (b == 10) ([] ∷ lines bs) (ahead b (lines bs))

-- Holds: these lines, the first of which has the number n, hold these forms.
pub data Holds : ℕ → List (List ℕ) → List Located → Type 0 where
  none : {n : ℕ} → Holds n [] []
  empty : {n : ℕ} {s : List ℕ} {ss : List (List ℕ)} {fs : List Located} → Says n 1 s blank → Holds (n + 1) ss fs → Holds n (s ∷ ss) fs
  form : {n : ℕ} {s : List ℕ} {ss : List (List ℕ)} {f : Located} {fs : List Located} → Says n 1 s (states f) → Holds (n + 1) ss fs → Holds n (s ∷ ss) (f ∷ fs)

-- The first of these forms is a house form, and no other is.
abbrev pub InOrder : List Located → Type 0
InOrder [] = Unit {0}
InOrder (x ∷ xs) = (is_house x.shape ≡ true) × AllByRecursion (λ y. is_house y.shape ≡ false) xs

abbrev pub some : {A : Type 0} → List A → Bool
some [] = false
some (x ∷ xs) = true

-- Reads: the sheet is these forms. It has at most 65,536 bytes, its lines hold the forms, and the house form is first and once.
pub record Reads (s : List ℕ) (fs : List Located) : Type 0 where
  pub short : length s ≤ longest
  pub holds : Holds 1 (lines s) fs
  pub order : InOrder fs
  pub has : some fs ≡ true

-- Flawed: what is wrong with the line n, where forms stand on lines before it or none does: it is outside the grammar (21), or a
-- house form that is not the first, or another form that is (22).
pub data Flawed (forms : Bool) (n : ℕ) (s : List ℕ) : ℕ → Type 0 where
  outside : ((x : Said) → Says n 1 s x → ⊥) → Flawed forms n s 21
  misplaced : {f : Located} → Says n 1 s (states f) → is_house f.shape ≡ forms → Flawed forms n s 22

-- Unread: why a sheet is not read, as the number of the refusal and the line: it is too long (20), or this is the first line with
-- a flaw, or no line has one and there is no form (22, line 1).
pub data Unread (s : List ℕ) : ℕ → ℕ → Type 0 where
  long : longest < length s → Unread s 20 1
  flaw : {k : ℕ} {fs : List Located} (before after : List (List ℕ)) (l : List ℕ) → length s ≤ longest → lines s ≡ before ++ l ∷ after → Holds 1 before fs → InOrder fs → Flawed (some fs) (1 + length before) l k → Unread s k (1 + length before)
  formless : length s ≤ longest → Holds 1 (lines s) [] → Unread s 22 1

-- the words of these forms are parts of the sheet
abbrev pub Parts : List ℕ → List Located → Type 0
Parts s fs = AllByRecursion (λ f. AllByRecursion (PartOf s) f.words) fs
