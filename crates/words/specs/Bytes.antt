-- The kinds of byte that a sheet is made of.
use Rattle.std.specs.Prelude.{ℕ, suc, ◌+◌, Bool, false, cond, ◌&&◌, ◌||◌, List, [], ◌∷◌, ◌==◌, nat_le}
use Rattle.words.specs.declared.bytes.Kind.{Kind}
use Rattle.words.specs.declared.bytes.Kind.TheVariants.{LineEnd, Space, Open, Close, Semicolon, Letter, Other}

-- minus, a letter from a to z, or a digit
abbrev pub word_byte : ℕ → Bool
word_byte b = b == 45 || ((nat_le 97 b && nat_le b 122) || (nat_le 48 b && nat_le b 57))

abbrev pub kind : ℕ → Kind
kind b =
    cond (b == 10) LineEnd
    (cond (b == 32) Space (cond (b == 40) Open (cond (b == 41) Close (cond (b == 59) Semicolon (cond (word_byte b) Letter Other)))))

-- the kind of the byte that comes next, where the end of the sheet ends a line
abbrev pub next : List ℕ → Kind
next [] = LineEnd
next (b ∷ bs) = kind b

-- whether a word's byte comes next
abbrev pub begins : List ℕ → Bool
begins [] = false
begins (b ∷ bs) = word_byte b

-- how many bytes at the front belong to a word
abbrev pub run : List ℕ → ℕ
run [] = 0
run (b ∷ bs) = cond (word_byte b) (suc (run bs)) 0

-- the bytes of the line that stand at the front
abbrev pub front : List ℕ → List ℕ
front [] = []
front (b ∷ bs) = cond (b == 10) [] (b ∷ front bs)

-- what stands from the end of that line on
abbrev pub behind : List ℕ → List ℕ
behind [] = []
behind (b ∷ bs) = cond (b == 10) (b ∷ bs) (behind bs)

-- from these bytes at column c, spaces lead to those at column d
pub data Skips : ℕ → List ℕ → ℕ → List ℕ → Type 0 where
  none : {c : ℕ} {s : List ℕ} → Skips c s c s
  more : {c d : ℕ} {s t : List ℕ} → Skips (c + 1) s d t → Skips c (32 ∷ s) d t
