-- What the reader promises.
use Rattle.std.specs.Prelude.{◌≡◌, ℕ, List, map, Ok, Err, vec_items, Result, Vec}
use Rattle.std.specs.declared.alloc.Global.{Global}
use Rattle.forms.specs.declared.fault.Fault.{Fault}
use Rattle.forms.specs.Faults.{number_of, line_of}
use Rattle.grammar.specs.Grammar.{Located}
use Rattle.grammar.specs.Reading.{read_of, verdict_of}
use Rattle.grammar.specs.Sheets.{Reads, Unread, Parts}
use Rattle.sheet.specs.declared.located.Located.{Located as CodeLocated}
use Rattle.parse.specs.declared.trouble.Failed.{Failed}
use Rattle.parse.specs.declared.trouble.Failed.TheVariants as failed
use Rattle.sheet.specs.Lines.{located}

-- The sheet is one that the grammar derives, and there is no ground to refuse it.
pub record Accepted (s : List ℕ) : Type 0 where
  pub forms : List Located
  pub derived : Reads s forms
  pub fair : (k m : ℕ) → Unread s k m → ⊥

-- The sheet is refused with this number and line, with no other, and the grammar derives nothing from it.
pub record Refused (s : List ℕ) (f : Fault) : Type 0 where
  pub ground : Unread s (number_of f) (line_of f)
  pub only : (k m : ℕ) → Unread s k m → (k ≡ number_of f) × (m ≡ line_of f)
  pub underived : (fs : List Located) → Reads s fs → ⊥

-- The reader accepts exactly the grammar.
abbrev pub Exactly : List ℕ → Result (Unit {0}) Fault → Type 0
Exactly s (Ok _) = Accepted s
Exactly s (Err f) = Refused s f

-- The verdict on a sheet.
pub record Verdict (s : List ℕ) (r : Result (Unit {0}) Fault) : Type 0 where
  pub answer : r ≡ verdict_of s
  pub exactly : Exactly s r

-- The reader reads in one way: these forms are derived, and no others, with the same words in the same places; the words are
-- parts of the sheet.
pub record ReadOnce (s : List ℕ) (fs : List Located) : Type 0 where
  pub answer : read_of s ≡ Ok fs
  pub derived : Reads s fs
  pub only : (gs : List Located) → Reads s gs → gs ≡ fs
  pub fair : (k m : ℕ) → Unread s k m → ⊥
  pub parts : Parts s fs

-- What reading a sheet gives; want of memory says nothing of the sheet.
abbrev pub ReadAs : List ℕ → Result (Vec CodeLocated Global) (Failed Fault) → Type 0
ReadAs s (Ok v) = ReadOnce s (map located (vec_items v))
ReadAs s (Err (failed.Fault f)) = (read_of s ≡ Err f) × Refused s f
ReadAs s (Err failed.Memory) = Unit {0}
