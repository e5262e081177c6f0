-- What a check of a sheet writes.
use Rattle.std.specs.Prelude.{◌≡◌, ℕ, List, ◌++◌, Ok, Err, codes, decimal, Result}
use Rattle.forms.specs.declared.fault.Fault.{Fault}
use Rattle.forms.specs.Faults.{number_of, line_of}
use Rattle.forms.specs.Texts.{fault_text}
use Rattle.grammar.specs.Grammar.{Located}
use Rattle.grammar.specs.Listing.{listing, Retold}
use Rattle.grammar.specs.Reading.{read_of}
use Rattle.grammar.specs.Sheets.{Reads, Unread}

-- the number and line of a fault, and a comment that says what is wrong
abbrev pub refusal : Fault → List ℕ
refusal f = codes "(unread " ++ (decimal (number_of f) ++ (codes " " ++ (decimal (line_of f) ++ (codes ")\n; " ++ (fault_text f ++ codes "\n")))))

abbrev pub report_of : Result (List Located) Fault → List ℕ
report_of (Ok fs) = listing fs
report_of (Err f) = refusal f

-- The report on a sheet: its forms in plain spelling, which read the same, or the one refusal that it gets.
pub record Reported (s text : List ℕ) : Type 0 where
  pub answer : text ≡ report_of (read_of s)
  pub forms : (fs : List Located) → Reads s fs → (text ≡ listing fs) × Retold fs text
  pub fault : (k m : ℕ) → Unread s k m → (f : Fault) × (number_of f ≡ k) × (line_of f ≡ m) × (text ≡ refusal f)
