-- The sheet, read line by line from its first byte on, or its first fault.
use Rattle.std.specs.Prelude.{ℕ, ◌+◌, Bool, true, false, cond, List, [], ◌∷◌, ◌++◌, length, Ok, Err, Result, ◌==◌, nat_lt}
use Rattle.words.specs.declared.bytes.Kind.{Kind}
use Rattle.words.specs.declared.bytes.Kind.TheVariants as kinds
use Rattle.words.specs.Bytes.{kind}
use Rattle.words.specs.Tokens.{Tok, lex}
use Rattle.words.specs.View.{words_in}
use Rattle.forms.specs.declared.fault.Fault.{Fault}
use Rattle.forms.specs.declared.fault.Fault.TheVariants.{TooLong, Outside, House}
use Rattle.forms.specs.declared.fault.Stray.{Stray}
use Rattle.forms.specs.declared.fault.Stray.TheVariants.{Late, Again, Missing}
use Rattle.forms.specs.declared.trouble.Trouble.{Trouble}
use Rattle.parse.specs.Parser.{seen, then, form_of, end_of}
use Rattle.forms.specs.Shapes.{Shape, is_house}
use Rattle.grammar.specs.Grammar.{Located, Said, blank, states}
use Rattle.grammar.specs.Sheets.{longest}

-- a form and the end of its line, by the line's tokens
abbrev pub formed : ℕ → List Tok → Result Said Trouble
formed l ts = then (form_of ts) (λ f us. then (end_of us) (λ _ _. Ok (states (record { line = l; shape = f; words = words_in ts }))))

abbrev pub start : Kind → Result Said Trouble → Result Said Trouble → Result Said Trouble
start kinds.LineEnd r f = Ok blank
start kinds.Space r f = r
start kinds.Open r f = f
start kinds.Close r f = f
start kinds.Semicolon r f = Ok blank
start kinds.Letter r f = f
start kinds.Other r f = f

-- what the line at the front of these bytes says, which stand at column c of line l
abbrev pub line_of : ℕ → ℕ → List ℕ → Result Said Trouble
line_of l c [] = Ok blank
line_of l c (b ∷ bs) = start (kind b) (line_of l (c + 1) bs) (formed l (lex l c (b ∷ bs)))

-- the bytes from the start of each line but the first on
abbrev pub later : List ℕ → List (List ℕ)
later [] = []
later (b ∷ bs) = cond (b == 10) (bs ∷ later bs) (later bs)

-- what is wrong with a house form behind others, or with another form where there is none yet
abbrev pub stray : Bool → Stray
stray true = Again
stray false = Late

-- whether a form may stand here, where forms stand before it or none does
abbrev pub fits : Bool → Shape → Bool
fits true f = cond (is_house f) false true
fits false f = is_house f

abbrev pub before : List Located → Result (List Located) Fault → Result (List Located) Fault
before xs (Err e) = Err e
before xs (Ok ys) = Ok (xs ++ ys)

-- a line in front of those behind it, which k reads
abbrev pub on_line : ℕ → Bool → Result Said Trouble → (Bool → Result (List Located) Fault) → Result (List Located) Fault
on_line n forms (Err t) k = Err (Outside n t)
on_line n forms (Ok blank) k = k forms
on_line n forms (Ok (states x)) k = cond (fits forms x.shape) (before (x ∷ []) (k true)) (Err (House n (stray forms)))

-- the lines from the line n on, where forms stand before them or none does
abbrev pub read_lines : ℕ → Bool → List (List ℕ) → Result (List Located) Fault
read_lines n true [] = Ok []
read_lines n false [] = Err (House 1 Missing)
read_lines n forms (s ∷ ss) = on_line n forms (line_of n 1 s) (λ b. read_lines (n + 1) b ss)

-- the forms of a sheet, or its fault
abbrev pub read_of : List ℕ → Result (List Located) Fault
read_of s = cond (nat_lt longest (length s)) (Err TooLong) (read_lines 1 false (s ∷ later s))

-- accepted, or the fault
abbrev pub accepted : Result (List Located) Fault → Result (Unit {0}) Fault
accepted r = seen (λ _. tt) r

-- the verdict on a sheet
abbrev pub verdict_of : List ℕ → Result (Unit {0}) Fault
verdict_of s = accepted (read_of s)
