-- One line of a sheet: what the code's answers stand for.
use Rattle.std.specs.Prelude.{◌≡◌, ℕ, Bool, true, false, List, map, Some, None, Ok, Err, Option, Result}
use Rattle.words.specs.Bytes.{behind}
use Rattle.words.specs.View.{rest, words_in}
use Rattle.forms.specs.declared.fault.Fault.{Fault}
use Rattle.forms.specs.declared.fault.Fault.TheVariants as faults
use Rattle.forms.specs.declared.trouble.Trouble.{Trouble}
use Rattle.forms.specs.Shapes.{shape, is_house}
use Rattle.parse.specs.declared.reader.Reader.{Reader}
use Rattle.parse.specs.declared.trouble.Failed.{Failed}
use Rattle.parse.specs.declared.trouble.Failed.TheVariants as failed
use Rattle.parse.specs.Parser.{seen}
use Rattle.parse.specs.View.{tokens}
use Rattle.grammar.specs.Grammar as grammar
use Rattle.grammar.specs.Grammar.{Said, blank, states}
use Rattle.grammar.specs.Reading.{formed, line_of, on_line, accepted}
use Rattle.grammar.specs.Reading as reading
use Rattle.grammar.specs.Sheets.{some}
use Rattle.sheet.specs.declared.located.Located.{Located}

-- a form where it stands, as the grammar sees it
abbrev pub located : Located → grammar.Located
located x = record { line = x.line; shape = shape x.form; words = words_in (tokens x.start) }

-- what the line at a reader's place says
abbrev pub line_here : Reader → Result Said Trouble
line_here r = line_of r.scan.line r.scan.column (rest r.scan)

-- two readers stand on one line
pub record SameLine (before after : Reader) : Type 0 where
  pub line : after.scan.line ≡ before.scan.line
  pub tail : behind (rest after.scan) ≡ behind (rest before.scan)

-- spaces were passed over: the line has no form, or it says what the tokens from here on say
abbrev pub LineBegun : Bool → Reader → Reader → Type 0
LineBegun true before after = (line_here before ≡ Ok blank) × SameLine before after
LineBegun false before after = (line_here before ≡ formed after.scan.line (tokens after)) × SameLine before after

-- whether what a line says is a house form
abbrev pub house_in : Said → Option Bool
house_in blank = None
house_in (states x) = Some (is_house x.shape)

abbrev pub said_by : Option Located → Said
said_by None = blank
said_by (Some x) = states (located x)

-- the line was passed over
abbrev pub LineChecked : Result (Option Bool) Trouble → Reader → Reader → Type 0
LineChecked (Err t) before after = line_here before ≡ Err t
LineChecked (Ok o) before after = (seen house_in (line_here before) ≡ Ok o) × SameLine before after

-- the line was read
abbrev pub LineRead : Result (Option Located) (Failed Trouble) → Reader → Reader → Type 0
LineRead (Err (failed.Fault t)) before after = line_here before ≡ Err t
LineRead (Err failed.Memory) before after = Unit {0}
LineRead (Ok o) before after = (line_here before ≡ Ok (said_by o)) × SameLine before after

-- the lines that follow, by whether forms stand before them
abbrev pub Following : Type 0
Following = Bool → Result (List grammar.Located) Fault

-- the line was judged, where forms stand before it or none does: a fault, or whether forms stand before the next
abbrev pub LineJudged : Result Bool Fault → Bool → Reader → Reader → Type 0
LineJudged (Err f) forms before after = (k : Following) → on_line before.scan.line forms (line_here before) k ≡ Err f
LineJudged (Ok b) forms before after = ((k : Following) → accepted (on_line before.scan.line forms (line_here before) k) ≡ accepted (k b)) × SameLine before after

-- the forms that were found, in front of those that follow
abbrev pub found : List Located → Result (List grammar.Located) Fault → Result (List grammar.Located) Fault
found xs r = reading.before (map located xs) r

-- the line was noted: a fault, or what was found before it and in it
abbrev pub LineNoted : Result (Unit {0}) (Failed Fault) → List Located → List Located → Reader → Reader → Type 0
LineNoted (Err (failed.Fault f)) xs ys before after = (k : Following) → on_line before.scan.line (some xs) (line_here before) k ≡ Err f
LineNoted (Err failed.Memory) xs ys before after = Unit {0}
LineNoted (Ok _) xs ys before after = ((k : Following) → found xs (on_line before.scan.line (some xs) (line_here before) k) ≡ found ys (k (some ys))) × SameLine before after

-- why a line gives no form
abbrev pub unread_line : Failed Trouble → ℕ → Failed Fault
unread_line (failed.Fault t) l = failed.Fault (faults.Outside l t)
unread_line failed.Memory l = failed.Memory
