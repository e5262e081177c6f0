-- What is wrong with a sheet, in plain words.
use Rattle.std.specs.Prelude.{ℕ, List, ◌++◌, codes, decimal}
use Rattle.forms.specs.declared.fault.Fault.{Fault}
use Rattle.forms.specs.declared.fault.Fault.TheVariants as faults
use Rattle.forms.specs.declared.fault.Stray.{Stray}
use Rattle.forms.specs.declared.fault.Stray.TheVariants as strays
use Rattle.forms.specs.declared.trouble.Expected.{Expected}
use Rattle.forms.specs.declared.trouble.Expected.TheVariants as expected
use Rattle.forms.specs.declared.trouble.Found.{Found}
use Rattle.forms.specs.declared.trouble.Found.TheVariants as found
use Rattle.forms.specs.declared.trouble.Trouble.{Trouble}

abbrev pub expected_text : Expected → List ℕ
expected_text expected.Form = codes "a form or a comment"
expected_text expected.Name = codes "the name of a form"
expected_text expected.Number = codes "a number"
expected_text expected.Side = codes "buy or sell"
expected_text expected.Class = codes "customer or other"
expected_text expected.Edge = codes "bid or offer"
expected_text expected.Kind = codes "series or net"
expected_text expected.Mechanism = codes "block, fac or sol"
expected_text expected.Reserve = codes "the word reserve"
expected_text expected.Time = codes "the word time"
expected_text expected.At = codes "the word at"
expected_text expected.Opening = codes "an opening bracket"
expected_text expected.Closing = codes "a closing bracket"
expected_text expected.Size = codes "a size or a closing bracket"
expected_text expected.Leg = codes "a leg or a closing bracket"
expected_text expected.LineEnd = codes "the end of the line"

abbrev pub found_text : Found → List ℕ
found_text found.Opening = codes "an opening bracket"
found_text found.Closing = codes "a closing bracket"
found_text found.Word = codes "another word"
found_text found.BadByte = codes "a byte that no form has"
found_text found.LongWord = codes "a word of over 16 bytes"
found_text found.LineEnd = codes "the end of the line"

abbrev pub trouble_text : Trouble → List ℕ
trouble_text t = codes "column " ++ (decimal t.column ++ (codes ": expected " ++ (expected_text t.expected ++ (codes ", found " ++ found_text t.found))))

abbrev pub stray_text : Stray → List ℕ
stray_text strays.Late = codes "the first form is no house form"
stray_text strays.Again = codes "a second house form"
stray_text strays.Missing = codes "there is no house form"

abbrev pub fault_text : Fault → List ℕ
fault_text faults.TooLong = codes "the sheet has more than 65536 bytes"
fault_text (faults.Outside l t) = codes "line " ++ (decimal l ++ (codes ", " ++ trouble_text t))
fault_text (faults.House l s) = codes "line " ++ (decimal l ++ (codes ": " ++ stray_text s))
