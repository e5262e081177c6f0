-- Why a sheet is not read: the number of the refusal, and the line at fault.
use Rattle.std.specs.Prelude.{ℕ}
use Rattle.forms.specs.declared.fault.Fault.{Fault}
use Rattle.forms.specs.declared.fault.Fault.TheVariants.{TooLong, Outside, House}

abbrev pub number_of : Fault → ℕ
number_of TooLong = 20
number_of (Outside l t) = 21
number_of (House l s) = 22

abbrev pub line_of : Fault → ℕ
line_of TooLong = 1
line_of (Outside l t) = l
line_of (House l s) = l
