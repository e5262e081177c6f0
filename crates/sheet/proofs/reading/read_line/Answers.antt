use Rattle.std.proofs.Common.{rules}
use Rattle.forms.specs.Shapes.{shape}
use Rattle.parse.specs.View.{tokens}
use Rattle.sheet.proofs.Lined.{same_line}
use Rattle.sheet.proofs.reading.read_line.Goals as goal

pub returns : goal.returns
returns c = let s = same_line c.is_blank.new.reader c.end.new.self (shape c.in_ok-form.form) (tokens c.form.new.self) c.in_ok-form.ensures c.in_ok-end.ensures in search rules
