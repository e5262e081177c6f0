use Rattle.std.proofs.Common.{map, take}
use Rattle.std.specs.Fmt.{IsPlainFormatter, HasWritten}
use Rattle.grammar.specs.Listing.{listing}
use Rattle.sheet.specs.Lines.{located}
use Rattle.sheet.proofs.report.ListedDisplay.fmt.Given as goal

abbrev pub invariant-loop-x : goal.invariant-loop-x
invariant-loop-x g l = IsPlainFormatter l.initial.f → HasWritten g.W.Write.write_str_gives l.initial.f (listing (map located (take l.x-index l.self.forms.now))) l.f
