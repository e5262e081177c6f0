use Rattle.std.proofs.Common.{map}
use Rattle.sheet.specs.Lines.{located}
use Rattle.sheet.proofs.Listing.{made_more, spelled}
use Rattle.sheet.proofs.report.spell.Goals as goal

pub returns : goal.returns
returns c = made_more c.format.result (spelled (map located c.args.forms.now)) c.format.ensures.ok
