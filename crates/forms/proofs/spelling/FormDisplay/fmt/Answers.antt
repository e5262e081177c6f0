use Rattle.std.proofs.Common.{rules}
use Rattle.forms.proofs.Spelt.{spaced_legs}
use Rattle.forms.proofs.spelling.FormDisplay.fmt.Goals as goal

pub returns-in-Net-clause-writes : goal.returns-in-Net-clause-writes
returns-in-Net-clause-writes g c = search (rules, spaced_legs)
