use Rattle.std.proofs.Common.{rules}
use Rattle.parse.specs.Parser.{items_of, next_leg_of, size_of}
use Rattle.parse.specs.View.{tokens}
use Rattle.parse.proofs.Items.{asked_trouble}
use Rattle.parse.proofs.reader.Reader.check_form.Goals as goal

pub returns-in_err-skip-in-Net : goal.returns-in_err-skip-in-Net
returns-in_err-skip-in-Net c = search (rules, asked_trouble (items_of next_leg_of (tokens c.begin.new.self)) _ c.in_err-skip-in-Net.ensures)

pub returns-in_err-skip-in-Quote : goal.returns-in_err-skip-in-Quote
returns-in_err-skip-in-Quote c = search (rules, asked_trouble (items_of size_of (tokens c.begin.new.self)) _ c.in_err-skip-in-Quote.ensures)
