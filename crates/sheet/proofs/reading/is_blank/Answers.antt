use Rattle.std.proofs.Common.{rules}
use Rattle.sheet.proofs.Lined.{begun_blank, begun_form}
use Rattle.sheet.proofs.reading.is_blank.Goals as goal

pub returns-in-LineEnd : goal.returns-in-LineEnd
returns-in-LineEnd c = let m = c.spaces.ensures in search (rules, begun_blank c.args.reader.now c.spaces.new.self c.spaces.result m.line m.skips m.next)

pub returns-in_default : goal.returns-in_default
returns-in_default c = let m = c.spaces.ensures in search (rules, begun_form c.args.reader.now c.spaces.new.self c.spaces.result m.line m.skips m.next)
