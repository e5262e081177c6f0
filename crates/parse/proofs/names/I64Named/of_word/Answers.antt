use Rattle.std.proofs.Common.{sym}
use Rattle.words.proofs.Reading.{read_is}
use Rattle.parse.proofs.names.I64Named.of_word.Goals as goal

pub returns : goal.returns
returns c = sym (read_is c.args.word.now c.number.result c.number.ensures)
