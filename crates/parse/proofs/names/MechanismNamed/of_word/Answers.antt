use Rattle.std.proofs.Common.{rules, codes, arith}
use Rattle.parse.specs.Parser.{read_mechanism}
use Rattle.parse.proofs.Words.{stands_for}
use Rattle.parse.proofs.names.MechanismNamed.of_word.Goals as goal

pub returns-in-block : goal.returns-in-block
returns-in-block c = stands_for read_mechanism c.args.word.now (codes "block") (omega arith) (search rules)
