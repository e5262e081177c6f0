use Rattle.std.proofs.Common.{rules, codes, arith}
use Rattle.parse.specs.Parser.{read_class}
use Rattle.parse.proofs.Words.{stands_for}
use Rattle.parse.proofs.names.ClassNamed.of_word.Goals as goal

pub returns-in-customer : goal.returns-in-customer
returns-in-customer c = stands_for read_class c.args.word.now (codes "customer") (omega arith) (search rules)

pub returns-in-other : goal.returns-in-other
returns-in-other c = stands_for read_class c.args.word.now (codes "other") (omega arith) (search rules)
