use Rattle.std.proofs.Common.{rules, codes, arith}
use Rattle.parse.specs.Parser.{read_edge}
use Rattle.parse.proofs.Words.{stands_for}
use Rattle.parse.proofs.names.EdgeNamed.of_word.Goals as goal

pub returns-in-offer : goal.returns-in-offer
returns-in-offer c = stands_for read_edge c.args.word.now (codes "offer") (omega arith) (search rules)
