use Rattle.std.proofs.Common.{rules, codes, arith}
use Rattle.parse.specs.Parser.{read_kind}
use Rattle.parse.proofs.Words.{stands_for}
use Rattle.parse.proofs.names.KindNamed.of_word.Goals as goal

pub returns-in-series : goal.returns-in-series
returns-in-series c = stands_for read_kind c.args.word.now (codes "series") (omega arith) (search rules)
