use Rattle.std.proofs.Common.{rules, codes, arith}
use Rattle.parse.specs.Parser.{read_name}
use Rattle.parse.proofs.Words.{stands_for}
use Rattle.parse.proofs.names.NameNamed.of_word.Goals as goal

pub returns-in-house : goal.returns-in-house
returns-in-house c = stands_for read_name c.args.word.now (codes "house") (omega arith) (search rules)

pub returns-in-quote : goal.returns-in-quote
returns-in-quote c = stands_for read_name c.args.word.now (codes "quote") (omega arith) (search rules)

pub returns-in-rest : goal.returns-in-rest
returns-in-rest c = stands_for read_name c.args.word.now (codes "rest") (omega arith) (search rules)

pub returns-in-away : goal.returns-in-away
returns-in-away c = stands_for read_name c.args.word.now (codes "away") (omega arith) (search rules)

pub returns-in-enter : goal.returns-in-enter
returns-in-enter c = stands_for read_name c.args.word.now (codes "enter") (omega arith) (search rules)

pub returns-in-respond : goal.returns-in-respond
returns-in-respond c = stands_for read_name c.args.word.now (codes "respond") (omega arith) (search rules)

pub returns-in-amend : goal.returns-in-amend
returns-in-amend c = stands_for read_name c.args.word.now (codes "amend") (omega arith) (search rules)

pub returns-in-delete : goal.returns-in-delete
returns-in-delete c = stands_for read_name c.args.word.now (codes "delete") (omega arith) (search rules)

pub returns-in-settle : goal.returns-in-settle
returns-in-settle c = stands_for read_name c.args.word.now (codes "settle") (omega arith) (search rules)

pub returns-in-halt : goal.returns-in-halt
returns-in-halt c = stands_for read_name c.args.word.now (codes "halt") (omega arith) (search rules)
