use Rattle.deal.proofs.Answering.{settles}
use Rattle.deal.proofs.allocate.allocate.Goals as goal

pub returns-clause-fair : goal.returns-clause-fair
returns-clause-fair c = let t = c.args.terms.now in λ _. settles t.mechanism t.size t.gain t.reserved c.args.lines.now
