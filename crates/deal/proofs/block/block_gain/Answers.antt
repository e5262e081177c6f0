use Rattle.deal.proofs.Answering.{best_gain}
use Rattle.deal.proofs.block.block_gain.Goals as goal

pub returns-clause-best : goal.returns-clause-best
returns-clause-best c = λ _. best_gain c.args.size c.args.gain c.args.lines.now
