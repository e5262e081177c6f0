use Rattle.std.proofs.Common.{rules, tests}
use Rattle.filling.specs.Mechanisms.{pooled_over}
use Rattle.deal.proofs.lines.Lines.pooled_over.Goals as goal

pub returns : goal.returns
returns c = c.any.ensures (pooled_over c.args.gain) (λ l r k. search (rules, tests))
