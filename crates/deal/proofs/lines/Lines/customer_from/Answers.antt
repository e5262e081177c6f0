use Rattle.std.proofs.Common.{rules, tests}
use Rattle.filling.specs.Mechanisms.{customer_from}
use Rattle.deal.proofs.lines.Lines.customer_from.Goals as goal

pub returns : goal.returns
returns c = c.any.ensures (customer_from c.args.gain) (λ l r k. search (rules, tests))
