use Rattle.std.proofs.Common.{sym, ◌∙◌}
use Rattle.auction.proofs.Settling.{keeps}
use Rattle.auction.proofs.settle.settle.Goals as goal

pub returns-clause-keeps : goal.returns-clause-keeps
returns-clause-keeps c =
    keeps c.args.order.now c.args.lines.now c.args.blotter.now c.settle_counted.new.blotter c.settle_counted.result
    (sym c.can_stand.ensures ∙ c.if-not-can_stand.false) c.settle_counted.ensures.answer c.settle_counted.ensures.after
