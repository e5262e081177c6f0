use Rattle.std.proofs.Common.{sym, ◌∙◌}
use Rattle.auction.proofs.Seated.{at_start, one_on}
use Rattle.auction.proofs.seats.in_line.Goals as goal

pub loop-line-init : goal.loop-line-init
loop-line-init c = at_start c.args.lines.now

pub loop-line-preserved : goal.loop-line-preserved
loop-line-preserved c =
    one_on c.args.lines.now c.loop-line.line-index c.loop-line.front.low c.loop-line.front.taken c.line-item.result c.loop-line-test.true c.line-item.is c.loop-line.invariant
    c.admit.new.self.low c.admit.new.self.taken (sym c.admit.ensures.answer ∙ c.if-not-admit.false) (c.admit.ensures.low c.if-not-admit.false) c.admit.ensures.taken
