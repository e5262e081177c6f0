use Rattle.std.proofs.Common.{sym, ◌∙◌, arith}
use Rattle.std.proofs.lemmas.Grind.{common_steps}
use Rattle.auction.proofs.Settling.{executes, total_few}
use Rattle.auction.proofs.settle.settle_counted.Goals as goal

pub executed-requires-clause-fits : goal.executed-requires-clause-fits
executed-requires-clause-fits c =
    let e = executes c.args.order.now c.args.lines.now c.args.counted.now c.args.fills.now c.allocate.new.out c.terms_of.result c.in_ok-contra.contra c.pricing_of.result
    c.requires.stand c.requires.counted c.requires.long c.terms_of.ensures c.pricing_of.ensures (sym c.in_ok-contra.ensures ∙ c.allocate.ensures.answer) c.allocate.ensures.after in
    let few = rw e at (total_few c.args.order.now c.args.lines.now c.requires.stand) in
    grind (arith, common_steps)

pub returns : goal.returns
returns c =
    let e = executes c.args.order.now c.args.lines.now c.args.counted.now c.args.fills.now c.allocate.new.out c.terms_of.result c.in_ok-contra.contra c.pricing_of.result
    c.requires.stand c.requires.counted c.requires.long c.terms_of.ensures c.pricing_of.ensures (sym c.in_ok-contra.ensures ∙ c.allocate.ensures.answer) c.allocate.ensures.after in
    record { answer = rw e (grind (arith, common_steps)); after = rw e (grind (arith, common_steps)) }
