use Rattle.std.proofs.Common.{◌+◌, ◌||◌, drop, sym, ap, ◌∙◌, arith}
use Rattle.std.proofs.lemmas.List.{at_drop_all}
use Rattle.house.specs.Fields.{any_entry}
use Rattle.house.proofs.Along.{from_index}
use Rattle.house.proofs.prices.any_entry.Goals as goal

pub returns-then-passes : goal.returns-then-passes
returns-then-passes g c p tells =
    let es = g.D.Depth.entries c.args.depth.now in
    let i = c.loop-before.before in
    sym (c.loop-before.invariant p tells ∙ from_index p es i (omega (arith, c.loop-before-test.true, c.count-before-end.ensures))
    ∙ ap (λ b. b || any_entry p (drop (i + 1) es)) (sym (c.passes.ensures p tells) ∙ c.if-passes.true))

pub loop-before-preserved : goal.loop-before-preserved
loop-before-preserved g c p tells =
    let es = g.D.Depth.entries c.args.depth.now in
    let i = c.loop-before.before in
    c.loop-before.invariant p tells ∙ from_index p es i (omega (arith, c.loop-before-test.true, c.count-before-end.ensures))
    ∙ ap (λ b. b || any_entry p (drop (i + 1) es)) (sym (c.passes.ensures p tells) ∙ c.if-passes.false)

pub returns : goal.returns
returns g c p tells =
    let es = g.D.Depth.entries c.args.depth.now in
    let i = c.loop-before.before in
    sym (c.loop-before.invariant p tells ∙ at_drop_all (any_entry p) es i (omega (arith, c.loop-before-test.false, c.count-before-end.ensures)))
