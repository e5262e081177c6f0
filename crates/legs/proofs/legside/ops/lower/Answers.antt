use Rattle.std.proofs.Common.{◌<◌, length, refl, arith}
use Rattle.legs.proofs.Lowering.{here, lowering_none, lowering_more}
use Rattle.legs.proofs.legside.ops.lower.Goals as goal

pub overflow_sub-quotes : goal.overflow_sub-quotes
overflow_sub-quotes c =
    let h : c.loop-i.i < length c.loop-i.quotes = omega arith in
    omega (arith, here _ _ _ _ c.loop-i.invariant h c.index-quotes-i.result c.index-quotes-i.result, c.requires.within c.loop-i.i)

pub loop-i-init : goal.loop-i-init
loop-i-init c = lowering_none _ _

pub loop-i-preserved : goal.loop-i-preserved
loop-i-preserved c =
    let h : c.loop-i.i < length c.loop-i.quotes = omega arith in
    lowering_more _ _ _ _ c.loop-i.invariant h c.index-quotes-i.result c.index-quotes-i-in-loop-i.result _ c.loop-i-test.true refl refl
