use Rattle.std.proofs.Common.{◌≡◌, ◌++◌, map, take, drop}
use Rattle.legs.specs.Model.{taken_leg}
use Rattle.legs.specs.Legs.{leg_held}
use Rattle.legs.proofs.pool.ops.take_each.Given as goal

abbrev pub invariant-loop-leg : goal.invariant-loop-leg
invariant-loop-leg l =
    let was = map leg_held l.initial.legs in
    map leg_held l.legs ≡ map (taken_leg l.side l.n) (take l.leg-index was) ++ drop l.leg-index was
