use Rattle.std.proofs.Common.{◌≡◌, map, take, drop}
use Rattle.market.specs.Lists.{all_of}
use Rattle.legs.specs.Legs.{leg_held}
use Rattle.legs.specs.Making.{part_ok, part_leg}
use Rattle.legs.proofs.pool.LegsMarket.new.Given as goal

abbrev pub invariant-loop-part : goal.invariant-loop-part
invariant-loop-part l = (map leg_held l.legs.items ≡ map part_leg (take l.part-index l.parts)) × (all_of part_ok l.parts ≡ all_of part_ok (drop l.part-index l.parts))
