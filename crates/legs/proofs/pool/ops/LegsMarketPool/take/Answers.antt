use Rattle.std.proofs.Common.{ap}
use Rattle.legs.specs.Model.{listed}
use Rattle.legs.proofs.Implied.{side_answer, side_after}
use Rattle.legs.proofs.pool.ops.LegsMarketPool.take.Goals as goal

pub returns-clause-answer : goal.returns-clause-answer
returns-clause-answer c = let e = side_answer c.args.place c.in_ok-side.side c.args.n c.args.self.now.legs.items cc in cc

pub returns-clause-list : goal.returns-clause-list
returns-clause-list c =
    let l = ap listed c.take_implied.ensures.after in
    let e = side_after c.args.place c.in_ok-side.side c.args.n c.args.self.now.legs.items cc in
    cc
