use Rattle.std.proofs.Common.{◌≤◌, arith, rules, tests}
use Rattle.std.proofs.lemmas.Grind.{common_steps}
use Rattle.legs.specs.Held.{legs_held}
use Rattle.legs.proofs.Taken.{enough_each}
use Rattle.legs.proofs.pool.LegsMarket.take_implied.Goals as goal

pub take_each-requires : goal.take_each-requires
take_each-requires c =
    let few : c.args.n ≤ c.size.result = search (rules, tests) in
    let v = c.size.ensures.value in
    let all = enough_each c.args.side c.args.n (legs_held c.args.self.now) (omega arith) in
    grind (arith, common_steps, all)
