use Rattle.std.proofs.Common.{◌≡◌, sum, arith, rules}
use Rattle.std.proofs.iter.runs.Made.{chains}
use Rattle.legs.specs.Sides.{side_held}
use Rattle.legs.proofs.Sided.{side_bound}
use Rattle.legs.proofs.legside.LegSide.total.Goals as goal

pub returns-clause-bound : goal.returns-clause-bound
returns-clause-bound c =
    let e = c.args.self.now in
    let all : c.sum.result ≡ sum (side_held e).quotes = search (rules, chains) in
    omega (arith, side_bound e)
