use Rattle.std.proofs.Common.{w64, SFits, rules}
use Rattle.std.proofs.lemmas.Int.{to_z-of_z}
use Rattle.house.proofs.Made.{enters_order}
use Rattle.house.proofs.making.entered_order.Goals as goal

pub order_of-requires : goal.order_of-requires
order_of-requires c =
    let e = c.args.e.now in
    let a : SFits w64 e.size = search rules in
    let b : SFits w64 e.price = search rules in
    let d : SFits w64 e.reserve = search rules in
    rw (to_z-of_z w64 e.size a, to_z-of_z w64 e.price b, to_z-of_z w64 e.reserve d) (enters_order c.args.kind e c.requires)
