use Rattle.std.proofs.Common.{sym, ap, ◌∙◌, w64}
use Rattle.std.proofs.lemmas.Int.{to_z-of_z}
use Rattle.auction.specs.Making.{order_told}
use Rattle.house.proofs.Made.{made_order}
use Rattle.house.proofs.making.order_of.Goals as goal

pub returns : goal.returns
returns c =
    let told = rw (to_z-of_z w64 c.args.size c.ranges.size, to_z-of_z w64 c.args.price c.ranges.price, to_z-of_z w64 c.args.reserve c.ranges.reserve) at c.new.ensures in
    made_order c.in-Ok.order c.args.mechanism c.args.side c.args.size c.args.price c.args.reserve c.requires (ap order_told (sym c.in-Ok.is) ∙ told)
