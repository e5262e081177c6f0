use Rattle.std.proofs.Common.{rules}
use Rattle.auction.proofs.order.Order.new.Goals as goal

pub invariant_of-result : goal.invariant_of-result
invariant_of-result c = record {
  some = search rules;
  few = search rules;
  low = search rules;
  high = search rules;
  reserved = search rules;
}
