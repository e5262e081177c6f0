use Rattle.std.proofs.Common.{rules}
use Rattle.market.proofs.Placing.{placed_map}
use Rattle.pools.specs.Books.{order_entry}
use Rattle.pools.proofs.book.ops.BookDepth.entry.Goals as goal

pub returns : goal.returns
returns c = rw (placed_map order_entry c.args.self.now.orders.items c.args.place) (search rules)
