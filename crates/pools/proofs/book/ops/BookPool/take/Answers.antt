use Rattle.std.proofs.Common.{◌≡◌, ◌≤◌, ◌-◌, true, List, refl, sym, ap, ◌∙◌, set, arith, rules}
use Rattle.market.specs.declared.entry.Entry.{Entry}
use Rattle.market.specs.Lists.{up_to, lowered}
use Rattle.market.proofs.Entries.{entry_same}
use Rattle.market.proofs.Placing.{change_set, place_index, entry_there, take_done}
use Rattle.pools.specs.declared.book.Order.{Order}
use Rattle.pools.specs.Books.{BookHeld, order_entry, lowered_order}
use Rattle.pools.proofs.book.ops.BookPool.take.Goals as goal

pub overflow_sub-order : goal.overflow_sub-order
overflow_sub-order c =
    let there = ap (λ e. e.size) (entry_there order_entry c.args.self.now.orders.items c.args.place c.in_ok-entry.entry c.in_ok-entry.ensures c.index_mut-order.result.now c.index_mut-order.ensures.value) in
    let able : c.args.n ≤ c.in_ok-entry.entry.size = search rules in
    omega arith

pub returns-clause-list : goal.returns-clause-list
returns-clause-list c =
    let x = c.index_mut-order.result.now in
    let able : up_to c.in_ok-entry.entry.size c.args.n ≡ true = search rules in
    take_done order_entry c.args.self.now.orders.items c.args.place c.in_ok-entry.entry c.in_ok-entry.ensures x c.index_mut-order.ensures.value c.args.n _ able (entry_same _ (lowered c.args.n x.entry) refl refl refl refl)

pub returns-clause-pool : goal.returns-clause-pool
returns-clause-pool c =
    let x = c.index_mut-order.result.now in
    let os = c.args.self.now.orders.items in
    let i = place_index order_entry os c.args.place c.in_ok-entry.entry c.in_ok-entry.ensures in
    let held : List Order → BookHeld = λ xs. record { kind = c.args.self.now.kind; orders = xs } in
    let order : Entry → Order = λ e. record { number = x.number; entry = e } in
    ap held (ap (λ e. set os (c.args.place - 1) (order e)) (entry_same _ (lowered c.args.n x.entry) refl refl refl refl) ∙ sym (change_set (lowered_order c.args.n) os (c.args.place - 1) x i c.index_mut-order.ensures.value))
