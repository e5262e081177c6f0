-- What a book holds and lists, and what a take leaves of it.
use Rattle.std.specs.Prelude.{ℕ, ◌-◌, List, [], map, vec_items}
use Rattle.market.specs.declared.names.Kind.{Kind}
use Rattle.market.specs.declared.entry.Entry.{Entry}
use Rattle.market.specs.Lists.{change_at, lowered}
use Rattle.pools.specs.declared.book.Book.{Book}
use Rattle.pools.specs.declared.book.Order.{Order}

-- the kind of market that a book is for, and its orders as they arrived
pub record BookHeld : Type 0 where
  pub kind : Kind
  pub orders : List Order

abbrev pub book_held : Book → BookHeld
book_held b = record { kind = b.kind; orders = vec_items b.orders }

abbrev pub fresh_book : Kind → BookHeld
fresh_book k = record { kind = k; orders = [] }

abbrev pub order_entry : Order → Entry
order_entry o = o.entry

-- a book lists the entry of each order, those of emptied orders too
abbrev pub listed_orders : BookHeld → List Entry
listed_orders b = map order_entry b.orders

-- an order with n contracts less keeps its number
abbrev pub lowered_order : ℕ → Order → Order
lowered_order n o = record { number = o.number; entry = lowered n o.entry }

-- a book of which n contracts are taken at a place
abbrev pub taken_book : ℕ → ℕ → BookHeld → BookHeld
taken_book place n b = record { kind = b.kind; orders = change_at (lowered_order n) b.orders (place - 1) }
