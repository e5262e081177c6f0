-- An order as its lines see it.
use Rattle.deal.specs.declared.terms.Terms.{Terms}
use Rattle.auction.specs.declared.order.Order.{Order}
use Rattle.auction.specs.Lines.{gain_of, reserved_of}

abbrev pub terms_of : Order → Terms
terms_of o = record { mechanism = o.mechanism; size = o.size; gain = gain_of o; reserved = reserved_of o }
