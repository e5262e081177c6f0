-- A house and a ticket of the code, as callers may think of them.
use Rattle.std.specs.Prelude.{◌≡◌, cond, ℤ, None, Ok, Err, Option, Result}
use Rattle.std.specs.Option.{option_map}
use Rattle.market.specs.declared.refusal.Refusal.{Refusal}
use Rattle.auction.specs.declared.line.Line.{Line}
use Rattle.places.specs.Standing.{standing}
use Rattle.places.specs.Table as places
use Rattle.house.specs.declared.telling.Offer.{Offer}
use Rattle.house.specs.Fields.{seat_ok, seat_party}
use Rattle.house.specs.declared.state.House.{House}
use Rattle.house.specs.declared.ticket.Ticket.{Ticket}
use Rattle.house.specs.declared.ticket.Returned.{Returned}
use Rattle.house.specs.Running.{running_of}
use Rattle.house.specs.View.{Held, Bears}

abbrev pub view : House → Held
view h = record {
  number = h.number;
  kind = h.kind;
  ratio = h.ratio;
  last = h.last;
  started = h.started;
  running = running_of h.running;
  line = places.line_of h.places;
  entered = h.entered;
  filled = h.filled;
  cancelled = h.cancelled;
}

abbrev pub bears : Ticket → Bears
bears t = record { house = t.house; auction = t.auction; spent = t.spent }

-- what stands in a member's slot
abbrev pub offer_of : Line → Offer
offer_of l = record { price = l.price; size = l.size; class = l.class }

abbrev pub offered : Held → ℤ → ℤ → Option Offer
offered h member slot = cond (seat_ok member slot) (option_map offer_of (standing (seat_party member slot) h.line)) None

-- the house that was made, and the ticket that was handed out
abbrev pub house_told : Result House Refusal → Result Held Refusal
house_told (Ok h) = Ok (view h)
house_told (Err r) = Err r

abbrev pub ticket_told : Result Ticket Refusal → Result Bears Refusal
ticket_told (Ok t) = Ok (bears t)
ticket_told (Err r) = Err r

-- what a call answers that takes a ticket
abbrev pub told : {A : Type 0} → Result A Returned → Result A Refusal
told (Ok x) = Ok x
told (Err r) = Err r.refusal

-- refused, it hands that ticket back
abbrev pub HandsBack : {A : Type 0} → Result A Returned → Ticket → Type 0
HandsBack (Ok x) t = Unit {0}
HandsBack (Err r) t = r.ticket ≡ t
