use Rattle.std.proofs.Common.{◌≡◌, get_or, length, None, sym, ap, ◌∙◌, arith}
use Rattle.std.proofs.lemmas.List.{get_or_default}
use Rattle.places.proofs.InTurn.{seat_bounds, seat_low, standing_held, none_stands}
use Rattle.places.proofs.table.Places.at.Goals as goal

pub returns-then-not-is_seat : goal.returns-then-not-is_seat
returns-then-not-is_seat c =
    let t = c.args.self.now in
    sym (none_stands c.args.member c.args.slot (sym c.is_seat.ensures ∙ c.if-not-is_seat.true) t.held t.own t.turns.items t.low)

pub returns : goal.returns
returns c =
    let t = c.args.self.now in
    let h = sym c.is_seat.ensures ∙ c.if-not-is_seat.false in
    let a = seat_bounds c.args.member c.args.slot h in
    let lt = seat_low c.args.member c.args.slot h in
    let w : length t.held ≡ 64 = t.whole in
    get_or_default t.held c.seat.result c.index-self-seat.result None (omega (arith, c.seat.ensures.low))
    ∙ ap (λ p. get_or t.held p None) c.seat.ensures.value
    ∙ sym (standing_held c.args.member c.args.slot a.0 a.2 a.3 t.held t.own t.turns.items t.lined)
