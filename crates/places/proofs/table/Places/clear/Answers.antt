use Rattle.std.proofs.Common.{◌≡◌, ◌<◌, length, set, None, sym, ap, ◌∙◌, subst, arith}
use Rattle.std.proofs.lemmas.List.{length-set}
use Rattle.places.specs.Turns.{apart, under, without_turn}
use Rattle.places.specs.Held.{Lined, in_turn}
use Rattle.places.proofs.Apart.{gone, without_apart, without_under}
use Rattle.places.proofs.InTurn.{seat_bounds, lined_left, owned_left, turn_left, turn_elsewhere, none_leaves}
use Rattle.places.proofs.table.Places.clear.Goals as goal

pub returns-then-not-is_seat : goal.returns-then-not-is_seat
returns-then-not-is_seat c =
    let t = c.args.self.now in
    sym (none_leaves c.args.member c.args.slot (sym c.is_seat.ensures ∙ c.if-not-is_seat.true) t.held t.own t.turns.items t.low)

pub invariant_of-self : goal.invariant_of-self
invariant_of-self c =
    let t = c.args.self.now in
    let p = c.seat-place.result in
    let w : length t.held ≡ 64 = t.whole in
    let lt : p < length t.held = omega (arith, c.seat-place.ensures.low) in
    let e : c.leave.new.turns.items ≡ without_turn p t.turns.items = c.leave.ensures in
    record {
      whole = length-set t.held p None ∙ w;
      lined = subst (Lined (set t.held p None)) (sym e) (lined_left t.held t.turns.items p lt t.lined);
      own = owned_left t.held p lt t.own;
      once = ap apart e ∙ without_apart p t.turns.items t.once;
      low = ap (under 64) e ∙ without_under p 64 t.turns.items t.low;
    }

pub returns : goal.returns
returns c =
    let t = c.args.self.now in
    let p = c.seat-place.result in
    let h = sym c.is_seat.ensures ∙ c.if-not-is_seat.false in
    let a = seat_bounds c.args.member c.args.slot h in
    ap (in_turn (set t.held p None)) c.leave.ensures
    ∙ turn_elsewhere t.held p None (without_turn p t.turns.items) (gone p t.turns.items)
    ∙ ap (λ q. in_turn t.held (without_turn q t.turns.items)) c.seat-place.ensures.value
    ∙ sym (turn_left c.args.member c.args.slot a.0 a.2 a.3 t.held t.own t.turns.items)
