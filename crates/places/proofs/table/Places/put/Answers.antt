use Rattle.std.proofs.Common.{◌≡◌, ◌<◌, ◌++◌, ◌∷◌, [], length, set, Some, sym, ap, ◌∙◌, subst, true, arith}
use Rattle.std.proofs.lemmas.List.{length-set}
use Rattle.auction.specs.Seats.{is_seat}
use Rattle.places.specs.Turns.{apart, under, without_turn}
use Rattle.places.specs.Held.{Lined, party_at, in_turn}
use Rattle.places.proofs.Apart.{gone, without_apart, without_under, push_apart, push_under}
use Rattle.places.proofs.InTurn.{seat_bounds, seat_own, lined_joined, owned_joined, turn_left, turn_joined, line_put}
use Rattle.places.proofs.table.Places.put.Goals as goal

pub invariant_of-self : goal.invariant_of-self
invariant_of-self c =
    let t = c.args.self.now in
    let p = c.seat-place.result in
    let l = c.args.line in
    let w : length t.held ≡ 64 = t.whole in
    let lt : p < length t.held = omega (arith, c.seat-place.ensures.low) in
    let h : is_seat c.in-Response.member c.in-Response.slot ≡ true = sym c.is_seat.ensures ∙ c.if-is_seat.true in
    let e : c.join.new.turns.items ≡ without_turn p t.turns.items ++ p ∷ [] = c.join.ensures in
    record {
      whole = length-set t.held p (Some l) ∙ w;
      lined = subst (Lined (set t.held p (Some l))) (sym e) (lined_joined t.held t.turns.items p l lt t.lined);
      own = owned_joined t.held p l lt t.own (c.in-Response.is ∙ seat_own c.in-Response.member c.in-Response.slot h ∙ ap party_at (sym c.seat-place.ensures.value));
      once = ap apart e ∙ push_apart p (without_turn p t.turns.items) (without_apart p t.turns.items t.once) (gone p t.turns.items);
      low = ap (under 64) e ∙ push_under 64 p (without_turn p t.turns.items) (without_under p 64 t.turns.items t.low) c.seat-place.ensures.low;
    }

pub returns-in-Response-clause-after : goal.returns-in-Response-clause-after
returns-in-Response-clause-after c =
    let t = c.args.self.now in
    let p = c.seat-place.result in
    let l = c.args.line in
    let m = c.in-Response.member in
    let s = c.in-Response.slot in
    let w : length t.held ≡ 64 = t.whole in
    let lt : p < length t.held = omega (arith, c.seat-place.ensures.low) in
    let h : is_seat m s ≡ true = sym c.is_seat.ensures ∙ c.if-is_seat.true in
    let a = seat_bounds m s h in
    ap (in_turn (set t.held p (Some l))) c.join.ensures
    ∙ turn_joined t.held p l (without_turn p t.turns.items) lt (gone p t.turns.items)
    ∙ ap (λ q. in_turn t.held (without_turn q t.turns.items) ++ l ∷ []) c.seat-place.ensures.value
    ∙ ap (λ ls. ls ++ l ∷ []) (sym (turn_left m s a.0 a.2 a.3 t.held t.own t.turns.items))
    ∙ line_put l m s (in_turn t.held t.turns.items) c.in-Response.is h
