use Rattle.std.proofs.Common.{◌≡◌, ◌+◌, sym, ap, ◌∙◌, rules, w64, SFits, to_z, of_z, arith}
use Rattle.std.proofs.lemmas.Int.{to_z-of_z}
use Rattle.places.specs.Table.{line_of}
use Rattle.house.specs.Running.{open_in}
use Rattle.house.specs.Told.{view}
use Rattle.house.proofs.Allowed.{enter_fields, enter_late, enter_idle, enter_few, enter_done, late_enough, idle_open}
use Rattle.house.proofs.Made.{enters_times}
use Rattle.house.proofs.state.House.enter.Goals as goal

pub entered_order-order-requires : goal.entered_order-order-requires
entered_order-order-requires g c =
    enter_fields (view c.args.self.now) c.args.e (g.P.Depth.entries c.args.pool.now) (g.A.Depth.entries c.args.away.now) (sym c.may_enter.ensures ∙ c.in_ok-may_enter.was)

pub exposure_end-requires-clause-late : goal.exposure_end-requires-clause-late
exposure_end-requires-clause-late g c =
    let h = c.args.self.now in
    let e = c.args.e in
    let ok = enter_late (view h) e (g.P.Depth.entries c.args.pool.now) (g.A.Depth.entries c.args.away.now) (sym c.may_enter.ensures ∙ c.in_ok-may_enter.was) in
    let f : SFits w64 e.at = search rules in
    rw (to_z-of_z w64 e.at f) (late_enough (view h) e.at ok h.after)

pub exposure_end-requires-clause-times : goal.exposure_end-requires-clause-times
exposure_end-requires-clause-times g c =
    let h = c.args.self.now in
    let e = c.args.e in
    let ok = enter_fields (view h) e (g.P.Depth.entries c.args.pool.now) (g.A.Depth.entries c.args.away.now) (sym c.may_enter.ensures ∙ c.in_ok-may_enter.was) in
    let a : SFits w64 e.at = search rules in
    let b : SFits w64 e.time = search rules in
    rw (to_z-of_z w64 e.at a, to_z-of_z w64 e.time b) (enters_times h.kind e ok)

pub invariant_of-self-clause-after : goal.invariant_of-self-clause-after
invariant_of-self-clause-after g c =
    let h = c.args.self.now in
    let e = c.args.e in
    let ok = enter_late (view h) e (g.P.Depth.entries c.args.pool.now) (g.A.Depth.entries c.args.away.now) (sym c.may_enter.ensures ∙ c.in_ok-may_enter.was) in
    let f : SFits w64 e.at = search rules in
    rw (to_z-of_z w64 e.at f) (late_enough (view h) e.at ok h.after)

pub invariant_of-self-clause-few : goal.invariant_of-self-clause-few
invariant_of-self-clause-few g c =
    let h = c.args.self.now in
    let few = enter_few (view h) c.args.e (g.P.Depth.entries c.args.pool.now) (g.A.Depth.entries c.args.away.now) (sym c.may_enter.ensures ∙ c.in_ok-may_enter.was) in
    omega (arith, few)

pub invariant_of-self-clause-balanced : goal.invariant_of-self-clause-balanced
invariant_of-self-clause-balanced g c =
    let h = c.args.self.now in
    let idle = enter_idle (view h) c.args.e (g.P.Depth.entries c.args.pool.now) (g.A.Depth.entries c.args.away.now) (sym c.may_enter.ensures ∙ c.in_ok-may_enter.was) in
    let none : open_in h.running ≡ 0 = idle_open h.running idle in
    let was : h.entered ≡ h.filled + h.cancelled + open_in h.running = h.balanced in
    let size : c.from.result ≡ c.entered_order-order.result.size = c.from.ensures in
    omega arith

pub returns-clause-after : goal.returns-clause-after
returns-clause-after g c =
    let h = c.args.self.now in
    let e = c.args.e in
    let a : SFits w64 e.at = search rules in
    let b : SFits w64 e.time = search rules in
    let z : SFits w64 c.exposure_end.result = record { sfits = c.exposure_end.type_inv } in
    let end = rw (to_z-of_z w64 e.at a, to_z-of_z w64 e.time b) at c.exposure_end.ensures in
    enter_done (view h) e (g.P.Depth.entries c.args.pool.now) (g.A.Depth.entries c.args.away.now) (sym c.may_enter.ensures ∙ c.in_ok-may_enter.was)
    (to_z w64 (of_z w64 e.at)) (to_z w64 (of_z w64 c.exposure_end.result)) c.entered_order-order.result (line_of c.new-self.result) (h.entered + c.from.result)
    (to_z-of_z w64 e.at a) (to_z-of_z w64 c.exposure_end.result z ∙ end) c.entered_order-order.ensures c.new-self.ensures (ap (λ n. h.entered + n) c.from.ensures)
