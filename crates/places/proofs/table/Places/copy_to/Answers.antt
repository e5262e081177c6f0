use Rattle.std.proofs.Common.{◌≡◌, Ok, ◌∙◌, ap, arith}
use Rattle.places.specs.Table.{line_of}
use Rattle.places.proofs.Copied.{copied_more, copied_all, no_room}
use Rattle.places.proofs.Turn.{all_held, as_many}
use Rattle.places.proofs.table.Places.copy_to.Goals as goal

pub returns-then-many-out-clause-answer : goal.returns-then-many-out-clause-answer
returns-then-many-out-clause-answer c =
    let t = c.args.self.now in
    let n = as_many t.held t.turns.items (all_held t.held t.turns.items t.lined) in
    (no_room (line_of t) c.args.out.now (omega (arith, c.if-many-out.true, c.len-many.ensures.value))).0

pub returns-then-many-out-clause-after : goal.returns-then-many-out-clause-after
returns-then-many-out-clause-after c =
    let t = c.args.self.now in
    let n = as_many t.held t.turns.items (all_held t.held t.turns.items t.lined) in
    (no_room (line_of t) c.args.out.now (omega (arith, c.if-many-out.true, c.len-many.ensures.value))).1

pub loop-turn-preserved : goal.loop-turn-preserved
loop-turn-preserved c =
    let t = c.args.self.now in
    let n = as_many t.held t.turns.items (all_held t.held t.turns.items t.lined) in
    copied_more (line_of t) c.args.out.now c.loop-turn.out c.loop-turn.turn c.in_turn.result c.loop-turn.invariant
    (omega (arith, c.loop-turn-test.true, c.len-many.ensures.value)) (omega (arith, c.if-many-out.false, c.len-many.ensures.value)) c.in_turn.ensures

pub returns-clause-answer : goal.returns-clause-answer
returns-clause-answer c =
    let t = c.args.self.now in
    let n = as_many t.held t.turns.items (all_held t.held t.turns.items t.lined) in
    let last : c.len-many.result ≡ c.loop-turn.turn = omega (arith, c.loop-turn-test.false, c.loop-turn.auto.turn-end) in
    ap (λ k. Ok k) last
    ∙ (copied_all (line_of t) c.args.out.now c.loop-turn.out c.loop-turn.turn c.loop-turn.invariant (omega (arith, c.len-many.ensures.value)) (omega (arith, c.if-many-out.false, c.len-many.ensures.value))).0

pub returns-clause-after : goal.returns-clause-after
returns-clause-after c =
    let t = c.args.self.now in
    let n = as_many t.held t.turns.items (all_held t.held t.turns.items t.lined) in
    let last : c.len-many.result ≡ c.loop-turn.turn = omega (arith, c.loop-turn-test.false, c.loop-turn.auto.turn-end) in
    (copied_all (line_of t) c.args.out.now c.loop-turn.out c.loop-turn.turn c.loop-turn.invariant (omega (arith, c.len-many.ensures.value)) (omega (arith, c.if-many-out.false, c.len-many.ensures.value))).1
