use Rattle.std.proofs.Common.{◌≡◌, Some, length, get_or, set, sym, ap, ◌∙◌, subst, arith, w32, to_z, of_z}
use Rattle.std.specs.List.{slice_get}
use Rattle.std.proofs.lemmas.Int.{to_z-of_z}
use Rattle.std.proofs.lemmas.List.{length_push}
use Rattle.std.proofs.lemmas.Option.{slice_get-get_or}
use Rattle.std.proofs.lemmas.Slice.Zip.{zip_turn, zip_end}
use Rattle.deal.specs.Levels.{turns_from}
use Rattle.deal.proofs.Handing.{Handed, HandedAll, turn_within, handed_more, handed_all}
use Rattle.deal.proofs.lines.Lines.hand_out.Goals as goal
use Rattle.deal.proofs.lines.Lines.hand_out.Goals.{In-Some}

-- the turn and its part, by how many are done
next : (c : In-Some) →
    (slice_get (turns_from (to_z w32 (of_z w32 c.args.level)) 0 c.args.self.now) (length c.loop-turn.yielded) ≡ Some c.in-Some.turn.now)
    × (c.in-Some.part.now ≡ get_or c.args.parts.now (length c.loop-turn.yielded) 0)
next c =
    let k = length c.loop-turn.yielded in
    let t = c.in-Some.turn.now in
    let z = zip_turn c.args.turns.now c.args.parts.now c.loop-turn.yielded c.into_iter-turn-iterator.result c.loop-turn.turn-iterator c.next.new.self c.next.result (cc) (cc) c.loop-turn.yielded_by (c.in-Some.turn, c.in-Some.part) c.in-Some.is c.next.ensures.steps in
    let e = c.requires.turns ∙ ap (λ w. turns_from w 0 c.args.self.now) (sym (to_z-of_z w32 c.args.level c.ranges.level)) in
    (ap (λ ts. slice_get ts k) (sym e) ∙ slice_get-get_or c.args.turns.now k t z.0 ∙ ap Some (sym (z.2 t)), z.3 0)

pub bounds-out-turn : goal.bounds-out-turn
bounds-out-turn c =
    let d = (goal.at.bounds-out-turn c).In-Some in
    let n = turn_within _ c.args.self.now c.args.parts.now c.args.out.now _ _ (next d).0 in
    omega arith

pub loop-turn-preserved : goal.loop-turn-preserved
loop-turn-preserved c =
    let d = (goal.at.loop-turn-preserved c).In-Some in
    let v = to_z w32 (of_z w32 c.args.level) in
    let ls = c.args.self.now in
    let parts = c.args.parts.now in
    let old = c.args.out.now in
    let out = c.loop-turn.out in
    let t = c.in-Some.turn.now in
    let k = length c.loop-turn.yielded in
    subst (λ n. Handed v ls parts old n (set out t.place c.in-Some.part.now)) (sym (length_push c.loop-turn.yielded _))
    (handed_more v ls parts old k t (next d).0 out c.loop-turn.invariant (omega arith) _ (next d).1)

pub returns : goal.returns
returns c =
    let v = to_z w32 (of_z w32 c.args.level) in
    let ls = c.args.self.now in
    let z = zip_end c.args.turns.now c.args.parts.now c.loop-turn.yielded c.into_iter-turn-iterator.result c.loop-turn.turn-iterator c.next.new.self c.next.result (cc) (cc) c.loop-turn.yielded_by c.in-None.is c.next.ensures.steps in
    let e = to_z-of_z w32 c.args.level c.ranges.level in
    let n = ap length (c.requires.turns ∙ ap (λ w. turns_from w 0 ls) (sym e)) in
    subst (λ w. HandedAll w ls c.args.parts.now c.args.out.now c.loop-turn.out) e
    (handed_all v ls c.args.parts.now c.args.out.now (length c.loop-turn.yielded) c.loop-turn.out c.loop-turn.invariant (omega arith))
