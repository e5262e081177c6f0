use Rattle.std.proofs.Common.{◌≡◌, ◌<◌, ℕ, get_or, length, List, Option, is_some, None, sym, ap, ◌∙◌, arith}
use Rattle.std.proofs.lemmas.List.{get_or_default}
use Rattle.auction.specs.declared.line.Line.{Line}
use Rattle.places.specs.declared.table.Places.{Places}
use Rattle.places.proofs.Apart.{under_at}
use Rattle.places.proofs.Turn.{all_held, at_turn, held_turn}
use Rattle.places.proofs.table.Places.in_turn.Goals as goal

pub listed : goal.listed
listed c =
    let t = c.args.self.now in
    let w : length t.held ≡ 64 = t.whole in
    let k = under_at 64 t.turns.items c.args.turn t.low c.requires in
    let s : c.as_slice.result.now ≡ t.turns.items = c.as_slice.ensures.value in
    let e = ap (λ (ts : List ℕ). get_or ts c.args.turn 0) s in
    omega arith

pub bounds-self-place : goal.bounds-self-place
bounds-self-place c =
    let t = c.args.self.now in
    let k = under_at 64 t.turns.items c.args.turn t.low c.requires in
    let s : c.as_slice.result.now ≡ t.turns.items = c.as_slice.ensures.value in
    let e = ap (λ (ts : List ℕ). get_or ts c.args.turn 0) s in
    omega arith

-- what is read is what the turn's place holds
read : (t : Places) (ts : List ℕ) (turn : ℕ) (d : Option Line) → ts ≡ t.turns.items → turn < length t.turns.items →
    get_or t.held (get_or ts turn 0) d ≡ get_or t.held (get_or t.turns.items turn 0) None
read t ts turn d s h =
    let w : length t.held ≡ 64 = t.whole in
    let k = under_at 64 t.turns.items turn t.low h in
    ap (λ (xs : List ℕ). get_or t.held (get_or xs turn 0) d) s ∙ get_or_default t.held (get_or t.turns.items turn 0) d None (omega arith)

pub unwrap-requires : goal.unwrap-requires
unwrap-requires c =
    let t = c.args.self.now in
    ap is_some (read t c.as_slice.result.now c.args.turn c.index-self-place.result c.as_slice.ensures.value c.requires)
    ∙ held_turn t.held t.turns.items c.args.turn (all_held t.held t.turns.items t.lined) c.requires

pub returns : goal.returns
returns c =
    let t = c.args.self.now in
    sym c.unwrap.ensures ∙ read t c.as_slice.result.now c.args.turn c.index-self-place.result c.as_slice.ensures.value c.requires
    ∙ sym (at_turn t.held t.turns.items c.args.turn (all_held t.held t.turns.items t.lined) c.requires)
