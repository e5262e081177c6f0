use Rattle.std.proofs.Common.{refl, sym, ap, ◌∙◌, is_some}
use Rattle.auction.specs.declared.line.Line.{Line}
use Rattle.places.specs.Turns.{has, apart, under}
use Rattle.places.proofs.InTurn.{nothing_held, none_some}
use Rattle.places.proofs.table.Places.new.Goals as goal

pub invariant_of-result : goal.invariant_of-result
invariant_of-result c =
    let e = c.new-turns.ensures in
    record {
      whole = refl;
      lined = λ p. ap is_some (nothing_held {X = Line} 64 p) ∙ sym (ap (has p) e);
      own = λ p l h. none_some l (sym (nothing_held {X = Line} 64 p) ∙ h);
      once = ap apart e;
      low = ap (under 64) e;
    }
