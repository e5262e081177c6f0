use Rattle.std.proofs.Common.{length, ap, ◌∙◌, append_assoc, arith, length-append, w32, to_z, of_z}
use Rattle.std.proofs.lemmas.Int.{to_z-of_z}
use Rattle.std.proofs.lemmas.Slice.Zip.{Zip-more}
use Rattle.auction.specs.Pricing.{paid}
use Rattle.auction.proofs.Written.{noted_few, noted_next, same_further}
use Rattle.auction.proofs.blotter.Notes.note_lines.Goals as goal

pub loop-line-preserved : goal.loop-line-preserved
loop-line-preserved c =
    let z = Zip-more c.loop-line.line-iterator c.next.new.self c.next.result _ c.in-Some.is c.next.ensures.steps in
    let firsts = ap length z.0 in
    let seconds = ap length z.1 in
    let price = to_z-of_z w32 c.price.result (record { sfits = c.price.type_inv }) in
    let few = noted_few c.in-Some.line.now.party (to_z w32 (of_z w32 c.price.result)) c.in-Some.field-0-1.now in
    let next = noted_next (paid c.args.pricing) c.in-Some.line.now c.in-Some.field-0-1.now (to_z w32 (of_z w32 c.price.result)) _ _ _ _ z.0 z.1 (price ∙ c.price.ensures) in
    record {
      can_next = (tt, tt);
      is_finite = tt;
      same_reference = c.note.ensures.same_reference ∙ c.loop-line.invariant.same_reference;
      long = c.note.ensures.long ∙ c.loop-line.invariant.long;
      few = omega arith;
      paired = omega arith;
      many = omega (arith, simp length-append at (ap length next));
      front = rw (c.note.ensures.front, append_assoc) (cc c.loop-line.invariant.front);
      rest = c.note.ensures.rest ∙ same_further _ _ _ _ _ c.note.ensures.many c.loop-line.invariant.rest;
    }
