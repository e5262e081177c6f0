use Rattle.std.proofs.Common.{◌≡◌, true, pos, Ok, refl, ap, w32, w64, SFits, rules}
use Rattle.std.proofs.lemmas.Int.{to_z-of_z}
use Rattle.std.proofs.lemmas.Bool.{and_parts}
use Rattle.market.specs.Limits.{lowest_price, highest_price, most_size}
use Rattle.market.specs.Fields.{in_range, nat_of}
use Rattle.market.specs.Making.{entry_ok}
use Rattle.market.proofs.Narrow.{narrow, cast_abs, entry_of_fields}
use Rattle.market.proofs.entry.Entry.new.Goals as goal

pub returns : goal.returns
returns c =
    let p = c.args.price in
    let z = c.args.size in
    let P = to_z-of_z w64 p c.ranges.price in
    let ok : entry_ok p z ≡ true = search rules in
    let b = and_parts (in_range lowest_price highest_price p) (in_range (pos 0) (pos most_size) z) ok in
    let n = narrow 0 most_size z b.1 in
    let f : SFits w32 p = search rules in
    rw ok (ap Ok (entry_of_fields _ c.args.side p (nat_of z) c.args.class b.0 n.high refl (rw P (to_z-of_z w32 p f)) (cast_abs 0 most_size z c.ranges.size b.1) refl))
