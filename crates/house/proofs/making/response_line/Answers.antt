use Rattle.std.proofs.Common.{w64, SFits, rules}
use Rattle.std.proofs.lemmas.Int.{to_z-of_z}
use Rattle.house.proofs.Made.{brings_line}
use Rattle.house.proofs.making.response_line.Goals as goal

pub line_of-requires : goal.line_of-requires
line_of-requires c =
    let r = c.args.r.now in
    let a : SFits w64 r.price = search rules in
    let b : SFits w64 r.size = search rules in
    rw (to_z-of_z w64 r.price a, to_z-of_z w64 r.size b) (brings_line c.args.kind r c.requires)
