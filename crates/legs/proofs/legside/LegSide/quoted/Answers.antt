use Rattle.std.proofs.Common.{◌<◌, get_or, pos, rules, arith, w64, SFits, true, length, ◌≡◌, ◌&&◌, tests}
use Rattle.std.proofs.lemmas.Bool.Decides.{nat_tests}
use Rattle.std.proofs.lemmas.Bool.{and_parts}
use Rattle.market.specs.Lists.{all_of}
use Rattle.market.proofs.Narrow.{narrow, cast_abs}
use Rattle.market.proofs.Tested.{each_ok}
use Rattle.legs.specs.Limits.{most_quoted, highest_quote}
use Rattle.legs.specs.Fields.{price_ok, size_ok, sizes_ok}
use Rattle.legs.proofs.Sided.{quoting_more, quoted_line}
use Rattle.legs.proofs.legside.LegSide.quoted.Goals as goal

pub loop-place-preserved : goal.loop-place-preserved
loop-place-preserved c =
    let zs = c.args.sizes.now in
    let i = c.loop-place.place in
    let z = get_or zs i (pos 0) in
    let f : SFits w64 z = search rules in
    let each : all_of size_ok zs ≡ true = grind (arith, nat_tests) in
    let here : i < length zs = c.loop-place-test.true in
    let room : i < 8 = grind (arith, nat_tests) in
    quoting_more zs c.loop-place.quotes i _ c.loop-place.invariant here room (omega arith) (cast_abs 1 most_quoted z f (each_ok size_ok zs i (pos 0) each here))

pub invariant_of-result : goal.invariant_of-result
invariant_of-result c =
    let z = c.args.price in
    let f : SFits w64 z = search rules in
    let ok : price_ok z && sizes_ok c.args.sizes.now ≡ true = search (rules, tests) in
    let price = (and_parts (price_ok z) (sizes_ok c.args.sizes.now) ok).0 in
    let k = narrow 1 highest_quote z price in
    let e = cast_abs 1 highest_quote z f price in
    let done : c.loop-place.place ≡ length c.args.sizes.now = omega arith in
    record {
      low = omega arith;
      high = omega arith;
      whole = c.loop-place.invariant.whole;
      few = grind (arith, nat_tests);
      line = quoted_line _ _ _ c.loop-place.invariant done;
    }
