use Rattle.std.proofs.Common.{◌≡◌, ◌+◌, [], ◌∷◌, ◌++◌, map, take, sym, refl, ap, ◌∙◌}
use Rattle.std.proofs.lemmas.List.{map-append, take_more}
use Rattle.sheet.proofs.Listing.{listing_more}
use Rattle.std.proofs.Output.{has_written_append, has_written_of_eq}
use Rattle.grammar.specs.Listing.{listing}
use Rattle.sheet.specs.Lines.{located}
use Rattle.sheet.proofs.report.ListedDisplay.fmt.Goals as goal

pub loop-x-preserved : goal.loop-x-preserved
loop-x-preserved g c =
    λ p. let x = c.loop-x.invariant p in
    let xs = c.args.self.now.forms.now in
    let i = c.loop-x.x-index in
    let y = c.x-item.result in
    let more : take i xs ++ y ∷ [] ≡ take (i + 1) xs = ap (λ z. take i xs ++ z ∷ []) c.x-item.is ∙ sym (take_more xs i y c.loop-x-test.true) in
    has_written_of_eq g.W.Write.write_str_gives _ _ _ _ (listing_more (map located (take i xs)) (located y) ∙ ap listing (sym (map-append located (take i xs) (y ∷ [])) ∙ ap (map located) more))
    (has_written_append g.W.Write.write_str_gives _ _ _ _ _ x (c.in_ok-write.ensures.writes x.plain refl))
