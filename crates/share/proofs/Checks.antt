-- The checks of the claims, one claim more.
use Rattle.std.proofs.Common.{◌≡◌, ℕ, ◌+◌, ◌*◌, ◌<◌, ◌≤◌, true, false, ◌&&◌, leb, List, map, length, get_or, take, drop, None, sum, sym, ap, ◌∙◌, arith}
use Rattle.std.proofs.lemmas.List.{at_drop_more, length-map, get_or-map}
use Rattle.std.proofs.lemmas.List.Sums.{sum_by_more}
use Rattle.std.proofs.lemmas.Bool.Decides.{nat_tests}
use Rattle.market.specs.Lists.{all_of}
use Rattle.market.specs.Limits.{most_size}
use Rattle.share.specs.Shares.{small, rises_from, measured}

-- the tests of what is left from i on, where total and low come from what went before
pub record Checking (ss ps : List ℕ) (i total low : ℕ) : Type 0 where
  pub sizes : all_of small ss ≡ all_of small (drop i ss)
  pub places : rises_from 0 ps ≡ rises_from low (drop i ps)
  pub summed : total ≡ sum (take i ss)
  pub bound : total ≤ i * 1000000

module _ {C : Type 0} (W P : C → ℕ) (cs : List C) where
  abbrev ss : List ℕ
  ss = map W cs

  abbrev ps : List ℕ
  ps = map P cs

  module _ (i total low s p : ℕ) (x : C) (inv : Checking ss ps i total low) (h : i < length cs) (r : x ≡ get_or cs i x) (se : s ≡ W x) (pe : p ≡ P x) where
    size_here : get_or ss i 0 ≡ s
    size_here = get_or-map W cs i x 0 h ∙ ap W (sym r) ∙ sym se

    place_here : get_or ps i 0 ≡ p
    place_here = get_or-map P cs i x 0 h ∙ ap P (sym r) ∙ sym pe

    sizes_more : all_of small ss ≡ small s && all_of small (drop (i + 1) ss)
    sizes_more =
        let m = length-map cs W in
        let lt : i < length ss = omega arith in
        inv.sizes ∙ at_drop_more (all_of small) ss i 0 lt ∙ ap (λ y. small y && all_of small (drop (i + 1) ss)) size_here

    places_more : rises_from 0 ps ≡ leb low p && rises_from (p + 1) (drop (i + 1) ps)
    places_more =
        let m = length-map cs P in
        let lt : i < length ps = omega arith in
        inv.places ∙ at_drop_more (rises_from low) ps i 0 lt ∙ ap (λ y. leb low y && rises_from (y + 1) (drop (i + 1) ps)) place_here

    pub check_fails : small s && leb low p ≡ false → None ≡ measured ss ps
    check_fails h = let a = sizes_more in let b = places_more in grind (arith, nat_tests)

    pub check_more : small s && leb low p ≡ true → Checking ss ps (i + 1) (total + s) (p + 1)
    check_more ok =
        let m = length-map cs W in
        let lt : i < length ss = omega arith in
        record {
          sizes = sizes_more ∙ grind (arith, nat_tests);
          places = places_more ∙ grind (arith, nat_tests);
          summed = sym (sum_by_more (λ y. y) ss i 0 lt ∙ ap (λ y. sum (take i ss) + y) size_here ∙ ap (λ y. y + s) (sym inv.summed));
          bound = let k = inv.bound in let b : s ≤ most_size = grind (arith, nat_tests) in omega arith;
        }
