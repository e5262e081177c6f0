use Rattle.std.proofs.Common.{◌≡◌, ◌∙◌, arith, rules, tests}
use Rattle.std.proofs.lemmas.Bool.Decides.{nat_tests}
use Rattle.std.proofs.lemmas.Iterator.{YieldsList-from_slice}
use Rattle.std.proofs.lemmas.Iterator.Search.{all_from_yields_List}
use Rattle.market.specs.Lists.{all_of}
use Rattle.legs.specs.Fields.{size_ok}
use Rattle.legs.proofs.Tests.{all_same}
use Rattle.legs.proofs.fields.sizes_ok.Goals as goal

pub returns-then-sizes-le-MOST_QUOTES : goal.returns-then-sizes-le-MOST_QUOTES
returns-then-sizes-le-MOST_QUOTES c =
    let zs = c.args.sizes.now in
    let all : c.all.result ≡ all_of size_ok zs = all_from_yields_List size_ok _ _ c.all.result c.all.ensures.ran (YieldsList-from_slice zs cc) (λ x b q k. search (rules, tests)) ∙ all_same size_ok zs in
    grind (arith, nat_tests)
