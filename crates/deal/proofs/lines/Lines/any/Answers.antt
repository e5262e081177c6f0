use Rattle.std.proofs.Common.{ap, ◌∙◌, rules, tests, refl, of_calls}
use Rattle.std.proofs.lemmas.Fn.{says_at}
use Rattle.std.proofs.lemmas.Iterator.{YieldsList-from_slice}
use Rattle.std.proofs.lemmas.Iterator.Search.{any_from_yields_List}
use Rattle.filling.specs.Mechanisms.{some}
use Rattle.deal.proofs.Testing.{anywhere}
use Rattle.deal.proofs.lines.Lines.any.Goals as goal

pub returns : goal.returns
returns g c = λ p t.
    let ls = c.self.inside.lines.now in
    any_from_yields_List p _ _ _ c.any.ensures.ran (YieldsList-from_slice ls cc) (λ x b q k. (search (rules, tests), t x.now b (says_at g.F.Fn {y = x} (search (of_calls, tests)) refl))) ∙ anywhere p ls ∙ ap (some p) c.self.view_is
