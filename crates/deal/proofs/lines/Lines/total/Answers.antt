use Rattle.std.proofs.Common.{ap, ◌∙◌, rules, tests, refl, of_calls, filter}
use Rattle.std.proofs.lemmas.Fn.{says_at}
use Rattle.std.proofs.lemmas.Iterator.{YieldsList-from_slice, YieldsList-from_map}
use Rattle.std.proofs.lemmas.Iterator.Consumers.{YieldsList-at, YieldsList-from_filter, sum_by_from_yields_List}
use Rattle.filling.specs.Totals.{contracts}
use Rattle.deal.proofs.Testing.{filtered}
use Rattle.deal.proofs.lines.Lines.total.Goals as goal

pub returns : goal.returns
returns g c = λ p t.
    let ls = c.self.inside.lines.now in
    sum_by_from_yields_List (λ l. l.size) (filter p ls) _ _ c.sum.ensures.ran
    (YieldsList-from_map _ (λ l. l.size)
    (YieldsList-at c.map.ensures.source
    (YieldsList-from_filter _ p (YieldsList-at c.filter.ensures.source (YieldsList-from_slice ls cc)) c.filter.ensures.closure (λ x b q k. (search (rules, tests), t x.now b (says_at g.F.Fn {y = x} (search (of_calls, tests)) refl)))))
    c.map.ensures.closure (λ x r q k. search rules)) ∙
    filtered p ls ∙ ap (contracts p) c.self.view_is
