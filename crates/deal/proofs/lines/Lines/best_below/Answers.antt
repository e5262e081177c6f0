use Rattle.std.proofs.Common.{ap, ◌∙◌, rules, tests, None}
use Rattle.std.specs.Ordering.{int_cmp, max_by_ordering}
use Rattle.std.proofs.lemmas.Iterator.{YieldsList-from_slice, YieldsList-from_map}
use Rattle.std.proofs.lemmas.Iterator.Consumers.{YieldsList-at, YieldsList-from_filter, reduce_from_yields_List}
use Rattle.deal.specs.Levels.{under, best_under}
use Rattle.deal.proofs.Descent.{best_of}
use Rattle.deal.proofs.lines.Lines.best_below.Goals as goal

pub returns : goal.returns
returns c =
    let ls = c.self.inside.lines.now in
    let bound = c.args.bound in
    reduce_from_yields_List (λ p z. max_by_ordering (int_cmp p z) p z) _ _ c.max.ensures.ran
    (YieldsList-from_filter _ (under bound)
    (YieldsList-at c.filter.ensures.source
    (YieldsList-from_map _ (λ l. l.gain) (YieldsList-at c.map.ensures.source (YieldsList-from_slice ls cc)) c.map.ensures.closure (λ x r q k. search rules)))
    c.filter.ensures.closure (λ x b q k. search (rules, tests))) ∙
    best_of bound ls ∙ ap (best_under bound None) c.self.view_is
