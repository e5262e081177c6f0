use Rattle.std.proofs.Common.{◌++◌, take, sym, ap, ◌∙◌, rules}
use Rattle.std.proofs.lemmas.Bool.{leb-true, leb-false}
use Rattle.market.specs.Limits.{most_entries}
use Rattle.market.proofs.Paired.{take_past, take_left, take_right}
use Rattle.pools.proofs.pair.PairPool.take.Goals as goal

pub returns-then-place-gt-MOST_ENTRIES : goal.returns-then-place-gt-MOST_ENTRIES
returns-then-place-gt-MOST_ENTRIES g c =
    let p = c.args.self.now in
    let t = take_past most_entries (g.X.Depth.entries p.first) (g.Y.Depth.entries p.second) _ c.args.n c.if-place-gt-MOST_ENTRIES.true in
    record { answer = t.0; list = t.1; pool = search rules }

pub returns-then-in_first-clause-answer : goal.returns-then-in_first-clause-answer
returns-then-in_first-clause-answer g c =
    let p = c.args.self.now in
    c.take.ensures.answer
    ∙ (take_left most_entries (g.X.Depth.entries p.first) (g.Y.Depth.entries p.second) _ c.args.n _ c.count-front.ensures c.if-place-gt-MOST_ENTRIES.false (leb-true _ _ (sym c.in_first.ensures ∙ c.if-in_first.true))).0

pub returns-then-in_first-clause-list : goal.returns-then-in_first-clause-list
returns-then-in_first-clause-list g c =
    let p = c.args.self.now in
    let back = g.Y.Depth.entries p.second in
    ap (λ es. take most_entries (es ++ back)) c.take.ensures.list
    ∙ (take_left most_entries (g.X.Depth.entries p.first) back _ c.args.n _ c.count-front.ensures c.if-place-gt-MOST_ENTRIES.false (leb-true _ _ (sym c.in_first.ensures ∙ c.if-in_first.true))).1

pub returns-else-in_first-clause-answer : goal.returns-else-in_first-clause-answer
returns-else-in_first-clause-answer g c =
    let p = c.args.self.now in
    c.take-else-in_first.ensures.answer
    ∙ (take_right most_entries (g.X.Depth.entries p.first) (g.Y.Depth.entries p.second) _ _ c.count-front.ensures c.if-place-gt-MOST_ENTRIES.false (leb-false _ _ (sym c.in_first.ensures ∙ c.if-in_first.false)) c.args.n).0

pub returns-else-in_first-clause-list : goal.returns-else-in_first-clause-list
returns-else-in_first-clause-list g c =
    let p = c.args.self.now in
    let front = g.X.Depth.entries p.first in
    ap (λ es. take most_entries (front ++ es)) c.take-else-in_first.ensures.list
    ∙ (take_right most_entries front (g.Y.Depth.entries p.second) _ _ c.count-front.ensures c.if-place-gt-MOST_ENTRIES.false (leb-false _ _ (sym c.in_first.ensures ∙ c.if-in_first.false)) c.args.n).1
