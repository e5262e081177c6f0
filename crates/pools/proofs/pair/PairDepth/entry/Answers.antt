use Rattle.std.proofs.Common.{sym, ◌∙◌}
use Rattle.std.proofs.lemmas.Bool.{leb-true, leb-false}
use Rattle.market.specs.Limits.{most_entries}
use Rattle.market.proofs.Paired.{entry_past, entry_left, entry_right}
use Rattle.pools.proofs.pair.PairDepth.entry.Goals as goal

pub returns-then-place-gt-MOST_ENTRIES : goal.returns-then-place-gt-MOST_ENTRIES
returns-then-place-gt-MOST_ENTRIES g c =
    let p = c.args.self.now in
    entry_past most_entries (g.X.Depth.entries p.first) (g.Y.Depth.entries p.second) _ c.if-place-gt-MOST_ENTRIES.true

pub returns-then-in_first : goal.returns-then-in_first
returns-then-in_first g c =
    let p = c.args.self.now in
    c.entry.ensures
    ∙ entry_left most_entries (g.X.Depth.entries p.first) (g.Y.Depth.entries p.second) _ _ c.count-front.ensures c.if-place-gt-MOST_ENTRIES.false (leb-true _ _ (sym c.in_first.ensures ∙ c.if-in_first.true))

pub returns-else-in_first : goal.returns-else-in_first
returns-else-in_first g c =
    let p = c.args.self.now in
    c.entry-else-in_first.ensures
    ∙ entry_right most_entries (g.X.Depth.entries p.first) (g.Y.Depth.entries p.second) _ _ c.count-front.ensures c.if-place-gt-MOST_ENTRIES.false (leb-false _ _ (sym c.in_first.ensures ∙ c.if-in_first.false))
