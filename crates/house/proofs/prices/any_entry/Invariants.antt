use Rattle.std.proofs.Common.{◌≡◌, Bool, drop}
use Rattle.market.specs.declared.entry.Entry.{Entry}
use Rattle.house.specs.Tests.{Tells}
use Rattle.house.specs.Fields.{any_entry}
use Rattle.house.proofs.prices.any_entry.Given as goal

-- so far no entry passed
abbrev pub invariant-loop-before : goal.invariant-loop-before
invariant-loop-before g l =
    let es = g.D.Depth.entries l.depth in
    (p : Entry → Bool) → Tells (goal.F-post g l.test) p → any_entry p es ≡ any_entry p (drop l.before es)
