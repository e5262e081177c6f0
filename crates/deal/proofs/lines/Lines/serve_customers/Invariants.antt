use Rattle.std.proofs.Common.{◌≡◌, ◌-◌, take}
use Rattle.filling.specs.Totals.{customer_at, contracts}
use Rattle.deal.proofs.Passes.{Passing, left_for}
use Rattle.deal.proofs.lines.Lines.serve_customers.Given as goal

abbrev pub invariant-loop-i : goal.invariant-loop-i
invariant-loop-i l =
    (l.left ≡ l.room - contracts (customer_at l.level) (take l.i l.line-items))
    × Passing (customer_at l.level) (left_for l.level l.room l.line-items) l.line-items l.initial.out l.out l.i
