-- What settle answers, and what the blotter holds after it.
use Rattle.std.specs.Prelude.{◌≡◌, ℕ, cond, ◌&&◌, List, ◌++◌, length, take, drop, Ok, Err, Result, nat_le}
use Rattle.market.specs.declared.fill.Fill.{Fill}
use Rattle.market.specs.declared.fill.Reason.{Reason}
use Rattle.market.specs.declared.refusal.Refusal.{Refusal}
use Rattle.market.specs.declared.refusal.Refusal.TheVariants.{OutOfLimits, BlotterShort}
use Rattle.auction.specs.declared.order.Order.{Order}
use Rattle.auction.specs.declared.line.Line.{Line}
use Rattle.auction.specs.declared.settled.Executed.{Executed}
use Rattle.auction.specs.Limits.{least_blotter}
use Rattle.auction.specs.Lines.{lawful}
use Rattle.auction.specs.Settlement.{Outcome, executed, cancelled, settlement, fills_of, total}
use Rattle.auction.specs.Promises.{OneSettlement}

-- the blotter lines and their contracts, or the reason
abbrev pub answer_of : Outcome → Result Executed Reason
answer_of (executed fs) = Ok (record { lines = length fs; total = total fs })
answer_of (cancelled reason) = Err reason

-- lines out of line order or too many are refused first, then a blotter of n lines that is too short
abbrev pub settle_answer : Order → List Line → ℕ → Result (Result Executed Reason) Refusal
settle_answer o ls n = cond (lawful ls) (cond (nat_le least_blotter n) (Ok (answer_of (settlement o ls))) (Err BlotterShort)) (Err OutOfLimits)

-- fills over the first lines of a blotter
abbrev pub written_over : List Fill → List Fill → List Fill
written_over fs blotter = fs ++ drop (length fs) blotter

abbrev pub after_settle : Order → List Line → List Fill → List Fill
after_settle o ls blotter = cond (lawful ls && nat_le least_blotter (length blotter)) (written_over (fills_of (settlement o ls)) blotter) blotter

-- What the promises say of an answer, and of the blotter before and after: of the lines that the answer counts, which are
-- the blotter's first, and whose contracts it totals. Refused, nothing was written.
abbrev pub Keeps : Order → List Line → Result (Result Executed Reason) Refusal → List Fill → List Fill → Type 0
Keeps o ls (Ok (Ok e)) before after = OneSettlement o ls (executed (take e.lines after)) × (e.total ≡ total (take e.lines after)) × (e.lines ≡ length (take e.lines after))
Keeps o ls (Ok (Err reason)) before after = OneSettlement o ls (cancelled reason) × (after ≡ before)
Keeps o ls (Err refusal) before after = after ≡ before
