-- Entries with the same fields are the same.
use Rattle.std.proofs.Common.{◌≡◌, ◌≤◌, ◌≤ℤ◌}
use mathlib.Core.HLevel.{is_prop→PathP}
use denote.Struct.Props.{props}
use Rattle.market.specs.declared.entry.Entry.{Entry}
use Rattle.market.specs.Limits.{lowest_price, highest_price, most_size}

pub entry_same : (a b : Entry) → a.side ≡ b.side → a.price ≡ b.price → a.size ≡ b.size → a.class ≡ b.class → a ≡ b
entry_same a b s p z k = λ i. record {
  side = s i;
  price = p i;
  size = z i;
  class = k i;
  low = is_prop→PathP (λ i. lowest_price ≤ℤ p i) (λ i. hlevel props) a.low b.low i;
  high = is_prop→PathP (λ i. p i ≤ℤ highest_price) (λ i. hlevel props) a.high b.high i;
  few = is_prop→PathP (λ i. z i ≤ most_size) (λ i. hlevel props) a.few b.few i;
}
