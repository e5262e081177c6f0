-- What the calls answer.
use Rattle.std.specs.Prelude.{◌≡◌, ℕ, ◌<◌, Bool, cond, ◌&&◌, List, length, ℤ, ◌≤ℤ◌, ◌<ℤ◌, Ok, Err, Result, ◌==◌, nat_le}
use Rattle.market.specs.declared.fill.Reason.{Reason}
use Rattle.market.specs.declared.refusal.Refusal.{Refusal}
use Rattle.market.specs.declared.refusal.Refusal.TheVariants.{OutOfLimits}
use Rattle.filling.specs.declared.interest.Interest.{Interest}
use Rattle.filling.specs.Totals.{better, contracts}
use Rattle.filling.specs.Mechanisms.{Outcome, executed, cancelled, allocation, executing, block_gain}
use Rattle.deal.specs.declared.terms.Terms.{Terms}

-- the most lines that stand against an order
abbrev pub most_lines : ℕ
most_lines = 128

-- the gain at which a block of Z at the gain g is priced
abbrev pub block_answer : ℕ → ℤ → List Interest → Result ℤ Refusal
block_answer Z g ls = cond (nat_le (length ls) most_lines) (Ok (block_gain Z g ls)) (Err OutOfLimits)

-- the contracts of the lines that gain more than g
abbrev pub better_answer : ℤ → List Interest → Result ℕ Refusal
better_answer g ls = cond (nat_le (length ls) most_lines) (Ok (contracts (better g) ls)) (Err OutOfLimits)

-- v is the best gain at which as many contracts execute as at the order's
pub record BestGain (Z : ℕ) (g : ℤ) (ls : List Interest) (v : ℤ) : Type 0 where
  pub as_many : executing Z ls v ≡ executing Z ls g
  pub none_better : (w : ℤ) → 0 < executing Z ls g → v <ℤ w → executing Z ls w < executing Z ls g
  pub from_order : g ≤ℤ v

-- not too many lines, and n places, one for each
abbrev pub fitting : List Interest → ℕ → Bool
fitting ls n = nat_le (length ls) most_lines && n == length ls

-- what comes of an order
abbrev pub allocated : Terms → List Interest → Outcome
allocated t ls = allocation t.mechanism t.size t.gain t.reserved ls

-- the contra's contracts, or why nothing executes
abbrev pub allocation_of : Outcome → Result ℕ Reason
allocation_of (executed fs c) = Ok c
allocation_of (cancelled r) = Err r

-- the lines' contracts after it
abbrev pub fills_in : List ℕ → Outcome → List ℕ
fills_in out (executed fs c) = fs
fills_in out (cancelled r) = out

-- what an allocation with n places answers
abbrev pub allocate_answer : Terms → List Interest → ℕ → Result (Result ℕ Reason) Refusal
allocate_answer t ls n = cond (fitting ls n) (Ok (allocation_of (allocated t ls))) (Err OutOfLimits)

-- and the places after it
abbrev pub after_allocate : Terms → List Interest → List ℕ → List ℕ
after_allocate t ls out = cond (fitting ls (length out)) (fills_in out (allocated t ls)) out
