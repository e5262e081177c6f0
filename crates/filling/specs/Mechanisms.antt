-- How each mechanism settles an order of Z contracts at the gain g against the lines ls.
use Rattle.std.specs.Prelude.{ℕ, ◌+◌, ◌-◌, ◌*◌, ◌/◌, min, Bool, false, cond, ◌&&◌, ◌||◌, List, [], ◌∷◌, map, ℤ, ◌==◌, int_le, int_lt, nat_le}
use Rattle.market.specs.declared.names.Mechanism.{Mechanism}
use Rattle.market.specs.declared.names.Mechanism.TheVariants.{Block, Facilitation, Solicited}
use Rattle.market.specs.declared.fill.Reason.{Reason}
use Rattle.market.specs.declared.fill.Reason.TheVariants.{CustomerStands, BetterStands, NoInterest}
use Rattle.filling.specs.declared.interest.Interest.{Interest}
use Rattle.filling.specs.Totals.{better, customer_at, other_at, contracts}
use Rattle.filling.specs.Filling.{dealt, reaching, left_over, fill_down}

-- an execution, with the fills of the lines and the contra's, or a cancellation
pub data Outcome : Type 0 where
  executed : List ℕ → ℕ → Outcome
  cancelled : Reason → Outcome

-- lines at the gain v or better
abbrev pub at_least : ℤ → Interest → Bool
at_least v l = int_le v l.gain

-- whether some line passes a test
abbrev pub some : (Interest → Bool) → List Interest → Bool
some p [] = false
some p (l ∷ ls) = p l || some p ls

-- FACILITATION. Above the order's price the order is filled down. At that price customers come first, the contra
-- takes its reserved share of the rest, if there is as much, the others divide what that leaves up to their sizes, and
-- what they do not want is the contra's.

-- so many percent of the order, rounded up
abbrev pub reserved : ℕ → ℕ → ℕ
reserved Z percent = (Z * percent + 99) / 100

-- what better lines and customers at the order's price leave
abbrev pub rest : ℕ → ℤ → List Interest → ℕ
rest Z g ls = reaching Z ls g - contracts (customer_at g) ls

-- what others at the order's price share out, of a rest from which the contra takes at most r first
abbrev pub shared : ℕ → ℤ → ℕ → List Interest → ℕ
shared Z g r ls = min (contracts (other_at g) ls) (rest Z g ls - min (rest Z g ls) r)

abbrev pub fac_room : ℕ → ℤ → List Interest → ℤ → ℕ
fac_room Z g ls v = cond (int_lt v g) 0 (reaching Z ls v)

abbrev pub fac_pot : ℕ → ℤ → ℕ → List Interest → ℤ → ℕ
fac_pot Z g r ls v = cond (int_lt v g) 0 (cond (int_lt g v) (left_over Z ls v) (shared Z g r ls))

abbrev pub fac_fills : ℕ → ℤ → ℕ → List Interest → List ℕ
fac_fills Z g r ls = dealt (fac_room Z g ls) (fac_pot Z g r ls) ls

abbrev pub facilitated : ℕ → ℤ → ℕ → List Interest → Outcome
facilitated Z g r ls = executed (fac_fills Z g r ls) (rest Z g ls - shared Z g r ls)

-- no fills
abbrev pub nothing : List Interest → List ℕ
nothing ls = map (λ _. 0) ls

-- SOLICITED. Better lines that suffice fill the order. Else a customer at its price or better has it filled from there
-- or cancelled, a better entry of the pool has it cancelled, and with neither the contra takes all of it.

-- customers at the gain g or better
abbrev pub customer_from : ℤ → Interest → Bool
customer_from g l = l.customer && at_least g l

-- entries of the pool that gain more than g
abbrev pub pooled_over : ℤ → Interest → Bool
pooled_over g l = l.pooled && better g l

abbrev pub solicited : ℕ → ℤ → List Interest → Outcome
solicited Z g ls =
    cond (nat_le Z (contracts (better g) ls)) (executed (fill_down Z ls) 0)
    (cond (some (customer_from g) ls)
    (cond (nat_le Z (contracts (at_least g) ls)) (executed (fill_down Z ls) 0) (cancelled CustomerStands))
    (cond (some (pooled_over g) ls) (cancelled BetterStands) (executed (nothing ls) Z)))

-- BLOCK. As much as can be is filled down, all at one price: the best that loses no contract the order's own would get.

-- how many contracts execute at the gain v
abbrev pub executing : ℕ → List Interest → ℤ → ℕ
executing Z ls v = min Z (contracts (at_least v) ls)

-- the best of b and the gains of the lines xs at which as many execute as at g
abbrev pub best_from : ℕ → ℤ → List Interest → ℤ → List Interest → ℤ
best_from Z g ls b [] = b
best_from Z g ls b (l ∷ xs) =
    best_from Z g ls (cond (int_lt b l.gain && executing Z ls l.gain == executing Z ls g) l.gain b) xs

abbrev pub block_gain : ℕ → ℤ → List Interest → ℤ
block_gain Z g ls = best_from Z g ls g ls

abbrev pub blocked : ℕ → ℤ → List Interest → Outcome
blocked Z g ls = cond (contracts (at_least g) ls == 0) (cancelled NoInterest) (executed (fill_down (executing Z ls g) ls) 0)

-- an order of Z at the gain g, with r contracts reserved
abbrev pub allocation : Mechanism → ℕ → ℤ → ℕ → List Interest → Outcome
allocation Facilitation Z g r ls = facilitated Z g r ls
allocation Solicited Z g r ls = solicited Z g ls
allocation Block Z g r ls = blocked Z g ls
