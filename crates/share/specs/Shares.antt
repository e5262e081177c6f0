-- The share-out of an amount a over claims of the sizes ss, with the place numbers ps.
use Rattle.std.specs.Prelude.{◌≡◌, ℕ, ◌+◌, ◌-◌, ◌*◌, ◌/◌, ◌<◌, ◌≤◌, Bool, true, cond, ◌&&◌, ◌⊎◌, List, [], ◌∷◌, map, length, Some, None, Ok, Err, sum, Option, Result, ◌==◌, nat_le, nat_lt, slice_index}
use Rattle.market.specs.Limits.{most_size}
use Rattle.market.specs.Lists.{all_of}
use Rattle.market.specs.declared.refusal.Refusal.{Refusal}
use Rattle.market.specs.declared.refusal.Refusal.TheVariants.{OutOfLimits}

-- numbers from low on, each above the one before
abbrev pub rises_from : ℕ → List ℕ → Bool
rises_from low [] = true
rises_from low (p ∷ ps) = nat_le low p && rises_from (p + 1) ps

-- the most claims that share
abbrev pub most_claims : ℕ
most_claims = 128

-- a size within the limits
abbrev pub small : ℕ → Bool
small s = nat_le s most_size

-- not too many claims, each within the limits, with rising place numbers
abbrev pub lawful : List ℕ → List ℕ → Bool
lawful ss ps = nat_le (length ss) most_claims && (all_of small ss && rises_from 0 ps)

-- the contracts wanted in all by lawful claims
abbrev pub measured : List ℕ → List ℕ → Option ℕ
measured ss ps = cond (lawful ss ps) (Some (sum ss)) None

-- the parts rounded down, where all claims want S contracts
abbrev pub floors : ℕ → ℕ → List ℕ → List ℕ
floors a S ss = map (λ s. a * s / S) ss

-- one contract more for a claim of the size s that has f, while n are left
abbrev pub extra : ℕ → ℕ → ℕ → ℕ
extra n f s = cond (nat_lt 0 n && nat_lt f s) 1 0

-- the parts, where n contracts are left to go one each to the first claims that want more
abbrev pub topped : ℕ → ℕ → ℕ → List ℕ → List ℕ
topped n a S [] = []
topped n a S (s ∷ ss) = (a * s / S + extra n (a * s / S) s) ∷ topped (n - extra n (a * s / S) s) a S ss

-- what each claim gets
abbrev pub shares : ℕ → List ℕ → List ℕ
shares a ss = topped (a - sum (floors a (sum ss) ss)) a (sum ss) ss

-- whether the amount can be shared out into room for n shares
abbrev pub shareable : ℕ → List ℕ → List ℕ → ℕ → Bool
shareable a ss ps n = lawful ss ps && (nat_le a (sum ss) && n == length ss)

-- what the share-out answers
abbrev pub share_answer : ℕ → List ℕ → List ℕ → ℕ → Result (Unit {0}) Refusal
share_answer a ss ps n = cond (shareable a ss ps n) (Ok tt) (Err OutOfLimits)

-- the table after it
abbrev pub after_share : ℕ → List ℕ → List ℕ → List ℕ → List ℕ
after_share a ss ps out = cond (shareable a ss ps (length out)) (shares a ss) out

-- a claim's part of the amount, rounded down
abbrev pub part_of : ℕ → List ℕ → ℕ → ℕ
part_of a ss i = a * slice_index ss i / sum ss

-- what makes shares rs of the amount a fair to claims of the sizes ss
pub record Fair (a : ℕ) (ss rs : List ℕ) : Type 0 where
  -- one share for each claim
  pub long : length rs ≡ length ss
  -- they come to the amount
  pub whole : sum rs ≡ a
  -- none passes its claim
  pub within : (i : ℕ) → slice_index rs i ≤ slice_index ss i
  -- each is the claim's part, or one contract more
  pub near : (i : ℕ) → i < length ss → (slice_index rs i ≡ part_of a ss i) ⊎ (slice_index rs i ≡ part_of a ss i + 1)
  -- where a claim that wants more than its part gets no more, neither does any behind it
  pub first : (i j : ℕ) → i < j → j < length ss → part_of a ss i < slice_index ss i → slice_index rs i ≡ part_of a ss i → slice_index rs j ≡ part_of a ss j
  -- nothing where nothing is wanted
  pub none : sum ss ≡ 0 → (i : ℕ) → slice_index rs i ≡ 0
