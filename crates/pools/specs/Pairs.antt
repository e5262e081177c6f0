-- What a pair of pools becomes.
use Rattle.std.specs.Prelude.{◌≡◌, ℕ, ◌-◌, List, length, nat_le}
use Rattle.market.specs.declared.entry.Entry.{Entry}
use Rattle.market.specs.Lists.{EitherWay}
use Rattle.pools.specs.declared.pair.Pair.{Pair}

-- One pool was taken from, and the other is as before: the first up to its last place, the second behind it. The list of a
-- first pool, and what each pool becomes, are given.
abbrev pub PairTook : {X Y : Type 0} → (X → List Entry) → (X → ℕ → ℕ → X → Type 0) → (Y → ℕ → ℕ → Y → Type 0) → Pair X Y → ℕ → ℕ → Pair X Y → Type 0
PairTook listed tookX tookY p place n q =
    EitherWay (nat_le place (length (listed p.first)))
    (tookX p.first place n q.first × (q.second ≡ p.second))
    ((q.first ≡ p.first) × tookY p.second (place - length (listed p.first)) n q.second)
