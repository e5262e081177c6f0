-- What fills fs of the lines ls keep to, place by place.
use Rattle.std.specs.Prelude.{◌≡◌, ℕ, ◌+◌, ◌*◌, ◌/◌, ◌<◌, ◌≤◌, true, false, ◌⊎◌, List, ℤ, ◌<ℤ◌, Some, slice_index}
use Rattle.std.specs.List.{slice_get}
use Rattle.filling.specs.declared.interest.Interest.{Interest}
use Rattle.filling.specs.Totals.{other_at, contracts}

-- nobody is filled beyond the size standing
abbrev pub Within : List Interest → List ℕ → Type 0
Within ls fs = (i : ℕ) (l : Interest) → slice_get ls i ≡ Some l → slice_index fs i ≤ l.size

-- a line that gains less than another
abbrev pub Worse : Interest → Interest → Type 0
Worse k l = l.gain <ℤ k.gain

-- no customer, at the other's gain
abbrev pub Yields : Interest → Interest → Type 0
Yields k l = (l.gain ≡ k.gain) × (l.customer ≡ false)

-- where a line is left short, nobody worse priced receives a contract
abbrev pub BestFirst : List Interest → List ℕ → Type 0
BestFirst ls fs = (i j : ℕ) (k l : Interest) → slice_get ls i ≡ Some k → slice_get ls j ≡ Some l →
    slice_index fs i < k.size → Worse k l → slice_index fs j ≡ 0

-- where a customer is left short, nobody worse priced and no other class at that price receives a contract
abbrev pub CustomersFirst : List Interest → List ℕ → Type 0
CustomersFirst ls fs = (i j : ℕ) (k l : Interest) → slice_get ls i ≡ Some k → slice_get ls j ≡ Some l →
    k.customer ≡ true → slice_index fs i < k.size → Worse k l ⊎ Yields k l → slice_index fs j ≡ 0

-- customers at one price go in line order
abbrev pub InLine : List Interest → List ℕ → Type 0
InLine ls fs = (i j : ℕ) (k l : Interest) → slice_get ls i ≡ Some k → slice_get ls j ≡ Some l → i < j → k.gain ≡ l.gain →
    k.customer ≡ true → l.customer ≡ true → slice_index fs i < k.size → slice_index fs j ≡ 0

-- a line's proportion of an amount in whole contracts
abbrev pub proportion : List Interest → ℤ → ℕ → Interest → ℕ
proportion ls v amount l = amount * l.size / contracts (other_at v) ls

-- Each line of the level v that is no customer's has its proportion of an amount, or one contract more; where one that
-- wants more has just its proportion, so has each behind it.
abbrev pub InProportion : List Interest → List ℕ → ℤ → ℕ → Type 0
InProportion ls fs v amount =
    ((i : ℕ) (l : Interest) → slice_get ls i ≡ Some l → other_at v l ≡ true →
    (slice_index fs i ≡ proportion ls v amount l) ⊎ (slice_index fs i ≡ proportion ls v amount l + 1))
    × ((i j : ℕ) (k l : Interest) → slice_get ls i ≡ Some k → slice_get ls j ≡ Some l → i < j → other_at v k ≡ true → other_at v l ≡ true →
    proportion ls v amount k < k.size → slice_index fs i ≡ proportion ls v amount k → slice_index fs j ≡ proportion ls v amount l)
