-- Lists of entries: what stands at a place, and what a take answers and leaves. Places count from 1.
use Rattle.std.specs.Prelude.{ℕ, zero, suc, ◌-◌, ◌≤◌, Bool, true, false, cond, ◌&&◌, List, [], ◌∷◌, Some, None, Ok, Err, Option, Result, nat_le}
use Rattle.std.proofs.Common.{arith}
use Rattle.std.specs.List.{slice_get}
use Rattle.std.specs.Option.{ok_or}
use Rattle.market.specs.declared.entry.Entry.{Entry}
use Rattle.market.specs.declared.refusal.Refusal.{Refusal}
use Rattle.market.specs.declared.refusal.Refusal.TheVariants.{NotTakable}
use Rattle.market.specs.Limits.{most_size}

-- one fact where a test holds, another where it fails
abbrev pub EitherWay : Bool → Type 0 → Type 0 → Type 0
EitherWay true A B = A
EitherWay false A B = B

-- a test that holds of every element
abbrev pub all_of : {X : Type 0} → (X → Bool) → List X → Bool
all_of p [] = true
all_of p (x ∷ xs) = p x && all_of p xs

-- a list with one element changed
abbrev pub change_at : {X : Type 0} → (X → X) → List X → ℕ → List X
change_at f [] i = []
change_at f (x ∷ xs) zero = f x ∷ xs
change_at f (x ∷ xs) (suc i) = x ∷ change_at f xs i

-- what stands at a place
abbrev pub placed : {X : Type 0} → List X → ℕ → Option X
placed xs zero = None
placed xs (suc i) = slice_get xs i

-- what is answered at a place
abbrev pub entry_at : List Entry → ℕ → Result Entry Refusal
entry_at es place = ok_or (placed es place) NotTakable

-- from 1 to the most
abbrev pub up_to : ℕ → ℕ → Bool
up_to most n = nat_le 1 n && nat_le n most

-- n contracts can be taken of an entry: at least one, at most its size
abbrev pub takable : Option Entry → ℕ → Bool
takable None n = false
takable (Some e) n = up_to e.size n

-- what a take of n at a place answers
abbrev pub take_answer : List Entry → ℕ → ℕ → Result (Unit {0}) Refusal
take_answer es place n = cond (takable (placed es place) n) (Ok tt) (Err NotTakable)

-- an entry with n contracts less
abbrev pub lowered : ℕ → Entry → Entry
lowered n e = record {
  side = e.side;
  price = e.price;
  size = e.size - n;
  class = e.class;
  low = e.low;
  high = e.high;
  few = let h : e.size ≤ most_size = e.few in omega arith;
}

-- the list after a take of n at a place
abbrev pub after_take : List Entry → ℕ → ℕ → List Entry
after_take es place n = cond (takable (placed es place) n) (change_at (lowered n) es (place - 1)) es
