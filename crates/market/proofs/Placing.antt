-- Places of a list, and what a take does there.
use Rattle.std.proofs.Common.{◌≡◌, ℕ, zero, suc, ◌-◌, ◌<◌, ◌≤◌, true, leb, ◌⊎◌, List, [], ◌∷◌, map, length, get_or, set, Option, Some, None, Ok, sym, refl, ap, ◌∙◌, ⊎_elim, sub-one, arith}
use Rattle.std.specs.Option.{ok_or, option_map}
use Rattle.std.proofs.lemmas.List.{length-map, get_or-map, map-set}
use Rattle.std.proofs.lemmas.Option.{slice_get-get_or, slice_get_past, slice_get-map, slice_get_within}
use Rattle.std.proofs.lemmas.Bool.{leb-true, and_parts}
use Rattle.market.specs.declared.entry.Entry.{Entry}
use Rattle.market.specs.declared.refusal.Refusal.TheVariants.{NotTakable}
use Rattle.market.specs.Lists.{placed, entry_at, up_to, takable, after_take, lowered, change_at}

pub placed_out : {X : Type 0} (xs : List X) (place : ℕ) → (place ≡ 0) ⊎ (length xs < place) → placed xs place ≡ None
placed_out xs zero h = refl
placed_out xs (suc i) h = slice_get_past xs i (⊎_elim (λ e. omega arith) (λ l. omega arith) h)

pub placed_in : {X : Type 0} (xs : List X) (place : ℕ) (d : X) → 0 < place → place ≤ length xs → placed xs place ≡ Some (get_or xs (place - 1) d)
placed_in xs zero d h k = absurd (omega arith)
placed_in xs (suc i) d h k = rw (sub-one (suc i)) (slice_get-get_or xs i d (omega arith))

pub placed_within : {X : Type 0} (xs : List X) (place : ℕ) (x : X) → placed xs place ≡ Some x → (0 < place) × (place ≤ length xs)
placed_within xs zero x e = cc
placed_within xs (suc i) x e = let h = slice_get_within xs i x e in (omega arith, omega arith)

pub placed_map : {X Y : Type 0} (f : X → Y) (xs : List X) (place : ℕ) → placed (map f xs) place ≡ option_map f (placed xs place)
placed_map f xs zero = refl
placed_map f xs (suc i) = slice_get-map f xs i

ok_or_some : {X : Type 0} (o : Option X) (x : X) → Ok x ≡ ok_or o NotTakable → o ≡ Some x
ok_or_some None x e = cc
ok_or_some (Some y) x e = cc

pub change_set : {X : Type 0} (f : X → X) (xs : List X) (i : ℕ) (x : X) → i < length xs → x ≡ get_or xs i x → change_at f xs i ≡ set xs i (f x)
change_set f [] i x h r = refl
change_set f (y ∷ xs) zero x h r = ap (λ z. f z ∷ xs) (sym r)
change_set f (y ∷ xs) (suc i) x h r = ap (λ ys. y ∷ ys) (change_set f xs i x (omega arith) r)

-- a take of what can be taken
take_some : (es : List Entry) (place n : ℕ) → takable (placed es place) n ≡ true → after_take es place n ≡ change_at (lowered n) es (place - 1)
take_some es place n h = rw h refl

pub up_to_bounds : (most n : ℕ) → up_to most n ≡ true → (0 < n) × (n ≤ most)
up_to_bounds most n e = let b = and_parts (leb 1 n) (leb n most) e in (leb-true 1 n b.0, leb-true n most b.1)

-- Entries that are parts of other values, as orders: f reads the entry of each, and e is read at a place.
module _ {X : Type 0} (f : X → Entry) (xs : List X) (place : ℕ) (e : Entry) (found : Ok e ≡ entry_at (map f xs) place) where
  standing : placed (map f xs) place ≡ Some e
  standing = ok_or_some (placed (map f xs) place) e found

  pub place_index : place - 1 < length xs
  place_index =
      let b = placed_within (map f xs) place e standing in
      let n = length-map xs f in
      omega arith

  module _ (x : X) (r : x ≡ get_or xs (place - 1) x) where
    pub entry_there : f x ≡ e
    entry_there =
        let b = placed_within (map f xs) place e standing in
        let here = placed_in (map f xs) place (f x) b.0 b.1 ∙ ap Some (get_or-map f xs (place - 1) x (f x) place_index ∙ ap f (sym r)) in
        let same = sym here ∙ standing in
        cc

    -- y is x with m contracts less
    pub take_done : (m : ℕ) (y : X) → up_to e.size m ≡ true → f y ≡ lowered m (f x) → map f (set xs (place - 1) y) ≡ after_take (map f xs) place m
    take_done m y h low =
        let i : place - 1 < length (map f xs) = let n = length-map xs f in let j = place_index in omega arith in
        let here : f x ≡ get_or (map f xs) (place - 1) (f x) = sym (get_or-map f xs (place - 1) x (f x) place_index ∙ ap f (sym r)) in
        let t = take_some (map f xs) place m (ap (λ o. takable o m) standing ∙ h) in
        map-set f xs (place - 1) y ∙ ap (set (map f xs) (place - 1)) low ∙ sym (change_set (lowered m) (map f xs) (place - 1) (f x) i here) ∙ sym t
