-- Fields within their limits: what a check of them gives.
use Rattle.std.proofs.Common.{rules, ◌≡◌, ℕ, ◌^◌, ◌<◌, ◌≤◌, min, true, T, leb, ℤ, pos, negsuc, nat_abs, ◌≤ℤ◌, sym, refl, ap, ◌∙◌, subst, arith, w32, w64, Fits, SFits, to_z, of_z}
use lib.Signed.{le_z, non_neg}
use Rattle.std.proofs.lemmas.Int.{to_z-of_z}
use Rattle.std.proofs.lemmas.Bool.{and_parts, leb-true}
use Rattle.market.specs.declared.entry.Entry.{Entry}
use Rattle.market.specs.declared.names.Side.{Side}
use Rattle.market.specs.declared.names.Class.{Class}
use Rattle.market.specs.Limits.{lowest_price, highest_price, most_size}
use Rattle.market.specs.Fields.{in_range, nat_of}
use Rattle.market.specs.Making.{cut_price, entry_of}
use Rattle.market.proofs.Entries.{entry_same}

-- a number from l to h
pub record Narrow (l h : ℕ) (z : ℤ) : Type 0 where
  pub low : l ≤ nat_of z
  pub high : nat_of z ≤ h
  pub abs : nat_abs z ≡ nat_of z
  pub whole : T (non_neg z)

pub narrow : (l h : ℕ) (z : ℤ) → in_range (pos l) (pos h) z ≡ true → Narrow l h z
narrow l h (pos n) ok = let b = and_parts (leb l n) (leb n h) ok in record { low = leb-true l n b.0; high = leb-true n h b.1; abs = refl; whole = tt }
narrow l h (negsuc n) ok = cc

-- as it is cast: through its bits
module _ (l h : ℕ) (z : ℤ) (fits : SFits w64 z) (ok : in_range (pos l) (pos h) z ≡ true) where
  pub cast_abs : nat_abs (to_z w64 (of_z w64 z)) ≡ nat_of z
  cast_abs = ap nat_abs (to_z-of_z w64 z fits) ∙ (narrow l h z ok).abs

  pub cast_fits : h < 2 ^ 32 → T (non_neg (to_z w64 (of_z w64 z))) × Fits w32 (nat_abs (to_z w64 (of_z w64 z)))
  cast_fits small =
      let P : ℤ → Type 0 = λ y. T (non_neg y) in
      let e = cast_abs in
      let k = (narrow l h z ok).high in
      (subst P (sym (to_z-of_z w64 z fits)) (narrow l h z ok).whole, record { fits = omega arith })

pub in_range_holds : (low high z : ℤ) → low ≤ℤ z → z ≤ℤ high → in_range low high z ≡ true
in_range_holds low high z a b = search rules

-- a price within the limits is not cut
pub cut_none : (z : ℤ) → in_range lowest_price highest_price z ≡ true → cut_price z ≡ z
cut_none z ok =
    let b = and_parts (le_z lowest_price z) (le_z z highest_price) ok in
    rw (b.0, b.1) refl

-- an entry is that of its fields
pub entry_of_fields : (e : Entry) (s : Side) (p : ℤ) (n : ℕ) (k : Class) → in_range lowest_price highest_price p ≡ true → n ≤ most_size → e.side ≡ s → e.price ≡ p → e.size ≡ n → e.class ≡ k → e ≡ entry_of s p n k
entry_of_fields e s p n k ok few a b c d =
    let m : n ≡ min n most_size = omega arith in
    entry_same e (entry_of s p n k) a (b ∙ sym (cut_none p ok)) (c ∙ m) d
