-- The entry of some fields.
use Rattle.std.specs.Prelude.{◌≡◌, ℕ, ◌≤◌, min, Bool, true, false, cond, ◌&&◌, T, ℤ, pos, ◌≤ℤ◌, Ok, Err, Result, int_le, refl}
use Rattle.std.proofs.Common.{sym, subst, arith}
use Rattle.market.specs.declared.names.Side.{Side}
use Rattle.market.specs.declared.names.Class.{Class}
use Rattle.market.specs.declared.entry.Entry.{Entry}
use Rattle.market.specs.declared.refusal.Refusal.{Refusal}
use Rattle.market.specs.declared.refusal.Refusal.TheVariants.{OutOfLimits}
use Rattle.market.specs.Limits.{lowest_price, highest_price, most_size}
use Rattle.market.specs.Fields.{in_range, nat_of}

-- a price cut to the limits: one within them is not changed
abbrev pub cut_price : ℤ → ℤ
cut_price z = cond (int_le lowest_price z) (cond (int_le z highest_price) z highest_price) lowest_price

pub cut_low : (z : ℤ) (a b : Bool) → int_le lowest_price z ≡ a → lowest_price ≤ℤ cond a (cond b z highest_price) lowest_price
cut_low z true true e = record { le = subst T (sym e) tt }
cut_low z true false e = record { le = tt }
cut_low z false b e = record { le = tt }

pub cut_high : (z : ℤ) (a b : Bool) → int_le z highest_price ≡ b → cond a (cond b z highest_price) lowest_price ≤ℤ highest_price
cut_high z true true e = record { le = subst T (sym e) tt }
cut_high z true false e = record { le = tt }
cut_high z false b e = record { le = tt }

-- the entry of these fields, cut to the limits
abbrev pub entry_of : Side → ℤ → ℕ → Class → Entry
entry_of s p n k = record {
  side = s;
  price = cut_price p;
  size = min n most_size;
  class = k;
  low = cut_low p (int_le lowest_price p) (int_le p highest_price) refl;
  high = cut_high p (int_le lowest_price p) (int_le p highest_price) refl;
  few = let h : min n most_size ≤ most_size = omega arith in h;
}

-- a price and a size within the limits
abbrev pub entry_ok : ℤ → ℤ → Bool
entry_ok p z = in_range lowest_price highest_price p && in_range (pos 0) (pos most_size) z

-- the entry of fields within the limits
abbrev pub new_entry : Side → ℤ → ℤ → Class → Result Entry Refusal
new_entry s p z k = cond (entry_ok p z) (Ok (entry_of s p (nat_of z) k)) (Err OutOfLimits)
