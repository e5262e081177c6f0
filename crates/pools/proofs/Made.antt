-- The entry that is made of fields within their limits, which come through their bits.
use Rattle.std.proofs.Common.{◌≡◌, true, ℤ, Ok, w64, SFits, to_z, of_z}
use Rattle.std.proofs.lemmas.Int.{to_z-of_z}
use Rattle.market.specs.declared.names.Side.{Side}
use Rattle.market.specs.declared.names.Class.{Class}
use Rattle.market.specs.declared.entry.Entry.{Entry}
use Rattle.market.specs.Fields.{nat_of}
use Rattle.market.specs.Making.{entry_ok, entry_of, new_entry}

pub made : (s : Side) (p z : ℤ) (k : Class) (e : Entry) → SFits w64 p → SFits w64 z → entry_ok p z ≡ true → new_entry s (to_z w64 (of_z w64 p)) (to_z w64 (of_z w64 z)) k ≡ Ok e → e ≡ entry_of s p (nat_of z) k
made s p z k e fp fz ok r =
    let r' = rw (to_z-of_z w64 p fp, to_z-of_z w64 z fz, ok) at r in
    cc
