-- A word that is this text, by its length and its bytes.
use Rattle.std.proofs.Common.{◌≡◌, ℕ, List, length, Option, ap, sym}
use Rattle.std.proofs.lemmas.Slice.Eq.{HasBytesAt, text_from_reads}

pub stands_for : {A : Type 0} (f : List ℕ → Option A) (w p : List ℕ) → length w ≡ length p → HasBytesAt w 0 p → f p ≡ f w
stands_for f w p n h = ap f (sym (text_from_reads w p n h))
