-- A listing, form by form, and the text of a refusal.
use Rattle.std.proofs.Common.{◌≡◌, ℕ, List, [], ◌∷◌, ◌++◌, IfOk, Ok, Err, string_bytes, codes, Result, String, sym, refl, ap, ◌∙◌, subst, append_assoc}
use Rattle.std.specs.declared.alloc.Global.{Global}
use Rattle.std.specs.declared.alloc.AllocError.{AllocError}
use Rattle.forms.specs.Spelled.{spelling}
use Rattle.grammar.specs.Grammar.{Located}
use Rattle.grammar.specs.Listing.{listing, Retold}
use Rattle.grammar.proofs.Retelling.{retold}

pub listing_more : (xs : List Located) (x : Located) → listing xs ++ (spelling x.shape ++ codes "\n") ≡ listing (xs ++ x ∷ [])
listing_more [] x = refl
listing_more (y ∷ xs) x = append_assoc (spelling y.shape) (codes "\n" ++ listing xs) (spelling x.shape ++ codes "\n") ∙ ap (λ l. spelling y.shape ++ (codes "\n" ++ l)) (listing_more xs x)

-- what a text is, and what follows
pub made_more : {P Q : List ℕ → Type 0} (r : Result (String Global) AllocError) → ((t : List ℕ) → P t → Q t) → IfOk r (λ t. P (string_bytes t)) → IfOk r (λ t. Q (string_bytes t))
made_more (Ok t) h p = h (string_bytes t) p
made_more (Err x) h p = tt

pub spelled : (fs : List Located) (t : List ℕ) → t ≡ listing fs → (t ≡ listing fs) × Retold fs t
spelled fs t e = (e, subst (Retold fs) (sym e) (retold fs))
