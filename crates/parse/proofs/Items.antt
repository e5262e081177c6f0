-- A list, item by item.
use Rattle.std.proofs.Common.{◌≡◌, ℕ, zero, suc, ◌<◌, List, [], ◌∷◌, ◌++◌, length, true, Some, None, Ok, Err, Option, sym, refl, ap, ◌∙◌, append_assoc, arith}
use Rattle.std.specs.Option.{is_some}
use Rattle.words.specs.Tokens.{Tok}
use Rattle.forms.specs.declared.trouble.Trouble.{Trouble}
use Rattle.parse.specs.Parser.{Read, then, onto, more, up_to, items_of}
use Rattle.parse.specs.View.{asked}

pub onto_none : {A : Type 0} (r : Read (List A)) → onto [] r ≡ r
onto_none (Err t) = refl
onto_none (Ok x) = refl

pub onto_more : {A : Type 0} (xs : List A) (x : A) (r : Read (List A)) → onto (xs ++ x ∷ []) r ≡ onto xs (onto (x ∷ []) r)
onto_more xs x (Err t) = refl
onto_more xs x (Ok r) = λ j. Ok (append_assoc xs (x ∷ []) r.0 j, r.1)

pub asked_onto : {A : Type 0} (xs : List A) (r : Read (List A)) → asked (onto xs r) ≡ asked r
asked_onto xs (Err t) = refl
asked_onto xs (Ok r) = refl

-- an item takes a token at least
abbrev pub Takes : {A : Type 0} → (List Tok → Read (Option A)) → Type 0
Takes {A} next = (ts us : List Tok) (x : A) → next ts ≡ Ok (Some x, us) → length us < length ts

-- it does not matter how many items can be told apart, if there are enough
pub enough : {A : Type 0} (next : List Tok → Read (Option A)) → Takes next → (n m : ℕ) (ts : List Tok) → length ts < n → length ts < m → up_to next n ts ≡ up_to next m ts
enough next takes zero m ts h k = absurd (omega arith)
enough next takes (suc n) zero ts h k = absurd (omega arith)
enough {A} next takes (suc n) (suc m) ts h k = go (λ us l. enough next takes n m us (omega arith) (omega arith)) (next ts) refl
  where
    go : ((us : List Tok) → length us < length ts → up_to next n us ≡ up_to next m us) → (r : Read (Option A)) → next ts ≡ r → then r (λ o us. more o us (up_to next n)) ≡ then r (λ o us. more o us (up_to next m))
    go ih (Err t) e = refl
    go ih (Ok (None, us)) e = refl
    go ih (Ok (Some x, us)) e = ap (onto (x ∷ [])) (ih us (takes ts us x e))

pub items_more : {A : Type 0} (next : List Tok → Read (Option A)) → Takes next → (ts us : List Tok) (x : A) → next ts ≡ Ok (Some x, us) → items_of next ts ≡ onto (x ∷ []) (items_of next us)
items_more next takes ts us x e =
    let l = takes ts us x e in
    ap (λ r. then r (λ o vs. more o vs (up_to next (length ts)))) e ∙ ap (onto (x ∷ [])) (enough next takes (length ts) (suc (length us)) us l (omega arith))

pub items_all : {A : Type 0} (next : List Tok → Read (Option A)) (ts us : List Tok) → next ts ≡ Ok (None, us) → items_of next ts ≡ Ok ([], us)
items_all next ts us e = ap (λ r. then r (λ o vs. more o vs (up_to next (length ts)))) e

pub items_trouble : {A : Type 0} (next : List Tok → Read (Option A)) (ts : List Tok) (t : Trouble) → next ts ≡ Err t → items_of next ts ≡ Err t
items_trouble next ts t e = ap (λ r. then r (λ o vs. more o vs (up_to next (length ts)))) e

-- an item that is passed over
pub passed : {A : Type 0} (next : List Tok → Read (Option A)) → Takes next → (ts us : List Tok) (o : Option A) → next ts ≡ Ok (o, us) → true ≡ is_some o → asked (items_of next us) ≡ asked (items_of next ts)
passed next takes ts us None e h = cc
passed next takes ts us (Some x) e h = sym (ap asked (items_more next takes ts us x e) ∙ asked_onto (x ∷ []) (items_of next us))

-- trouble among the items that are passed over
pub asked_trouble : {A : Type 0} (r : Read A) (t : Trouble) → asked r ≡ Err t → r ≡ Err t
asked_trouble (Err u) t e = cc
asked_trouble (Ok x) t e = absurd (cc)
