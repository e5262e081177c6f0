-- The tokens in front of others, as brackets and words without their places.
use Rattle.std.proofs.Common.{◌≡◌, ℕ, ◌≤◌, List, [], ◌∷◌, ◌++◌, length, refl, arith}
use Rattle.words.specs.Tokens.{Tok}
use Rattle.words.specs.Tokens as toks
use Rattle.grammar.specs.Grammar.{Bare}

-- Spells: the first tokens are these brackets and words, and the last are left.
pub data Spells : List Tok → List Bare → List Tok → Type 0 where
  none : {us : List Tok} → Spells us [] us
  opens : {c : ℕ} {ts us : List Tok} {bs : List Bare} → Spells ts bs us → Spells (toks.opening c ∷ ts) (Bare.opening ∷ bs) us
  closes : {c : ℕ} {ts us : List Tok} {bs : List Bare} → Spells ts bs us → Spells (toks.closing c ∷ ts) (Bare.closing ∷ bs) us
  words : {l c : ℕ} {w : List ℕ} {ts us : List Tok} {bs : List Bare} → Spells ts bs us → Spells (toks.word l c w ∷ ts) (Bare.word w ∷ bs) us

pub join : {ts us vs : List Tok} {xs bs : List Bare} → Spells ts xs us → Spells us bs vs → Spells ts (xs ++ bs) vs
join none q = q
join (opens p) q = opens (join p q)
join (closes p) q = closes (join p q)
join (words p) q = words (join p q)

pub part : (xs bs : List Bare) {ts vs : List Tok} → Spells ts (xs ++ bs) vs → (us : List Tok) × Spells ts xs us × Spells us bs vs
part [] bs {ts = ts} p = (ts, none, p)
part (Bare.opening ∷ xs) bs (opens p) = let q = part xs bs p in (q.0, opens q.1, q.2)
part (Bare.closing ∷ xs) bs (closes p) = let q = part xs bs p in (q.0, closes q.1, q.2)
part (Bare.word w ∷ xs) bs (words p) = let q = part xs bs p in (q.0, words q.1, q.2)

pub one_word : {w : List ℕ} {ts us : List Tok} → Spells ts (Bare.word w ∷ []) us → (l c : ℕ) × (ts ≡ toks.word l c w ∷ us)
one_word (words {l = l} {c = c} none) = (l, c, refl)

pub nothing_left : {ts us : List Tok} → Spells ts [] us → ts ≡ us
nothing_left none = refl

pub spelt_length : {ts us : List Tok} {bs : List Bare} → Spells ts bs us → length bs ≤ length ts
spelt_length none = omega arith
spelt_length (opens p) = omega (arith, spelt_length p)
spelt_length (closes p) = omega (arith, spelt_length p)
spelt_length (words p) = omega (arith, spelt_length p)
