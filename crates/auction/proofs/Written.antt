-- A blotter as it is written, fill by fill.
use Rattle.std.proofs.Common.{◌≡◌, ℕ, ◌+◌, ◌≤◌, List, ◌∷◌, ◌++◌, length, drop, ℤ, sym, ap, ◌∙◌, arith}
use Rattle.std.proofs.lemmas.List.{drop-drop}
use Rattle.market.specs.declared.fill.Party.{Party}
use Rattle.market.specs.declared.fill.Fill.{Fill}
use Rattle.auction.specs.declared.line.Line.{Line}
use Rattle.auction.specs.Settlement.{noted, note_all}
use Rattle.auction.proofs.Noting.{noted_either}

-- at most one line
pub noted_few : (who : Party) (price : ℤ) (n : ℕ) → length (noted who price n) ≤ 1
noted_few who price n = noted_either (λ fs. length fs ≤ 1) who price n (λ _. omega arith) (λ _. omega arith)

-- one line on: it is noted in front of the others
pub noted_next : (pays : Line → ℤ) (l : Line) (f : ℕ) (price : ℤ) (ls ls' : List Line) (fs fs' : List ℕ) → ls ≡ l ∷ ls' → fs ≡ f ∷ fs' → price ≡ pays l →
    note_all pays ls fs ≡ noted l.party price f ++ note_all pays ls' fs'
noted_next pays l f price ls ls' fs fs' p q e = rw (p, q, e)

-- what is the same from one place on is the same from a later one on
pub same_further : (a b k : ℕ) (now before : List Fill) → b ≡ a + k → drop a now ≡ drop a before → drop b now ≡ drop b before
same_further a b k now before e same = rw e (sym (drop-drop k a now) ∙ ap (drop k) same ∙ drop-drop k a before)
