-- The others of a level as claims of the share-out.
use Rattle.std.proofs.Common.{◌≡◌, ℕ, suc, ◌≤◌, Bool, true, false, cond, ◌&&◌, eqb, leb, List, [], ◌∷◌, map, length, ℤ, IsOk, Ok, Err, sum, Result, sym, refl, ap, ◌∙◌, subst, arith}
use Rattle.std.proofs.lemmas.List.{length-map}
use Rattle.std.proofs.lemmas.Bool.{and_from, le-leb, eq-eqb, cond-true}
use Rattle.market.specs.Lists.{all_of}
use Rattle.market.specs.declared.refusal.Refusal.{Refusal}
use Rattle.market.specs.declared.refusal.Refusal.TheVariants.{OutOfLimits}
use Rattle.share.specs.Shares.{small, rises_from, lawful, shares, shareable, share_answer, after_share}
use Rattle.filling.specs.declared.interest.Interest.{Interest}
use Rattle.filling.specs.Totals.{other_at, sizes, contracts}
use Rattle.deal.specs.declared.turns.Turn.{Turn}
use Rattle.deal.specs.Levels.{turns_from}
use Rattle.deal.proofs.Turning.{turn_sizes, turns_rise}

pub no_more : (p : Interest → Bool) (ls : List Interest) → length (sizes p ls) ≤ length ls
no_more p [] = omega arith
no_more p (l ∷ ls) =
    let ih = no_more p ls in
    elim (p l) as (λ b. length (cond b (l.size ∷ sizes p ls) (sizes p ls)) ≤ suc (length ls)) [ true ↦ omega arith | false ↦ omega arith ]

all_small : (p : Interest → Bool) (ls : List Interest) → all_of small (sizes p ls) ≡ true
all_small p [] = refl
all_small p (l ∷ ls) =
    let k = l.few in
    let ih = all_small p ls in
    elim (p l) as (λ b. all_of small (cond b (l.size ∷ sizes p ls) (sizes p ls)) ≡ true) [
      | true ↦ and_from (small l.size) (all_of small (sizes p ls)) (le-leb l.size 1000000 (omega arith)) ih
      | false ↦ ih
    ]

module _ (v : ℤ) (ls : List Interest) (ts : List Turn) (et : ts ≡ turns_from v 0 ls) (a : ℕ) (out : List ℕ) (few : length ts ≤ 128) (enough : a ≤ contracts (other_at v) ls)
    (long : length out ≡ length ts) where
  abbrev ss : List ℕ
  ss = map (λ t. t.size) ts

  abbrev ps : List ℕ
  ps = map (λ t. t.place) ts

  same : ss ≡ sizes (other_at v) ls
  same = ap (map (λ t. t.size)) et ∙ turn_sizes v 0 ls

  rising : rises_from 0 ps ≡ true
  rising = ap (λ zs. rises_from 0 (map (λ t. t.place) zs)) et ∙ turns_rise v 0 0 ls (omega arith)

  able : shareable a ss ps (length out) ≡ true
  able =
      let m = length-map ts (λ t. t.size) in
      let sm : all_of small ss ≡ true = ap (all_of small) same ∙ all_small (other_at v) ls in
      and_from (lawful ss ps) (leb a (sum ss) && eqb (length out) (length ss))
      (and_from (leb (length ss) 128) (all_of small ss && rises_from 0 ps) (le-leb (length ss) 128 (omega arith)) (and_from (all_of small ss) (rises_from 0 ps) sm rising))
      (and_from (leb a (sum ss)) (eqb (length out) (length ss)) (le-leb a (sum ss) (omega (arith, ap sum same))) (eq-eqb (length out) (length ss) (omega arith)))

  -- the share-out of what the others want is never refused
  pub served : (r : Result (Unit {0}) Refusal) (new : List ℕ) → r ≡ share_answer a ss ps (length out) → new ≡ after_share a ss ps out → IsOk r × (new ≡ shares a (sizes (other_at v) ls))
  served r new answer after = (
    subst IsOk (sym (answer ∙ cond-true (shareable a ss ps (length out)) (Ok tt) (Err OutOfLimits) able)) refl,
    after ∙ cond-true (shareable a ss ps (length out)) (shares a ss) out able ∙ ap (shares a) same,
  )
