-- Quotes as claims of the share-out.
use Rattle.std.proofs.Common.{◌≡◌, ℕ, ◌≤◌, true, cond, List, [], ◌∷◌, sum, Ok, Err, Result, is_ok, refl, ap, ◌∙◌, arith}
use Rattle.std.proofs.lemmas.List.{length-map}
use Rattle.std.proofs.lemmas.Bool.Decides.{nat_tests}
use Rattle.market.specs.declared.refusal.Refusal.{Refusal}
use Rattle.market.specs.declared.refusal.Refusal.TheVariants.{OutOfLimits}
use Rattle.market.specs.Lists.{all_of}
use Rattle.share.specs.Shares.{small, shareable, share_answer}
use Rattle.legs.specs.declared.quote.Quote.{Quote}
use Rattle.legs.specs.declared.legside.LegSide.{LegSide}
use Rattle.legs.specs.Quotes.{size_of, sizes, places}
use Rattle.legs.specs.Sides.{quotes_of}
use Rattle.legs.proofs.Sided.{quotes_long, line_rises}

all_small : (qs : List Quote) → all_of small (sizes qs) ≡ true
all_small [] = refl
all_small (q ∷ qs) = let k = q.few in let rest = all_small qs in grind (arith, nat_tests)

-- the share-out of what the quotes have is never refused
pub served : (e : LegSide) (qs : List Quote) (a n : ℕ) (r : Result (Unit {0}) Refusal) → qs ≡ quotes_of e → a ≤ sum (sizes (quotes_of e)) → n ≡ e.count → r ≡ share_answer a (sizes qs) (places qs) n → is_ok r ≡ true
served e qs a n r same enough long answer =
    let m = length-map (quotes_of e) size_of in
    let s = all_small (quotes_of e) in
    let f = e.few in
    let l = line_rises e in
    let k = quotes_long e in
    let able : shareable a (sizes (quotes_of e)) (places (quotes_of e)) n ≡ true = grind (arith, nat_tests) in
    let ok : r ≡ Ok tt = answer ∙ ap (λ xs. share_answer a (sizes xs) (places xs) n) same ∙ ap (λ t. cond t (Ok tt) (Err OutOfLimits)) able in
    ap is_ok ok
