-- From an allocation to the blotter.
use Rattle.std.proofs.Common.{◌≡◌, ℕ, ◌<◌, ◌≤◌, Bool, true, false, cond, ◌&&◌, eqb, ltb, leb, List, [], ◌∷◌, length, drop, ℤ, ◌≤ℤ◌, Ok, Result, sym, refl, ap, ◌∙◌, subst, arith}
use mathlib.Core.Path.{fun_ext}
use lib.Signed.{lt_z}
use Rattle.std.specs.List.{AllByRecursion}
use Rattle.std.proofs.Math.Seq.{take-append_seam}
use Rattle.std.proofs.lemmas.List.{length-map}
use Rattle.std.proofs.lemmas.Int.{ints}
use Rattle.std.proofs.lemmas.Bool.{and_parts, and_right, cond-true, cond-false, cond_both}
use Rattle.std.proofs.lemmas.Bool.Decides.{nat_tests}
use Rattle.market.specs.Limits.{lowest_price, highest_price}
use Rattle.market.specs.declared.names.Side.{Side}
use Rattle.market.specs.declared.names.Side.TheVariants.{Buy, Sell}
use Rattle.market.specs.declared.names.Mechanism.{Mechanism}
use Rattle.market.specs.declared.names.Mechanism.TheVariants.{Block, Facilitation, Solicited}
use Rattle.market.specs.declared.fill.Fill.{Fill}
use Rattle.market.specs.declared.fill.Reason.{Reason}
use Rattle.market.specs.declared.refusal.Refusal.{Refusal}
use Rattle.filling.specs.declared.interest.Interest.{Interest}
use Rattle.filling.specs.Mechanisms as count
use Rattle.deal.specs.declared.terms.Terms.{Terms}
use Rattle.deal.specs.Answers.{fitting, allocated, allocation_of, fills_in, allocate_answer, after_allocate}
use Rattle.auction.specs.declared.order.Order.{Order}
use Rattle.auction.specs.declared.line.Line.{Line}
use Rattle.auction.specs.declared.blotter.Pricing.{Pricing}
use Rattle.auction.specs.declared.blotter.Pricing.TheVariants.{Own, CustomersAt}
use Rattle.auction.specs.declared.settled.Executed.{Executed}
use Rattle.auction.specs.Gains.{gain, is_customer}
use Rattle.auction.specs.Lines.{gain_of, interest_of, interest, better_than, stands_in_line, lawful}
use Rattle.auction.specs.Pricing.{paid, pricing_in, Priced}
use Rattle.auction.specs.Settlement.{Outcome, executed, cancelled, answered, blotted, price_in, settlement, fills_of, total}
use Rattle.auction.specs.Terms.{terms_of}
use Rattle.auction.specs.Promises.{OneSettlement}
use Rattle.auction.specs.Answers.{answer_of, written_over, Keeps}
use Rattle.auction.proofs.Kept.{settlement_keeps}

-- the gain at a price within the limits is within them
pub gain_within : (s : Side) (p : ℤ) → lowest_price ≤ℤ p → p ≤ℤ highest_price → (lowest_price ≤ℤ gain s p) × (gain s p ≤ℤ highest_price)
gain_within Sell p l h = (l, h)
gain_within Buy p l h = (omega (arith, ints), omega (arith, ints))

pub all_priced : (o : Order) (ls : List Line) → AllByRecursion Priced (interest o ls)
all_priced o [] = tt
all_priced o (l ∷ ls) = let w = gain_within o.side l.price l.low l.high in (record { low = w.0; high = w.1 }, all_priced o ls)

-- the block's gain is one of the gains
best_priced : (Z : ℕ) (g : ℤ) (is : List Interest) (b : ℤ) (xs : List Interest) → lowest_price ≤ℤ b → b ≤ℤ highest_price → AllByRecursion Priced xs →
    (lowest_price ≤ℤ count.best_from Z g is b xs) × (count.best_from Z g is b xs ≤ℤ highest_price)
best_priced Z g is b [] l h a = (l, h)
best_priced Z g is b (x ∷ xs) l h a =
    let t = lt_z b x.gain && eqb (count.executing Z is x.gain) (count.executing Z is g) in
    best_priced Z g is (cond t x.gain b) xs
    (cond_both t x.gain b (λ v. lowest_price ≤ℤ v) (λ _. a.0.low) (λ _. l))
    (cond_both t x.gain b (λ v. v ≤ℤ highest_price) (λ _. a.0.high) (λ _. h)) a.1

pub block_priced : (o : Order) (is : List Interest) → AllByRecursion Priced is →
    (lowest_price ≤ℤ count.block_gain o.size (gain_of o) is) × (count.block_gain o.size (gain_of o) is ≤ℤ highest_price)
block_priced o is a = let w = gain_within o.side o.price o.low o.high in best_priced o.size (gain_of o) is (gain_of o) is w.0 w.1 a

pub few_lines : (ls : List Line) → lawful ls ≡ true → length ls ≤ 128
few_lines ls stand = grind (arith, nat_tests)

-- an allocation that executes
executed_is : (x : count.Outcome) (c : ℕ) (fills out : List ℕ) → ◌≡◌ {A = Result ℕ Reason} (Ok c) (allocation_of x) → out ≡ fills_in fills x → x ≡ count.executed out c
executed_is (count.executed fs d) c fills out e f = cc
executed_is (count.cancelled r) c fills out e f = cc

-- lines are priced as the rule says
fac_paid : (t : Bool) (p : ℤ) (l : Line) → paid (cond t (CustomersAt p) Own) l ≡ cond (is_customer l.class && t) p l.price
fac_paid true p l = elim (is_customer l.class) as (λ b. cond b p l.price ≡ cond (b && true) p l.price) [ true ↦ refl | false ↦ refl ]
fac_paid false p l = sym (cond-false (is_customer l.class && false) p l.price (and_right (is_customer l.class) false refl))

pub paid_is : (m : Mechanism) (o : Order) (ls : List Line) → paid (pricing_in m o (interest o ls)) ≡ price_in m o ls
paid_is Facilitation o ls = fun_ext (λ l. fac_paid (ltb (better_than o ls (gain_of o)) o.size) o.price l)
paid_is Solicited o ls = refl
paid_is Block o ls = refl

-- what is settled where an allocation executes
pub executes : (o : Order) (ls : List Line) (is : List Interest) (fills out : List ℕ) (t : Terms) (c : ℕ) (p : Pricing) →
    lawful ls ≡ true → is ≡ interest o ls → length fills ≡ length ls → t ≡ terms_of o → p ≡ pricing_in o.mechanism o is →
    ◌≡◌ {A = Result (Result ℕ Reason) Refusal} (Ok (Ok c)) (allocate_answer t is (length fills)) → out ≡ after_allocate t is fills →
    settlement o ls ≡ executed (blotted o (paid p) ls out c)
executes o ls is fills out t c p stand counts long terms priced answer after =
    let many : length is ≡ length ls = ap length counts ∙ length-map ls (interest_of o) in
    let few = few_lines ls stand in
    let fits : fitting is (length fills) ≡ true = grind (arith, nat_tests) in
    let made : ◌≡◌ {A = Result (Result ℕ Reason) Refusal} (Ok (Ok c)) (Ok (allocation_of (allocated t is))) = answer ∙ cond-true _ _ _ fits in
    let y : allocated t is ≡ count.executed out c = executed_is (allocated t is) c fills out (cc) (after ∙ cond-true _ _ _ fits) in
    let x : allocated (terms_of o) (interest o ls) ≡ count.executed out c = cc in
    let pays : paid p ≡ price_in o.mechanism o ls = ap paid (priced ∙ ap (pricing_in o.mechanism o) counts) ∙ paid_is o.mechanism o ls in
    ap (answered o (price_in o.mechanism o ls) ls) x ∙ ap (λ (f : Line → ℤ). executed (blotted o f ls out c)) (sym pays)

promised : (o : Order) (ls : List Line) → lawful ls ≡ true → OneSettlement o ls (settlement o ls)
promised o ls stand = settlement_keeps o ls (and_parts (leb (length ls) 128) (stands_in_line ls) stand).1

-- the contracts on the blotter are few
pub total_few : (o : Order) (ls : List Line) → lawful ls ≡ true → total (fills_of (settlement o ls)) < 4294967296
total_few o ls stand =
    let k = (promised o ls stand).nobody_beyond.order in
    let f = o.few in
    omega arith

-- what a settlement promises holds of its answer and of the blotter that it wrote
keeps_written : (o : Order) (ls : List Line) (out : Outcome) (blotter : List Fill) → OneSettlement o ls out →
    Keeps o ls (Ok (answer_of out)) blotter (written_over (fills_of out) blotter)
keeps_written o ls (executed fs) blotter k =
    let e = sym (take-append_seam fs (drop (length fs) blotter)) in
    (subst (λ xs. OneSettlement o ls (executed xs)) e k, ap total e, ap length e)
keeps_written o ls (cancelled reason) blotter k = (k, refl)

pub keeps : (o : Order) (ls : List Line) (blotter after : List Fill) (s : Result Executed Reason) → lawful ls ≡ true →
    s ≡ answer_of (settlement o ls) → after ≡ written_over (fills_of (settlement o ls)) blotter → Keeps o ls (Ok s) blotter after
keeps o ls blotter after s stand e f = rw (e, f) (keeps_written o ls (settlement o ls) blotter (promised o ls stand))
