-- What each mechanism keeps.
use Rattle.std.proofs.Common.{◌≡◌, ℕ, zero, suc, ◌+◌, ◌-◌, ◌<◌, ◌≤◌, min, Bool, true, false, cond, ◌&&◌, eqb, ltb, leb, ◌⊎◌, List, [], ◌∷◌, ◌++◌, get_or, ℤ, ◌≤ℤ◌, ◌<ℤ◌, sym, refl, ap, ◌∙◌, subst, inl, inr, ⊎_elim, arith}
use lib.IntN.{neg_ℤ-neg_ℤ}
use lib.Signed.{lt_z, le_z}
use Rattle.std.proofs.lemmas.Int.{ints, by_lt_z}
use Rattle.std.proofs.lemmas.Bool.{and_left, and_right, cond-true, cond-false, cond_both, leb-true, leb-false, eqb-true, eqb-false, and_parts, and_from, or_cases, or_parts, cases_lt, lt-ltb, le-ltb}
use Rattle.market.specs.declared.names.Side.{Side}
use Rattle.market.specs.declared.names.Side.TheVariants.{Buy, Sell}
use Rattle.market.specs.declared.names.Mechanism.{Mechanism}
use Rattle.market.specs.declared.names.Mechanism.TheVariants.{Block, Facilitation, Solicited}
use Rattle.market.specs.declared.fill.Reason.{Reason}
use Rattle.market.specs.declared.fill.Reason.TheVariants.{CustomerStands, BetterStands, NoInterest}
use Rattle.filling.specs.declared.interest.Interest.{Interest}
use Rattle.filling.specs.Totals.{better, level, customer_at, other_at, contracts}
use Rattle.filling.specs.Filling.{fill_down, left_over}
use Rattle.filling.specs.Fair as fairness
use Rattle.filling.specs.Rules.{Fair}
use Rattle.filling.specs.Mechanisms as count
use Rattle.filling.proofs.Counting.{contracts_split, level_splits}
use Rattle.filling.proofs.Down.{filling, level_and_above, contracts_under}
use Rattle.filling.proofs.Facilitating as fac
use Rattle.filling.proofs.Other.{block, better_at_least, down_fair, down_total, contra_fair, zeros_at, zeros_sum}
use Rattle.auction.specs.declared.order.Order.{Order}
use Rattle.auction.specs.declared.line.Line.{Line}
use Rattle.auction.specs.Limits.{is_facilitation}
use Rattle.auction.specs.Gains.{gain, is_customer, is_pooled}
use Rattle.auction.specs.Lines.{Stands, gain_of, stated_gain, reserved_of, interest_of, interest, contra_of, better_than, from_gain, stands_in_line}
use Rattle.auction.specs.Settlement.{Outcome, cancelled, answered, own, facilitation_price, block_price, settle_as, settlement}
use Rattle.auction.specs.Promises.{executes, Conserved, CustomerThere, BetterThere, left_at, reserved_taken, for_others, CancelledWhen, BlockPriced, Agreed, CrossedWhen, OneSettlement}
use Rattle.auction.proofs.Noting.{order_none}
use Rattle.auction.proofs.Standing.{nth_mapped, counted_size, reserved_share}
use Rattle.auction.proofs.Common as common

pub gain_back : (s : Side) (v : ℤ) → gain s (gain s v) ≡ v
gain_back Buy v = neg_ℤ-neg_ℤ v
gain_back Sell v = refl

-- Some line, none such.
some_there : (p : Interest → Bool) (o : Order) (ls : List Line) → count.some p (interest o ls) ≡ true → (k : Line) × Stands ls k × (p (interest_of o k) ≡ true)
some_there p o [] h = cc
some_there p o (x ∷ ls) h =
    ⊎_elim (λ t. (x, (0, refl), t)) (λ t. let w = some_there p o ls t in (w.0, (suc w.1.0, w.1.1), w.2)) (or_cases (p (interest_of o x)) (count.some p (interest o ls)) h)

none_there : (p : Interest → Bool) (o : Order) (ls : List Line) → count.some p (interest o ls) ≡ false → (k : Line) → Stands ls k → p (interest_of o k) ≡ true → ⊥
none_there p o [] h k (i, e) t = cc
none_there p o (x ∷ ls) h k (zero, e) t =
    let q : x ≡ k = cc in
    let f = (or_parts (p (interest_of o x)) (count.some p (interest o ls)) h).0 in
    let r = ap (λ (y : Line). p (interest_of o y)) q in
    cc
none_there p o (x ∷ ls) h k (suc i, e) t = none_there p o ls (or_parts (p (interest_of o x)) (count.some p (interest o ls)) h).1 k (i, e) t

-- lines at the level v, and better ones, are among those from g on
level_from : (is : List Interest) (g v : ℤ) → g ≤ℤ v → contracts (better v) is + contracts (level v) is ≤ contracts (count.at_least g) is
level_from is g v h = contracts_under (count.at_least g) (better v) (level v) (λ l x. grind (arith, ints)) is

module _ (o : Order) (ls : List Line) (lined : stands_in_line ls ≡ true) where
  abbrev is : List Interest
  is = interest o ls

  abbrev g : ℤ
  g = gain_of o

  abbrev Keeps : Outcome → Type 0
  Keeps out = OneSettlement o ls out

  -- WHERE NOTHING EXECUTES
  unfilled : (r : Reason) → Conserved o ls (cancelled r) → CancelledWhen o ls (cancelled r) → (o.mechanism ≡ Facilitation → ⊥) →
      (o.mechanism ≡ Block → BlockPriced o ls []) → (o.mechanism ≡ Solicited → CrossedWhen o ls []) → Keeps (cancelled r)
  unfilled r conserved when no-fac priced crossed = record {
    conserved = conserved;
    nobody_beyond = record { each = tt; line = λ k s. omega arith; contra = omega arith; contra_price = tt; order = omega arith };
    customers_first = λ k l sk sl u s b. refl;
    customers_in_line = λ i j k l ek el lt e ck cl s. refl;
    better_first = λ k l sk sl s w. refl;
    counted_sizes = counted_size o;
    reserved_share = reserved_share o;
    facilitators_share = λ q. absurd (no-fac q);
    proportions = λ v p. absurd (omega (arith, p.reached.2));
    cancelled_when = when;
    block_priced = priced;
    agreed_price = tt;
    crossed_when = crossed;
    blotter_order = record { in_order = order_none (ls ++ contra_of o ∷ []); once = tt; some = tt };
  }

  -- FACILITATION
  abbrev r : ℕ
  r = reserved_of o

  abbrev fac_fills : List ℕ
  fac_fills = count.fac_fills o.size g r is

  abbrev fac_contra : ℕ
  fac_contra = count.rest o.size g is - count.shared o.size g r is

  fac_fair : Fair o.size g is fac_fills fac_contra
  fac_fair = fac.fair o.size g r is

  fac_amount : o.mechanism ≡ Facilitation → (v : ℤ) → g ≤ℤ v → count.fac_pot o.size g r is v ≡ for_others o ls v
  fac_amount m v h =
      let taken : reserved_taken o ls ≡ min (left_at o ls g) r = ap (λ x. cond (is_facilitation x) (min (left_at o ls g) r) 0) m in
      by_lt_z g v
      (λ lt.
      omega (
        arith,
        taken,
        (fac.above o.size g r is v lt).1,
        level_and_above is v g lt,
        contracts_split (level v) (customer_at v) (other_at v) (level_splits v) is,
      ))
      (λ ge.
      let same : g ≡ v = omega (arith, ints) in
      subst (λ (w : ℤ). count.fac_pot o.size g r is w ≡ for_others o ls w) same (omega (arith, taken, (fac.at_order o.size g r is).1)))

  -- better lines come first in a facilitation too
  fac_best : fairness.BestFirst is fac_fills
  fac_best i j k l ek el short worse =
      ⊎_elim
      (λ (few : contracts (better g) is < o.size).
      by_lt_z g k.gain
      (λ up. absurd (omega (arith, (fac.facilitation).better_filled o.size g r is (omega arith) i k ek up)))
      (λ le. fac_fair.none_below j l el (omega (arith, ints))))
      (λ (enough : o.size ≤ contracts (better g) is).
      let same : fac_fills ≡ fill_down o.size is = cc ((fac.facilitation).better_suffice o.size g r is enough) in
      subst (λ (fs : List ℕ). get_or fs j 0 ≡ 0) (sym same) (filling.best_first o.size is i j k l ek el (subst (λ (fs : List ℕ). get_or fs i 0 < k.size) same short) worse))
      (cases_lt (contracts (better g) is) o.size)

  abbrev fac_pays : Line → ℤ
  fac_pays = facilitation_price o ls

  fac_prices : common.GoodPrices o ls lined fac_pays fac_fills fac_contra fac_fair
  fac_prices i k e u =
      let le = common.line_priced o ls lined fac_pays fac_fills fac_contra fac_fair i k e u in
      cond_both (is_customer k.class && ltb (better_than o ls g) o.size) o.price k.price (λ p. (g ≤ℤ gain o.side p) × (gain o.side p ≤ℤ stated_gain o k))
      (λ _. (omega (arith, ints), le)) (λ _. (le, omega (arith, ints)))

  -- a customer at the order's price, others at their own, where better lines do not suffice
  fac_agreed : o.mechanism ≡ Facilitation → (k : Line) → Agreed o ls k (fac_pays k)
  fac_agreed m k =
      let c = is_customer k.class in
      let t = ltb (better_than o ls g) o.size in record {
        customer = λ _ few is. cond-true (c && t) o.price k.price (and_from c t is (lt-ltb (better_than o ls g) o.size few));
        other = λ _ otherwise. cond-false (c && t) o.price k.price (and_left c t otherwise);
        filled = λ _ enough. cond-false (c && t) o.price k.price (and_right c t (le-ltb (better_than o ls g) o.size enough));
        solicited = λ q. cc;
      }

  contra_agreed : Agreed o ls (contra_of o) o.price
  contra_agreed = record { customer = λ _ _ _. refl; other = λ _ _. refl; filled = λ _ _. refl; solicited = λ _. refl }

  fac_keeps : o.mechanism ≡ Facilitation → Keeps (settle_as Facilitation o ls)
  fac_keeps m =
      common.kept o ls lined fac_pays fac_fills fac_contra fac_fair
      (record {
        facilitation = λ _. (fac.facilitation).whole o.size g r is;
        solicited = λ q. cc;
        block = λ q. cc;
        prices = fac_prices;
        best = fac_best;
        share = λ _. (fac.facilitation).facilitator o.size g r is;
        proportions = λ v lo p. subst (λ (a : ℕ). fairness.InProportion is fac_fills v a) (fac_amount m v lo) ((fac.facilitation).in_proportion o.size g r is v);
        no_customer = λ h. cc h.0;
        no_better = λ h. cc h.0;
        some = λ h. cc h.0;
        priced = λ q. cc;
        agreed = fac_agreed m;
        contra_agreed = contra_agreed;
        crossed = λ q. cc;
      })

  -- no share is reserved outside facilitation
  none_reserved : (m : Mechanism) → o.mechanism ≡ m → is_facilitation m ≡ false → reserved_taken o ls ≡ 0
  none_reserved m e f = ap (λ x. cond (is_facilitation x) (min (left_at o ls g) r) 0) e ∙ cond-false (is_facilitation m) (min (left_at o ls g) r) 0 f

  -- SOLICITED
  abbrev AsSolicited : count.Outcome → Type 0
  AsSolicited x = Keeps (answered o own ls x)

  customer_found : count.some (count.customer_from g) is ≡ true → CustomerThere o ls
  customer_found h =
      let w = some_there (count.customer_from g) o ls h in
      let p = and_parts (is_customer w.0.class) (le_z g (stated_gain o w.0)) w.2 in
      (w.0, w.1, p.0, grind (arith, ints, p.1))

  no_customer : count.some (count.customer_from g) is ≡ false → CustomerThere o ls → ⊥
  no_customer h (k, s, c, le) =
      none_there (count.customer_from g) o ls h k s (and_from (is_customer k.class) (le_z g (stated_gain o k)) c (grind (arith, ints)))

  better_found : count.some (count.pooled_over g) is ≡ true → BetterThere o ls
  better_found h =
      let w = some_there (count.pooled_over g) o ls h in
      let p = and_parts (is_pooled w.0.party) (lt_z g (stated_gain o w.0)) w.2 in
      (w.0, w.1, p.0, grind (arith, ints, p.1))

  no_better : count.some (count.pooled_over g) is ≡ false → BetterThere o ls → ⊥
  no_better h (k, s, c, lt) =
      none_there (count.pooled_over g) o ls h k s (and_from (is_pooled k.party) (lt_z g (stated_gain o k)) c (grind (arith, ints)))

  own_agreed : o.mechanism ≡ Solicited → (k : Line) → Agreed o ls k (own k)
  own_agreed m k = record {
    customer = λ q _ _. cc;
    other = λ q _. cc;
    filled = λ q _. cc;
    solicited = λ _. refl;
  }

  own_prices : (fs : List ℕ) (c : ℕ) (fair : Fair o.size g is fs c) → common.GoodPrices o ls lined own fs c fair
  own_prices fs c fair i k e u = (common.line_priced o ls lined own fs c fair i k e u, (omega (arith, ints)))

  -- an order that is filled down among its lines
  sol_filled : o.mechanism ≡ Solicited → o.size ≤ from_gain o ls g → (CustomerThere o ls ⊎ (o.size ≤ better_than o ls g)) → AsSolicited (count.executed (fill_down o.size is) 0)
  sol_filled m enough why =
      let fs = fill_down o.size is in
      let fair = down_fair o.size o.size g is (omega arith) enough in
      let some_size = o.some in
      common.kept o ls lined own fs 0 fair
      (record {
        facilitation = λ q. cc;
        solicited = λ _. omega (arith, down_total o.size g is enough);
        block = λ q. cc;
        prices = own_prices fs 0 fair;
        best = filling.best_first o.size is;
        share = λ q. cc;
        proportions = λ v lo p.
            subst (λ (a : ℕ). fairness.InProportion is fs v a) (omega (arith, none_reserved Solicited m refl)) (filling.in_proportion o.size is v);
        no_customer = λ h. omega (arith, h.3);
        no_better = λ h. ⊎_elim (λ c. h.2 c) (λ b. omega (arith, h.1)) why;
        some = λ h. cc h.0;
        priced = λ q. cc;
        agreed = own_agreed m;
        contra_agreed = contra_agreed;
        crossed = λ _. record {
          whole = inr (common.contra_receives o ls lined own fs 0 fair);
          crossed = (
            (λ q. absurd (omega (arith, common.contra_receives o ls lined own fs 0 fair))),
            (λ h. absurd (⊎_elim (λ c. h.1 c) (λ b. omega (arith, h.0)) why)),
          );
        };
      })

  sol_conserved : o.mechanism ≡ Solicited → (r : Reason) → Conserved o ls (cancelled r)
  sol_conserved m r = record { whole = omega arith; facilitation = λ q. cc; solicited = λ _. inr (r, refl); block = λ q. cc }

  -- nothing of it goes to the contra
  not_crossed : (((better_than o ls g < o.size) × (CustomerThere o ls → ⊥) × (BetterThere o ls → ⊥)) → ⊥) → CrossedWhen o ls []
  not_crossed never = let some_size = o.some in record { whole = inr refl; crossed = ((λ q. absurd (omega arith)), (λ h. absurd (never h))) }

  sol_customer : o.mechanism ≡ Solicited → better_than o ls g < o.size → CustomerThere o ls → from_gain o ls g < o.size → AsSolicited (count.cancelled CustomerStands)
  sol_customer m few c less =
      unfilled CustomerStands (sol_conserved m CustomerStands)
      (record {
        customer = ((λ q. (m, few, c, less)), (λ h. refl));
        better = ((λ q. cc), (λ h. absurd (h.2 c)));
        none = ((λ q. cc), (λ h. cc h.0));
        never = λ r q _. cc;
      })
      (λ q. cc) (λ q. cc) (λ _. not_crossed (λ h. h.1 c))

  sol_better : o.mechanism ≡ Solicited → better_than o ls g < o.size → (CustomerThere o ls → ⊥) → BetterThere o ls → AsSolicited (count.cancelled BetterStands)
  sol_better m few c b =
      unfilled BetterStands (sol_conserved m BetterStands)
      (record {
        customer = ((λ q. cc), (λ h. absurd (c h.2)));
        better = ((λ q. (m, few, c, b)), (λ h. refl));
        none = ((λ q. cc), (λ h. cc h.0));
        never = λ r q _. cc;
      })
      (λ q. cc) (λ q. cc) (λ _. not_crossed (λ h. h.2 b))

  -- the contra takes all
  sol_crossed : o.mechanism ≡ Solicited → count.some (count.customer_from g) is ≡ false → (BetterThere o ls → ⊥) → better_than o ls g < o.size → AsSolicited (count.executed (count.nothing is) o.size)
  sol_crossed m none b few =
      let fs = count.nothing is in
      let fair = contra_fair o.size g is none in
      common.kept o ls lined own fs o.size fair
      (record {
        facilitation = λ q. cc;
        solicited = λ _. omega (arith, zeros_sum is);
        block = λ q. cc;
        prices = own_prices fs o.size fair;
        best = λ i j k l ek el s w. zeros_at is j;
        share = λ q. cc;
        proportions = λ v lo p.
            let s = p.reached.1 in
            absurd (omega (arith, p.reached.2, common.line_receives o ls lined own fs o.size fair s.0 p.reached.0 s.1, zeros_at is s.0));
        no_customer = λ h. no_customer none h.2;
        no_better = λ h. b h.3;
        some = λ h. cc h.0;
        priced = λ q. cc;
        agreed = own_agreed m;
        contra_agreed = contra_agreed;
        crossed = λ _. record {
          whole = inl (common.contra_receives o ls lined own fs o.size fair);
          crossed = ((λ q. (few, no_customer none, b)), (λ h. common.contra_receives o ls lined own fs o.size fair));
        };
      })

  sol_keeps : o.mechanism ≡ Solicited → Keeps (settle_as Solicited o ls)
  sol_keeps m =
      cond_both (leb o.size (better_than o ls g)) _ _ AsSolicited
      (λ e. let le = leb-true o.size (better_than o ls g) e in sol_filled m (omega (arith, better_at_least g is)) (inr le))
      (λ e.
      let few = leb-false o.size (better_than o ls g) e in
      cond_both (count.some (count.customer_from g) is) _ _ AsSolicited
      (λ c.
      cond_both (leb o.size (from_gain o ls g)) _ _ AsSolicited
      (λ t. sol_filled m (leb-true o.size (from_gain o ls g) t) (inl (customer_found c)))
      (λ t. sol_customer m few (customer_found c) (leb-false o.size (from_gain o ls g) t)))
      (λ c.
      cond_both (count.some (count.pooled_over g) is) _ _ AsSolicited
      (λ b. sol_better m few (no_customer c) (better_found b))
      (λ b. sol_crossed m c (no_better b) few)))

  -- BLOCK
  abbrev amount : ℕ
  amount = count.executing o.size is g

  abbrev block_pays : Line → ℤ
  block_pays = λ _. block_price o ls

  abbrev AsBlock : count.Outcome → Type 0
  AsBlock x = Keeps (answered o block_pays ls x)

  block_none : o.mechanism ≡ Block → from_gain o ls g ≡ 0 → AsBlock (count.cancelled NoInterest)
  block_none m none =
      unfilled NoInterest
      (record { whole = omega arith; facilitation = λ q. cc; solicited = λ q. cc; block = λ _. omega arith })
      (record {
        customer = ((λ q. cc), (λ h. cc h.0));
        better = ((λ q. cc), (λ h. cc h.0));
        none = ((λ q. (m, none)), (λ h. refl));
        never = λ r q _. cc;
      })
      (λ q. cc)
      (λ _. record { price = λ h. absurd (omega arith); no_contra = refl })
      (λ q. cc)

  block_agreed : o.mechanism ≡ Block → (k : Line) (p : ℤ) → Agreed o ls k p
  block_agreed m k p = record {
    customer = λ q _ _. cc;
    other = λ q _. cc;
    filled = λ q _. cc;
    solicited = λ q. cc;
  }

  block_filled : o.mechanism ≡ Block → (from_gain o ls g ≡ 0 → ⊥) → AsBlock (count.executed (fill_down amount is) 0)
  block_filled m there =
      let fs = fill_down amount is in
      let fair = down_fair amount o.size g is (omega arith) (omega arith) in
      let v₀ = count.block_gain o.size g is in
      let back : gain o.side (block_price o ls) ≡ v₀ = gain_back o.side v₀ in
      let some_size = o.some in
      common.kept o ls lined block_pays fs 0 fair
      (record {
        facilitation = λ q. cc;
        solicited = λ q. cc;
        block = λ _. omega (arith, block.total o.size g is);
        prices = λ i k e u. (
          subst (λ (w : ℤ). g ≤ℤ w) (sym back) (block.from_order o.size g is),
          subst (λ (w : ℤ). w ≤ℤ stated_gain o k) (sym back) (block.paid o.size g is i (interest_of o k) (nth_mapped (interest_of o) ls i k e) u),
        );
        best = filling.best_first amount is;
        share = λ q. cc;
        proportions = λ v lo p.
            subst (λ (a : ℕ). fairness.InProportion is fs v a)
            (let z : left_over amount is v ≡ for_others o ls v =
            omega (arith, none_reserved Block m refl, level_from is g v lo, contracts_split (level v) (customer_at v) (other_at v) (level_splits v) is) in z)
            (filling.in_proportion amount is v);
        no_customer = λ h. cc h.0;
        no_better = λ h. cc h.0;
        some = λ h. there h.1;
        priced = λ q. record {
          price = λ h. (
            block_price o ls,
            record {
              all = common.all_priced o ls lined block_pays fs 0 fair (block_price o ls) (λ k. refl) refl;
              as_many = ap (executes o ls) back ∙ block.as_many o.size g is;
              best = λ v lt. block.no_better o.size g is v (omega arith) (subst (λ (w : ℤ). w <ℤ v) back lt);
            },
          );
          no_contra = common.contra_receives o ls lined block_pays fs 0 fair;
        };
        agreed = λ k. block_agreed m k (block_price o ls);
        contra_agreed = block_agreed m (contra_of o) o.price;
        crossed = λ q. cc;
      })

  block_keeps : o.mechanism ≡ Block → Keeps (settle_as Block o ls)
  block_keeps m =
      cond_both (eqb (from_gain o ls g) 0) _ _ AsBlock
      (λ e. block_none m (eqb-true (from_gain o ls g) 0 e))
      (λ e. block_filled m (eqb-false (from_gain o ls g) 0 e))

-- every settlement of lines in line order keeps its promises
pub settlement_keeps : (o : Order) (ls : List Line) → stands_in_line ls ≡ true → OneSettlement o ls (settlement o ls)
settlement_keeps o ls lined = by o.mechanism refl
  where
    by : (m : Mechanism) → o.mechanism ≡ m → OneSettlement o ls (settle_as m o ls)
    by Block e = block_keeps o ls lined e
    by Facilitation e = fac_keeps o ls lined e
    by Solicited e = sol_keeps o ls lined e
