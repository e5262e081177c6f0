-- What fair fills of the lines come to on the blotter, whatever the mechanism.
use Prim.Native.Nat.{ℕ, zero, suc, ◌+◌, ◌-◌, ◌*◌, ◌/◌, ◌<◌, ◌≤◌}
use mathlib.Core.Path.{◌≡◌, refl, sym, ap, subst, ◌∙◌}
use mathlib.Core.Bool.{true, false}
use mathlib.Core.List.{List, [], ◌∷◌, ◌++◌}
use mathlib.Core.Logic.{◌⊎◌, inl, inr, ⊎_elim}
use native.Mathlib.Omega.{arith}
use lib.IntN.{ℤ}
use lib.ListN.{length, get_or}
use lib.Signed.{◌<ℤ◌, ◌≤ℤ◌}
use Rattle.std.specs.List.{sum, AllByRecursion, slice_get}
use Rattle.std.proofs.ByRecursion.{All-append}
use Rattle.std.proofs.lemmas.List.{length-map}
use Rattle.std.proofs.lemmas.Int.{ints, by_lt_z}
use Rattle.std.proofs.lemmas.Bool.{cond-false, cases_lt, both_ways}
use Rattle.std.specs.declared.option.Option.TheVariants.{Some}
use Rattle.market.specs.declared.names.Mechanism.TheVariants.{Block, Facilitation, Solicited}
use Rattle.market.specs.declared.fill.Party.{Party}
use Rattle.market.specs.declared.fill.Party.TheVariants.{Contra}
use Rattle.market.specs.declared.fill.Fill.{Fill}
use Rattle.filling.specs.Totals.{other_at}
use Rattle.filling.specs.Fair as fairness
use Rattle.filling.specs.Rules.{Fair}
use Rattle.filling.proofs.Counting.{sum_cons}
use Rattle.filling.proofs.Places.{own_other}
use Rattle.auction.specs.declared.order.Order.{Order}
use Rattle.auction.specs.declared.line.Line.{Line}
use Rattle.auction.specs.Gains.{gain, is_customer}
use Rattle.auction.specs.Lines.{Stands, same_party, gain_of, stated_gain, counted, interest_of, interest, contra_of, better_than, from_gain, others_at, stands_in_line}
use Rattle.auction.specs.Settlement.{executed, noted, note_all, blotted, total, received}
use Rattle.auction.specs.Promises.{executes, Allowed, NobodyBeyond, Behind, CustomersFirst, CustomersInLine, BetterFirst, facilitator_share, for_others, LastPrice, CustomerThere, BetterThere, BlockPriced, Agreed, AgreedPrice, CrossedWhen, InOrder, Once, BlotterOrder, OneSettlement}
use Rattle.auction.proofs.Noting.{all_nth, same_back, total_append, received_append, noted_either, total_noted, received_noted, total_all, received_none, received_at, each_noted, once_noted, once_more, order_noted}
use Rattle.auction.proofs.Standing.{apart, no_contra, counted_size, reserved_share, counted_either, counted_within, nth_more, nth_last, nth_mapped, nth_either}

one_of : (fs : List ℕ) (i : ℕ) → get_or fs i 0 ≤ sum fs
one_of [] i = omega arith
one_of (f ∷ fs) zero = omega (arith, sum_cons f fs)
one_of (f ∷ fs) (suc i) = omega (arith, sum_cons f fs, one_of fs i)

two_of : (fs : List ℕ) (i j : ℕ) → (i ≡ j → ⊥) → get_or fs i 0 + get_or fs j 0 ≤ sum fs
two_of [] i j h = omega arith
two_of (f ∷ fs) zero zero h = absurd (h refl)
two_of (f ∷ fs) zero (suc j) h = omega (arith, sum_cons f fs, one_of fs j)
two_of (f ∷ fs) (suc i) zero h = omega (arith, sum_cons f fs, one_of fs i)
two_of (f ∷ fs) (suc i) (suc j) h = omega (arith, sum_cons f fs, two_of fs i j (λ e. h (ap suc e)))

behind_self : (o : Order) (k : Line) → is_customer k.class ≡ true → Behind o k k → ⊥
behind_self o k c b = grind (arith, ints)

-- a test of one blotter line, where there is one
one_line : (Q : Fill → Type 0) (who : Party) (price : ℤ) (n : ℕ) → (1 ≤ n → Q (record { party = who; price = price; contracts = n })) → AllByRecursion Q (noted who price n)
one_line Q who price n h = noted_either (AllByRecursion Q) who price n (λ _. tt) (λ u. (h u, tt))

module _ (o : Order) (ls : List Line) (lined : stands_in_line ls ≡ true)
    (pays : Line → ℤ) (fs : List ℕ) (contra : ℕ) (fair : Fair o.size (gain_of o) (interest o ls) fs contra) where
  abbrev lines : List Fill
  lines = blotted o pays ls fs contra

  long : length fs ≡ length ls
  long = fair.one_each ∙ length-map ls (interest_of o)

  pub filled_in_all : total lines ≡ sum fs + contra
  filled_in_all = omega (arith, total_append (note_all pays ls fs) (noted Contra o.price contra), total_all pays ls fs long, total_noted Contra o.price contra)

  pub contra_receives : received Contra lines ≡ contra
  contra_receives =
      omega (arith, received_append Contra (note_all pays ls fs) (noted Contra o.price contra), received_none pays Contra ls fs (no_contra ls lined), received_noted Contra Contra o.price contra)

  not_contra : (i : ℕ) (k : Line) → slice_get ls i ≡ Some k → same_party k.party Contra ≡ false
  not_contra i k e = same_back k.party Contra ∙ all_nth (λ y. same_party Contra y.party ≡ false) ls i k e (no_contra ls lined)

  -- a line receives its fill
  pub line_receives : (i : ℕ) (k : Line) → slice_get ls i ≡ Some k → received k.party lines ≡ get_or fs i 0
  line_receives i k e =
      omega (
        arith,
        received_append k.party (note_all pays ls fs) (noted Contra o.price contra),
        received_noted k.party Contra o.price contra,
        cond-false (same_party k.party Contra) contra 0 (not_contra i k e),
        received_at pays ls fs (apart ls lined) i k e,
      )

  -- a line as it is counted
  at : (i : ℕ) (k : Line) → slice_get ls i ≡ Some k → slice_get (interest o ls) i ≡ Some (interest_of o k)
  at = nth_mapped (interest_of o) ls

  line_within : (i : ℕ) (k : Line) → slice_get ls i ≡ Some k → get_or fs i 0 ≤ counted o k
  line_within i k e = fair.within i (interest_of o k) (at i k e)

  line_standing : (i : ℕ) (k : Line) → slice_get ls i ≡ Some k → get_or fs i 0 ≤ k.size
  line_standing i k e = omega (arith, line_within i k e, counted_within o k)

  -- a filled line is priced as well as the order
  pub line_priced : (i : ℕ) (k : Line) → slice_get ls i ≡ Some k → 1 ≤ get_or fs i 0 → gain_of o ≤ℤ stated_gain o k
  line_priced i k e h =
      by_lt_z (stated_gain o k) (gain_of o)
      (λ lt. absurd (omega (arith, fair.none_below i (interest_of o k) (at i k e) lt)))
      (λ ge. ge)

  pub conserves : total lines + (o.size - total lines) ≡ o.size
  conserves = omega (arith, filled_in_all, fair.conserved)

  -- what holds of each blotter line: of the lines' and of the contra's
  each_line : (Q : Fill → Type 0) → ((i : ℕ) (k : Line) → slice_get ls i ≡ Some k → 1 ≤ get_or fs i 0 → Q (record { party = k.party; price = pays k; contracts = get_or fs i 0 }))
      → (1 ≤ contra → Q (record { party = Contra; price = o.price; contracts = contra })) → AllByRecursion Q lines
  each_line Q h c = All-append Q (note_all pays ls fs) (noted Contra o.price contra) (each_noted pays Q ls fs h) (one_line Q Contra o.price contra c)

  -- prices that are no worse than the order's and the line's own
  abbrev pub GoodPrices : Type 0
  GoodPrices = (i : ℕ) (k : Line) → slice_get ls i ≡ Some k → 1 ≤ get_or fs i 0 → (gain_of o ≤ℤ gain o.side (pays k)) × (gain o.side (pays k) ≤ℤ stated_gain o k)

  allowed : GoodPrices → AllByRecursion (Allowed o ls) lines
  allowed good =
      each_line (Allowed o ls)
      (λ i k e u. record {
        whose = k;
        stands = (i, nth_more ls (contra_of o ∷ []) i k e);
        party = refl;
        size = line_standing i k e;
        order = (good i k e u).0;
        own = (good i k e u).1;
      })
      (λ u. record {
        whose = contra_of o;
        stands = (length ls, nth_last ls (contra_of o));
        party = refl;
        size = omega (arith, fair.conserved);
        order = omega (arith, ints);
        own = omega (arith, ints);
      })

  pub nobody_beyond : GoodPrices → NobodyBeyond o ls lines
  nobody_beyond good = record {
    each = allowed good;
    line = λ k s. omega (arith, line_receives s.0 k s.1, line_standing s.0 k s.1);
    contra = omega (arith, contra_receives, fair.conserved);
    contra_price = each_line (λ f. f.party ≡ Contra → f.price ≡ o.price)
        (λ i k e u q. absurd (both_ways (same_party k.party Contra) (not_contra i k e) (ap (λ p. same_party p Contra) q)))
        (λ u q. refl);
    order = omega (arith, filled_in_all, fair.conserved);
  }

  -- prices as agreed
  pub agreed_price : ((k : Line) → Agreed o ls k (pays k)) → Agreed o ls (contra_of o) o.price → AgreedPrice o ls lines
  agreed_price agree last =
      each_line (λ f. (k : Line) × Stands (ls ++ contra_of o ∷ []) k × (k.party ≡ f.party) × Agreed o ls k f.price)
      (λ i k e u. (k, (i, nth_more ls (contra_of o ∷ []) i k e), refl, agree k))
      (λ u. (contra_of o, (length ls, nth_last ls (contra_of o)), refl, last))

  -- a line that is filled as counted and still short has the whole order
  takes_all : (i : ℕ) (k : Line) → slice_get ls i ≡ Some k → get_or fs i 0 < k.size → counted o k ≤ get_or fs i 0 → get_or fs i 0 ≡ o.size
  takes_all i k e h full = grind (arith, counted_either o k, line_within i k e)

  -- whoever is short, of what it counts or of what stands, leaves another nothing
  leaves : (i : ℕ) (k : Line) (n : ℕ) → slice_get ls i ≡ Some k → get_or fs i 0 + n ≤ sum fs + contra → (get_or fs i 0 < counted o k → n ≡ 0) →
      received k.party lines < k.size → n ≡ 0
  leaves i k n e both law short =
      let less : get_or fs i 0 < k.size = omega (arith, line_receives i k e) in
      ⊎_elim law (λ (s : counted o k ≤ get_or fs i 0). omega (arith, takes_all i k e less s, fair.conserved)) (cases_lt (get_or fs i 0) (counted o k))

  short_means : (i j : ℕ) (k l : Line) → slice_get ls i ≡ Some k → slice_get ls j ≡ Some l → (i ≡ j → ⊥) →
      (get_or fs i 0 < counted o k → get_or fs j 0 ≡ 0) → received k.party lines < k.size → received l.party lines ≡ 0
  short_means i j k l ek el other law short =
      line_receives j l el ∙ leaves i k (get_or fs j 0) ek (omega (arith, two_of fs i j other)) law short

  -- two who stand at one place are one
  one_there : (i j : ℕ) (k l : Line) → slice_get ls i ≡ Some k → slice_get ls j ≡ Some l → i ≡ j → k ≡ l
  one_there i j k l ek el same = let e = ap (slice_get ls) same in cc

  pub customers_first : CustomersFirst o ls lines
  customers_first k l (i, ek) (j, e) c short behind =
      ⊎_elim
      (λ (el : slice_get ls j ≡ Some l).
      short_means i j k l ek el (λ same. behind_self o k c (subst (λ (x : Line). Behind o k x) (sym (one_there i j k l ek el same)) behind))
      (λ s. fair.customers_first i j (interest_of o k) (interest_of o l) (at i k ek) (at j l el) c s behind) short)
      (λ (same : contra_of o ≡ l).
      let b : Behind o k (contra_of o) = subst (λ (x : Line). Behind o k x) (sym same) behind in
      let le : gain_of o ≤ℤ stated_gain o k = grind (arith, ints) in
      ap (λ (x : Line). received x.party lines) (sym same) ∙ contra_receives
      ∙ leaves i k contra ek (omega (arith, one_of fs i)) (λ s. fair.contra_last i (interest_of o k) (at i k ek) c s le) short)
      (nth_either ls (contra_of o) j l e)

  pub better_first : fairness.BestFirst (interest o ls) fs → BetterFirst o ls lines
  better_first law k l (i, ek) (j, el) short worse =
      short_means i j k l ek el
      (λ same. let w = subst (λ (x : Line). stated_gain o l <ℤ stated_gain o x) (one_there i j k l ek el same) worse in omega (arith, ints))
      (λ s. law i j (interest_of o k) (interest_of o l) (at i k ek) (at j l el) s worse) short

  pub customers_in_line : CustomersInLine o ls lines
  customers_in_line i j k l ek el lt same ck cl short =
      short_means i j k l ek el (λ e. omega arith) (λ s. fair.in_line i j (interest_of o k) (interest_of o l) (at i k ek) (at j l el) lt same ck cl s) short

  once : Once lines
  once =
      once_more (note_all pays ls fs) (noted Contra o.price contra) (once_noted pays ls fs (apart ls lined))
      (noted_either Once Contra o.price contra (λ _. tt) (λ _. (tt, tt)))
      (each_noted pays (λ f. AllByRecursion (λ h. same_party f.party h.party ≡ false) (noted Contra o.price contra)) ls fs
      (λ i k e u. one_line (λ h. same_party k.party h.party ≡ false) Contra o.price contra (λ _. not_contra i k e)))

  in_order : InOrder (ls ++ contra_of o ∷ []) lines
  in_order =
      order_noted pays ls fs (contra_of o ∷ []) (noted Contra o.price contra)
      (noted_either (InOrder (contra_of o ∷ [])) Contra o.price contra (λ _. tt) (λ _. inl (refl, tt)))

  pub blotter_order : BlotterOrder o ls lines
  blotter_order = record { in_order = in_order; once = once; some = each_line (λ f. 1 ≤ f.contracts) (λ i k e u. u) (λ u. u) }

  -- the last price is no worse than the order's
  pub last_from : (v : ℤ) → LastPrice o ls lines v → gain_of o ≤ℤ v
  last_from v p =
      let k = p.reached.0 in
      let s = p.reached.1 in
      let h : 1 ≤ get_or fs s.0 0 = omega (arith, line_receives s.0 k s.1, p.reached.2) in
      subst (λ (w : ℤ). gain_of o ≤ℤ w) p.reached.3 (line_priced s.0 k s.1 h)

  -- what a line's proportion of an amount is
  abbrev part : ℤ → ℕ → Line → ℕ
  part v amount k = amount * counted o k / others_at o ls v

  own_level : (v : ℤ) (k : Line) → stated_gain o k ≡ v → is_customer k.class ≡ false → other_at v (interest_of o k) ≡ true
  own_level v k g c = subst (λ (w : ℤ). other_at w (interest_of o k) ≡ true) g (own_other (interest_of o k) c)

  -- proportions of the fills are proportions of the blotter
  pub in_proportion : (v : ℤ) (amount : ℕ) → fairness.InProportion (interest o ls) fs v amount →
      ((k : Line) → Stands ls k → stated_gain o k ≡ v → is_customer k.class ≡ false →
      (received k.party lines ≡ part v amount k) ⊎ (received k.party lines ≡ part v amount k + 1))
      × ((i j : ℕ) (k l : Line) → slice_get ls i ≡ Some k → slice_get ls j ≡ Some l → i < j → stated_gain o k ≡ v → stated_gain o l ≡ v →
      is_customer k.class ≡ false → is_customer l.class ≡ false → part v amount k < counted o k → received k.party lines ≡ part v amount k → received l.party lines ≡ part v amount l)
  in_proportion v amount h = (
    λ k s g c. ⊎_elim (λ q. inl (line_receives s.0 k s.1 ∙ q)) (λ q. inr (line_receives s.0 k s.1 ∙ q))
        (h.0 s.0 (interest_of o k) (at s.0 k s.1) (own_level v k g c)),
    λ i j k l ek el lt gk gl ck cl more e.
        line_receives j l el ∙
        h.1 i j (interest_of o k) (interest_of o l) (at i k ek) (at j l el) lt
        (own_level v k gk ck) (own_level v l gl cl) more (sym (line_receives i k ek) ∙ e),
  )

  -- where all are filled at one price
  pub all_priced : (price : ℤ) → ((k : Line) → pays k ≡ price) → contra ≡ 0 → AllByRecursion (λ f. f.price ≡ price) lines
  all_priced price h none = each_line (λ f. f.price ≡ price) (λ i k e u. h k) (λ u. absurd (omega arith))

  -- what differs by the mechanism
  pub record Differs : Type 0 where
    pub facilitation : o.mechanism ≡ Facilitation → sum fs + contra ≡ o.size
    pub solicited : o.mechanism ≡ Solicited → sum fs + contra ≡ o.size
    pub block : o.mechanism ≡ Block → sum fs + contra ≡ executes o ls (gain_of o)
    pub prices : GoodPrices
    pub best : fairness.BestFirst (interest o ls) fs
    pub share : o.mechanism ≡ Facilitation → contra ≡ facilitator_share o ls
    pub proportions : (v : ℤ) → gain_of o ≤ℤ v → LastPrice o ls lines v → fairness.InProportion (interest o ls) fs v (for_others o ls v)
    -- no reason to cancel holds
    pub no_customer : (o.mechanism ≡ Solicited) × (better_than o ls (gain_of o) < o.size) × CustomerThere o ls × (from_gain o ls (gain_of o) < o.size) → ⊥
    pub no_better : (o.mechanism ≡ Solicited) × (better_than o ls (gain_of o) < o.size) × (CustomerThere o ls → ⊥) × BetterThere o ls → ⊥
    pub some : (o.mechanism ≡ Block) × (from_gain o ls (gain_of o) ≡ 0) → ⊥
    pub priced : o.mechanism ≡ Block → BlockPriced o ls lines
    pub agreed : (k : Line) → Agreed o ls k (pays k)
    pub contra_agreed : Agreed o ls (contra_of o) o.price
    pub crossed : o.mechanism ≡ Solicited → CrossedWhen o ls lines

  -- and all that is promised
  pub kept : Differs → OneSettlement o ls (executed lines)
  kept d = record {
    conserved = record {
      whole = conserves;
      facilitation = λ q. filled_in_all ∙ d.facilitation q;
      solicited = λ q. inl (filled_in_all ∙ d.solicited q);
      block = λ q. filled_in_all ∙ d.block q;
    };
    nobody_beyond = nobody_beyond d.prices;
    customers_first = customers_first;
    customers_in_line = customers_in_line;
    better_first = better_first d.best;
    counted_sizes = counted_size o;
    reserved_share = reserved_share o;
    facilitators_share = λ q. contra_receives ∙ d.share q;
    proportions = λ v p. in_proportion v (for_others o ls v) (d.proportions v (last_from v p) p);
    cancelled_when = record {
      customer = ((λ q. cc), (λ h. absurd (d.no_customer h)));
      better = ((λ q. cc), (λ h. absurd (d.no_better h)));
      none = ((λ q. cc), (λ h. absurd (d.some h)));
      never = λ why _ q. cc;
    };
    block_priced = d.priced;
    agreed_price = agreed_price d.agreed d.contra_agreed;
    crossed_when = d.crossed;
    blotter_order = blotter_order;
  }
