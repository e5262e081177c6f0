-- Orders and lines of fields within their limits.
use Rattle.std.proofs.Common.{◌≡◌, ℕ, ◌≤◌, min, max, true, cond, ◌&&◌, ℤ, pos, negsuc, ◌≤ℤ◌, Ok, Err, Result, sym, ap, ◌∙◌, arith}
use Rattle.std.proofs.lemmas.Bool.{and_parts, and_from, le-leb}
use mathlib.Core.HLevel.{is_prop→PathP}
use denote.Struct.Props.{props}
use lib.Signed.{le_z}
use Rattle.market.specs.Limits.{lowest_price, highest_price, most_size}
use Rattle.market.specs.Fields.{in_range, nat_of}
use Rattle.market.specs.declared.names.Kind.{Kind}
use Rattle.market.specs.declared.names.Kind.TheVariants.{Series, Net}
use Rattle.market.specs.declared.names.Mechanism.{Mechanism}
use Rattle.market.specs.declared.names.Side.{Side}
use Rattle.market.specs.declared.names.Class.{Class}
use Rattle.market.specs.declared.fill.Party.{Party}
use Rattle.market.specs.declared.refusal.Refusal.{Refusal}
use Rattle.market.specs.declared.refusal.Refusal.TheVariants.{OutOfLimits}
use Rattle.market.proofs.Narrow.{narrow, cut_none}
use Rattle.auction.specs.declared.order.Order.{Order}
use Rattle.auction.specs.declared.line.Line.{Line}
use Rattle.auction.specs.Limits.{is_facilitation, most_reserve, reserve_ok, order_ok, line_ok}
use Rattle.auction.specs.Making.{order_told, new_order, line_told, new_line}
use Rattle.house.specs.Making.{cut_size, cut_reserve, order_of, line_of}
use Rattle.house.specs.declared.entering.Entering.{Entering}
use Rattle.house.specs.declared.responding.Responding.{Responding}
use Rattle.house.specs.Fields.{lowest_in, trades, offer_ok, share_ok, times_ok, moment_ok, seat_ok, enter_ok, response_ok}

abbrev terms : Order → Mechanism × Side × ℕ × ℤ × ℕ
terms o = (o.mechanism, o.side, o.size, o.price, o.reserve)

abbrev stand : Line → Party × ℤ × ℕ × Class
stand l = (l.party, l.price, l.size, l.class)

order_same : (a b : Order) → terms a ≡ terms b → a ≡ b
order_same a b e = λ i. record {
  mechanism = (e i).0;
  side = (e i).1;
  size = (e i).2;
  price = (e i).3;
  reserve = (e i).4;
  some = is_prop→PathP (λ i. 1 ≤ (e i).2) (λ i. hlevel props) a.some b.some i;
  few = is_prop→PathP (λ i. (e i).2 ≤ most_size) (λ i. hlevel props) a.few b.few i;
  low = is_prop→PathP (λ i. lowest_price ≤ℤ (e i).3) (λ i. hlevel props) a.low b.low i;
  high = is_prop→PathP (λ i. (e i).3 ≤ℤ highest_price) (λ i. hlevel props) a.high b.high i;
  reserved = is_prop→PathP (λ i. reserve_ok (e i).0 (e i).4 ≡ true) (λ i. hlevel props) a.reserved b.reserved i;
}

line_same : (a b : Line) → stand a ≡ stand b → a ≡ b
line_same a b e = λ i. record {
  party = (e i).0;
  price = (e i).1;
  size = (e i).2;
  class = (e i).3;
  some = is_prop→PathP (λ i. 1 ≤ (e i).2) (λ i. hlevel props) a.some b.some i;
  few = is_prop→PathP (λ i. (e i).2 ≤ most_size) (λ i. hlevel props) a.few b.few i;
  low = is_prop→PathP (λ i. lowest_price ≤ℤ (e i).1) (λ i. hlevel props) a.low b.low i;
  high = is_prop→PathP (λ i. (e i).1 ≤ℤ highest_price) (λ i. hlevel props) a.high b.high i;
}

-- a size and a reserve within their limits are not cut
size_none : (z : ℤ) → in_range (pos 1) (pos most_size) z ≡ true → nat_of z ≡ cut_size (nat_of z)
size_none z ok =
    let n = narrow 1 most_size z ok in
    let a : 1 ≤ nat_of z = n.low in
    let b : nat_of z ≤ most_size = n.high in
    let h : nat_of z ≡ max 1 (min (nat_of z) most_size) = omega arith in
    h

reserve_none : (m : Mechanism) (z : ℤ) → share_ok m z ≡ true → nat_of z ≡ cut_reserve m (nat_of z)
reserve_none m z ok =
    let most = cond (is_facilitation m) most_reserve 0 in
    let n = narrow 0 most z ok in
    sym (ap (λ b. cond b (nat_of z) 0) (le-leb (nat_of z) most n.high))

-- the order that was made is that of its fields
pub made_order : (o : Order) (m : Mechanism) (s : Side) (size price reserve : ℤ) → order_ok m size price reserve ≡ true →
    order_told (Ok o) ≡ new_order m s size price reserve → o ≡ order_of m s size price reserve
made_order o m s size price reserve ok e =
    let a = and_parts (in_range (pos 1) (pos most_size) size) (in_range lowest_price highest_price price && share_ok m reserve) ok in
    let b = and_parts (in_range lowest_price highest_price price) (share_ok m reserve) a.1 in
    let made : Result (Mechanism × Side × ℕ × ℤ × ℕ) Refusal = Ok (m, s, nat_of size, price, nat_of reserve) in
    let t : order_told (Ok o) ≡ made = e ∙ ap (λ b. cond b made (Err OutOfLimits)) ok in
    let f : terms o ≡ (m, s, nat_of size, price, nat_of reserve) = cc in
    order_same o (order_of m s size price reserve)
    (f ∙ (λ i. (m, s, size_none size a.0 i, sym (cut_none price b.0) i, reserve_none m reserve b.1 i)))

pub made_line : (l : Line) (who : Party) (price size : ℤ) (k : Class) → line_ok price size ≡ true →
    line_told (Ok l) ≡ new_line who price size k → l ≡ line_of who price size k
made_line l who price size k ok e =
    let a = and_parts (in_range lowest_price highest_price price) (in_range (pos 1) (pos most_size) size) ok in
    let made : Result (Party × ℤ × ℕ × Class) Refusal = Ok (who, price, nat_of size, k) in
    let t : line_told (Ok l) ≡ made = e ∙ ap (λ b. cond b made (Err OutOfLimits)) ok in
    let f : stand l ≡ (who, price, nat_of size, k) = cc in
    line_same l (line_of who price size k) (f ∙ (λ i. (who, sym (cut_none price a.0) i, size_none size a.1 i, k)))

-- a price for this kind of market is a price
pub wide : (kind : Kind) (price : ℤ) → in_range (lowest_in kind) highest_price price ≡ true → in_range lowest_price highest_price price ≡ true
wide Series (pos n) ok = (and_parts (le_z (pos 1) (pos n)) (le_z (pos n) highest_price) ok).1
wide Series (negsuc n) ok = cc
wide Net price ok = ok

-- the fields of an accepted enter make an order, and those of a response a line
pub enters_order : (kind : Kind) (e : Entering) → enter_ok kind e ≡ true → order_ok e.mechanism e.size e.price e.reserve ≡ true
enters_order kind e ok =
    let a = and_parts (trades kind e.mechanism && share_ok e.mechanism e.reserve) (offer_ok kind e.price e.size && times_ok e.time e.at) ok in
    let b = and_parts (trades kind e.mechanism) (share_ok e.mechanism e.reserve) a.0 in
    let c = and_parts (offer_ok kind e.price e.size) (times_ok e.time e.at) a.1 in
    let d = and_parts (in_range (lowest_in kind) highest_price e.price) (in_range (pos 1) (pos most_size) e.size) c.0 in
    and_from (in_range (pos 1) (pos most_size) e.size) _ d.1 (and_from (in_range lowest_price highest_price e.price) (share_ok e.mechanism e.reserve) (wide kind e.price d.0) b.1)

pub brings_line : (kind : Kind) (r : Responding) → response_ok kind r ≡ true → line_ok r.price r.size ≡ true
brings_line kind r ok =
    let a = and_parts (seat_ok r.member r.slot && offer_ok kind r.price r.size) (moment_ok r.at) ok in
    let b = and_parts (seat_ok r.member r.slot) (offer_ok kind r.price r.size) a.0 in
    let c = and_parts (in_range (lowest_in kind) highest_price r.price) (in_range (pos 1) (pos most_size) r.size) b.1 in
    and_from (in_range lowest_price highest_price r.price) (in_range (pos 1) (pos most_size) r.size) (wide kind r.price c.0) c.1

-- and the response is of a member's slot
pub brings_seat : (kind : Kind) (r : Responding) → response_ok kind r ≡ true → seat_ok r.member r.slot ≡ true
brings_seat kind r ok =
    (and_parts (seat_ok r.member r.slot) (offer_ok kind r.price r.size) (and_parts (seat_ok r.member r.slot && offer_ok kind r.price r.size) (moment_ok r.at) ok).0).0

-- no order and no line within the limits is refused
pub refuses_no_order : (r : Refusal) (m : Mechanism) (s : Side) (size price reserve : ℤ) → order_ok m size price reserve ≡ true →
    order_told (Err r) ≡ new_order m s size price reserve → ⊥
refuses_no_order r m s size price reserve ok e =
    let made : Result (Mechanism × Side × ℕ × ℤ × ℕ) Refusal = Ok (m, s, nat_of size, price, nat_of reserve) in
    let t : order_told (Err r) ≡ made = e ∙ ap (λ b. cond b made (Err OutOfLimits)) ok in
    cc

pub refuses_no_line : (r : Refusal) (who : Party) (price size : ℤ) (k : Class) → line_ok price size ≡ true →
    line_told (Err r) ≡ new_line who price size k → ⊥
refuses_no_line r who price size k ok e =
    let made : Result (Party × ℤ × ℕ × Class) Refusal = Ok (who, price, nat_of size, k) in
    let t : line_told (Err r) ≡ made = e ∙ ap (λ b. cond b made (Err OutOfLimits)) ok in
    cc

-- nor a response time or a moment beyond its limits allowed
pub enters_times : (kind : Kind) (e : Entering) → enter_ok kind e ≡ true → times_ok e.time e.at ≡ true
enters_times kind e ok =
    (and_parts (offer_ok kind e.price e.size) (times_ok e.time e.at) (and_parts (trades kind e.mechanism && share_ok e.mechanism e.reserve) (offer_ok kind e.price e.size && times_ok e.time e.at) ok).1).1
