-- Orders and lines with the same fields are the same.
use Rattle.std.proofs.Common.{◌≡◌, ◌≤◌, ◌≤ℤ◌, List, [], ◌∷◌, map, true, ap, refl, sym, ◌∙◌}
use mathlib.Core.HLevel.{is_prop→PathP}
use denote.Struct.Props.{props}
use Rattle.market.specs.Limits.{lowest_price, highest_price, most_size}
use Rattle.auction.specs.declared.order.Order.{Order}
use Rattle.auction.specs.declared.line.Line.{Line}
use Rattle.auction.specs.Limits.{reserve_ok}
use Rattle.auction.specs.Settlement.{settlement}
use Rattle.worked.specs.Table.{terms, stand, Auction, Settles}

pub same_order : (a b : Order) → terms a ≡ terms b → a ≡ b
same_order a b e = λ i. record {
  mechanism = (e i).0;
  side = (e i).1;
  size = (e i).2;
  price = (e i).3;
  reserve = (e i).4;
  some = is_prop→PathP (λ i. 1 ≤ (e i).2) (λ i. hlevel props) a.some b.some i;
  few = is_prop→PathP (λ i. (e i).2 ≤ most_size) (λ i. hlevel props) a.few b.few i;
  low = is_prop→PathP (λ i. lowest_price ≤ℤ (e i).3) (λ i. hlevel props) a.low b.low i;
  high = is_prop→PathP (λ i. (e i).3 ≤ℤ highest_price) (λ i. hlevel props) a.high b.high i;
  reserved = is_prop→PathP (λ i. reserve_ok (e i).0 (e i).4 ≡ true) (λ i. hlevel props) a.reserved b.reserved i;
}

pub same_line : (a b : Line) → stand a ≡ stand b → a ≡ b
same_line a b e = λ i. record {
  party = (e i).0;
  price = (e i).1;
  size = (e i).2;
  class = (e i).3;
  some = is_prop→PathP (λ i. 1 ≤ (e i).2) (λ i. hlevel props) a.some b.some i;
  few = is_prop→PathP (λ i. (e i).2 ≤ most_size) (λ i. hlevel props) a.few b.few i;
  low = is_prop→PathP (λ i. lowest_price ≤ℤ (e i).1) (λ i. hlevel props) a.low b.low i;
  high = is_prop→PathP (λ i. (e i).1 ≤ℤ highest_price) (λ i. hlevel props) a.high b.high i;
}

pub same_lines : (xs ys : List Line) → map stand xs ≡ map stand ys → xs ≡ ys
same_lines [] [] e = refl
same_lines [] (y ∷ ys) e = cc
same_lines (x ∷ xs) [] e = cc
same_lines (x ∷ xs) (y ∷ ys) e =
    let h : stand x ≡ stand y = cc in
    let t : map stand xs ≡ map stand ys = cc in
    let one = same_line x y h in
    let all = same_lines xs ys t in
    cc

-- an auction of the table settles as one with its fields does
pub settles : (a : Auction) (p : Order) (qs : List Line) → terms p ≡ a.order → map stand qs ≡ a.lines → settlement p qs ≡ a.comes → Settles a
settles a p qs h k s o ls e f =
    let x = same_order o p (e ∙ sym h) in
    let xs = same_lines ls qs (f ∙ sym k) in
    ap (λ o. settlement o ls) x ∙ ap (settlement p) xs ∙ s
