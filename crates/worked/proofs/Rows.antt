-- Each auction of the table.
use Rattle.std.proofs.Common.{◌≡◌, ℕ, ◌≤◌, pos, [], ◌∷◌, true, refl, arith}
use Rattle.std.proofs.lemmas.Int.{ints}
use Rattle.market.specs.declared.names.Mechanism.{Mechanism}
use Rattle.market.specs.declared.names.Mechanism.TheVariants.{Block, Facilitation, Solicited}
use Rattle.market.specs.declared.names.Side.TheVariants.{Sell}
use Rattle.market.specs.declared.names.Class.{Class}
use Rattle.market.specs.declared.names.Class.TheVariants.{Customer, Other}
use Rattle.market.specs.declared.fill.Party.{Party}
use Rattle.market.specs.declared.fill.Party.TheVariants.{Entry, Response}
use Rattle.auction.specs.declared.order.Order.{Order}
use Rattle.auction.specs.declared.line.Line.{Line}
use Rattle.auction.specs.Limits.{reserve_ok}
use Rattle.worked.specs.Table.{Settles, better_customer, others_in_proportion, customer_in_the_book, customer_and_response, better_in_the_book, better_response, block_at_one_price}
use Rattle.worked.proofs.Alike.{settles}

-- an order to sell, and a line, at prices up to 1,000
abbrev selling : (m : Mechanism) (n p r : ℕ) → 1 ≤ n → n ≤ 1000 → p ≤ 1000 → reserve_ok m r ≡ true → Order
selling m n p r a b c d = record {
  mechanism = m;
  side = Sell;
  size = n;
  price = pos p;
  reserve = r;
  some = a;
  few = omega arith;
  low = omega (arith, ints);
  high = omega (arith, ints);
  reserved = d;
}

abbrev standing : (who : Party) (p n : ℕ) (k : Class) → 1 ≤ n → n ≤ 1000 → p ≤ 1000 → Line
standing who p n k a b c = record {
  party = who;
  price = pos p;
  size = n;
  class = k;
  some = a;
  few = omega arith;
  low = omega (arith, ints);
  high = omega (arith, ints);
}

pub row_better_customer : Settles better_customer
row_better_customer = settles better_customer
    (selling Facilitation 100 100 40 (omega arith) (omega arith) (omega arith) refl)
    (standing (Entry 1) 101 10 Customer (omega arith) (omega arith) (omega arith)
    ∷ standing (Response 1 1) 100 60 Other (omega arith) (omega arith) (omega arith)
    ∷ [])
    refl refl refl

pub row_others_in_proportion : Settles others_in_proportion
row_others_in_proportion = settles others_in_proportion
    (selling Facilitation 50 100 40 (omega arith) (omega arith) (omega arith) refl)
    (standing (Response 1 1) 100 10 Other (omega arith) (omega arith) (omega arith)
    ∷ standing (Response 2 1) 100 20 Other (omega arith) (omega arith) (omega arith)
    ∷ standing (Response 3 1) 100 31 Other (omega arith) (omega arith) (omega arith)
    ∷ [])
    refl refl refl

pub row_customer_in_the_book : Settles customer_in_the_book
row_customer_in_the_book = settles customer_in_the_book
    (selling Solicited 500 100 0 (omega arith) (omega arith) (omega arith) refl)
    (standing (Entry 1) 100 1 Customer (omega arith) (omega arith) (omega arith)
    ∷ [])
    refl refl refl

pub row_customer_and_response : Settles customer_and_response
row_customer_and_response = settles customer_and_response
    (selling Solicited 500 100 0 (omega arith) (omega arith) (omega arith) refl)
    (standing (Entry 1) 100 1 Customer (omega arith) (omega arith) (omega arith)
    ∷ standing (Response 1 1) 100 499 Other (omega arith) (omega arith) (omega arith)
    ∷ [])
    refl refl refl

pub row_better_in_the_book : Settles better_in_the_book
row_better_in_the_book = settles better_in_the_book
    (selling Solicited 500 100 0 (omega arith) (omega arith) (omega arith) refl)
    (standing (Entry 1) 101 1 Other (omega arith) (omega arith) (omega arith)
    ∷ [])
    refl refl refl

pub row_better_response : Settles better_response
row_better_response = settles better_response
    (selling Solicited 500 100 0 (omega arith) (omega arith) (omega arith) refl)
    (standing (Response 1 1) 101 1 Other (omega arith) (omega arith) (omega arith)
    ∷ [])
    refl refl refl

pub row_block_at_one_price : Settles block_at_one_price
row_block_at_one_price = settles block_at_one_price
    (selling Block 50 95 0 (omega arith) (omega arith) (omega arith) refl)
    (standing (Entry 1) 100 30 Other (omega arith) (omega arith) (omega arith)
    ∷ standing (Entry 2) 98 10 Other (omega arith) (omega arith) (omega arith)
    ∷ standing (Entry 3) 97 20 Other (omega arith) (omega arith) (omega arith)
    ∷ standing (Entry 4) 95 40 Other (omega arith) (omega arith) (omega arith)
    ∷ [])
    refl refl refl
