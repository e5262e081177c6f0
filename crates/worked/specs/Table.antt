-- Worked auctions: orders, the lines against them, and what comes of them.
use Rattle.std.specs.Prelude.{◌≡◌, ℕ, List, [], ◌∷◌, map, ℤ, pos}
use Rattle.market.specs.declared.names.Mechanism.{Mechanism}
use Rattle.market.specs.declared.names.Mechanism.TheVariants.{Block, Facilitation, Solicited}
use Rattle.market.specs.declared.names.Side.{Side}
use Rattle.market.specs.declared.names.Side.TheVariants.{Sell}
use Rattle.market.specs.declared.names.Class.{Class}
use Rattle.market.specs.declared.names.Class.TheVariants.{Customer, Other}
use Rattle.market.specs.declared.fill.Party.{Party}
use Rattle.market.specs.declared.fill.Party.TheVariants.{Entry, Response, Contra}
use Rattle.market.specs.declared.fill.Fill.{Fill}
use Rattle.market.specs.declared.fill.Reason.TheVariants.{CustomerStands, BetterStands}
use Rattle.auction.specs.declared.order.Order.{Order}
use Rattle.auction.specs.declared.line.Line.{Line}
use Rattle.auction.specs.Settlement.{Outcome, executed, cancelled, settlement}

-- an order: mechanism, side, contracts, price, reserve in percent
abbrev pub Terms : Type 0
Terms = Mechanism × Side × ℕ × ℤ × ℕ

abbrev pub terms : Order → Terms
terms o = (o.mechanism, o.side, o.size, o.price, o.reserve)

-- a line: who stands, at which price, with how many contracts, of which class
abbrev pub Stand : Type 0
Stand = Party × ℤ × ℕ × Class

abbrev pub stand : Line → Stand
stand l = (l.party, l.price, l.size, l.class)

pub record Auction : Type 0 where
  pub order : Terms
  pub lines : List Stand
  pub comes : Outcome

-- every order and all lines with these fields come to that
abbrev pub Settles : Auction → Type 0
Settles a = (o : Order) (ls : List Line) → terms o ≡ a.order → map stand ls ≡ a.lines → settlement o ls ≡ a.comes

-- one blotter line
abbrev pub at : Party → ℕ → ℕ → Fill
at who price n = record { party = who; price = pos price; contracts = n }

-- Facilitation: a book customer at a better price is filled at the order's, the facilitator takes its 40 percent, and the
-- response what is left.
abbrev pub better_customer : Auction
better_customer = record {
  order = (Facilitation, Sell, 100, pos 100, 40);
  lines = (Entry 1, pos 101, 10, Customer) ∷ (Response 1 1, pos 100, 60, Other) ∷ [];
  comes = executed (at (Entry 1) 100 10 ∷ at (Response 1 1) 100 50 ∷ at Contra 100 40 ∷ []);
}

-- Facilitation: others share 30 in proportion, rounded down, and the two odd contracts go to the first two.
abbrev pub others_in_proportion : Auction
others_in_proportion = record {
  order = (Facilitation, Sell, 50, pos 100, 40);
  lines = (Response 1 1, pos 100, 10, Other) ∷ (Response 2 1, pos 100, 20, Other) ∷ (Response 3 1, pos 100, 31, Other) ∷ [];
  comes = executed (at (Response 1 1) 100 5 ∷ at (Response 2 1) 100 10 ∷ at (Response 3 1) 100 15 ∷ at Contra 100 20 ∷ []);
}

-- Solicited: a customer in the book has the order cancelled,
abbrev pub customer_in_the_book : Auction
customer_in_the_book = record {
  order = (Solicited, Sell, 500, pos 100, 0);
  lines = (Entry 1, pos 100, 1, Customer) ∷ [];
  comes = cancelled CustomerStands;
}

-- unless there is interest enough to fill it,
abbrev pub customer_and_response : Auction
customer_and_response = record {
  order = (Solicited, Sell, 500, pos 100, 0);
  lines = (Entry 1, pos 100, 1, Customer) ∷ (Response 1 1, pos 100, 499, Other) ∷ [];
  comes = executed (at (Entry 1) 100 1 ∷ at (Response 1 1) 100 499 ∷ []);
}

-- a better priced entry of the book has it cancelled too,
abbrev pub better_in_the_book : Auction
better_in_the_book = record {
  order = (Solicited, Sell, 500, pos 100, 0);
  lines = (Entry 1, pos 101, 1, Other) ∷ [];
  comes = cancelled BetterStands;
}

-- but not a better priced response.
abbrev pub better_response : Auction
better_response = record {
  order = (Solicited, Sell, 500, pos 100, 0);
  lines = (Response 1 1, pos 101, 1, Other) ∷ [];
  comes = executed (at Contra 100 500 ∷ []);
}

-- Block: 50 execute from 97 on as they do from 95, so 97 is the price of all.
abbrev pub block_at_one_price : Auction
block_at_one_price = record {
  order = (Block, Sell, 50, pos 95, 0);
  lines = (Entry 1, pos 100, 30, Other) ∷ (Entry 2, pos 98, 10, Other) ∷ (Entry 3, pos 97, 20, Other) ∷ (Entry 4, pos 95, 40, Other) ∷ [];
  comes = executed (at (Entry 1) 97 30 ∷ at (Entry 2) 97 10 ∷ at (Entry 3) 97 10 ∷ []);
}

abbrev pub worked : List Auction
worked =
    better_customer ∷ others_in_proportion ∷ customer_in_the_book ∷ customer_and_response
    ∷ better_in_the_book ∷ better_response ∷ block_at_one_price ∷ []
