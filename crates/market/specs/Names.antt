-- How sheets and transcripts write a side, an edge, a leg, a class and a mechanism.
use Rattle.std.specs.Prelude.{ℕ, List, ◌++◌, codes}
use Rattle.std.specs.Fmt.{signed_decimal}
use Rattle.market.specs.declared.names.Side.{Side}
use Rattle.market.specs.declared.names.Side.TheVariants.{Buy, Sell}
use Rattle.market.specs.declared.names.Edge.{Edge}
use Rattle.market.specs.declared.names.Edge.TheVariants.{Bid, Offer}
use Rattle.market.specs.declared.names.Leg.{Leg}
use Rattle.market.specs.declared.names.Class.{Class}
use Rattle.market.specs.declared.names.Class.TheVariants.{Customer, Other}
use Rattle.market.specs.declared.names.Mechanism.{Mechanism}
use Rattle.market.specs.declared.names.Mechanism.TheVariants.{Block, Facilitation, Solicited}

abbrev pub side_name : Side → List ℕ
side_name Buy = codes "buy"
side_name Sell = codes "sell"

abbrev pub edge_name : Edge → List ℕ
edge_name Bid = codes "bid"
edge_name Offer = codes "offer"

-- its side and its ratio
abbrev pub leg_text : Leg → List ℕ
leg_text l = codes "(" ++ (side_name l.side ++ (codes " " ++ (signed_decimal l.ratio ++ codes ")")))

abbrev pub class_name : Class → List ℕ
class_name Customer = codes "customer"
class_name Other = codes "other"

abbrev pub mechanism_name : Mechanism → List ℕ
mechanism_name Block = codes "block"
mechanism_name Facilitation = codes "fac"
mechanism_name Solicited = codes "sol"
