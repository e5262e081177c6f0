-- The house of a number and what it trades.
use Rattle.std.specs.Prelude.{ℕ, Bool, cond, ◌&&◌, ℤ, pos, Ok, Err, Result}
use Rattle.market.specs.declared.names.Kind.{Kind}
use Rattle.market.specs.declared.names.Kind.TheVariants as kinds
use Rattle.market.specs.declared.refusal.Refusal.{Refusal}
use Rattle.market.specs.declared.refusal.Refusal.TheVariants.{OutOfLimits}
use Rattle.market.specs.Fields.{in_range, nat_of}
use Rattle.house.specs.declared.trades.Trades.{Trades}
use Rattle.house.specs.declared.trades.Trades.TheVariants.{Series, Net}
use Rattle.house.specs.View.{Held, fresh}

abbrev pub highest_number : ℕ
highest_number = 65535

abbrev pub highest_ratio : ℕ
highest_ratio = 10

abbrev pub kind_of : Trades → Kind
kind_of Series = kinds.Series
kind_of (Net ratio) = kinds.Net

abbrev pub ratio_of : Trades → ℤ
ratio_of Series = pos 1
ratio_of (Net ratio) = ratio

-- a number from 1 on, and a ratio of a leg
abbrev pub house_ok : ℤ → Trades → Bool
house_ok number trades = in_range (pos 1) (pos highest_number) number && in_range (pos 1) (pos highest_ratio) (ratio_of trades)

-- the house that is made
abbrev pub new_house : ℤ → Trades → Result Held Refusal
new_house number trades = cond (house_ok number trades) (Ok (fresh (nat_of number) (kind_of trades) (nat_of (ratio_of trades)))) (Err OutOfLimits)
