-- What an away board holds, and adding to it.
use Rattle.std.specs.Prelude.{Bool, cond, List, [], ◌∷◌, ◌++◌, length, ℤ, pos, is_ok, Ok, Err, vec_items, Result, nat_lt}
use Rattle.market.specs.declared.names.Side.{Side}
use Rattle.market.specs.declared.names.Class.TheVariants.{Other}
use Rattle.market.specs.declared.entry.Entry.{Entry}
use Rattle.market.specs.declared.refusal.Refusal.{Refusal}
use Rattle.market.specs.declared.refusal.Refusal.TheVariants.{OutOfLimits, NoSpace}
use Rattle.market.specs.Limits.{highest_price}
use Rattle.market.specs.Fields.{in_range}
use Rattle.market.specs.Making.{entry_of}
use Rattle.pools.specs.declared.board.AwayBoard.{AwayBoard}
use Rattle.pools.specs.Limits.{most_away}

abbrev pub board_held : AwayBoard → List Entry
board_held b = vec_items b.shown

-- a price within its limits
abbrev pub away_ok : ℤ → Bool
away_ok p = in_range (pos 1) highest_price p

-- what adding a price answers
abbrev pub away_answer : List Entry → ℤ → Result (Unit {0}) Refusal
away_answer es p = cond (away_ok p) (cond (nat_lt (length es) most_away) (Ok tt) (Err NoSpace)) (Err OutOfLimits)

-- the board after it: one contract of class other at the end
abbrev pub after_away : List Entry → Side → ℤ → List Entry
after_away es s p = cond (is_ok (away_answer es p)) (es ++ entry_of s p 1 Other ∷ []) es
