-- Responses in line order, and what becomes of them.
use Rattle.std.specs.Prelude.{ℕ, length, drop, nat_le, Bool, false, cond, not, List, [], ◌∷◌, ◌++◌, Some, None, filter, Ok, Err, Option, Result}
use Rattle.market.specs.declared.fill.Party.{Party}
use Rattle.market.specs.declared.fill.Party.TheVariants.{Entry, Response, Contra}
use Rattle.market.specs.declared.refusal.Refusal.{Refusal}
use Rattle.market.specs.declared.refusal.Refusal.TheVariants.{OutOfLimits}
use Rattle.auction.specs.declared.line.Line.{Line}
use Rattle.auction.specs.Lines.{same_party}
use Rattle.auction.specs.Seats.{is_seat}

-- what a party has in line
abbrev pub standing : Party → List Line → Option Line
standing who [] = None
standing who (l ∷ ls) = cond (same_party who l.party) (Some l) (standing who ls)

-- the line without what a party has in it
abbrev pub without : Party → List Line → List Line
without who ls = filter (λ l. not (same_party who l.party)) ls

-- a member's slot
abbrev pub has_seat : Party → Bool
has_seat (Entry place) = false
has_seat (Response member slot) = is_seat member slot
has_seat Contra = false

-- a response goes to the end of the line, in place of what stood in its slot
abbrev pub put : Line → List Line → List Line
put l ls = without l.party ls ++ l ∷ []

abbrev pub put_answer : Line → Result (Unit {0}) Refusal
put_answer l = cond (has_seat l.party) (Ok tt) (Err OutOfLimits)

abbrev pub after_put : Line → List Line → List Line
after_put l ls = cond (has_seat l.party) (put l ls) ls

-- the line is copied to the front of a table that has room for it
abbrev pub copy_answer : List Line → ℕ → Result ℕ Refusal
copy_answer ls room = cond (nat_le (length ls) room) (Ok (length ls)) (Err OutOfLimits)

abbrev pub after_copy : List Line → List Line → List Line
after_copy ls out = cond (nat_le (length ls) (length out)) (ls ++ drop (length ls) out) out
