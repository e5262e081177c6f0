-- What each call answers, and what the house is after it.
use Rattle.std.specs.Prelude.{ℕ, ◌+◌, Bool, false, cond, not, ◌&&◌, List, [], ◌∷◌, length, ℤ, ◌+ℤ◌, is_some, Some, None, Ok, Err, Option, Result, ◌==◌, int_le, int_lt, nat_le, nat_lt}
use Rattle.market.specs.declared.entry.Entry.{Entry}
use Rattle.market.specs.declared.refusal.Refusal.{Refusal}
use Rattle.market.specs.declared.refusal.Refusal.TheVariants as why
use Rattle.auction.specs.declared.line.Line.{Line}
use Rattle.places.specs.Standing.{standing, without, put}
use Rattle.house.specs.declared.entering.Entering.{Entering}
use Rattle.house.specs.declared.responding.Responding.{Responding}
use Rattle.house.specs.Fields.{enter_ok, seat_ok, response_ok, moment_ok, entered_order, seat_party, response_line, too_small, is_outbid, has_customer_beside, is_better_away, gains_less}
use Rattle.house.specs.View.{Auction, Held, open_of, end_of, Bears}

-- what a call answers, and the house after it
pub record Step (A : Type 0) : Type 0 where
  pub answer : Result A Refusal
  pub after : Held

-- The rows are tried in their order: the first whose test holds refuses.
abbrev pub Rows : Type 0
Rows = List (Bool × Refusal)

abbrev pub allowed : Rows → Result (Unit {0}) Refusal
allowed [] = Ok tt
allowed (row ∷ rows) = cond row.0 (Err row.1) (allowed rows)

-- refused, the house is as it was
abbrev pub granted : {A : Type 0} → Result (Unit {0}) Refusal → Held → Step A → Step A
granted (Ok _) h step = step
granted (Err r) h step = record { answer = Err r; after = h }

-- a moment before the last
abbrev pub is_early : Held → ℤ → Bool
is_early h at = int_lt at h.last

abbrev pub is_running : Held → Bool
is_running h = is_some h.running

-- the exposure is over
abbrev pub is_over : Held → ℤ → Bool
is_over h at = int_le (end_of h.running) at

-- ENTER

-- how many auctions a house starts, and how many entries of the pool an auction takes in
abbrev pub most_auctions : ℕ
most_auctions = 1000000

abbrev pub most_shown : ℕ
most_shown = 64

abbrev pub enter_rows : Held → Entering → List Entry → List Entry → Rows
enter_rows h e pool away =
    (is_early h e.at, why.MomentPassed)
    ∷ (is_running h, why.AuctionOpen)
    ∷ (not (enter_ok h.kind e), why.OutOfLimits)
    ∷ (nat_le most_auctions h.started, why.TooManyAuctions)
    ∷ (too_small h.ratio (entered_order e), why.TooSmall)
    ∷ (nat_lt most_shown (length pool), why.PoolTooDeep)
    ∷ (is_outbid (entered_order e) pool away, why.PriceOutside)
    ∷ (has_customer_beside (entered_order e) pool, why.PriceOutside)
    ∷ (is_better_away (entered_order e) away, why.PriceOutside)
    ∷ []

-- the house with a new auction, and no responses
abbrev pub entered : Held → Entering → Held
entered h e = record h {
  last = e.at;
  started = h.started + 1;
  running = Some (record { order = entered_order e; end = e.at +ℤ e.time });
  line = [];
  entered = h.entered + (entered_order e).size;
}

abbrev pub enter_step : Held → Entering → List Entry → List Entry → Step Bears
enter_step h e pool away =
    granted (allowed (enter_rows h e pool away)) h
    (record { answer = Ok (record { house = h.number; auction = h.started + 1; spent = false }); after = entered h e })

-- RESPOND, AMEND and DELETE

-- something stands in the member's slot
abbrev pub is_taken : Held → ℤ → ℤ → Bool
is_taken h member slot = is_some (standing (seat_party member slot) h.line)

-- a response that gains less than the running order asks
abbrev pub is_worse : Option Auction → Responding → Bool
is_worse None r = false
is_worse (Some a) r = gains_less a.order (response_line r)

-- the house with another line
abbrev pub lined : Held → List Line → ℤ → Held
lined h line at = record h { last = at; line = line }

abbrev pub respond_rows : Held → Responding → Rows
respond_rows h r =
    (is_early h r.at, why.MomentPassed)
    ∷ (not (is_running h), why.NotRunning)
    ∷ (is_over h r.at, why.ExposureOver)
    ∷ (not (response_ok h.kind r), why.OutOfLimits)
    ∷ (is_worse h.running r, why.WorseThanOrder)
    ∷ (is_taken h r.member r.slot, why.PlaceTaken)
    ∷ []

-- a new response stands last in line, in a place where nothing stood
abbrev pub respond_step : Held → Responding → Step (Unit {0})
respond_step h r =
    granted (allowed (respond_rows h r)) h (record { answer = Ok tt; after = lined h (put (response_line r) h.line) r.at })

abbrev pub amend_rows : Held → Responding → Rows
amend_rows h r =
    (is_early h r.at, why.MomentPassed)
    ∷ (not (is_running h), why.NotRunning)
    ∷ (is_over h r.at, why.ExposureOver)
    ∷ (not (response_ok h.kind r), why.OutOfLimits)
    ∷ (is_worse h.running r, why.WorseThanOrder)
    ∷ (not (is_taken h r.member r.slot), why.PlaceEmpty)
    ∷ []

-- what stood in the place is another response now, last in line
abbrev pub amend_step : Held → Responding → Step (Unit {0})
amend_step h r =
    granted (allowed (amend_rows h r)) h (record { answer = Ok tt; after = lined h (put (response_line r) h.line) r.at })

abbrev pub delete_rows : Held → ℤ → ℤ → ℤ → Rows
delete_rows h member slot at =
    (is_early h at, why.MomentPassed)
    ∷ (not (is_running h), why.NotRunning)
    ∷ (is_over h at, why.ExposureOver)
    ∷ (not (seat_ok member slot && moment_ok at), why.OutOfLimits)
    ∷ (not (is_taken h member slot), why.PlaceEmpty)
    ∷ []

abbrev pub delete_step : Held → ℤ → ℤ → ℤ → Step (Unit {0})
delete_step h member slot at =
    granted (allowed (delete_rows h member slot at)) h
    (record { answer = Ok tt; after = lined h (without (seat_party member slot) h.line) at })

-- HALT

-- the ticket bears the house's number and the running auction's
abbrev pub is_its : Held → Bears → Bool
is_its h t = is_running h && (t.house == h.number && t.auction == h.started)

-- the house with its auction ended, so many contracts filled and so many cancelled
abbrev pub ended : Held → ℤ → ℕ → ℕ → Held
ended h at done undone = record h {
  last = at;
  running = None;
  filled = h.filled + done;
  cancelled = h.cancelled + undone;
}

abbrev pub halt_rows : Held → Bears → ℤ → Rows
halt_rows h t at =
    (is_early h at, why.MomentPassed)
    ∷ (not (is_its h t), why.NotRunning)
    ∷ (not (moment_ok at), why.OutOfLimits)
    ∷ []

abbrev pub halt_step : Held → Bears → ℤ → Step (Unit {0})
halt_step h t at = granted (allowed (halt_rows h t at)) h (record { answer = Ok tt; after = ended h at 0 (open_of h.running) })

-- what a caller without a ticket is told, who would settle or halt
abbrev pub ticketless : Held → ℤ → Refusal
ticketless h at = cond (is_early h at) why.MomentPassed why.NotRunning
