-- What an allowed call tells.
use Rattle.std.proofs.Common.{◌≡◌, ℕ, zero, suc, ◌+◌, ◌<◌, Bool, true, false, not, List, [], ◌∷◌, ℤ, pos, ◌+ℤ◌, ◌≤ℤ◌, is_some, Some, None, Ok, Option, sym, refl, ap, ◌∙◌, subst, T, arith}
use Rattle.std.proofs.lemmas.Bool.{leb-false}
use Rattle.std.specs.List.{slice_get}
use Rattle.std.specs.Int.Signed.{lt_z_no}
use Rattle.std.proofs.lemmas.Int.{ints}
use Rattle.market.specs.declared.entry.Entry.{Entry}
use Rattle.market.specs.declared.refusal.Refusal.{Refusal}
use Rattle.auction.specs.declared.order.Order.{Order}
use Rattle.auction.specs.declared.line.Line.{Line}
use Rattle.house.specs.declared.entering.Entering.{Entering}
use Rattle.house.specs.declared.responding.Responding.{Responding}
use Rattle.house.specs.declared.running.Running.{Running}
use Rattle.house.specs.Running.{open_in, running_of}
use Rattle.house.specs.View.{Held, Bears}
use Rattle.house.specs.Fields.{enter_ok, response_ok, entered_order}
use Rattle.house.specs.Calls.{Rows, allowed, granted, Step, entered, enter_step, is_early, is_running, most_auctions, enter_rows, respond_rows, amend_rows}

-- where the rows allow a call, no test of theirs holds
pub clean : (rows : Rows) → allowed rows ≡ Ok tt → (i : ℕ) (row : Bool × Refusal) → slice_get rows i ≡ Some row → row.0 ≡ false
clean [] ok i row e = cc
clean ((true, why) ∷ rows) ok i row e = cc
clean ((false, why) ∷ rows) ok zero row e = let s : (false, why) ≡ row = cc in sym (ap (λ (x : Bool × Refusal). x.0) s)
clean ((false, why) ∷ rows) ok (suc i) row e = clean rows ok i row e

not_not : (b : Bool) → not b ≡ false → b ≡ true
not_not true h = refl
not_not false h = cc

module _ (h : Held) (r : Responding) where
  pub respond_fields : allowed (respond_rows h r) ≡ Ok tt → response_ok h.kind r ≡ true
  respond_fields ok = not_not (response_ok h.kind r) (clean (respond_rows h r) ok 3 _ refl)

  pub amend_fields : allowed (amend_rows h r) ≡ Ok tt → response_ok h.kind r ≡ true
  amend_fields ok = not_not (response_ok h.kind r) (clean (amend_rows h r) ok 3 _ refl)

module _ (h : Held) (e : Entering) (pool away : List Entry) (ok : allowed (enter_rows h e pool away) ≡ Ok tt) where
  pub enter_late : is_early h e.at ≡ false
  enter_late = clean (enter_rows h e pool away) ok 0 _ refl

  pub enter_idle : is_running h ≡ false
  enter_idle = clean (enter_rows h e pool away) ok 1 _ refl

  pub enter_fields : enter_ok h.kind e ≡ true
  enter_fields = not_not (enter_ok h.kind e) (clean (enter_rows h e pool away) ok 2 _ refl)

  pub enter_few : h.started < most_auctions
  enter_few = leb-false most_auctions h.started (clean (enter_rows h e pool away) ok 3 _ refl)

-- a moment that is not early is one from 0 on
pub late_enough : (h : Held) (at : ℤ) → is_early h at ≡ false → pos 0 ≤ℤ h.last → pos 0 ≤ℤ at
late_enough h at e f =
    let P : Bool → Type 0 = λ b. T (not b) in
    let n : h.last ≤ℤ at = lt_z_no {a = at} {b = h.last} (subst P (sym e) tt) in
    omega (arith, ints)

-- the house after an enter that is allowed, told by its fields
pub enter_done : (h : Held) (e : Entering) (pool away : List Entry) → allowed (enter_rows h e pool away) ≡ Ok tt →
    (last end : ℤ) (order : Order) (line : List Line) (all : ℕ) → last ≡ e.at → end ≡ e.at +ℤ e.time → order ≡ entered_order e → line ≡ [] → all ≡ h.entered + order.size →
    record h { last = last; started = h.started + 1; running = Some (record { order = order; end = end }); line = line; entered = all } ≡ (enter_step h e pool away).after
enter_done h e pool away ok last end order line all a b d f s =
    let done : Step Bears = record { answer = Ok (record { house = h.number; auction = h.started + 1; spent = false }); after = entered h e } in
    (λ i. record h { last = a i; started = h.started + 1; running = Some (record { order = d i; end = b i }); line = f i; entered = (s ∙ ap (λ (o : Order). h.entered + o.size) d) i })
    ∙ sym (ap (λ r. (granted r h done).after) ok)

-- no order is open where no auction runs
pub idle_open : (running : Option Running) → is_some (running_of running) ≡ false → open_in running ≡ 0
idle_open None h = refl
idle_open (Some r) h = cc
