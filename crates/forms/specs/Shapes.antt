-- What a form says, with plain lists in it.
use Rattle.std.specs.Prelude.{Bool, true, false, List, ℤ, vec_items}
use Rattle.market.specs.declared.names.Side.{Side}
use Rattle.market.specs.declared.names.Edge.{Edge}
use Rattle.market.specs.declared.names.Class.{Class}
use Rattle.market.specs.declared.names.Mechanism.{Mechanism}
use Rattle.market.specs.declared.names.Leg.{Leg}
use Rattle.forms.specs.declared.form.Response.{Response}
use Rattle.forms.specs.declared.form.Market.TheVariants.{Series, Net}
use Rattle.forms.specs.declared.form.Form.{Form}
use Rattle.forms.specs.declared.form.Form.TheVariants.{House, Quote, Rest, Away, Enter, Respond, Amend, Delete, Settle, Halt}

pub data Shape : Type 0 where
  -- a house of this number in a series, and in a net of these legs
  series : ℤ → Shape
  net : ℤ → List Leg → Shape
  -- leg, edge, price, sizes
  quote : ℤ → Edge → ℤ → List ℤ → Shape
  -- number, side, price, size, class
  rest : ℤ → Side → ℤ → ℤ → Class → Shape
  away : Side → ℤ → Shape
  -- mechanism, side, size, price, reserve, time, moment
  enter : Mechanism → Side → ℤ → ℤ → ℤ → ℤ → ℤ → Shape
  respond : Response → Shape
  amend : Response → Shape
  -- member, slot, moment
  delete : ℤ → ℤ → ℤ → Shape
  settle : ℤ → Shape
  halt : ℤ → Shape

abbrev pub shape : Form → Shape
shape (House n Series) = series n
shape (House n (Net legs)) = net n (vec_items legs)
shape (Quote l e p sizes) = quote l e p (vec_items sizes)
shape (Rest o) = rest o.number o.side o.price o.size o.class
shape (Away s p) = away s p
shape (Enter m s z p r t a) = enter m s z p r t a
shape (Respond r) = respond r
shape (Amend r) = amend r
shape (Delete m s a) = delete m s a
shape (Settle a) = settle a
shape (Halt a) = halt a

abbrev pub is_house : Shape → Bool
is_house (series n) = true
is_house (net n ls) = true
is_house (quote l e p ns) = false
is_house (rest n s p q k) = false
is_house (away s p) = false
is_house (enter m s z p r t a) = false
is_house (respond r) = false
is_house (amend r) = false
is_house (delete m s a) = false
is_house (settle a) = false
is_house (halt a) = false
