-- Forms in plain spelling, each on a line of its own.
use Rattle.std.specs.Prelude.{◌≡◌, ℕ, ◌≤◌, List, [], ◌∷◌, ◌++◌, map, length, codes}
use Rattle.forms.specs.Shapes.{Shape}
use Rattle.forms.specs.Spelled.{spelling}
use Rattle.grammar.specs.Grammar.{Located}
use Rattle.grammar.specs.Sheets.{longest, Reads}

abbrev pub listing : List Located → List ℕ
listing [] = []
listing (x ∷ xs) = spelling x.shape ++ (codes "\n" ++ listing xs)

abbrev pub shapes_of : List Located → List Shape
shapes_of xs = map (λ x. x.shape) xs

-- Spelled: the text is itself a sheet with the same forms, where these were read from one and the text is not too long.
abbrev pub Retold : List Located → List ℕ → Type 0
Retold fs text = (s : List ℕ) → Reads s fs → length text ≤ longest → (gs : List Located) × Reads text gs × (shapes_of gs ≡ shapes_of fs)
