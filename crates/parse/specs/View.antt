-- What a reader stands before, and what it gives.
use Rattle.std.specs.Prelude.{◌≡◌, Bool, List, Ok, Err, Result}
use Rattle.words.specs.Tokens.{Tok}
use Rattle.words.specs.View as words
use Rattle.parse.specs.declared.names.Begun.{Begun}
use Rattle.parse.specs.declared.names.Begun.TheVariants.{Whole, Net, Quote}
use Rattle.parse.specs.declared.reader.Reader.{Reader}
use Rattle.parse.specs.declared.trouble.Failed.{Failed}
use Rattle.parse.specs.declared.trouble.Failed.TheVariants as failed
use Rattle.parse.specs.Parser.{Read, Beginning, whole, legs_of, sizes_of}
use Rattle.forms.specs.declared.trouble.Trouble.{Trouble}
use Rattle.forms.specs.Shapes.{Shape, shape, is_house}

-- the tokens from here to the end of the line
abbrev pub tokens : Reader → List Tok
tokens r = words.tokens r.scan

abbrev pub begun : Begun → Beginning
begun (Whole f) = whole (shape f)
begun (Net n) = legs_of n
begun (Quote l e p) = sizes_of l e p

-- what a method that allocates gave, and the tokens that it left; want of memory says nothing of the sheet
abbrev pub Built : {A B : Type 0} → (A → B) → Result A (Failed Trouble) → Read B → List Tok → Type 0
Built f (Ok x) all left = all ≡ Ok (f x, left)
Built f (Err (failed.Fault t)) all left = all ≡ Err t
Built f (Err failed.Memory) all left = Unit {0}

-- whether something was read, without what it was
abbrev pub asked : {A : Type 0} → Read A → Read (Unit {0})
asked (Err t) = Err t
asked (Ok x) = Ok (tt, x.1)

-- whether the form that was read is a house form
abbrev pub is_house_of : Read Shape → Read Bool
is_house_of (Err t) = Err t
is_house_of (Ok x) = Ok (is_house x.0, x.1)
