-- What a scanner stands before, and what it gives.
use Rattle.std.specs.Prelude.{◌≡◌, ℕ, List, [], ◌∷◌, drop, Some, None, Option}
use Rattle.words.specs.declared.scan.Scanner.{Scanner}
use Rattle.words.specs.declared.token.Token.{Token}
use Rattle.words.specs.declared.token.Token.TheVariants.{Open, Close, Word, BadByte, LongWord, End}
use Rattle.words.specs.declared.token.Word.{Word as CodeWord}
use Rattle.words.specs.Place.{Placed, PartOf}
use Rattle.words.specs.Tokens.{Tok, opening, closing, word, bad_byte, long_word, end, lex}

-- the bytes from here on
abbrev pub rest : Scanner → List ℕ
rest r = drop r.at r.sheet.now

-- the tokens from here to the end of the line
abbrev pub tokens : Scanner → List Tok
tokens r = lex r.line r.column (rest r)

abbrev pub placed : CodeWord → Placed
placed w = record { line = w.line; column = w.column; bytes = w.bytes.now }

-- the words among some tokens
abbrev pub words_in : List Tok → List Placed
words_in [] = []
words_in (opening c ∷ ts) = words_in ts
words_in (closing c ∷ ts) = words_in ts
words_in (word l c w ∷ ts) = record { line = l; column = c; bytes = w } ∷ words_in ts
words_in (bad_byte c ∷ ts) = []
words_in (long_word c ∷ ts) = []
words_in (end l c s ∷ ts) = []

-- the first of some tokens, which is taken from them unless the reading of the line ends with it
abbrev pub Took : Token → List Tok → List Tok → Type 0
Took (Open c) all left = all ≡ opening c ∷ left
Took (Close c) all left = all ≡ closing c ∷ left
Took (Word w) all left = all ≡ word w.line w.column w.bytes.now ∷ left
Took (BadByte c) all left = (all ≡ bad_byte c ∷ []) × (left ≡ all)
Took (LongWord c) all left = (all ≡ long_word c ∷ []) × (left ≡ all)
Took (End c) all left = ((l : ℕ) × (s : List ℕ) × (all ≡ end l c s ∷ [])) × (left ≡ all)

-- a word that was taken is a part of the sheet
abbrev pub Cut : List ℕ → Token → Type 0
Cut sheet (Open c) = Unit {0}
Cut sheet (Close c) = Unit {0}
Cut sheet (Word w) = PartOf sheet (placed w)
Cut sheet (BadByte c) = Unit {0}
Cut sheet (LongWord c) = Unit {0}
Cut sheet (End c) = Unit {0}

-- the next of some words
abbrev pub NextWord : Option CodeWord → List Placed → List Placed → Type 0
NextWord None all left = (all ≡ []) × (left ≡ [])
NextWord (Some w) all left = all ≡ placed w ∷ left

abbrev pub CutWord : List ℕ → Option CodeWord → Type 0
CutWord sheet None = Unit {0}
CutWord sheet (Some w) = PartOf sheet (placed w)
