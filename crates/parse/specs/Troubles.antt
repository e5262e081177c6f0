-- Why a line is outside the grammar.
use Rattle.std.specs.Prelude.{ℕ, []}
use Rattle.words.specs.declared.token.Token.{Token}
use Rattle.words.specs.declared.token.Token.TheVariants.{Open, Close, Word, BadByte, LongWord, End}
use Rattle.words.specs.Tokens.{Tok, opening, closing, word, bad_byte, long_word, end}
use Rattle.forms.specs.declared.trouble.Expected.{Expected}
use Rattle.forms.specs.declared.trouble.Found.{Found}
use Rattle.forms.specs.declared.trouble.Found.TheVariants as found
use Rattle.forms.specs.declared.trouble.Trouble.{Trouble}

-- a scanner's token, but for what stands behind the end of a line
abbrev pub mark : Token → Tok
mark (Open c) = opening c
mark (Close c) = closing c
mark (Word w) = word w.line w.column w.bytes.now
mark (BadByte c) = bad_byte c
mark (LongWord c) = long_word c
mark (End c) = end 0 c []

abbrev pub column_of : Tok → ℕ
column_of (opening c) = c
column_of (closing c) = c
column_of (word l c w) = c
column_of (bad_byte c) = c
column_of (long_word c) = c
column_of (end l c s) = c

abbrev pub found_of : Tok → Found
found_of (opening c) = found.Opening
found_of (closing c) = found.Closing
found_of (word l c w) = found.Word
found_of (bad_byte c) = found.BadByte
found_of (long_word c) = found.LongWord
found_of (end l c s) = found.LineEnd

-- this token stands where something else was looked for
abbrev pub trouble_at : Tok → Expected → Trouble
trouble_at t e = record { column = column_of t; expected = e; found = found_of t }
