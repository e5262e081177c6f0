use Rattle.std.proofs.Common.{◌∷◌, length, sym, ◌∙◌}
use Rattle.std.proofs.lemmas.Bool.{cond-true, cond-false, le-leb, lt-leb, ltb-true, ltb-false}
use Rattle.words.specs.declared.bytes.Kind.TheVariants.{Open, Close}
use Rattle.words.specs.Tokens.{word}
use Rattle.words.specs.View.{rest, tokens}
use Rattle.words.proofs.Lexing.{lex_end, lex_bad}
use Rattle.words.proofs.Spaces.{spaces_tokens}
use Rattle.words.proofs.Turns.{step_is, word_is}
use Rattle.words.proofs.scan.Scanner.token.Goals as goal

pub returns-in-LineEnd-clause-read : goal.returns-in-LineEnd-clause-read
returns-in-LineEnd-clause-read c =
    let r = c.spaces-next.new.self in
    let s = c.in-LineEnd.ensures in
    let same = spaces_tokens c.args.self.now r s.line s.skips in
    ((r.line, rest r, same ∙ lex_end r.line r.column (rest r) (sym s.next)), sym same)

pub returns-in-Open-clause-read : goal.returns-in-Open-clause-read
returns-in-Open-clause-read c =
    let r = c.spaces-next.new.self in
    let s = c.in-Open.ensures in
    let m = c.step.ensures in
    spaces_tokens c.args.self.now r s.line s.skips ∙ (step_is r c.step.new.self Open (sym s.next) (λ e. cc) m.at m.sheet m.line m.column).read.1

pub returns-in-Close-clause-read : goal.returns-in-Close-clause-read
returns-in-Close-clause-read c =
    let r = c.spaces-next.new.self in
    let s = c.in-Close.ensures in
    let m = c.step-in-Close.ensures in
    spaces_tokens c.args.self.now r s.line s.skips ∙ (step_is r c.step-in-Close.new.self Close (sym s.next) (λ e. cc) m.at m.sheet m.line m.column).read.1

pub returns-then-is_long-clause-read : goal.returns-then-is_long-clause-read
returns-then-is_long-clause-read c =
    let r = c.spaces-next.new.self in
    let s = c.in-Letter.ensures in
    let m = c.word-word.ensures in
    let v = c.word-word.result.bytes.now in
    let same = spaces_tokens c.args.self.now r s.line s.skips in
    let w = word_is r c.word-word.new.self v (sym s.next) m.at m.sheet m.line m.column m.run m.bytes in
    (same ∙ w.read ∙ cond-false _ _ _ (lt-leb (length v) 16 (ltb-true 16 _ (sym c.is_long.ensures ∙ c.if-is_long.true))), sym same)

pub returns-else-is_long-clause-read : goal.returns-else-is_long-clause-read
returns-else-is_long-clause-read c =
    let r = c.spaces-next.new.self in
    let q = c.word-word.new.self in
    let s = c.in-Letter.ensures in
    let m = c.word-word.ensures in
    let v = c.word-word.result.bytes.now in
    let w = word_is r q v (sym s.next) m.at m.sheet m.line m.column m.run m.bytes in
    let fits = w.read ∙ cond-true _ _ _ (le-leb (length v) 16 (ltb-false 16 _ (sym c.is_long.ensures ∙ c.if-is_long.false))) in
    spaces_tokens c.args.self.now r s.line s.skips ∙ fits ∙ (λ j. word (sym m.here.0 j) (sym m.here.1 j) v ∷ tokens q)

pub returns-in-Space-clause-read : goal.returns-in-Space-clause-read
returns-in-Space-clause-read c =
    let r = c.spaces-next.new.self in
    let s = c.spaces-next.ensures in
    let same = spaces_tokens c.args.self.now r s.line s.skips in
    (same ∙ lex_bad r.line r.column (rest r) c.spaces-next.result s.other c.in-Space.is s.next, sym same)
