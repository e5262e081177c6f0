use Rattle.std.proofs.Common.{rules, ◌+◌, true, false, vec_items, sym, ◌∙◌}
use Rattle.std.proofs.lemmas.Bool.{cond-true, ltb-false}
use Rattle.forms.specs.declared.fault.Fault.TheVariants.{TooLong}
use Rattle.grammar.specs.Sheets.{longest}
use Rattle.sheet.proofs.Whole.{read_fault, read_forms, some_found, noting_first, noting_stop, noting_more, noting_last, noting_none, noting_all, next_shorter}
use Rattle.sheet.proofs.reading.read.Goals as goal

pub returns-then-too_long : goal.returns-then-too_long
returns-then-too_long c = let s = c.args.sheet.now in read_fault s TooLong (cond-true _ _ _ (sym c.too_long.ensures ∙ c.if-too_long.true))

pub loop-found-init : goal.loop-found-init
loop-found-init c = let i = c.new-reader.ensures in noting_first c.args.sheet.now c.new-reader.result (vec_items c.new-found.result) c.new-found.ensures.items (ltb-false longest _ (sym c.too_long.ensures ∙ c.if-too_long.false)) i.0 i.1 i.2 i.3

pub returns-in_err-note_line : goal.returns-in_err-note_line
returns-in_err-note_line c = search (rules, noting_stop _ c.loop-found.reader c.note_line.new.reader (vec_items c.loop-found.found) (vec_items c.note_line.new.found) _ c.loop-found.invariant c.in_err-note_line.ensures)

pub loop-found-smaller : goal.loop-found-smaller
loop-found-smaller c = next_shorter c.loop-found.reader c.note_line.new.reader _ c.in_ok-note_line.ensures.1 c.if-not-next_line.ensures.1.0

pub loop-found-preserved : goal.loop-found-preserved
loop-found-preserved c = noting_more _ c.loop-found.reader c.note_line.new.reader c.next_line.new.self (vec_items c.loop-found.found) (vec_items c.note_line.new.found) c.loop-found.invariant c.in_ok-note_line.ensures c.if-not-next_line.ensures.1

pub returns-then-is_empty : goal.returns-then-is_empty
returns-then-is_empty c =
    let v = c.note_line.new.found in
    let e = some_found (vec_items v) _ c.is_empty.result v.ok.0 c.is_empty.ensures false c.if-is_empty.true in
    read_fault _ _ (noting_none c.args.sheet.now (c.loop-found.reader.scan.line + 1) (vec_items v) e (noting_last _ c.loop-found.reader c.note_line.new.reader (vec_items c.loop-found.found) (vec_items v) c.loop-found.invariant c.in_ok-note_line.ensures c.if-not-next_line.ensures.1.0))

pub returns : goal.returns
returns c =
    let v = c.note_line.new.found in
    let e = some_found (vec_items v) _ c.is_empty.result v.ok.0 c.is_empty.ensures true c.if-is_empty.false in
    read_forms _ _ (noting_all c.args.sheet.now (c.loop-found.reader.scan.line + 1) (vec_items v) e (noting_last _ c.loop-found.reader c.note_line.new.reader (vec_items c.loop-found.found) (vec_items v) c.loop-found.invariant c.in_ok-note_line.ensures c.if-not-next_line.ensures.1.0))
