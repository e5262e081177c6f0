use Rattle.std.proofs.Common.{rules, ◌+◌, [], sym, ap, ◌∙◌}
use Rattle.std.proofs.lemmas.Bool.{cond-true, ltb-false}
use Rattle.grammar.specs.Reading.{accepted, read_lines}
use Rattle.grammar.specs.Sheets.{longest}
use Rattle.sheet.proofs.Whole.{verdict_is, judging_first, judging_fault, judging_more, judging_last, next_shorter}
use Rattle.sheet.proofs.reading.verdict.Goals as goal

pub returns-then-too_long : goal.returns-then-too_long
returns-then-too_long c = let s = c.args.sheet.now in verdict_is s _ (sym (ap accepted (cond-true _ _ _ (sym c.too_long.ensures ∙ c.if-too_long.true))))

pub loop-forms-init : goal.loop-forms-init
loop-forms-init c = let i = c.new-reader.ensures in judging_first c.args.sheet.now c.new-reader.result (ltb-false longest _ (sym c.too_long.ensures ∙ c.if-too_long.false)) i.0 i.1 i.2 i.3

pub returns-in_err-forms : goal.returns-in_err-forms
returns-in_err-forms c = let j = judging_fault _ c.loop-forms.reader c.judge_line.new.reader c.loop-forms.forms _ c.loop-forms.invariant c.in_err-forms.ensures in search (rules, verdict_is)

pub loop-forms-smaller : goal.loop-forms-smaller
loop-forms-smaller c = next_shorter c.loop-forms.reader c.judge_line.new.reader _ c.in_ok-forms.ensures.1 c.if-not-next_line.ensures.1.0

pub loop-forms-preserved : goal.loop-forms-preserved
loop-forms-preserved c = judging_more _ c.loop-forms.reader c.judge_line.new.reader c.next_line.new.self _ _ c.loop-forms.invariant c.in_ok-forms.ensures c.if-not-next_line.ensures.1

pub returns-then-forms : goal.returns-then-forms
returns-then-forms c =
    verdict_is _ _ (ap (λ b. accepted (read_lines (c.loop-forms.reader.scan.line + 1) b [])) (sym c.if-forms.true)
    ∙ judging_last _ c.loop-forms.reader c.judge_line.new.reader _ _ c.loop-forms.invariant c.in_ok-forms.ensures c.if-not-next_line.ensures.1.0)

pub returns-else-forms : goal.returns-else-forms
returns-else-forms c =
    verdict_is _ _ (ap (λ b. accepted (read_lines (c.loop-forms.reader.scan.line + 1) b [])) (sym c.if-forms.false)
    ∙ judging_last _ c.loop-forms.reader c.judge_line.new.reader _ _ c.loop-forms.invariant c.in_ok-forms.ensures c.if-not-next_line.ensures.1.0)
