use Rattle.std.proofs.Common.{◌+◌, sym, ap, ◌∙◌, eq-eqb, ne_eqb}
use Rattle.std.proofs.lemmas.Bool.{cond-true, cond-false}
use Rattle.words.proofs.Places.{line_more, column_more}
use Rattle.words.proofs.scan.Scanner.step.Goals as goal
use Rattle.words.proofs.scan.Scanner.step.Goals.{then-self-eq10, else-self-eq10}

pub invariant_of-self-clause-row : goal.invariant_of-self-clause-row
invariant_of-self-clause-row c =
    let s = c.args.self.now in
    let more = line_more s.sheet.now s.at c.requires in
    elim c.if-self-eq10.branch [
      | then-self-eq10 w ↦ rw w.self-is (ap (λ x. x + 1) s.row ∙ sym (more ∙ cond-true _ _ _ (eq-eqb _ _ w.if-self-eq10.true)))
      | else-self-eq10 w ↦ rw w.self-is (s.row ∙ sym (more ∙ cond-false _ _ _ (ne_eqb _ _ w.if-self-eq10.false)))
    ]

pub invariant_of-self-clause-col : goal.invariant_of-self-clause-col
invariant_of-self-clause-col c =
    let s = c.args.self.now in
    let more = column_more s.sheet.now s.at c.requires in
    elim c.if-self-eq10.branch [
      | then-self-eq10 w ↦ rw w.self-is (sym (more ∙ cond-true _ _ _ (eq-eqb _ _ w.if-self-eq10.true)))
      | else-self-eq10 w ↦ rw w.self-is (ap (λ x. x + 1) s.col ∙ sym (more ∙ cond-false _ _ _ (ne_eqb _ _ w.if-self-eq10.false)))
    ]
