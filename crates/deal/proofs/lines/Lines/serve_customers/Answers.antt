use Rattle.std.proofs.Common.{◌+◌, min, length, sym, refl, ap, ◌∙◌, subst, subst₂, arith, w32, to_z, of_z}
use Rattle.std.proofs.lemmas.Int.{to_z-of_z}
use Rattle.filling.specs.Totals.{customer_at}
use Rattle.deal.proofs.Steps.{stands, total_yes, total_no}
use Rattle.deal.proofs.Passes.{Passed, Passing, left_for, pass_yes, pass_no, pass_all}
use Rattle.deal.proofs.lines.Lines.serve_customers.Goals as goal
use Rattle.deal.proofs.lines.Lines.serve_customers.Goals.{then-is_customer_at, else-is_customer_at}

pub loop-i-preserved : goal.loop-i-preserved
loop-i-preserved c =
    let ls = c.self.inside.lines.now in
    let i = c.loop-i.i in
    let v = to_z w32 (of_z w32 c.args.level) in
    let p = customer_at v in
    let f = left_for v c.args.room ls in
    let x = c.line-item.result in
    let h = c.loop-i-test.true in
    let at = c.line-item.is in
    let old = c.args.out.now in
    let q = c.loop-i.invariant.1 in
    elim c.if-is_customer_at.branch [
      | then-is_customer_at w ↦
          let t = sym c.is_customer_at.ensures ∙ w.if-is_customer_at.true in
          let m = w.min-part.ensures in
          let e = c.loop-i.invariant.0 in (
            omega (arith, w.left-is, total_yes ls i x h at p _ t refl),
            subst (λ o. Passing p f ls old o (i + 1)) (sym w.out-is) (pass_yes p f ls old c.loop-i.out i x (stands ls i x h at) q _ (omega (arith, ap length c.self.view_is)) t (m ∙ ap (min x.size) e)),
          )
      | else-is_customer_at w ↦
          let t = sym c.is_customer_at.ensures ∙ w.if-is_customer_at.false in
          let e = c.loop-i.invariant.0 in (
            omega (arith, w.left-is, total_no ls i x h at p _ t refl),
            subst (λ o. Passing p f ls old o (i + 1)) (sym w.out-is) (pass_no p f ls old c.loop-i.out i x (stands ls i x h at) q t),
          )
    ]

pub returns : goal.returns
returns c =
    let ls = c.self.inside.lines.now in
    let old = c.args.out.now in
    let v = to_z w32 (of_z w32 c.args.level) in
    let done = pass_all (customer_at v) (left_for v c.args.room ls) ls old c.loop-i.out c.loop-i.i c.loop-i-test.false c.loop-i.invariant.1 in
    subst₂ (λ w zs. Passed (customer_at w) (left_for w c.args.room zs) zs old c.loop-i.out) (to_z-of_z w32 c.args.level c.ranges.level) c.self.view_is done
