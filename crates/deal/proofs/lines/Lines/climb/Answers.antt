use Rattle.std.proofs.Common.{◌+◌, ◌<◌, length, get_or, drop, sym, ap, ◌∙◌, subst, subst₂, w32, SFits, to_z, of_z, rules}
use Rattle.std.proofs.lemmas.Int.{to_z-of_z}
use Rattle.deal.proofs.Climbing.{Climbs, climb_up, climb_cap, climb_on}
use Rattle.deal.proofs.lines.Lines.climb.Goals as goal
use Rattle.deal.proofs.lines.Lines.climb.Goals.{then-between+then-executing_at-as_many, then-between+else-executing_at-as_many, else-between}

pub loop-line-preserved : goal.loop-line-preserved
loop-line-preserved c =
    let Z = c.args.size in
    let ls = c.args.self.now in
    let g = to_z w32 (of_z w32 c.args.gain) in
    let i = c.loop-line.line-index in
    let x = c.line-item.result in
    let v = to_z w32 (of_z w32 x.gain) in
    let f : SFits w32 x.gain = search rules in
    let e = to_z-of_z w32 x.gain f in
    let t = c.between.ensures in
    let seen = c.self.view_is in
    let h = subst (λ zs. i < length zs) seen c.loop-line-test.true in
    let at = c.line-item.is ∙ ap (λ zs. get_or zs i x) seen in
    elim c.if-between.branch [
      | then-between+then-executing_at-as_many w ↦
          subst₂ (λ b o. Climbs Z g ls b o (drop (i + 1) ls)) (sym w.best-is) (sym w.ceiling-is)
          (climb_up Z g ls i x h at v _ e c.loop-line.ceiling c.loop-line.invariant (sym t ∙ w.if-between.true)
          (sym w.executing_at.ensures ∙ w.if-executing_at-as_many.true ∙ c.executing_at-as_many.ensures))
      | then-between+else-executing_at-as_many w ↦
          subst₂ (λ b o. Climbs Z g ls b o (drop (i + 1) ls)) (sym w.best-is) (sym w.ceiling-is)
          (climb_cap Z g ls i x h at v _ e c.loop-line.ceiling c.loop-line.invariant (sym t ∙ w.if-between.true)
          (λ q. w.if-executing_at-as_many.false (w.executing_at.ensures ∙ q ∙ sym c.executing_at-as_many.ensures)))
      | else-between w ↦
          subst₂ (λ b o. Climbs Z g ls b o (drop (i + 1) ls)) (sym w.best-is) (sym w.ceiling-is)
          (climb_on Z g ls i x h at v _ e c.loop-line.ceiling c.loop-line.invariant (sym t ∙ w.if-between.false))
    ]
