use Rattle.std.proofs.Common.{◌≡◌, length, IsOk, ap, ◌∙◌, subst, arith, w32}
use Rattle.std.proofs.lemmas.List.{length-take}
use Rattle.std.proofs.lemmas.Int.{to_z-of_z}
use Rattle.filling.specs.Totals.{other_at, sizes}
use Rattle.deal.specs.Levels.{turns_from}
use Rattle.deal.proofs.Passes.{Passed, part_for}
use Rattle.deal.proofs.Serving.{served}
use Rattle.deal.proofs.lines.Lines.serve_others.Goals as goal
use Rattle.deal.proofs.lines.Lines.serve_others.Goals.{After-share_out}
use Rattle.share.specs.Shares.{shares}

-- the share-out is not refused
shared : (c : After-share_out) → IsOk c.share_out.result × (c.share_out.new.out ≡ shares c.args.pot (sizes (other_at c.args.level) c.args.self.now))
shared c =
    let ls = c.args.self.now in
    let v = c.args.level in
    let e = c.deref.ensures.0 ∙ c.turns_at-turns.ensures ∙ ap (λ w. turns_from w 0 ls) (to_z-of_z w32 v c.ranges.level) in
    served v ls _ e c.args.pot _ c.deref.ensures.1 c.requires.within (simp length-take (omega (arith, c.len.ensures.value, c.len.ensures.fits, ap length c.deref.ensures.0))) _ _ c.share_out.ensures.answer c.share_out.ensures.after

pub unwrap-requires : goal.unwrap-requires
unwrap-requires c = (shared (goal.at.unwrap-requires c).After-share_out).0

pub returns : goal.returns
returns c =
    let ls = c.args.self.now in
    let v = c.args.level in
    let old = c.args.out.now in
    let out = c.hand_out.new.out in
    subst (λ ps. Passed (other_at v) (part_for v ps ls) ls old out) (shared (goal.at.returns c).After-share_out).1
    (subst (λ w. Passed (other_at w) (part_for w c.share_out.new.out ls) ls old out) (to_z-of_z w32 v c.ranges.level) c.hand_out.ensures)
