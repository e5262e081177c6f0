-- What the share-out writes is fair.
use Rattle.std.proofs.Common.{◌≡◌, ℕ, ◌-◌, ◌≤◌, List, sum, sym, ap, ◌∙◌, subst, arith}
use Rattle.share.specs.Shares.{floors, topped, Fair}
use Rattle.share.proofs.Rounding.{fair}

pub written_fair : (a S given : ℕ) (ss rs : List ℕ) → S ≡ sum ss → a ≤ S → given ≡ sum (floors a S ss) → rs ≡ topped (a - given) a S ss → Fair a ss rs
written_fair a S given ss rs all within e w =
    let same = w ∙ ap (λ x. topped (a - x) a S ss) e ∙ ap (λ x. topped (a - sum (floors a x ss)) a x ss) all in
    subst (λ (xs : List ℕ). Fair a ss xs) (sym same) (fair a ss (omega arith))
