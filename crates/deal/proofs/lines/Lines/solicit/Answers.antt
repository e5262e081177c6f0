use Rattle.std.proofs.Common.{◌≡◌, length, sym, ◌∙◌, arith, rules}
use Rattle.std.proofs.lemmas.Simd.{splat_is_map}
use Rattle.filling.specs.Mechanisms.{nothing}
use Rattle.deal.proofs.lines.Lines.solicit.Goals as goal

pub returns-clause-after : goal.returns-clause-after
returns-clause-after c =
    let ls = c.args.self.now in
    let f : c.fill.new.self ≡ nothing ls = c.fill.ensures.after (search rules) ∙ splat_is_map ls (length c.args.out.now) 0 (sym c.requires) in
    grind (arith, f)
