use Rattle.std.proofs.Common.{◌∙◌, rules, tests}
use Rattle.std.proofs.lemmas.Iterator.{YieldsList-from_slice, YieldsList-from_map}
use Rattle.std.proofs.lemmas.Iterator.Consumers.{min_from_yields_List}
use Rattle.legs.specs.Model.{leg_size}
use Rattle.legs.specs.Legs.{leg_held}
use Rattle.legs.proofs.Netting.{least_picked}
use Rattle.legs.proofs.pool.LegsMarket.size.Goals as goal

pub returns-clause-value : goal.returns-clause-value
returns-clause-value c =
    let ls = c.args.self.now.legs.items in
    let s = c.args.side in
    let picked = min_from_yields_List _ c.min.result c.min.ensures.ran (YieldsList-from_map _ (λ x. leg_size s (leg_held x)) (YieldsList-from_slice ls cc) c.map.ensures.closure (λ x r q k. search (rules, tests))) in
    c.unwrap_or.ensures ∙ least_picked (leg_size s) ls c.min.result picked
