use Rattle.std.proofs.Common.{◌*◌, ◌/◌, rules, tests}
use Rattle.std.proofs.lemmas.Iterator.{YieldsList-from_map, YieldsList-from_slice}
use Rattle.std.proofs.lemmas.Iterator.Consumers.{fits_from_yields_list}
use Rattle.share.proofs.Rounding.{parts_fit}
use Rattle.share.proofs.Rate.rounded.Goals as goal

pub sum-requires-clause-fits : goal.sum-requires-clause-fits
sum-requires-clause-fits g c =
    let W = g.C.Claim.wanted in
    let r = c.args.self in
    let cs = c.args.claims.now in
    fits_from_yields_list c.map.result _
    (YieldsList-from_map _ (λ x. r.amount * W x / r.total) (YieldsList-from_slice cs (cc)) c.map.ensures.closure (λ x r q k. search (rules, tests)))
    (parts_fit W r.amount r.total cs _ r.within c.requires (search rules))
