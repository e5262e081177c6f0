use Rattle.std.proofs.Common.{rules}
use Rattle.legs.proofs.Serving.{served}
use Rattle.legs.proofs.legside.LegSide.take.Goals as goal

pub unwrap-requires : goal.unwrap-requires
unwrap-requires c = served c.args.self.now _ c.args.amount _ _ c.quotes.ensures.all c.requires (search rules) c.share_out.ensures.answer
