use Rattle.std.proofs.Common.{sym, ◌∙◌}
use Rattle.house.specs.Told.{view}
use Rattle.house.proofs.Allowed.{amend_fields}
use Rattle.house.proofs.state.House.amend.Goals as goal

pub response_line-line-requires : goal.response_line-line-requires
response_line-line-requires c = amend_fields (view c.args.self.now) c.args.r (sym c.may_amend.ensures ∙ c.in_ok-may_amend.was)
