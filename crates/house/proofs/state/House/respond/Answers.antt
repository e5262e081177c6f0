use Rattle.std.proofs.Common.{sym, ◌∙◌}
use Rattle.house.specs.Told.{view}
use Rattle.house.proofs.Allowed.{respond_fields}
use Rattle.house.proofs.state.House.respond.Goals as goal

pub response_line-line-requires : goal.response_line-line-requires
response_line-line-requires c = respond_fields (view c.args.self.now) c.args.r (sym c.may_respond.ensures ∙ c.in_ok-may_respond.was)
