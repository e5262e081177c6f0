use Rattle.std.proofs.Common.{rules}
use Rattle.house.proofs.state.House.new.Goals as goal

pub invariant_of-result-clause-after : goal.invariant_of-result-clause-after
invariant_of-result-clause-after c = search rules
