use Rattle.filling.proofs.laws_stand.Goals as goal
use Rattle.filling.proofs.Down.{filling}
use Rattle.filling.proofs.Facilitating.{facilitation}
use Rattle.filling.proofs.Other.{solicitation, block}

pub returns : goal.returns
returns c = record { down = filling; facilitation = facilitation; solicitation = solicitation; block = block }
