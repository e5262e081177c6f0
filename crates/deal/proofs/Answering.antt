-- What the public calls answer.
use Rattle.std.proofs.Common.{ℕ, List, ℤ}
use Rattle.market.specs.declared.names.Mechanism.{Mechanism}
use Rattle.market.specs.declared.names.Mechanism.TheVariants.{Block, Facilitation, Solicited}
use Rattle.filling.specs.declared.interest.Interest.{Interest}
use Rattle.filling.specs.Mechanisms.{allocation, block_gain}
use Rattle.filling.specs.Rules.{Settles}
use Rattle.filling.proofs.Facilitating.{facilitation}
use Rattle.filling.proofs.Other.{solicitation, block}
use Rattle.deal.specs.Answers.{BestGain}

pub best_gain : (Z : ℕ) (g : ℤ) (ls : List Interest) → BestGain Z g ls (block_gain Z g ls)
best_gain Z g ls = record { as_many = block.as_many Z g ls; none_better = block.no_better Z g ls; from_order = block.from_order Z g ls }

pub settles : (m : Mechanism) (Z : ℕ) (g : ℤ) (r : ℕ) (ls : List Interest) → Settles Z g ls (allocation m Z g r ls)
settles Facilitation Z g r ls = facilitation.fair Z g r ls
settles Solicited Z g r ls = solicitation.fair Z g ls
settles Block Z g r ls = block.fair Z g ls
