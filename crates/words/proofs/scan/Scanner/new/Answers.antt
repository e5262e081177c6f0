use Rattle.std.proofs.Common.{arith}
use Rattle.std.proofs.lemmas.Grind.{common_steps}
use Rattle.std.proofs.lemmas.List.{take_min}
use Rattle.words.proofs.scan.Scanner.new.Goals as goal

pub returns : goal.returns
returns c = grind (arith, common_steps, take_min)
