use Rattle.std.proofs.Common.{Ok, rules}
use Rattle.std.proofs.Output.{displays_on_IsOk_append, displays_on_ok_of_eq}
use Rattle.std.proofs.lemmas.List.{take_more, take_all}
use Rattle.forms.proofs.Spelt.{spaced_more}
use Rattle.forms.proofs.spelling.SpacedDisplay.fmt.Goals as goal

pub loop-item-preserved : goal.loop-item-preserved
loop-item-preserved g c =
    displays_on_ok_of_eq g.W.Write.write_str_gives c.args.f.now c.write.new.self (Ok tt) _ _ (search (rules, take_more, spaced_more))
    (displays_on_IsOk_append g.W.Write.write_str_gives _ c.loop-item.f _ (Ok tt) (Ok tt) _ _ (λ ok. ok) c.loop-item.invariant c.in_ok-write.ensures.writes)

pub returns-clause-writes : goal.returns-clause-writes
returns-clause-writes g c = search (rules, take_all)
