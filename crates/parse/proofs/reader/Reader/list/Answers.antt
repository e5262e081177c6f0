use Rattle.std.proofs.Common.{◌≡◌, [], ◌∷◌, ◌++◌, Some, Ok, vec_items, sym, ap, ◌∙◌}
use Rattle.parse.specs.Parser.{onto, items_of}
use Rattle.parse.specs.View.{tokens}
use Rattle.parse.proofs.Items.{items_more, onto_more}
use Rattle.parse.proofs.reader.Reader.list.Given as given
use Rattle.parse.proofs.reader.Reader.list.Goals as goal

-- what was read
item : (g : given.Over) (c : goal.In_ok-push g) → g.T.Item.reads (tokens c.loop-items.self) ≡ Ok (Some c.in-Some.item, tokens c.next.new.reader)
item g c = c.in_ok-item.ensures ∙ ap (λ o. Ok (o, tokens c.next.new.reader)) c.in-Some.is

pub loop-items-preserved : goal.loop-items-preserved
loop-items-preserved g c =
    let next = g.T.Item.reads in
    let xs = vec_items c.loop-items.items in
    let x = c.in-Some.item in
    let us = tokens c.next.new.reader in
    let items : vec_items c.push.new.self ≡ xs ++ x ∷ [] = c.in_ok-push.ensures.items in
    ap (λ l. onto l (items_of next us)) items ∙ onto_more xs x (items_of next us) ∙ ap (onto xs) (sym (items_more next g.met.T.Item.takes (tokens c.loop-items.self) us x (item g c))) ∙ c.loop-items.invariant
