use Rattle.std.proofs.Common.{◌≡◌, ◌∷◌, [], ◌++◌, length, List, Ok, filter, ap, ◌∙◌, arith, rules, Result}
use Rattle.std.proofs.lemmas.Fn.{filter_same}
use Rattle.std.proofs.lemmas.List.Sums.{length-filter}
use Rattle.market.specs.declared.refusal.Refusal.{Refusal}
use Rattle.pools.specs.declared.book.Order.{Order}
use Rattle.pools.specs.Books.{BookHeld, book_held}
use Rattle.pools.specs.Resting.{live, rest_answer}
use Rattle.pools.proofs.book.Book.rest.Goals as goal

pub push_reserved-requires : goal.push_reserved-requires
push_reserved-requires c =
    let kept = ap length (filter_same _ live _ (λ x b f' k. search rules) _ _ c.retain.ensures.filtered) in
    let long = length-filter live c.args.self.now.orders.items in
    let o = c.retain.new.self.ok.0 in
    let room = c.args.self.now.room in
    omega arith

pub invariant_of-self : goal.invariant_of-self
invariant_of-self c =
    let kept = ap length (filter_same _ live _ (λ x b f' k. search rules) _ _ c.retain.ensures.filtered) in
    let long = length-filter live c.args.self.now.orders.items in
    let o = c.retain.new.self.ok.0 in
    let room = c.args.self.now.room in
    record { room = omega arith; few = omega arith }

pub returns-clause-after : goal.returns-clause-after
returns-clause-after c =
    let new = c.args.new in
    let kept = filter_same _ live _ (λ x b f' k. search rules) _ _ c.retain.ensures.filtered in
    let answered : ◌≡◌ {A = Result (Unit {0}) Refusal} (Ok tt) (rest_answer (book_held c.args.self.now) new.number new.price new.size) = search rules in
    let held : List Order → BookHeld = λ os. record { kind = c.args.self.now.kind; orders = os } in
    rw (← answered) (ap held (c.push_reserved.ensures.items ∙ ap (λ xs. xs ++ c.in_ok-order.order ∷ []) kept ∙ ap (λ o. filter live c.args.self.now.orders.items ++ o ∷ []) c.in_ok-order.ensures.ok.1))
