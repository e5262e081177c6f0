use Rattle.std.proofs.Common.{◌≡◌, ℕ, ◌&&◌, true, pos, ap, sym, ◌∙◌, w64, SFits, rules}
use Rattle.std.proofs.lemmas.Bool.{and_parts}
use Rattle.market.specs.declared.entry.Entry.{Entry}
use Rattle.market.specs.Limits.{highest_price, most_size}
use Rattle.market.specs.Fields.{in_range, nat_of}
use Rattle.market.specs.Making.{entry_ok}
use Rattle.market.proofs.Narrow.{cast_abs}
use Rattle.pools.specs.declared.book.Order.{Order}
use Rattle.pools.specs.Limits.{highest_number}
use Rattle.pools.specs.Resting.{lowest_of, rest_ok}
use Rattle.pools.proofs.Made.{made}
use Rattle.pools.proofs.book.Order.new.Goals as goal

pub returns-clause-ok : goal.returns-clause-ok
returns-clause-ok c =
    let new = c.args.new in
    let N : SFits w64 new.number = search rules in
    let P : SFits w64 new.price = search rules in
    let Z : SFits w64 new.size = search rules in
    let ok : rest_ok c.args.kind new.number new.price new.size ≡ true = search rules in
    let fits : entry_ok new.price new.size ≡ true = search rules in
    let number = (and_parts (in_range (pos 1) (pos highest_number) new.number) (in_range (lowest_of c.args.kind) highest_price new.price && in_range (pos 1) (pos most_size) new.size) ok).0 in
    let entry = made new.side new.price new.size new.class c.unwrap-entry.result P Z fits (sym c.new.ensures ∙ c.unwrap-entry.ensures) in
    let of : ℕ → Entry → Order = λ n e. record { number = n; entry = e } in
    (ok, ap (λ n. of n c.unwrap-entry.result) (cast_abs 1 highest_number new.number N number) ∙ ap (of (nat_of new.number)) entry)
