use Rattle.std.proofs.Common.{ap, ◌∙◌, w64}
use Rattle.std.proofs.lemmas.Int.{to_z-of_z}
use Rattle.pools.specs.Books.{book_held}
use Rattle.pools.specs.Away.{board_held, after_away}
use Rattle.pools.specs.Sheets.{series}
use Rattle.pools.proofs.sheet.SheetMarket.away.Goals as goal

pub returns-in-Series-clause-after : goal.returns-in-Series-clause-after
returns-in-Series-clause-after c =
    rw c.in-Series.is (ap (series (book_held c.in-Series.pool)) (c.away.ensures.after ∙ ap (after_away (board_held c.in-Series.away) c.args.side) (to_z-of_z w64 c.args.price c.ranges.price)))
