use Rattle.std.proofs.Common.{◌≡◌, Ok, [], ◌∷◌, ◌++◌, ap, sym, ◌∙◌, Result, rules, true, pos, w64, SFits}
use Rattle.market.specs.declared.names.Class.TheVariants.{Other}
use Rattle.market.specs.declared.refusal.Refusal.{Refusal}
use Rattle.market.specs.Making.{entry_ok}
use Rattle.pools.specs.Away.{board_held, away_answer}
use Rattle.pools.proofs.Made.{made}
use Rattle.pools.proofs.board.AwayBoard.away.Goals as goal

pub returns-clause-after : goal.returns-clause-after
returns-clause-after c =
    let p = c.args.price in
    let P : SFits w64 p = search rules in
    let Z : SFits w64 (pos 1) = search rules in
    let fits : entry_ok p (pos 1) ≡ true = search rules in
    let entry = made c.args.side p (pos 1) Other c.unwrap-entry.result P Z fits (sym c.new.ensures ∙ c.unwrap-entry.ensures) in
    let answered : ◌≡◌ {A = Result (Unit {0}) Refusal} (Ok tt) (away_answer (board_held c.args.self.now) p) = search rules in
    rw (← answered) (c.push_reserved.ensures.items ∙ ap (λ e. board_held c.args.self.now ++ e ∷ []) entry)
