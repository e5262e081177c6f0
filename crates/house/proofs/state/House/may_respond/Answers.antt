use Rattle.std.proofs.Common.{w64, SFits, rules, sym, ◌∙◌}
use Rattle.std.proofs.lemmas.Int.{to_z-of_z}
use Rattle.house.proofs.Made.{brings_seat}
use Rattle.house.proofs.state.House.may_respond.Goals as goal

pub is_taken-requires : goal.is_taken-requires
is_taken-requires c =
    let r = c.args.r.now in
    let a : SFits w64 r.member = search rules in
    let b : SFits w64 r.slot = search rules in
    rw (to_z-of_z w64 r.member a, to_z-of_z w64 r.slot b) (brings_seat c.args.self.now.kind r (sym c.response_ok.ensures ∙ c.if-not-response_ok.false))
