use Rattle.std.proofs.Common.{◌<◌, ℕ, List, length, sym, subst, arith}
use Rattle.places.proofs.Apart.{room}
use Rattle.places.proofs.turns.join.Goals as goal

pub push-requires : goal.push-requires
push-requires c =
    let k = room 64 c.args.place c.args.turns.now.items c.requires.once c.requires.low c.requires.place in
    (omega arith, subst (λ (ts : List ℕ). length ts < 64) (sym c.leave.ensures) k)
