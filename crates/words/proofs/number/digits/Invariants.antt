use Rattle.std.proofs.Common.{◌≡◌, ◌+◌, ◌-◌, ◌^◌, ◌<◌, take, drop}
use Rattle.std.specs.List.{AllByRecursion}
use Rattle.words.specs.Number.{decimal, Digit}
use Rattle.words.proofs.number.digits.Given as goal

abbrev pub invariant-loop-d : goal.invariant-loop-d
invariant-loop-d l =
    (decimal l.v (drop l.d-index l.rest) ≡ decimal (l.first - 48) l.rest)
    × AllByRecursion Digit (take l.d-index l.rest)
    × (l.v < 10 ^ (l.d-index + 1))
