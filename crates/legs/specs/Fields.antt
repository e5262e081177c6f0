-- When fields are within their limits.
use Rattle.std.specs.Prelude.{Bool, ◌&&◌, List, length, ℤ, pos, nat_le}
use Rattle.market.specs.Fields.{in_range}
use Rattle.market.specs.Lists.{all_of}
use Rattle.legs.specs.Limits.{highest_ratio, highest_quote, most_quotes, most_quoted}

abbrev pub price_ok : ℤ → Bool
price_ok z = in_range (pos 1) (pos highest_quote) z

abbrev pub size_ok : ℤ → Bool
size_ok z = in_range (pos 1) (pos most_quoted) z

abbrev pub ratio_ok : ℤ → Bool
ratio_ok z = in_range (pos 1) (pos highest_ratio) z

-- not too many sizes, each within its limits
abbrev pub sizes_ok : List ℤ → Bool
sizes_ok zs = nat_le (length zs) most_quotes && all_of size_ok zs
