-- Numbers as command lines write them.
use Rattle.std.specs.Prelude.{ℕ, ◌+◌, ◌-◌, ◌*◌, ◌^◌, ◌&&◌, Bool, List, length, Option, Some, None}
use Rattle.std.specs.Prelude.{if◌then◌else◌, nat_le, option_and_then, option_map, take, drop, ◌==◌}
use Rattle.std.specs.List.{position_from}
use Rattle.std.specs.Str.{all_ascii_digits}
use Rattle.std.specs.Str.Parse.{digits_value}

-- from one to `most` decimal digits, and nothing else
abbrev pub is_number : ℕ → List ℕ → Bool
is_number most text = nat_le 1 (length text) && (nat_le (length text) most && all_ascii_digits text)

-- the number that from one to `most` digits write
abbrev pub number_of : ℕ → List ℕ → Option ℕ
number_of most text = if is_number most text then Some (digits_value 10 text) else None

-- a number from `least` to `most`
abbrev pub within : ℕ → ℕ → ℕ → Option ℕ
within least most n = if nat_le least n && nat_le n most then Some n else None

-- a whole number of one to ten digits, from `least` to `most`
abbrev pub whole_of : ℕ → ℕ → List ℕ → Option ℕ
whole_of least most text = option_and_then (within least most) (number_of 10 text)

-- the millionths of one or two digits
abbrev pub units_of : List ℕ → Option ℕ
units_of text = option_map (λ n. 1000000 * n) (number_of 2 text)

-- the millionths of one to six digits after a point
abbrev pub places_of : List ℕ → Option ℕ
places_of text = option_map (λ n. n * 10 ^ (6 - length text)) (number_of 6 text)

abbrev pub sum_of : Option ℕ → Option ℕ → Option ℕ
sum_of (Some a) (Some b) = Some (a + b)
sum_of _ _ = None

-- the millionths of a text whose first point stands at this place, or that has none
abbrev pub decimal_at : Option ℕ → List ℕ → Option ℕ
decimal_at None text = units_of text
decimal_at (Some point) text = sum_of (units_of (take point text)) (places_of (drop (point + 1) text))

-- the millionths of a decimal from 1 to 10: one or two digits, and then nothing or a point (46) and one to six digits
abbrev pub millionths_of : List ℕ → Option ℕ
millionths_of text = option_and_then (within 1000000 10000000)
    (decimal_at (position_from (λ b. b == 46) 0 text) text)
