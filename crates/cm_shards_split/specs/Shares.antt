-- The share of each shard of the lines, and their counts.
use Rattle.std.specs.Prelude.{◌==◌, ℕ, List, [], ◌∷◌, ◌++◌, length, map}
use Rattle.std.specs.Fmt.{decimal}
use Rattle.std.specs.List.{filter, flat_map, range_with_len}
use Rattle.cm_route.specs.Routes.{Route, shard_of}
use Rattle.cm_words_values.specs.declared.limits.TheConstants.{LINE_FEED}

-- the share of a shard: the lines whose shard it is, in their order
abbrev pub share : Route → ℕ → List (List ℕ) → List (List ℕ)
share route k lines = filter (λ line. shard_of route line == k) lines

-- a line with the byte that ends it
abbrev pub ended : ℕ → List ℕ → List ℕ
ended end line = line ++ end ∷ []

-- the bytes of the share of a shard: each of its lines has its end, also the last
unfoldable pub share_bytes : Route → ℕ → List (List ℕ) → ℕ → List ℕ
share_bytes route end lines k = flat_map (ended end) (share route k lines)

-- those of all shards, in order
abbrev pub shares : Route → ℕ → List (List ℕ) → List (List ℕ)
shares route end lines = map (share_bytes route end lines) (range_with_len 0 route.shards)

-- how many lines the share of a shard has
unfoldable pub share_count : Route → List (List ℕ) → ℕ → ℕ
share_count route lines k = length (share route k lines)

-- those numbers of all shards, in order
abbrev pub share_counts : Route → List (List ℕ) → List ℕ
share_counts route lines = map (share_count route lines) (range_with_len 0 route.shards)

-- the text of counts: each on a line of its own
abbrev pub counts_text : List ℕ → List ℕ
counts_text counts = flat_map (λ n. decimal n ++ LINE_FEED ∷ []) counts
