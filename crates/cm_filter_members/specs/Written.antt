-- What is written of the keys that hold in a filter.
use Rattle.std.specs.Prelude.{ℕ, List, [], ◌∷◌, ◌++◌, Bool, if◌then◌else◌}
use Rattle.std.specs.List.{list_all}
use Rattle.cm_filter.specs.Filters.{Filter, holds}
use Rattle.cm_tool_asking.specs.Meanings.{Replies}

-- the line of a key, if it is written: the key, and the byte that ends a line
abbrev pub line_if : Bool → ℕ → List ℕ → List ℕ
line_if writes end key = if writes then key ++ end ∷ [] else []

-- the line of a key that holds, and nothing of another
abbrev pub member_line : ℕ → Filter → List ℕ → List ℕ
member_line end f key = line_if (holds f key) end key

-- What a filter writes of keys: the lines of those that hold, and no notes. Nothing is amiss if all hold.
abbrev pub filter_replies : Filter → ℕ → Replies
filter_replies f end = record {
  line = member_line end f;
  note = λ earlier k. [];
  complete = λ keys. list_all (λ k. holds f k.1) keys;
}
