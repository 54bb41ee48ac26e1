-- What a filter over keys is for.
use Rattle.std.specs.Prelude.{◌≡◌, ◌<◌, ℕ, List, length, true}
use Rattle.cm_filter.specs.Filters.{Filter, holds}
use Rattle.cm_spec.specs.Built.{key_at}

-- each key of the list holds
abbrev pub AllHold : Filter → List (ℕ × List ℕ) → Type 0
AllHold f keys = (i : ℕ) → i < length keys → holds f (key_at keys i) ≡ true
