-- The counts of a query.
use Rattle.std.specs.Prelude.{ℕ, ◌+◌, List, length, count_by, Option, None, Some, is_none, Bool, if◌then◌else◌}
use Rattle.cm_query.specs.Repeats.{repeats_of}
use Rattle.cm_query.specs.declared.tally.Tally.{Tally}

-- the keys, those whose answer an earlier key has, and those without an answer
abbrev pub tally_of : (List ℕ → Option ℕ) → List (ℕ × List ℕ) → Tally
tally_of f keys = record {
  lines = length keys;
  repeated = count_by (λ repeated. repeated) (repeats_of f keys);
  unknown = count_by (λ k. is_none (f k.1)) keys;
}

-- one key more, with this answer, which is repeated or not
abbrev pub counted : Tally → Option ℕ → Bool → Tally
counted t None repeated = record t { lines = t.lines + 1; unknown = t.unknown + 1 }
counted t (Some v) repeated = record t { lines = t.lines + 1; repeated = t.repeated + (if repeated then 1 else 0) }
