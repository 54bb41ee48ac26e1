-- What is written of the keys that have a value in a store, and what is noted of the others.
use Rattle.std.specs.Prelude.{ℕ, List, [], ◌∷◌, ◌++◌, Option, None, Some, codes, decimal, is_some}
use Rattle.std.specs.List.{list_all}
use Rattle.cm_io.specs.Writing.{joined}
use Rattle.cm_store.specs.Stores.{Store, look}
use Rattle.cm_store_records.specs.declared.limits.TheConstants.{TAB}
use Rattle.cm_store_values.specs.Program.{program}
use Rattle.cm_tool_asking.specs.Meanings.{Replies}

-- the line of a key with a value: the key, a tab, the value, and the byte that ends a line
abbrev pub line_with : ℕ → List ℕ → Option (List ℕ) → List ℕ
line_with end key None = []
line_with end key (Some value) = key ++ TAB ∷ value ++ end ∷ []

-- the line of a key that has a value in a store, and nothing of another
abbrev pub value_line : ℕ → Store → List ℕ → List ℕ
value_line end s key = line_with end key (look s key)

-- the note of a key without a value, by its line
abbrev pub unknown_note : ℕ → List ℕ
unknown_note line = joined (program ∷ codes ": line " ∷ decimal line ∷ codes ": key is unknown\n" ∷ [])

-- what is noted of a key, by its line, if it has no value
abbrev pub note_without : ℕ → Option (List ℕ) → List ℕ
note_without line None = unknown_note line
note_without line (Some value) = []

-- What a store writes of keys: the lines of those that have a value, and notes of the others. Nothing is amiss if all have one.
abbrev pub store_replies : Store → ℕ → Replies
store_replies s end = record {
  line = value_line end s;
  note = λ earlier k. note_without k.0 (look s k.1);
  complete = λ keys. list_all (λ k. is_some (look s k.1)) keys;
}
