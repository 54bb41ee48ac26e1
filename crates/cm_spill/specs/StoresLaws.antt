-- Statements, each proved as a clause in `src/laws.rt`: what is true of every store, and worked rows. 120 is x, 121 is y.
use Rattle.std.specs.Prelude.{◌≡◌, ◌+◌, ◌++◌, [], ◌∷◌, ℕ, List, length, filter, Some}
use Rattle.std.specs.List.{sum_by}
use Rattle.std.specs.List.Sorted.{IsPermutation}
use Rattle.cm_spill.specs.Records.{Record, IsRecords, encoded, is_of, size}
use Rattle.cm_spill.specs.Stores.{Holds, Store, held_by}

-- The bytes of the records put are those of the spill and those that wait.
abbrev pub HoldsBytes : Type 0
HoldsBytes = (store : Store) (bytes : List ℕ) (puts : List Record) → store.known ≡ Some bytes → Holds store puts → sum_by size puts ≡ length bytes + held_by store

-- If none waits, the spill's bytes are those of the records put, each once, and of each bucket in the order in which they were put.
abbrev pub AllWritten : Type 0
AllWritten = (store : Store) (bytes : List ℕ) (puts : List Record) → store.known ≡ Some bytes → store.waiting ≡ [] → Holds store puts
    → (written : List Record) × IsRecords bytes written × IsPermutation written puts × ((bucket : ℕ) → filter (is_of bucket) written ≡ filter (is_of bucket) puts)

-- Bytes are those of one list of records alone.
abbrev pub ReadOneWay : Type 0
ReadOneWay = (bytes : List ℕ) (some others : List Record) → IsRecords bytes some → IsRecords bytes others → some ≡ others

-- Two records, each with a key of one byte.
abbrev pub TwoRecords : Type 0
TwoRecords = encoded (record { bucket = 0; line = 2; key = 121 ∷ [] }) ++ encoded (record { bucket = 1; line = 1; key = 120 ∷ [] })
    ≡ 0 ∷ 0 ∷ 0 ∷ 0 ∷ 2 ∷ 0 ∷ 0 ∷ 0 ∷ 1 ∷ 0 ∷ 121 ∷ 1 ∷ 0 ∷ 0 ∷ 0 ∷ 1 ∷ 0 ∷ 0 ∷ 0 ∷ 1 ∷ 0 ∷ 120 ∷ []
