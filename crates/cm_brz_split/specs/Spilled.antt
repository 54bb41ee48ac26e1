-- Keys that wait for their buckets in a spill.
use Rattle.std.specs.Prelude.{◌≡◌, ℕ, List, [], true, is_some}
use Rattle.std.specs.List.Sorted.{IsPermutation}
use Rattle.cm_brz_split.specs.Records.{Record}
use Rattle.cm_spill.specs.Records.{IsRecords}
use Rattle.cm_spill.specs.Stores.{Holds, Store}

-- These records were put, and the spill's contents are known. Once all were put, all are in the spill.
pub record HoldsKnown (s : Store) (records : List Record) : Type 0 where
  pub known : is_some s.known ≡ true
  pub held : Holds s records
  pub written : s.sealed ≡ true → s.waiting ≡ []

-- the bytes are those of these records, each of which stands there once
pub record AreSpilled (bytes : List ℕ) (puts : List Record) : Type 0 where
  pub written : List Record
  pub records : IsRecords bytes written
  pub each_once : IsPermutation written puts
