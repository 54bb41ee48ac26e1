-- What a build makes of records, by the seeds of a list, and why it makes none.
use Rattle.std.specs.Prelude.{◌≡◌, ◌<◌, ◌≤◌, ℕ, List, [], length, slice_index, Option, None, Some, Result, Ok, Err}
use Rattle.cm_algo_names.specs.declared.algorithm.Algorithm.TheVariants.{Bdz}
use Rattle.cm_algo_seeds.specs.Fails.{HasForm, ShowsCore}
use Rattle.cm_algo_seeds.specs.declared.fault.BuildFault.{BuildFault}
use Rattle.cm_algo_seeds.specs.declared.fault.BuildFault.TheVariants as build_fault
use Rattle.cm_bdz.specs.Numbering.{bdz_under}
use Rattle.cm_io.specs.Passes.{HasKeyCause, Told}
use Rattle.cm_io.specs.declared.key_pass.KeyFault.{KeyFault}
use Rattle.cm_io.specs.declared.key_pass.KeyFault.TheVariants as key_fault
use Rattle.cm_spec.specs.Bdz.{bdz_rule}
use Rattle.cm_spec.specs.Built.{AllCored, IsFirst, first_seed}
use Rattle.cm_spec.specs.Rule.{IsCount, IsRatio}
use Rattle.cm_store.specs.Stores.{Store, places_of, records_of, store_under}
use Rattle.cm_store.specs.declared.building.StoreBuildFault.{StoreBuildFault}
use Rattle.cm_store.specs.declared.building.StoreBuildFault.TheVariants.{Memory, NoKeys, Cored, Key, TooLarge}
use Rattle.cm_store.specs.declared.building.StorePlan.{StorePlan}
use Rattle.cm_store_records.specs.RecordPass.{keyed}
use Rattle.cm_store_records.specs.Records.{first_large, keys_of_lines, records_in, records_of_lines}
use Rattle.cm_store_records.specs.Reads.{RecordBytes}
use Rattle.cm_store_records.specs.declared.read.ReadFault.{ReadFault}
use Rattle.cm_store_records.specs.declared.read.ReadFault.TheVariants as read_fault
use Rattle.cm_witness_gather.specs.declared.certificate.Certificate.{Certificate}

-- the ranges of a plan
pub record IsStorePlan (plan : StorePlan) : Type 0 where
  pub ratio : IsRatio plan.c
  pub sampling : (3 ≤ plan.b) × (plan.b ≤ 10)

-- the keys of records, with their lines
abbrev pub keys_in : RecordBytes → List (ℕ × List ℕ)
keys_in records = keyed records.lines records.bytes

-- the store of records, with the index of their keys under a seed
abbrev pub store_over : RecordBytes → ℕ → ℕ → ℕ → Store
store_over records c seed shift =
    let index = bdz_under (keys_in records) c seed shift in
    record { index = index; places = places_of index (records_in (length records.lines) records.bytes); bytes = records.bytes }

-- There are keys, and the store is the one of the first seed of a list whose graph of the keys has an empty 2-core.
pub record IsFirstStore (keys : List (ℕ × List ℕ)) (c : ℕ) (seeds : List ℕ) (under : ℕ → Store) (s : Store) : Type 0 where
  pub many : IsCount (length keys)
  pub seed : ℕ
  pub chosen : first_seed bdz_rule keys c seeds ≡ Some seed
  pub place : ℕ
  pub first : IsFirst bdz_rule keys c seeds place seed
  pub is : s ≡ under seed

-- All records of the lines fit, no fault comes at the end of the lines, the store is that of their records under the first seed that works,
-- and its records are theirs.
pub record IsStoreOfLines (plan : StorePlan) (seeds : List ℕ) (lines : Told) (s : Store) : Type 0 where
  pub fit : first_large 0 lines.keys ≡ None
  pub no_fault : lines.fault ≡ None
  pub made : IsFirstStore (keys_of_lines lines.keys) plan.c seeds (λ seed. store_under lines.keys plan.c seed plan.b) s
  pub records : records_of s ≡ records_of_lines lines.keys

-- There are keys, and no seed works: under each the graph has a 2-core with an edge, and the certificate shows that of the first.
pub record HasNoSeed (keys : List (ℕ × List ℕ)) (c : ℕ) (seeds : List ℕ) (made : Certificate) : Type 0 where
  pub some : 0 < length keys
  pub none : first_seed bdz_rule keys c seeds ≡ None
  pub cored : AllCored bdz_rule keys c seeds
  pub shows : ShowsCore bdz_rule keys c (slice_index seeds 0) made

-- why there is no store of records with these keys
abbrev pub FailsKeys : List (ℕ × List ℕ) → ℕ → List ℕ → StoreBuildFault → Type 0
FailsKeys keys c seeds Memory = Unit {0}
FailsKeys keys c seeds NoKeys = keys ≡ []
FailsKeys keys c seeds (Cored made) = HasNoSeed keys c seeds made
FailsKeys keys c seeds (Key fault) = ⊥
FailsKeys keys c seeds (TooLarge line) = ⊥

-- and why there is none of lines: one is too large, or a fault comes at their end, or their keys have none
abbrev pub FailsLines : Told → ℕ → List ℕ → StoreBuildFault → Type 0
FailsLines lines c seeds Memory = Unit {0}
FailsLines lines c seeds NoKeys = (first_large 0 lines.keys ≡ None) × (lines.fault ≡ None) × (lines.keys ≡ [])
FailsLines lines c seeds (Cored made) = (first_large 0 lines.keys ≡ None) × (lines.fault ≡ None) × HasNoSeed (keys_of_lines lines.keys) c seeds made
FailsLines lines c seeds (Key key_fault.Read) = Unit {0}
FailsLines lines c seeds (Key fault) = (first_large 0 lines.keys ≡ None) × (lines.fault ≡ Some fault)
FailsLines lines c seeds (TooLarge line) = first_large 0 lines.keys ≡ Some line

-- a refusal for these keys, unless memory runs out or the lines can't be read
abbrev pub IsOnly : (StoreBuildFault → Type 0) → Result Store StoreBuildFault → Type 0
IsOnly refusal (Ok s) = ⊥
IsOnly refusal (Err Memory) = Unit {0}
IsOnly refusal (Err (Key key_fault.Read)) = Unit {0}
IsOnly refusal (Err fault) = refusal fault

abbrev pub IsCored : StoreBuildFault → Type 0
IsCored (Cored made) = Unit {0}
IsCored fault = ⊥

-- a store, unless memory runs out or the lines can't be read
abbrev pub IsOnlyMade : Result Store StoreBuildFault → Type 0
IsOnlyMade (Ok s) = Unit {0}
IsOnlyMade (Err Memory) = Unit {0}
IsOnlyMade (Err (Key key_fault.Read)) = Unit {0}
IsOnlyMade (Err fault) = ⊥

-- what comes of records with these keys
pub record AnswersKeys (keys : List (ℕ × List ℕ)) (c : ℕ) (seeds : List ℕ) (result : Result Store StoreBuildFault) : Type 0 where
  pub no_keys : keys ≡ [] → IsOnly (λ fault. fault ≡ NoKeys) result
  pub no_seed : 0 < length keys → first_seed bdz_rule keys c seeds ≡ None → IsOnly IsCored result
  pub made : 0 < length keys → (seed : ℕ) → first_seed bdz_rule keys c seeds ≡ Some seed → IsOnlyMade result

-- and of lines: the first that is too large comes before the fault at their end, and this before what their keys come to
pub record AnswersLines (lines : Told) (c : ℕ) (seeds : List ℕ) (result : Result Store StoreBuildFault) : Type 0 where
  pub too_large : (line : ℕ) → first_large 0 lines.keys ≡ Some line → IsOnly (λ fault. fault ≡ TooLarge line) result
  pub key : (at_end : KeyFault) → first_large 0 lines.keys ≡ None → lines.fault ≡ Some at_end → IsOnly (λ fault. fault ≡ Key at_end) result
  pub keys : first_large 0 lines.keys ≡ None → lines.fault ≡ None → AnswersKeys (keys_of_lines lines.keys) c seeds result

-- `Key` has the cause of the pass, and no other fault raises its count
abbrev pub HasStoreCause : {T : Type 0} → ℕ → ℕ → Result T StoreBuildFault → Type 0
HasStoreCause before now (Ok s) = now ≡ before
HasStoreCause before now (Err Memory) = now ≡ before
HasStoreCause before now (Err NoKeys) = now ≡ before
HasStoreCause before now (Err (Cored made)) = now ≡ before
HasStoreCause before now (Err (Key fault)) = HasKeyCause {T = Unit {0}} before now (Err fault)
HasStoreCause before now (Err (TooLarge line)) = now ≡ before

-- whatever the lines are: `Key` has the fault that their pass failed with last, and `TooLarge` names the line that it yielded last
abbrev pub HasStoreFailure : Option KeyFault → ℕ → StoreBuildFault → Type 0
HasStoreFailure failure last (Key fault) = failure ≡ Some fault
HasStoreFailure failure last (TooLarge line) = line ≡ last
HasStoreFailure failure last fault = Unit {0}

-- whatever the lines are, a certificate is one by BDZ under this seed
abbrev pub HasStoreForm : ℕ → StoreBuildFault → Type 0
HasStoreForm seed (Cored made) = HasForm Bdz seed (build_fault.Cored made)
HasStoreForm seed fault = Unit {0}

-- no fault of a build over keys in memory
abbrev pub KnowsKeys : BuildFault → Type 0
KnowsKeys (build_fault.Key fault) = ⊥
KnowsKeys (build_fault.Changed first again) = ⊥
KnowsKeys fault = Unit {0}

-- what a fault of a build is called here; a change of keys in memory never comes
abbrev pub fault_from : BuildFault → StoreBuildFault
fault_from build_fault.Memory = Memory
fault_from build_fault.NoKeys = NoKeys
fault_from (build_fault.Cored made) = Cored made
fault_from (build_fault.Key fault) = Key fault
fault_from (build_fault.Changed first again) = Memory

-- and one of lines that aren't read
abbrev pub fault_from_read : ReadFault → StoreBuildFault
fault_from_read read_fault.Memory = Memory
fault_from_read (read_fault.Key fault) = Key fault
fault_from_read (read_fault.TooLarge line) = TooLarge line
