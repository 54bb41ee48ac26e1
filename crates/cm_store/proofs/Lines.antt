-- From the records that were read from lines to the lines.
use Rattle.std.proofs.Common.{◌≡◌, ◌∙◌, ℕ, List, [], ◌∷◌, length, refl, ap, sym, subst, arith}
use Rattle.std.proofs.lemmas.List.{length-map}
use Rattle.cm_bdz.specs.Numbering.{bdz_under}
use Rattle.cm_io.specs.Passes.{Told}
use Rattle.cm_io.specs.declared.key_pass.KeyFault.TheVariants as key_fault
use Rattle.cm_store.proofs.Built.{by_parts}
use Rattle.cm_store.specs.Builds.{FailsKeys, FailsLines, HasNoSeed, IsFirstStore, IsStoreOfLines, fault_from_read, keys_in, store_over}
use Rattle.cm_store.specs.Stores.{Store, places_of, records_of, store_under}
use Rattle.cm_store.specs.declared.building.StoreBuildFault.{StoreBuildFault}
use Rattle.cm_store.specs.declared.building.StoreBuildFault.TheVariants.{Memory, NoKeys, Cored, Key, TooLarge}
use Rattle.cm_store.specs.declared.building.StorePlan.{StorePlan}
use Rattle.cm_store_records.specs.PassLaws.{read_from}
use Rattle.cm_store_records.specs.Reads.{FailsReading, HoldsLines, RecordBytes}
use Rattle.cm_store_records.specs.RecordLaws.{records_all}
use Rattle.cm_store_records.specs.Records.{bytes_of, keys_of_lines, record_of, records_in, records_of_lines}
use Rattle.cm_store_records.specs.declared.read.ReadFault.{ReadFault}
use Rattle.cm_store_records.specs.declared.read.ReadFault.TheVariants as read_fault

-- the store of the records is that of their lines
same_store : (told : Told) (records : RecordBytes) (c seed shift : ℕ) → HoldsLines told records → store_over records c seed shift ≡ store_under told.keys c seed shift
same_store told records c seed shift holds =
    let from = read_from told records holds in
    let index = λ (keys : List (ℕ × List ℕ)). bdz_under keys c seed shift in
    let lines = keys_of_lines told.keys in
    by_parts (store_over records c seed shift) (index lines) (places_of (index lines) (records_of_lines told.keys)) (bytes_of (records_of_lines told.keys))
    (ap index from.keys_are)
    (ap (λ (keys : List (ℕ × List ℕ)). places_of (index keys) (records_in (length records.lines) records.bytes)) from.keys_are ∙ ap (places_of (index lines)) from.records_are)
    holds.bytes_are

-- it has their records
has_records : (told : Told) (records : RecordBytes) (c seed shift : ℕ) (s : Store) → HoldsLines told records → s ≡ store_under told.keys c seed shift → records_of s ≡ records_of_lines told.keys
has_records told records c seed shift s holds is =
    let lines = told.keys in
    let many : length (keys_of_lines lines) ≡ length (records_of_lines lines) =
    omega (arith, length-map {B = ℕ × List ℕ} lines (λ (k : ℕ × List ℕ). (k.0, (record_of k.1).key)), length-map lines (λ (k : ℕ × List ℕ). record_of k.1)) in
    ap records_of is ∙ ap (λ (n : ℕ). records_in n (bytes_of (records_of_lines lines))) many ∙ records_all (records_of_lines lines) holds.small

pub of_lines : (plan : StorePlan) (seeds : List ℕ) (told : Told) (records : RecordBytes) (s : Store) → HoldsLines told records → IsFirstStore (keys_in records) plan.c seeds (λ seed. store_over records plan.c seed plan.b) s → IsStoreOfLines plan seeds told s
of_lines plan seeds told records s holds made =
    let under = λ (seed : ℕ). store_under told.keys plan.c seed plan.b in
    let is : s ≡ under made.seed = made.is ∙ same_store told records plan.c made.seed plan.b holds in
    let known : IsFirstStore (keys_in records) plan.c seeds under s = record { many = made.many; seed = made.seed; chosen = made.chosen; place = made.place; first = made.first; is = is } in
    record {
      fit = holds.fit;
      no_fault = holds.no_fault;
      made = subst (λ (keys : List (ℕ × List ℕ)). IsFirstStore keys plan.c seeds under s) (read_from told records holds).keys_are known;
      records = has_records told records plan.c made.seed plan.b s holds is;
    }

no_lines : (lines : List (ℕ × List ℕ)) → keys_of_lines lines ≡ [] → lines ≡ []
no_lines [] none = refl
no_lines (line ∷ lines) none = absurd (omega (arith, ap length none))

-- why there is no store of the records
pub fails_lines : (c : ℕ) (seeds : List ℕ) (told : Told) (records : RecordBytes) (fault : StoreBuildFault) → HoldsLines told records → FailsKeys (keys_in records) c seeds fault → FailsLines told c seeds fault
fails_lines c seeds told records Memory holds fails = tt
fails_lines c seeds told records NoKeys holds fails = (holds.fit, holds.no_fault, no_lines told.keys (sym (read_from told records holds).keys_are ∙ fails))
fails_lines c seeds told records (Cored made) holds fails = (holds.fit, holds.no_fault, subst (λ (keys : List (ℕ × List ℕ)). HasNoSeed keys c seeds made) (read_from told records holds).keys_are fails)
fails_lines c seeds told records (Key fault) holds fails = absurd fails
fails_lines c seeds told records (TooLarge line) holds fails = absurd fails

-- or why there are no records
pub fails_read : (c : ℕ) (seeds : List ℕ) (told : Told) (fault : ReadFault) → FailsReading told fault → FailsLines told c seeds (fault_from_read fault)
fails_read c seeds told read_fault.Memory fails = tt
fails_read c seeds told (read_fault.Key key_fault.Read) fails = tt
fails_read c seeds told (read_fault.Key (key_fault.TooLong line)) fails = fails
fails_read c seeds told (read_fault.Key key_fault.TooMany) fails = fails
fails_read c seeds told (read_fault.TooLarge line) fails = fails
