-- What is read of a store file, step after step.
use Rattle.std.proofs.Common.{◌≡◌, ◌∙◌, ℕ, ◌+◌, ◌*◌, List, ap, sym, arith, refl, Result, Ok, Err}
use Rattle.cm_bdz.specs.Functions.{Bdz}
use Rattle.cm_dump_items.specs.Reading.{end_at, item_at}
use Rattle.cm_dump_items.specs.StepLaws.{ok_err, ok_same}
use Rattle.cm_dump_items.specs.declared.fault.LoadFault.{LoadFault}
use Rattle.cm_store.specs.Stores.{Store}
use Rattle.cm_store_file.specs.Loads.{FailsAs, HasStoreCause}
use Rattle.cm_store_file.specs.Steps.{◌>>=◌, fault_named, lifted}
use Rattle.cm_store_file.specs.StoreFiles.{places_at, store_at, store_unless}
use Rattle.cm_store_file.specs.declared.fault.StoreLoad.{StoreLoad}
use Rattle.cm_store_file.specs.declared.fault.StoreLoad.TheVariants as store_faults
use Rattle.cm_store_file.specs.declared.header.Header.{Header}

-- a fault of a step is one of all that is read with it
fails_then : {A B : Type 0} (f : StoreLoad) (r : Result A StoreLoad) (next : A → Result B StoreLoad) → FailsAs f r → FailsAs f (r >>= next)
fails_then store_faults.Memory r next is = tt
fails_then store_faults.Read r next is = tt
fails_then (store_faults.Truncated a) r next is = rw is refl
fails_then store_faults.BadMagic r next is = rw is refl
fails_then (store_faults.BadField a) r next is = rw is refl
fails_then store_faults.BadIndex r next is = rw is refl
fails_then (store_faults.BadPlace a) r next is = rw is refl
fails_then (store_faults.BadRecord a) r next is = rw is refl
fails_then store_faults.Trailing r next is = rw is refl

-- a fault of a call that leaves the count of faults, after two that left it
pub cause_later : (A B : Type 0) (old mid new : ℕ) (f : StoreLoad) → mid ≡ old → new ≡ mid → HasStoreCause {T = A} new new (Err f) → HasStoreCause {T = B} old new (Err f)
cause_later A B old mid new store_faults.Memory first second is = second ∙ first
cause_later A B old mid new store_faults.Read first second is = (omega (arith, first, second), λ few. omega (arith, is.1 (omega (arith, few, first, second))))
cause_later A B old mid new (store_faults.Truncated a) first second is = second ∙ first
cause_later A B old mid new store_faults.BadMagic first second is = second ∙ first
cause_later A B old mid new (store_faults.BadField a) first second is = second ∙ first
cause_later A B old mid new store_faults.BadIndex first second is = second ∙ first
cause_later A B old mid new (store_faults.BadPlace a) first second is = second ∙ first
cause_later A B old mid new (store_faults.BadRecord a) first second is = second ∙ first
cause_later A B old mid new store_faults.Trailing first second is = second ∙ first

-- a step that found no fault
pub record Step {A B : Type 0} (r : Result A StoreLoad) (f : A → Result B StoreLoad) (y : B) : Type 0 where
  pub value : A
  pub was : r ≡ Ok value
  pub next : f value ≡ Ok y

pub step : {A B : Type 0} (r : Result A StoreLoad) (f : A → Result B StoreLoad) (y : B) → (r >>= f) ≡ Ok y → Step r f y
step (Ok x) f y is = record { value = x; was = refl; next = is }
step (Err e) f y is = absurd (ok_err y e (sym is))

pub lifted_ok : {A : Type 0} (r : Result A LoadFault) (x : A) → lifted r ≡ Ok x → r ≡ Ok x
lifted_ok (Ok y) x is = ap Ok (ok_same is)
lifted_ok (Err e) x is = absurd (ok_err x (fault_named e) (sym is))

-- the parts of a store are read after a header and an index
pub record ReadsParts (bytes : List ℕ) (h : Header) (index : Bdz) (s : Store) : Type 0 where
  pub places : List ℕ
  pub records : List ℕ
  pub are_places : places_at bytes (16 + h.index) index.keys h.records ≡ Ok places
  pub are_records : lifted (item_at bytes (16 + h.index + 4 * index.keys) h.records) ≡ Ok records
  pub sound : store_unless (record { index = index; places = places; bytes = records }) ≡ Ok s

-- and then the end
pub store_known : (bytes : List ℕ) (h : Header) (index : Bdz) (s : Store) → ReadsParts bytes h index s → lifted (end_at bytes (16 + h.index + 4 * index.keys + h.records)) ≡ Ok tt → store_at bytes h index ≡ Ok s
unfolding store_at
store_known bytes h index s parts ended = rw (parts.are_places, parts.are_records, parts.sound, ended) refl

-- or a fault of the end
pub store_longer : (bytes : List ℕ) (h : Header) (index : Bdz) (s : Store) (fault : StoreLoad) → ReadsParts bytes h index s → FailsAs fault (lifted (end_at bytes (16 + h.index + 4 * index.keys + h.records))) → FailsAs fault (store_at bytes h index)
unfolding store_at
store_longer bytes h index s fault parts fails =
    rw (parts.are_places, parts.are_records, parts.sound) (fails_then fault (lifted (end_at bytes (16 + h.index + 4 * index.keys + h.records))) (λ _. Ok s) fails)
