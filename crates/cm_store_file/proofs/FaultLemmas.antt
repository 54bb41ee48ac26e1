-- The faults of bytes that are no store file.
use Rattle.std.proofs.Common.{◌≡◌, ℕ, List, Option, None, Some, Bool, true, false, if◌then◌else◌, Result, Ok, Err}
use Rattle.cm_bdz.specs.Functions.{Bdz}
use Rattle.cm_dump_items.specs.declared.fault.LoadFault.{LoadFault}
use Rattle.cm_func.specs.declared.function.Func.{Func}
use Rattle.cm_func.specs.declared.function.Func.TheVariants as func
use Rattle.cm_store.specs.Stores.{Store}
use Rattle.cm_store_file.specs.Loads.{IsFileFault}
use Rattle.cm_store_file.specs.Steps.{◌>>=◌, lifted}
use Rattle.cm_store_file.specs.StoreFiles.{index_at, index_unless, places_at, store_at, store_in, store_or}
use Rattle.cm_store_file.specs.declared.fault.StoreLoad.{StoreLoad}
use Rattle.cm_store_file.specs.declared.header.Header.{Header}
use Rattle.cm_store_file.proofs.HeaderFaults.{IsFine, fine_end, fine_header, fine_item}

-- what is read has no other fault
abbrev Only : {A : Type 0} → Result A StoreLoad → Type 0
Only (Ok x) = Unit {0}
Only (Err e) = IsFileFault e

only_then : {A B : Type 0} (r : Result A StoreLoad) (f : A → Result B StoreLoad) → Only r → ((x : A) → Only (f x)) → Only (r >>= f)
only_then (Ok x) f first next = next x
only_then (Err e) f first next = first

only_lifted : {A : Type 0} (r : Result A LoadFault) → IsFine r → Only (lifted r)
only_lifted (Ok x) is = tt
only_lifted (Err e) is = is

only_unless : {A : Type 0} (t : Bool) (e : StoreLoad) (x : A) → IsFileFault e → Only (if t then (let r : Result A StoreLoad = Err e in r) else Ok x)
only_unless true e x is = is
only_unless false e x is = tt

only_index : (r : Result Func LoadFault) → Only (index_unless r)
only_index (Ok (func.Chm f)) = tt
only_index (Ok (func.Bdz f)) = tt
only_index (Ok (func.BdzPh f)) = tt
only_index (Ok (func.Brz f)) = tt
only_index (Err e) = tt

only_index_at : (bytes : List ℕ) (len : ℕ) → Only (index_at bytes len)
unfolding index_at
only_index_at bytes len = only_then _ _ (only_lifted _ (fine_item bytes _ len)) (λ item. only_index _)

only_places : (bytes : List ℕ) (at n bound : ℕ) → Only (places_at bytes at n bound)
unfolding places_at
only_places bytes at n bound = only_then _ _ (only_lifted _ (fine_item bytes at _)) (λ image. only_unless _ _ _ tt)

only_store : (s : Store) (o : Option ℕ) → Only (store_or s o)
only_store s None = tt
only_store s (Some at) = tt

only_store_at : (bytes : List ℕ) (h : Header) (index : Bdz) → Only (store_at bytes h index)
unfolding store_at
only_store_at bytes h index =
    only_then _ _ (only_places bytes _ _ _) (λ places. only_then _ _ (only_lifted _ (fine_item bytes _ _)) (λ records. only_then _ _ (only_store _ _) (λ s. only_then _ _ (only_lifted _ (fine_end bytes _)) (λ ended. tt))))

only_file : (bytes : List ℕ) → Only (store_in bytes)
unfolding store_in
only_file bytes = only_then _ _ (only_lifted _ (fine_header bytes)) (λ h. only_then _ _ (only_index_at bytes _) (λ index. only_store_at bytes h index))

pub file_faults : (bytes : List ℕ) (fault : StoreLoad) → store_in bytes ≡ Err fault → IsFileFault fault
file_faults bytes fault is = rw is at (only_file bytes)
