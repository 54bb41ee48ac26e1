-- The faults of the items of a store file.
use Rattle.std.proofs.Common.{ℕ, List, Bool, true, false, if◌then◌else◌, Result, Ok, Err}
use Rattle.std.specs.Int.{Width, byte_len}
use Rattle.cm_dump_items.specs.Reading.{◌>>=◌, end_at, field_at, item_at}
use Rattle.cm_dump_items.specs.declared.fault.LoadFault.{LoadFault}
use Rattle.cm_store_file.specs.Headers.{header_at, magic_at}
use Rattle.cm_store_file.specs.Loads.{IsFileFault}
use Rattle.cm_store_file.specs.Steps.{fault_named}

-- what is read has no fault that bytes can't have
abbrev pub IsFine : {A : Type 0} → Result A LoadFault → Type 0
IsFine (Ok x) = Unit {0}
IsFine (Err e) = IsFileFault (fault_named e)

fine_then : {A B : Type 0} (r : Result A LoadFault) (f : A → Result B LoadFault) → IsFine r → ((x : A) → IsFine (f x)) → IsFine (r >>= f)
fine_then (Ok x) f first next = next x
fine_then (Err e) f first next = first

fine_if : {A : Type 0} (t : Bool) (e : LoadFault) (x : A) → IsFileFault (fault_named e) → IsFine (if t then (let r : Result A LoadFault = Ok x in r) else Err e)
fine_if true e x is = tt
fine_if false e x is = is

fine_unless : {A : Type 0} (t : Bool) (e : LoadFault) (x : A) → IsFileFault (fault_named e) → IsFine (if t then (let r : Result A LoadFault = Err e in r) else Ok x)
fine_unless true e x is = is
fine_unless false e x is = tt

pub fine_item : (bytes : List ℕ) (at n : ℕ) → IsFine (item_at bytes at n)
unfolding item_at
fine_item bytes at n = fine_unless _ _ _ tt

fine_field : (w : Width) (bytes : List ℕ) (at low high : ℕ) → IsFine (field_at w bytes at low high)
unfolding field_at
fine_field w bytes at low high = fine_then _ _ (fine_item bytes at (byte_len w)) (λ item. fine_if _ _ _ tt)

fine_magic : (bytes : List ℕ) → IsFine (magic_at bytes)
unfolding magic_at
fine_magic bytes = fine_then _ _ (fine_item bytes 0 8) (λ item. fine_if _ _ _ tt)

pub fine_header : (bytes : List ℕ) → IsFine (header_at bytes)
unfolding header_at
fine_header bytes = fine_then _ _ (fine_magic bytes) (λ begun. fine_then _ _ (fine_field _ bytes _ _ _) (λ index. fine_then _ _ (fine_field _ bytes _ _ _) (λ records. tt)))

pub fine_end : (bytes : List ℕ) (at : ℕ) → IsFine (end_at bytes at)
unfolding end_at
fine_end bytes at = fine_unless _ _ _ tt
