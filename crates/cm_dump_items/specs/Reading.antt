-- The items of a file, each at its offset, and the first fault.
use Rattle.std.specs.Prelude.{◌≡◌, ◌+◌, ◌<◌, ◌≤◌, ℕ, zero, suc, List, length, take, drop, Option, Result, Ok, Err, nat_lt, nat_le, ◌&&◌, if◌then◌else◌}
use Rattle.std.specs.Option.{ForSome}
use Rattle.std.specs.Int.{Width, byte_len, from_le_bytes, w8}
use Rattle.cm_io.specs.Causes.{Rose}
use Rattle.cm_dump_items.specs.declared.fault.LoadFault.{LoadFault}
use Rattle.cm_dump_items.specs.declared.fault.LoadFault.TheVariants as faults

-- one item, and then what is read with it; the first fault is the answer
infixl 10 ◌>>=◌
abbrev pub ◌>>=◌ : {A B : Type 0} → Result A LoadFault → (A → Result B LoadFault) → Result B LoadFault
(Ok x) >>= f = f x
(Err e) >>= f = Err e

-- the item of n bytes at an offset: it is cut off if there are fewer bytes
unfoldable pub item_at : List ℕ → ℕ → ℕ → Result (List ℕ) LoadFault
item_at bytes at n = if nat_lt (length bytes) (at + n) then Err (faults.Truncated (length bytes)) else Ok (take n (drop at bytes))

-- the number of a width at an offset, from low to high
unfoldable pub field_at : Width → List ℕ → ℕ → ℕ → ℕ → Result ℕ LoadFault
field_at w bytes at low high = do
  item ← item_at bytes at (byte_len w)
  let x = from_le_bytes w item
  if nat_le low x && nat_le x high then Ok x else Err (faults.BadField at)

-- some bytes from an offset on are zero
unfoldable pub zeros_at : List ℕ → ℕ → ℕ → Result (Unit {0}) LoadFault
zeros_at bytes at zero = Ok tt
zeros_at bytes at (suc n) = do
  first ← field_at w8 bytes at 0 0
  zeros_at bytes (at + 1) n

-- nothing follows an offset
unfoldable pub end_at : List ℕ → ℕ → Result (Unit {0}) LoadFault
end_at bytes at = if nat_lt at (length bytes) then Err faults.Trailing else Ok tt

-- This is how many bytes from an offset on a buffer got: as many as it has room for, unless they end.
pub record Fills (bytes : List ℕ) (at got : ℕ) (buf : List ℕ) : Type 0 where
  pub given : take got buf ≡ take got (drop at bytes)
  pub end : got < length buf → length bytes ≡ at + got

-- A part has the bytes from an offset on: no fewer than there is room for, unless they end.
pub record IsPart (bytes : List ℕ) (at room : ℕ) (part : List ℕ) : Type 0 where
  pub given : part ≡ take (length part) (drop at bytes)
  pub inside : at + length part ≤ length bytes
  pub end : length part < room → length bytes ≡ at + length part

-- Memory may run out, and a source may fail, at any time. Any other fault is the one that the bytes have.
abbrev pub Fails : {Y : Type 0} → LoadFault → Result Y LoadFault → Type 0
Fails faults.Memory read = Unit {0}
Fails faults.Read read = Unit {0}
Fails f read = read ≡ Err f

-- What a call returned, seen by view, is what the bytes have.
abbrev pub Answers : {X Y : Type 0} → (X → Y) → Result X LoadFault → Result Y LoadFault → Type 0
Answers view (Ok x) read = read ≡ Ok (view x)
Answers view (Err e) read = Fails e read

-- The source stands at this offset, if its bytes are known.
abbrev pub IsAt : Option (List ℕ) → ℕ → ℕ → Type 0
IsAt told place at = ForSome told (λ bytes. (place ≡ at) × (at ≤ length bytes))

-- A call returns `Read` exactly if the count of faults rose.
abbrev pub HasLoadCause : {T : Type 0} → ℕ → ℕ → Result T LoadFault → Type 0
HasLoadCause before now (Ok x) = now ≡ before
HasLoadCause before now (Err faults.Read) = (before ≤ now) × Rose before now
HasLoadCause before now (Err f) = now ≡ before

-- An item is cut off, or is a field out of its range, unless the source fails.
abbrev pub IsItemFault : LoadFault → Type 0
IsItemFault faults.Read = Unit {0}
IsItemFault (faults.Truncated at) = Unit {0}
IsItemFault (faults.BadField at) = Unit {0}
IsItemFault fault = ⊥

-- And memory may run out for an item of many bytes.
abbrev pub IsLongFault : LoadFault → Type 0
IsLongFault faults.Memory = Unit {0}
IsLongFault fault = IsItemFault fault

-- A byte follows the last item, unless the source fails.
abbrev pub IsEndFault : LoadFault → Type 0
IsEndFault faults.Read = Unit {0}
IsEndFault faults.Trailing = Unit {0}
IsEndFault fault = ⊥

-- The fault is one of bytes that are in memory: no memory is taken for them, and nothing is read.
abbrev pub IsByteFault : LoadFault → Type 0
IsByteFault faults.Memory = ⊥
IsByteFault faults.Read = ⊥
IsByteFault fault = Unit {0}
