-- The numbers of many keys, and why none is put.
use Rattle.std.specs.Prelude.{◌≡◌, ◌≢◌, ◌<◌, ◌≤◌, ◌⊎◌, ℕ, List, length, slice_index}
use Rattle.cm_dump_lent.specs.Opened.{lent_answer}
use Rattle.cm_dump_lent.specs.declared.lent.Lent.{Lent}
use Rattle.cm_keys_lent.specs.Pass.{FailsEnds, IsLentPass, LentPass}
use Rattle.cm_keys_lent.specs.declared.ends.EndsFault.{EndsFault}
use Rattle.cm_lib_lent.specs.Numbers.{ArePut}
use Rattle.cm_lib_lent.specs.declared.numbers.TheConstants.{NONE}
use Rattle.cmph_c.specs.Codes.{at_only, ends_code, ends_place}
use Rattle.cmph_c.specs.Functions.{Holds, IsHeld}
use Rattle.cmph_c.specs.declared.codes.Place.{Place}
use Rattle.cmph_c.specs.declared.codes.TheConstants.{NO_FUNCTION, NO_ROOM}
use Rattle.cmph_c.specs.declared.function.Function.{Function}

-- the keys of a batch
abbrev pub pass_of : List ℕ → List ℕ → LentPass
pass_of bytes ends = record { bytes = bytes; ends = ends; given = 0 }

-- The struct holds a function, the ends are those of keys, and each key's number is put.
pub record ArePutBy (c : Function) (bytes ends old new : List ℕ) : Type 0 where
  pub lent : Lent
  pub holds : Holds c lent
  pub keys_are : IsLentPass (pass_of bytes ends)
  pub room : length ends ≤ length old
  pub put : ArePut (lent_answer lent) (pass_of bytes ends) 0 (length ends) old new
  pub below : (i : ℕ) → i < length ends → slice_index new i ≢ NONE → slice_index new i < c.span

-- the ends are wrong
abbrev pub IsBadEnd : List ℕ → List ℕ → ℕ → Place → Type 0
IsBadEnd bytes ends code place = (fault : EndsFault) × FailsEnds bytes ends fault × (code ≡ ends_code fault) × (place ≡ at_only (ends_place fault))

-- they are right, and there are fewer places than keys
abbrev pub IsShort : List ℕ → List ℕ → List ℕ → ℕ → Place → Type 0
IsShort bytes ends numbers code place = IsLentPass (pass_of bytes ends) × (length numbers < length ends) × (code ≡ NO_ROOM) × (place ≡ at_only (length ends))

-- No number is put: the struct holds no function; or it does, and the ends are wrong; or these are right, and there is no room. So one code alone is
-- right.
abbrev pub IsUnput : Function → List ℕ → List ℕ → List ℕ → ℕ → Place → Type 0
IsUnput c bytes ends numbers code place =
    ((IsHeld c → ⊥) × (code ≡ NO_FUNCTION) × (place ≡ at_only 0)) ⊎ (IsHeld c × (IsBadEnd bytes ends code place ⊎ IsShort bytes ends numbers code place))
