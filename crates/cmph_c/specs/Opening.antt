-- What opening the bytes of a function does.
use Rattle.std.specs.Prelude.{◌≡◌, ◌/◌, ◌^◌, ℕ, List, [], Ok, length}
use Rattle.cm_dump.specs.Spelling.{spelling_of}
use Rattle.cm_dump_brz.specs.declared.fault.OpenFault.{OpenFault}
use Rattle.cm_dump_brz.specs.declared.fault.OpenFault.TheVariants as fault
use Rattle.cm_dump_items.specs.Reading.{IsByteFault}
use Rattle.cm_dump_lent.specs.Opened.{IsOpenFault, LacksIndex, func_by, lent_answer}
use Rattle.cm_dump_lent.specs.declared.lent.Lent.{Lent}
use Rattle.cm_dump_lent.specs.declared.lent.Lent.TheVariants as lent
use Rattle.cm_func.specs.Functions.{answer_by}
use Rattle.cm_func.specs.declared.function.Func.{Func}
use Rattle.cm_func.specs.declared.function.Func.TheVariants as func
use Rattle.cmph_c.specs.Codes.{at_only, code_by, place_by}
use Rattle.cmph_c.specs.Functions.{Holds}
use Rattle.cmph_c.specs.declared.codes.Place.{Place}
use Rattle.cmph_c.specs.declared.codes.TheConstants.{NO_ROOM}
use Rattle.cmph_c.specs.declared.function.Function.{Function}

-- the numbers of a struct that are not its kind, its span or its width
pub record Numbers : Type 0 where
  pub scaled : ℕ
  pub keys_scaled : ℕ
  pub keys : ℕ
  pub ratio : ℕ
  pub seed : ℕ
  pub size : ℕ
  pub b : ℕ

abbrev pub numbers_in : Function → Numbers
numbers_in c = record { scaled = c.scaled; keys_scaled = c.keys_scaled; keys = c.keys; ratio = c.ratio; seed = c.seed; size = c.size; b = c.b }

-- those of the struct of a function: its size is the number of vertices by CHM, a third of it by BDZ and BDZ_PH, and of buckets by BRZ
abbrev pub numbers_of : Func → Numbers
numbers_of (func.Chm f) =
    record { scaled = 2 ^ 32 / length f.cells; keys_scaled = 2 ^ 32 / f.keys; keys = f.keys; ratio = f.ratio; seed = f.seed; size = length f.cells; b = 0 }
numbers_of (func.Bdz f) =
    record { scaled = 2 ^ 32 / (length f.cells / 3); keys_scaled = 0; keys = f.keys; ratio = f.ratio; seed = f.seed; size = length f.cells / 3; b = f.shift }
numbers_of (func.BdzPh f) =
    record { scaled = 2 ^ 32 / (length f.cells / 3); keys_scaled = 0; keys = f.keys; ratio = f.ratio; seed = f.seed; size = length f.cells / 3; b = 0 }
numbers_of (func.Brz f) =
    record { scaled = 2 ^ 32 / length f.buckets; keys_scaled = 0; keys = f.keys; ratio = f.ratio; seed = f.split; size = length f.buckets; b = f.width }

-- what the algorithm of a function doesn't use is 0, or has nothing in it
abbrev pub LacksOthers : Function → Lent → Type 0
LacksOthers c (lent.Chm f) = (c.ranks.now ≡ []) × (c.index.now ≡ [])
LacksOthers c (lent.Bdz f) = (c.index.now ≡ []) × (c.width ≡ 0)
LacksOthers c (lent.BdzPh f) = (c.ranks.now ≡ []) × (c.index.now ≡ []) × (c.width ≡ 0)
LacksOthers c (lent.Brz f) = c.ranks.now ≡ []

-- The struct holds the function that the bytes spell, with its span, and so answers each key as that one does; its numbers are those of this
-- function, and it has nothing else. There was room for the index.
pub record IsOpened (bytes : List ℕ) (room : ℕ) (c : Function) : Type 0 where
  pub lent : Lent
  pub holds : Holds c lent
  pub spelled : spelling_of bytes ≡ Ok (func_by lent)
  pub answers : (key : List ℕ) → lent_answer lent key ≡ answer_by (func_by lent) key
  pub numbers : numbers_in c ≡ numbers_of (func_by lent)
  pub others : LacksOthers c lent
  pub indexed : LacksIndex bytes room → ⊥

-- the code of a refusal
abbrev pub open_code : OpenFault → ℕ
open_code (fault.Dump e) = code_by e
open_code (fault.Room needed) = NO_ROOM

-- its offset, or the room that is needed
abbrev pub open_place : OpenFault → ℕ
open_place (fault.Dump e) = place_by e
open_place (fault.Room needed) = needed

-- the fault is one of bytes that are in memory, or of room
abbrev pub IsOpenKind : OpenFault → Type 0
IsOpenKind (fault.Dump e) = IsByteFault e
IsOpenKind (fault.Room needed) = Unit {0}

-- The bytes are refused with a code and a place: those of their first fault, or of too little room for the index.
pub record IsRefused (bytes : List ℕ) (room code : ℕ) (place : Place) : Type 0 where
  pub fault : OpenFault
  pub why : IsOpenFault bytes room fault
  pub code_is : code ≡ open_code fault
  pub place_is : place ≡ at_only (open_place fault)
