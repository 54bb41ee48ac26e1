-- What opening the bytes of a dump gives.
use Rattle.std.specs.Prelude.{◌≡◌, ◌<◌, ℕ, List, Option, Some, Ok, Err}
use Rattle.cm_bdz.specs.Functions.{bdz_ph_answer}
use Rattle.cm_bdz.specs.Lent.{held_answer}
use Rattle.cm_brz_func.specs.Functions.{bucket_count}
use Rattle.cm_dump.specs.declared.front.Algorithm.TheVariants as algorithm
use Rattle.cm_dump.specs.declared.front.Header.{Header}
use Rattle.cm_dump.specs.Forms.{form_of, version_of}
use Rattle.cm_dump.specs.Headings.{heading_at}
use Rattle.cm_dump.specs.Spelling.{spelling_of}
use Rattle.cm_dump_brz.specs.Indexed.{function_of, indexed_answer, indexed_place}
use Rattle.cm_dump_items.specs.Reading.{IsByteFault}
use Rattle.cm_dump_brz.specs.declared.fault.OpenFault.{OpenFault}
use Rattle.cm_dump_brz.specs.declared.fault.OpenFault.TheVariants as fault
use Rattle.cm_dump_lent.specs.declared.lent.Lent.{Lent}
use Rattle.cm_dump_lent.specs.declared.lent.Lent.TheVariants as lent
use Rattle.cm_func.specs.Functions.{place_by}
use Rattle.cm_func.specs.declared.function.Func.{Func}
use Rattle.cm_func.specs.declared.function.Func.TheVariants as func
use Rattle.cm_spec.specs.Chm.{chm_answer}

-- the function that a function in lent bytes is
abbrev pub func_by : Lent → Func
func_by (lent.Chm f) = func.Chm f
func_by (lent.Bdz f) = func.Bdz f.function
func_by (lent.BdzPh f) = func.BdzPh f
func_by (lent.Brz f) = func.Brz (function_of f)

-- what it answers to the bytes of a key, whatever its cells and its ranks are
abbrev pub lent_answer : Lent → List ℕ → Option ℕ
lent_answer (lent.Chm f) key = Some (chm_answer f key)
lent_answer (lent.Bdz f) key = held_answer f key
lent_answer (lent.BdzPh f) key = Some (bdz_ph_answer f key)
lent_answer (lent.Brz f) key = indexed_answer f key

-- where it looks up a key
abbrev pub lent_place : Lent → List ℕ → List ℕ
lent_place (lent.Brz f) key = indexed_place f key
lent_place f key = place_by (func_by f) key

-- The bytes begin with a right header, it names BRZ, and the index has less room than there are buckets.
pub record LacksIndex (bytes : List ℕ) (room : ℕ) : Type 0 where
  pub header : Header
  pub heading : heading_at (form_of (version_of bytes)) bytes ≡ Ok header
  pub brz : header.algorithm ≡ algorithm.Brz
  pub few : room < bucket_count header.keys header.b

-- why bytes are not opened with a room for the index: their first fault, or that they are a dump by BRZ with more buckets
abbrev pub IsOpenFault : List ℕ → ℕ → OpenFault → Type 0
IsOpenFault bytes room (fault.Dump e) = (spelling_of bytes ≡ Err e) × IsByteFault e × (LacksIndex bytes room → ⊥)
IsOpenFault bytes room (fault.Room needed) = (lacks : LacksIndex bytes room) × (needed ≡ bucket_count lacks.header.keys lacks.header.b)
