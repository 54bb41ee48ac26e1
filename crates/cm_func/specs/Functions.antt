-- What each function keeps, and what it answers.
use Rattle.std.specs.Prelude.{ℕ, List, length, Option, Some}
use Rattle.cm_bdz.specs.Functions.{IsBdz, IsBdzPh, bdz_answer, bdz_ph_answer}
use Rattle.cm_bdz.specs.Places.{bdz_place}
use Rattle.cm_brz_func.specs.Functions.{IsBrz, brz_answer}
use Rattle.cm_brz_func.specs.Places.{brz_place}
use Rattle.cm_chm.specs.Functions.{IsChm}
use Rattle.cm_chm.specs.Places.{chm_place}
use Rattle.cm_spec.specs.Chm.{chm_answer}
use Rattle.cm_spec.specs.Lookup2.{words}
use Rattle.cm_func.specs.declared.function.Func.{Func}
use Rattle.cm_func.specs.declared.function.Func.TheVariants as func

-- a function of any algorithm
abbrev pub IsFunction : Func → Type 0
IsFunction (func.Chm f) = IsChm f
IsFunction (func.Bdz f) = IsBdz f
IsFunction (func.BdzPh f) = IsBdzPh f
IsFunction (func.Brz f) = IsBrz f

-- what the answers of a function are below: the number of keys, or for BDZ_PH of vertices
abbrev pub span_by : Func → ℕ
span_by (func.Chm f) = f.keys
span_by (func.Bdz f) = f.keys
span_by (func.BdzPh f) = length f.cells
span_by (func.Brz f) = f.keys

-- the place that a function computes from the bytes of a key
abbrev pub place_by : Func → List ℕ → List ℕ
place_by (func.Chm f) key = chm_place f key
place_by (func.Bdz f) key = bdz_place (words key f.seed) (length f.cells)
place_by (func.BdzPh f) key = bdz_place (words key f.seed) (length f.cells)
place_by (func.Brz f) key = brz_place f key

-- the answer of a function to the bytes of a key
abbrev pub answer_by : Func → List ℕ → Option ℕ
answer_by (func.Chm f) key = Some (chm_answer f key)
answer_by (func.Bdz f) key = bdz_answer f key
answer_by (func.BdzPh f) key = Some (bdz_ph_answer f key)
answer_by (func.Brz f) key = brz_answer f key
