-- The function that a struct of the caller's holds.
use Rattle.std.specs.Prelude.{◌≡◌, ◌<◌, ℕ}
use Rattle.cm_bdz.specs.Lent.{FitsBdz, FitsBdzPh, bdz_held, bdz_ph_held}
use Rattle.cm_bdz.specs.declared.lent.BdzParts.{BdzParts}
use Rattle.cm_bdz.specs.declared.lent_ph.BdzPhParts.{BdzPhParts}
use Rattle.cm_chm.specs.Parts.{FitsChm, chm_held}
use Rattle.cm_chm.specs.declared.lent.ChmParts.{ChmParts}
use Rattle.cm_dump.specs.declared.versions.Version.{Version}
use Rattle.cm_dump.specs.declared.versions.Version.TheVariants as version
use Rattle.cm_dump_brz.specs.Indexed.{FitsBrz, IndexedBrz, brz_held}
use Rattle.cm_dump_brz.specs.declared.lent.LentBrzParts.{LentBrzParts}
use Rattle.cm_dump_lent.specs.Opened.{func_by}
use Rattle.cm_dump_lent.specs.declared.lent.Lent.{Lent}
use Rattle.cm_dump_lent.specs.declared.lent.Lent.TheVariants as lent
use Rattle.cm_func.specs.Functions.{span_by}
use Rattle.cmph_c.specs.declared.function.Function.{Function}
use Rattle.cmph_c.specs.declared.function.TheConstants.{BDZ, BDZ_PH, BRZ, CHM}

-- the parts of a function by CHM
abbrev pub chm_parts : Function → ChmParts
chm_parts c = record { cells = c.cells; keys = c.keys; ratio = c.ratio; seed = c.seed; vertices = c.size; width = c.width; keys_scaled = c.keys_scaled; vertices_scaled = c.scaled }

-- of one by BDZ
abbrev pub bdz_parts : Function → BdzParts
bdz_parts c = record { cells = c.cells; ranks = c.ranks; keys = c.keys; ratio = c.ratio; seed = c.seed; third = c.size; scaled = c.scaled; b = c.b }

-- and of one by BDZ_PH
abbrev pub bdz_ph_parts : Function → BdzPhParts
bdz_ph_parts c = record { cells = c.cells; keys = c.keys; ratio = c.ratio; seed = c.seed; third = c.size; scaled = c.scaled }

-- and of one by BRZ
abbrev pub brz_parts : Function → Version → LentBrzParts
brz_parts c version = record { dump = c.cells; index = c.index; version = version; keys = c.keys; ratio = c.ratio; split = c.seed; b = c.b; scaled = c.scaled }

-- the number of a version
abbrev pub number_of : Version → ℕ
number_of version.One = 1
number_of version.Two = 2

-- a struct holds a function by BRZ in the bytes of a file of a version
pub record HoldsBrz (c : Function) (f : IndexedBrz) : Type 0 where
  pub version : Version
  pub named : c.width ≡ number_of version
  pub small : c.b < 65536
  pub fits : FitsBrz (brz_parts c version)
  pub is : f ≡ brz_held (brz_parts c version)

-- the parts of a struct are those of a function, by the algorithm that it names
abbrev pub HasParts : Function → Lent → Type 0
HasParts c (lent.Chm f) = (c.kind ≡ CHM) × FitsChm (chm_parts c) × (f ≡ chm_held (chm_parts c))
HasParts c (lent.Bdz f) = (c.kind ≡ BDZ) × FitsBdz (bdz_parts c) × (f ≡ bdz_held (bdz_parts c))
HasParts c (lent.BdzPh f) = (c.kind ≡ BDZ_PH) × FitsBdzPh (bdz_ph_parts c) × (f ≡ bdz_ph_held (bdz_ph_parts c))
HasParts c (lent.Brz f) = (c.kind ≡ BRZ) × HoldsBrz c f

-- a struct holds a function: its parts are such a function's, and its span is that of this function
abbrev pub Holds : Function → Lent → Type 0
Holds c f = HasParts c f × (c.span ≡ span_by (func_by f))

-- a struct holds some function
abbrev pub IsHeld : Function → Type 0
IsHeld c = (f : Lent) × Holds c f
