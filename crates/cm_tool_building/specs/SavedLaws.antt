-- What a build with status 0 has saved, for those who say more of it.
use Rattle.std.proofs.Common.{◌≡◌, ◌∙◌, ℕ, Some, ap, arith, sym}
use Rattle.std.proofs.lemmas.Option.{same_Some}
use Rattle.std.specs.FinMap as map
use Rattle.cm_io.specs.Files.{Files}
use Rattle.cm_io.specs.States.{Outside}
use Rattle.cm_tool_building.specs.Building.{Building, saving}
use Rattle.cm_tool_building.specs.Builds.{Builds}
use Rattle.cm_tool_building.specs.Leaves.{Known}
use Rattle.cm_tool_stops.specs.Ending.{Outcome}

-- this was made, and its bytes are those of the file
pub record HasSaved {M : Type 0} (b : Building M) (old new : Outside) (files : Files) : Type 0 where
  pub made : M
  pub known : Known b files made old.disk.spilled new.disk.spilled
  pub files_are : new.disk.files ≡ Some (map.insert files b.named.function (b.bytes made))

pub has_saved : {M : Type 0} (b : Building M) (old new : Outside) (status : ℕ) → Builds b old new status → status ≡ 0 → (files : Files) → old.disk.files ≡ Some files → HasSaved b old new files
has_saved b old new status builds zero files is =
    let saved = builds.saved zero files is in
    let reaches = builds.does.outcome (λ four. absurd (omega (arith, zero, four))) (λ five. absurd (omega (arith, zero, five))) (λ six. absurd (omega (arith, zero, six))) files is in
    let same : reaches.outcome ≡ saving b files saved.0 = same_Some reaches.outcome (saving b files saved.0) (sym reaches.is ∙ saved.1) in
    record { made = saved.0; known = saved.2; files_are = reaches.files_are ∙ ap (λ (o : Outcome). Some o.files) same }
