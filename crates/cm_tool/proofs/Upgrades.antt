-- From the end of an upgrade to what it promises.
use Rattle.std.proofs.Common.{◌≡◌, ◌≢◌, ◌∙◌, ◌⊎◌, ◌↔◌, ℕ, ◌<◌, ◌^◌, List, [], Option, None, Some, Ok, Err, inl, inr, refl, ap, sym, subst, arith, true}
use Rattle.std.specs.Option.{option_map}
use Rattle.cm_dump.specs.Forms.{version_of}
use Rattle.cm_dump.specs.declared.versions.Version.{Version}
use Rattle.cm_dump.specs.declared.versions.Version.TheVariants.{One}
use Rattle.cm_func.specs.declared.function.Func.{Func}
use Rattle.cm_io.specs.Files.{Files, file_at}
use Rattle.cm_io.specs.States.{DiskState, Outside, SinkState, outside}
use Rattle.cm_io.specs.WritingLaws.{then_nothing}
use Rattle.cm_spec.specs.Lists.{has}
use Rattle.cm_tool.specs.Said.{cmph, naming}
use Rattle.cm_tool.specs.Upgrading.{IsEmptied, IsHalfUpgraded, MayLeave, outcome_of, upgrade_frame, upgrade_outcome, upgrade_over, upgrading}
use Rattle.cm_tool_files.specs.Upgrades.{EndsUpgrade, HasUpgradeCause, SpellsOld}
use Rattle.cm_tool_stops.specs.DoesLaws.{neither}
use Rattle.cm_tool_stops.specs.Ending.{LacksFile, Outcome, Reaches, refusal}
use Rattle.cm_tool_stops.specs.Ends.{Says, upgrade_message_of, upgrade_status_of}
use Rattle.cm_tool_stops.specs.Messages.{bad_dump}
use Rattle.cm_tool_stops.specs.declared.stop.UpgradeStop.{UpgradeStop}
use Rattle.cm_tool_stops.specs.declared.stop.UpgradeStop.TheVariants.{Memory, Read, BadDump, Write}
use Rattle.cm_words.specs.declared.jobs.UpgradeJob.{UpgradeJob}

none_some : {o : Outcome} → None ≡ Some o → ⊥
none_some e = absurd (cc)

-- an upgrade that stopped, by an equal path
pub ends_at : (old new : Option Files) (stop : UpgradeStop) {p q : List ℕ} → p ≡ q → EndsUpgrade p old new (Err stop) → EndsUpgrade q old new (Err stop)
ends_at old new stop is ends = subst (λ (path : List ℕ). EndsUpgrade path old new (Err stop)) is ends

-- the outcome of an upgrade whose function file is there
there : (job : UpgradeJob) (files : Files) (bytes : List ℕ) (o : Outcome) → file_at files job.function ≡ Some bytes → upgrade_outcome job files bytes ≡ o → outcome_of job files ≡ Some o
there job files bytes o file is = ap (option_map (upgrade_outcome job files)) file ∙ ap Some is

-- and spells a function in version 1
rewritten : (job : UpgradeJob) (files : Files) (f : Func) → SpellsOld files job.function f → outcome_of job files ≡ Some (upgrading job files One f)
rewritten job files f spells = there job files spells.0 _ spells.1 (ap (upgrade_over job files (version_of spells.0)) spells.2 ∙ ap (λ (v : Version). upgrading job files v f) spells.3)

-- an upgrade that came to its end
pub upgrade_done : (job : UpgradeJob) (old : Outside) (disk : DiskState) (err : SinkState) (files : Files) → EndsUpgrade job.function old.disk.files disk.files (Ok tt) → Says old.err err [] → old.disk.files ≡ Some files → Reaches old (outside disk old.out err) (outcome_of job files) 0
upgrade_done job old disk err files ends says is =
    let end = ends files is in
    record {
      outcome = upgrading job files (version_of end.0) end.1;
      is = there job files end.0 _ end.2 (ap (upgrade_over job files (version_of end.0)) end.3);
      status_is = refl;
      out = then_nothing old.out.written;
      err = says;
      files_are = end.4;
    }

pub never_lacks : {P : Type 0} (job : UpgradeJob) (old new : Option Files) (files : Files) → EndsUpgrade job.function old new (Ok tt) → old ≡ Some files → outcome_of job files ≡ None → P
never_lacks job old new files ends is none =
    let end = ends files is in
    absurd (none_some (sym none ∙ there job files end.0 _ end.2 refl))

-- an upgrade that stopped, but not for memory or a fault of a file
pub upgrade_stopped : (job : UpgradeJob) (old : Outside) (disk : DiskState) (err : SinkState) (stop : UpgradeStop) (files : Files) → EndsUpgrade job.function old.disk.files disk.files (Err stop) → Says old.err err (upgrade_message_of (naming [] job.function) stop)
    → upgrade_status_of stop ≢ 4 → upgrade_status_of stop ≢ 5 → upgrade_status_of stop ≢ 6 → old.disk.files ≡ Some files → Reaches old (outside disk old.out err) (outcome_of job files) (upgrade_status_of stop)
upgrade_stopped job old disk err Memory files ends says a b d is = absurd (d refl)
upgrade_stopped job old disk err Read files ends says a b d is = absurd (a refl)
upgrade_stopped job old disk err (BadDump fault) files ends says a b d is =
    let bad = ends.1 files is in
    record {
      outcome = refusal 3 (bad_dump cmph job.function fault) files;
      is = there job files bad.0 _ bad.1 (ap (upgrade_over job files (version_of bad.0)) bad.2);
      status_is = refl;
      out = then_nothing old.out.written;
      err = says;
      files_are = ends.0 ∙ is;
    }
upgrade_stopped job old disk err Write files ends says a b d is = absurd (b refl)

-- an upgrade for which memory ran out left no file empty, if there is no outcome
kept : (job : UpgradeJob) (old new : Option Files) (files : Files) → EndsUpgrade job.function old new (Err Memory) → old ≡ Some files → outcome_of job files ≡ None → new ≡ old
kept job old new files (inl same) is none = same
kept job old new files (inr left) is none =
    let spells = left.1 files is in
    absurd (none_some (sym none ∙ rewritten job files spells.0 spells.1))

-- an upgrade that stopped over files by which there is no outcome
pub upgrade_lacks : (job : UpgradeJob) (old : Outside) (disk : DiskState) (err : SinkState) (stop : UpgradeStop) (files : Files) → EndsUpgrade job.function old.disk.files disk.files (Err stop) → old.disk.files ≡ Some files → outcome_of job files ≡ None
    → LacksFile old (outside disk old.out err) (upgrade_status_of stop)
upgrade_lacks job old disk err Memory files ends is none = record { status_is = inr refl; files_are = kept job old.disk.files disk.files files ends is none; out = refl }
upgrade_lacks job old disk err Read files ends is none = record { status_is = inl refl; files_are = ends; out = refl }
upgrade_lacks job old disk err (BadDump fault) files ends is none =
    let bad = ends.1 files is in
    absurd (none_some (sym none ∙ there job files bad.0 _ bad.1 refl))
upgrade_lacks job old disk err Write files ends is none =
    let part = ends files is in
    absurd (none_some (sym none ∙ rewritten job files part.0 part.1))

-- what is left of the files by an upgrade that stopped, but not for memory or in writing
pub upgrade_kept : (job : UpgradeJob) (old new : Option Files) (stop : UpgradeStop) → EndsUpgrade job.function old new (Err stop) → upgrade_status_of stop ≢ 5 → upgrade_status_of stop ≢ 6 → new ≡ old
upgrade_kept job old new Memory ends a b = absurd (b refl)
upgrade_kept job old new Read ends a b = ends
upgrade_kept job old new (BadDump fault) ends a b = ends.0
upgrade_kept job old new Write ends a b = absurd (a refl)

-- in writing
pub half_upgraded : (job : UpgradeJob) (old : Outside) (disk : DiskState) (err : SinkState) (stop : UpgradeStop) (files : Files) → EndsUpgrade job.function old.disk.files disk.files (Err stop) → Says old.err err (upgrade_message_of (naming [] job.function) stop) → upgrade_status_of stop ≡ 5 → old.disk.files ≡ Some files
    → IsHalfUpgraded job old (outside disk old.out err) files
half_upgraded job old disk err Memory files ends says five is = absurd (omega arith)
half_upgraded job old disk err Read files ends says five is = absurd (omega arith)
half_upgraded job old disk err (BadDump fault) files ends says five is = absurd (omega arith)
half_upgraded job old disk err Write files ends says five is =
    let part = ends files is in
    record { f = part.0; is = rewritten job files part.0 part.1; part = part.2; says = says }

-- for memory
emptied : (job : UpgradeJob) (old new : Option Files) → EndsUpgrade job.function old new (Err Memory) → (new ≡ old) ⊎ IsEmptied job old new
emptied job old new (inl same) = inl same
emptied job old new (inr left) = inr (left.0, λ files is. let spells = left.1 files is in (spells.0, rewritten job files spells.0 spells.1))

pub upgrade_emptied : (job : UpgradeJob) (old new : Option Files) (stop : UpgradeStop) → EndsUpgrade job.function old new (Err stop) → upgrade_status_of stop ≡ 6 → (new ≡ old) ⊎ IsEmptied job old new
upgrade_emptied job old new Memory ends six = emptied job old new ends
upgrade_emptied job old new Read ends six = absurd (omega arith)
upgrade_emptied job old new (BadDump fault) ends six = absurd (omega arith)
upgrade_emptied job old new Write ends six = absurd (omega arith)

-- what an upgrade that stopped may leave
pub may_leave : (job : UpgradeJob) (old : Outside) (disk : DiskState) (err : SinkState) (stop : UpgradeStop) → EndsUpgrade job.function old.disk.files disk.files (Err stop) → Says old.err err (upgrade_message_of (naming [] job.function) stop)
    → MayLeave job old (outside disk old.out err) (upgrade_status_of stop)
may_leave job old disk err stop ends says = record {
  write = λ five files is. half_upgraded job old disk err stop files ends says five is;
  memory = λ six. upgrade_emptied job old.disk.files disk.files stop ends six;
}

-- its status is one of an upgrade's, and not 0
pub upgrade_status : (job : UpgradeJob) (stop : UpgradeStop) → has (upgrade_frame job).statuses (upgrade_status_of stop) ≡ true
upgrade_status job Memory = refl
upgrade_status job Read = refl
upgrade_status job (BadDump fault) = refl
upgrade_status job Write = refl

-- it is 4 exactly if the count of reading rose
pub upgrade_read : (old new : DiskState) (stop : UpgradeStop) → HasUpgradeCause old new (Err stop) → old.read_faults < 2 ^ 63 → (upgrade_status_of stop ≡ 4) ↔ (old.read_faults < new.read_faults)
upgrade_read old new Memory cause low = (λ four. absurd (omega (arith, four)), λ rose. absurd (omega (arith, rose, cause.0)))
upgrade_read old new Read cause low = (λ _. cause.1 low, λ _. refl)
upgrade_read old new (BadDump fault) cause low = (λ four. absurd (omega (arith, four)), λ rose. absurd (omega (arith, rose, cause.0)))
upgrade_read old new Write cause low = (λ four. absurd (omega (arith, four)), λ rose. absurd (omega (arith, rose, cause.0)))

-- and 5 exactly if that of writing did
pub upgrade_write : (old new : DiskState) (out : ℕ) (stop : UpgradeStop) → HasUpgradeCause old new (Err stop) → old.write_faults < 2 ^ 63 → (upgrade_status_of stop ≡ 5) ↔ ((old.write_faults < new.write_faults) ⊎ (out < out))
upgrade_write old new out Memory cause low = (λ five. absurd (omega (arith, five)), λ either. neither old.write_faults new.write_faults out out cause.1 refl either)
upgrade_write old new out Read cause low = (λ five. absurd (omega (arith, five)), λ either. neither old.write_faults new.write_faults out out cause.2 refl either)
upgrade_write old new out (BadDump fault) cause low = (λ five. absurd (omega (arith, five)), λ either. neither old.write_faults new.write_faults out out cause.1 refl either)
upgrade_write old new out Write cause low = (λ _. inl (cause.2 low), λ _. refl)

-- over known files it is not 7
pub upgrade_known : (stop : UpgradeStop) → upgrade_status_of stop ≢ 7
upgrade_known Memory = λ e. omega (arith, e)
upgrade_known Read = λ e. omega (arith, e)
upgrade_known (BadDump fault) = λ e. omega (arith, e)
upgrade_known Write = λ e. omega (arith, e)
