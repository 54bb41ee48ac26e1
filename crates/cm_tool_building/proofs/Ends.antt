-- From the end of a build to what the driver promises.
use Rattle.std.proofs.Common.{◌≡◌, ◌≢◌, ◌∙◌, ◌⊎◌, ℕ, List, [], Option, None, Some, Ok, Err, inl, inr, refl, ap, sym, subst, arith, true}
use Rattle.cm_io.specs.Files.{Files, file_at, with_file}
use Rattle.cm_io.specs.States.{Outside}
use Rattle.cm_io.specs.WritingLaws.{then_nothing}
use Rattle.cm_spec.specs.Lists.{has}
use Rattle.cm_tool_building.specs.Building.{Building, keys_of, outcome_by, outcome_of, refusing, saving}
use Rattle.cm_tool_building.specs.Builds.{IsEmptied, IsRefusedWith, IsUnfinished, MayLeave, frame_of}
use Rattle.cm_tool_building.specs.Leaves.{IsOutCause, KeepsOut, Leaves, MadeOf}
use Rattle.cm_tool_building.specs.Makes.{IsAllowedStop}
use Rattle.cm_tool_building.specs.OutcomeLaws.{outcome_there, refused_outcome}
use Rattle.cm_tool_building.specs.Stores.{IsPart}
use Rattle.cm_tool_stops.specs.Ending.{LacksFile, Outcome, Reaches}
use Rattle.cm_tool_stops.specs.Ends.{Says, message_of, status_of}
use Rattle.cm_tool_stops.specs.declared.stop.Stop.TheVariants.{Memory, Read, Write, WriteOut, Refused, Changed, Spill, SpillDamaged, NoKeys, TooLong, TooMany, TooLarge}
use Rattle.cm_tool_stops.specs.declared.stop.Stop.{Stop}

none_some : {o : Outcome} → None ≡ Some o → ⊥
none_some e = absurd (cc)

-- the outcome of a build that made something
pub outcome_saving : {M : Type 0} (b : Building M) (files : Files) (made : M) → MadeOf b files made → outcome_of b files ≡ Some (saving b files made)
outcome_saving b files made of = outcome_there b files of.bytes _ of.there (ap (outcome_by b files) of.is)

-- a build that stopped, with out as before
quiet_end : {M : Type 0} (b : Building M) (files : Files) (old new : Outside) (bytes : List ℕ) (stop : Stop) → file_at files b.named.keys ≡ Some bytes → b.meaning.verdict (keys_of b bytes) ≡ Err (record { stop = stop; report = [] }) → new.out.written ≡ old.out.written
    → Says old.err new.err (message_of b.named b.dir stop) → new.disk.files ≡ Some files → Reaches old new (outcome_of b files) (status_of stop)
quiet_end b files old new bytes stop file is same says left = record {
  outcome = refusing b files (record { stop = stop; report = [] });
  is = refused_outcome b files bytes _ file is;
  status_is = refl;
  out = same ∙ then_nothing old.out.written;
  err = says;
  files_are = left;
}

-- a build that stopped
pub stopped : {M : Type 0} (b : Building M) (old new : Outside) (stop : Stop) (files : Files) → Leaves b old.disk.files new.disk.files old.out.written new.out.written (Err stop) → KeepsOut old.out.written new.out.written stop
    → Says old.err new.err (message_of b.named b.dir stop) → status_of stop ≢ 4 → status_of stop ≢ 5 → status_of stop ≢ 6 → old.disk.files ≡ Some files → Reaches old new (outcome_of b files) (status_of stop)
stopped b old new Memory files leaves same says four five six is = absurd (six refl)
stopped b old new Read files leaves same says four five six is = absurd (four refl)
stopped b old new Write files leaves same says four five six is = absurd (five refl)
stopped b old new WriteOut files leaves same says four five six is = absurd (five refl)
stopped b old new (Refused failure) files leaves same says four five six is =
    let refused = leaves.1 files is in
    let shown = refused.2.1 in
    record {
      outcome = refusing b files (record { stop = Refused failure; report = refused.2.0 });
      is = refused_outcome b files refused.0 _ refused.1 shown.is;
      status_is = refl;
      out = refused.2.2;
      err = says;
      files_are = leaves.0 ∙ is;
    }
stopped b old new (Changed first again) files leaves same says four five six is = absurd ((leaves.1 files is).2)
stopped b old new Spill files leaves same says four five six is = absurd (five refl)
stopped b old new (SpillDamaged offset expected found) files leaves same says four five six is = absurd ((leaves.1 files is).2)
stopped b old new NoKeys files leaves same says four five six is = let refused = leaves.1 files is in quiet_end b files old new refused.0 _ refused.1 refused.2 same says (leaves.0 ∙ is)
stopped b old new (TooLong line) files leaves same says four five six is = let refused = leaves.1 files is in quiet_end b files old new refused.0 _ refused.1 refused.2 same says (leaves.0 ∙ is)
stopped b old new TooMany files leaves same says four five six is = let refused = leaves.1 files is in quiet_end b files old new refused.0 _ refused.1 refused.2 same says (leaves.0 ∙ is)
stopped b old new (TooLarge line) files leaves same says four five six is = let refused = leaves.1 files is in quiet_end b files old new refused.0 _ refused.1 refused.2 same says (leaves.0 ∙ is)

-- if the keys file is there, there is an outcome
none_there : {M : Type 0} (b : Building M) (files : Files) (bytes : List ℕ) → file_at files b.named.keys ≡ Some bytes → outcome_of b files ≡ None → ⊥
none_there b files bytes file none = none_some (sym none ∙ outcome_there b files bytes _ file refl)

-- a build for which memory ran out left no file empty, if there is no outcome
kept : {M : Type 0} (b : Building M) (old new : Option Files) (out out_new : Option (List ℕ)) (files : Files) → Leaves b old new out out_new (Err Memory) → old ≡ Some files → outcome_of b files ≡ None → new ≡ old
kept b old new out out_new files (inl same) is none = same
kept b old new out out_new files (inr left) is none = let made = left.1 files is in absurd (none_there b files made.1.bytes made.1.there none)

-- a build that stopped over files by which there is no outcome
pub missing : {M : Type 0} (b : Building M) (old new : Outside) (stop : Stop) (files : Files) → Leaves b old.disk.files new.disk.files old.out.written new.out.written (Err stop) → KeepsOut old.out.written new.out.written stop → old.disk.files ≡ Some files → outcome_of b files ≡ None → LacksFile old new (status_of stop)
missing b old new Memory files leaves same is none = record { status_is = inr refl; files_are = kept b old.disk.files new.disk.files old.out.written new.out.written files leaves is none; out = same }
missing b old new Read files leaves same is none = record { status_is = inl refl; files_are = leaves.0; out = same }
missing b old new Write files leaves same is none = let made = leaves.2 files is in absurd (none_there b files made.2.bytes made.2.there none)
missing b old new WriteOut files leaves same is none = let refused = leaves.1 files is in absurd (none_there b files refused.0 refused.1 none)
missing b old new (Refused failure) files leaves same is none = let refused = leaves.1 files is in absurd (none_there b files refused.0 refused.1 none)
missing b old new (Changed first again) files leaves same is none = let refused = leaves.1 files is in absurd (none_there b files refused.0 refused.1 none)
missing b old new Spill files leaves same is none = let refused = leaves.1 files is in absurd (none_there b files refused.0 refused.1 none)
missing b old new (SpillDamaged offset expected found) files leaves same is none = let refused = leaves.1 files is in absurd (none_there b files refused.0 refused.1 none)
missing b old new NoKeys files leaves same is none = let refused = leaves.1 files is in absurd (none_there b files refused.0 refused.1 none)
missing b old new (TooLong line) files leaves same is none = let refused = leaves.1 files is in absurd (none_there b files refused.0 refused.1 none)
missing b old new TooMany files leaves same is none = let refused = leaves.1 files is in absurd (none_there b files refused.0 refused.1 none)
missing b old new (TooLarge line) files leaves same is none = let refused = leaves.1 files is in absurd (none_there b files refused.0 refused.1 none)

-- a build that came to its end
pub finished : {M : Type 0} (b : Building M) (old new : Outside) (made : M) (files : Files) → Leaves b old.disk.files new.disk.files old.out.written new.out.written (Ok made) → new.out.written ≡ old.out.written → Says old.err new.err (b.meaning.said made) → old.disk.files ≡ Some files
    → Reaches old new (outcome_of b files) 0
finished b old new made files leaves same says is = record {
  outcome = saving b files made;
  is = outcome_saving b files made (leaves.1 files is);
  status_is = refl;
  out = same ∙ then_nothing old.out.written;
  err = says;
  files_are = leaves.0 ∙ ap (with_file b.named.function (b.bytes made)) is;
}

-- there is an outcome of one that made something
pub none_made : {M : Type 0} (b : Building M) (files : Files) (made : M) → MadeOf b files made → outcome_of b files ≡ None → ⊥
none_made b files made of none = none_there b files of.bytes of.there none

-- a build with status 1 has a report
pub refused_with : {M : Type 0} (b : Building M) (old new : Option Files) (out out_new : Option (List ℕ)) (stop : Stop) (files : Files) → Leaves b old new out out_new (Err stop) → old ≡ Some files → status_of stop ≡ 1 → IsRefusedWith b files
refused_with b old new out out_new Memory files leaves is one = absurd (omega arith)
refused_with b old new out out_new Read files leaves is one = absurd (omega arith)
refused_with b old new out out_new Write files leaves is one = absurd (omega arith)
refused_with b old new out out_new WriteOut files leaves is one = absurd (omega arith)
refused_with b old new out out_new (Refused failure) files leaves is one = let refused = leaves.1 files is in (refused.0, refused.1, refused.2.1.reports)
refused_with b old new out out_new (Changed first again) files leaves is one = absurd (omega arith)
refused_with b old new out out_new Spill files leaves is one = absurd (omega arith)
refused_with b old new out out_new (SpillDamaged offset expected found) files leaves is one = absurd (omega arith)
refused_with b old new out out_new NoKeys files leaves is one = absurd (omega arith)
refused_with b old new out out_new (TooLong line) files leaves is one = absurd (omega arith)
refused_with b old new out out_new TooMany files leaves is one = absurd (omega arith)
refused_with b old new out out_new (TooLarge line) files leaves is one = absurd (omega arith)

part_of : {M : Type 0} (b : Building M) (old new : Option Files) {bytes text : List ℕ} → bytes ≡ text → IsPart b.named.function bytes old new → IsPart b.named.function text old new
part_of b old new is part = subst (λ (bytes : List ℕ). IsPart b.named.function bytes old new) is part

-- a build that could not write
pub written_part : {M : Type 0} (b : Building M) (old new : Outside) (stop : Stop) (files : Files) → Leaves b old.disk.files new.disk.files old.out.written new.out.written (Err stop) → KeepsOut old.out.written new.out.written stop → IsAllowedStop b.meaning.may_stop stop → IsOutCause old.out.faults new.out.faults stop
    → Says old.err new.err (message_of b.named b.dir stop) → old.disk.files ≡ Some files → status_of stop ≡ 5 → IsUnfinished b old new files
written_part b old new Memory files leaves same form count says is five = absurd (omega arith)
written_part b old new Read files leaves same form count says is five = absurd (omega arith)
written_part b old new Write files leaves same form count says is five =
    let made = leaves.2 files is in
    record { text = _; says = says; part = inl (made.0, outcome_saving b files made.0 made.2, part_of b old.disk.files new.disk.files made.1 leaves.1, same, count, refl) }
written_part b old new WriteOut files leaves same form count says is five =
    let refused = leaves.1 files is in
    let shown = refused.2.2 in
    let got = refused.2.3 in
    record { text = _; says = says; part = inr (inl (refused.2.0, refused.2.1, got.0, refused_outcome b files refused.0 _ refused.1 shown.is, got.1, leaves.0, count.1, refl)) }
written_part b old new (Refused failure) files leaves same form count says is five = absurd (omega arith)
written_part b old new (Changed first again) files leaves same form count says is five = absurd (omega arith)
written_part b old new Spill files leaves same form count says is five = record { text = _; says = says; part = inr (inr (form, leaves.0, same, count, refl)) }
written_part b old new (SpillDamaged offset expected found) files leaves same form count says is five = absurd (omega arith)
written_part b old new NoKeys files leaves same form count says is five = absurd (omega arith)
written_part b old new (TooLong line) files leaves same form count says is five = absurd (omega arith)
written_part b old new TooMany files leaves same form count says is five = absurd (omega arith)
written_part b old new (TooLarge line) files leaves same form count says is five = absurd (omega arith)

-- a build for which memory ran out
pub emptied : {M : Type 0} (b : Building M) (old new : Option Files) (out out_new : Option (List ℕ)) (stop : Stop) → Leaves b old new out out_new (Err stop) → status_of stop ≡ 6 → (new ≡ old) ⊎ IsEmptied b old new
emptied b old new out out_new Memory (inl same) six = inl same
emptied b old new out out_new Memory (inr left) six = inr (left.0, λ files is. let made = left.1 files is in (made.0, outcome_saving b files made.0 made.1))
emptied b old new out out_new Read leaves six = absurd (omega arith)
emptied b old new out out_new Write leaves six = absurd (omega arith)
emptied b old new out out_new WriteOut leaves six = absurd (omega arith)
emptied b old new out out_new (Refused failure) leaves six = absurd (omega arith)
emptied b old new out out_new (Changed first again) leaves six = absurd (omega arith)
emptied b old new out out_new Spill leaves six = absurd (omega arith)
emptied b old new out out_new (SpillDamaged offset expected found) leaves six = absurd (omega arith)
emptied b old new out out_new NoKeys leaves six = absurd (omega arith)
emptied b old new out out_new (TooLong line) leaves six = absurd (omega arith)
emptied b old new out out_new TooMany leaves six = absurd (omega arith)
emptied b old new out out_new (TooLarge line) leaves six = absurd (omega arith)

-- the status of a build that stopped is one of a build's
pub stop_status : {M : Type 0} (b : Building M) (stop : Stop) → has (frame_of b).statuses (status_of stop) ≡ true
stop_status b Memory = refl
stop_status b Read = refl
stop_status b Write = refl
stop_status b WriteOut = refl
stop_status b (Refused failure) = refl
stop_status b (Changed first again) = refl
stop_status b Spill = refl
stop_status b (SpillDamaged offset expected found) = refl
stop_status b NoKeys = refl
stop_status b (TooLong line) = refl
stop_status b TooMany = refl
stop_status b (TooLarge line) = refl

-- over known files it is not 7
pub stop_known : {M : Type 0} (b : Building M) (old new : Option Files) (out out_new : Option (List ℕ)) (stop : Stop) (files : Files) → Leaves b old new out out_new (Err stop) → old ≡ Some files → status_of stop ≢ 7
stop_known b old new out out_new Memory files leaves is seven = absurd (omega (arith, seven))
stop_known b old new out out_new Read files leaves is seven = absurd (omega (arith, seven))
stop_known b old new out out_new Write files leaves is seven = absurd (omega (arith, seven))
stop_known b old new out out_new WriteOut files leaves is seven = absurd (omega (arith, seven))
stop_known b old new out out_new (Refused failure) files leaves is seven = absurd (omega (arith, seven))
stop_known b old new out out_new (Changed first again) files leaves is seven = (leaves.1 files is).2
stop_known b old new out out_new Spill files leaves is seven = absurd (omega (arith, seven))
stop_known b old new out out_new (SpillDamaged offset expected found) files leaves is seven = (leaves.1 files is).2
stop_known b old new out out_new NoKeys files leaves is seven = absurd (omega (arith, seven))
stop_known b old new out out_new (TooLong line) files leaves is seven = absurd (omega (arith, seven))
stop_known b old new out out_new TooMany files leaves is seven = absurd (omega (arith, seven))
stop_known b old new out out_new (TooLarge line) files leaves is seven = absurd (omega (arith, seven))

-- the files are as they were, unless they could not be written or memory ran out
pub stop_kept : {M : Type 0} (b : Building M) (old new : Option Files) (out out_new : Option (List ℕ)) (stop : Stop) → Leaves b old new out out_new (Err stop) → status_of stop ≢ 5 → status_of stop ≢ 6 → new ≡ old
stop_kept b old new out out_new Memory leaves five six = absurd (six refl)
stop_kept b old new out out_new Read leaves five six = leaves.0
stop_kept b old new out out_new Write leaves five six = absurd (five refl)
stop_kept b old new out out_new WriteOut leaves five six = leaves.0
stop_kept b old new out out_new (Refused failure) leaves five six = leaves.0
stop_kept b old new out out_new (Changed first again) leaves five six = leaves.0
stop_kept b old new out out_new Spill leaves five six = leaves.0
stop_kept b old new out out_new (SpillDamaged offset expected found) leaves five six = leaves.0
stop_kept b old new out out_new NoKeys leaves five six = leaves.0
stop_kept b old new out out_new (TooLong line) leaves five six = leaves.0
stop_kept b old new out out_new TooMany leaves five six = leaves.0
stop_kept b old new out out_new (TooLarge line) leaves five six = leaves.0

-- and out is, unless there is a report
pub stop_quiet : (out out_new : Option (List ℕ)) (stop : Stop) → KeepsOut out out_new stop → status_of stop ≢ 1 → status_of stop ≢ 5 → out_new ≡ out
stop_quiet out out_new Memory same one five = same
stop_quiet out out_new Read same one five = same
stop_quiet out out_new Write same one five = same
stop_quiet out out_new WriteOut same one five = absurd (five refl)
stop_quiet out out_new (Refused failure) same one five = absurd (one refl)
stop_quiet out out_new (Changed first again) same one five = same
stop_quiet out out_new Spill same one five = same
stop_quiet out out_new (SpillDamaged offset expected found) same one five = same
stop_quiet out out_new NoKeys same one five = same
stop_quiet out out_new (TooLong line) same one five = same
stop_quiet out out_new TooMany same one five = same
stop_quiet out out_new (TooLarge line) same one five = same

-- what a build that stopped may leave
pub may_leave : {M : Type 0} (b : Building M) (old new : Outside) (stop : Stop) → Leaves b old.disk.files new.disk.files old.out.written new.out.written (Err stop) → KeepsOut old.out.written new.out.written stop → IsAllowedStop b.meaning.may_stop stop → IsOutCause old.out.faults new.out.faults stop
    → Says old.err new.err (message_of b.named b.dir stop) → MayLeave b old new (status_of stop)
may_leave b old new stop leaves same form count says = record {
  write = λ five files is. written_part b old new stop files leaves same form count says is five;
  memory = λ six. emptied b old.disk.files new.disk.files old.out.written new.out.written stop leaves six;
}
