-- From a fault of a builder to how its build stops, and what that leaves.
use Rattle.std.proofs.Common.{◌≡◌, ◌∙◌, ◌⊎◌, ℕ, List, [], Option, Some, Err, inl, inr, sym, subst, arith}
use Rattle.std.specs.Option.{ForSome}
use Rattle.cm_witness_gather.specs.declared.failure.SeedFailure.{SeedFailure}
use Rattle.cm_io.specs.Causes.{Collects}
use Rattle.cm_io.specs.Files.{Files, file_at, with_file}
use Rattle.cm_io.specs.declared.key_pass.KeyFault.TheVariants as key_fault
use Rattle.cm_tool_building.specs.Building.{Building, keys_of}
use Rattle.cm_tool_building.specs.Leaves.{GotReport, IsRefused, IsReported, IsStopCause, Leaves, MadeOf, StopsFor}
use Rattle.cm_tool_building.specs.Makes.{IsAllowedFault, IsAllowedStop, IsMakeCause, RefusesBy}
use Rattle.cm_tool_building.specs.declared.fault.Fault.{Fault}
use Rattle.cm_tool_building.specs.declared.fault.Fault.TheVariants as made_fault
use Rattle.cm_tool_stops.specs.EndLaws.{collected}
use Rattle.cm_tool_stops.specs.declared.stop.Stop.TheVariants.{Memory, Read, Write, WriteOut, Refused, Changed, Spill, SpillDamaged, NoKeys, TooLong, TooMany, TooLarge}
use Rattle.cm_tool_stops.specs.declared.stop.Stop.{Stop}

-- out got the report on keys of which nothing is made
reported : {M : Type 0} (b : Building M) (files : Files) (bytes : List ℕ) (failure : SeedFailure) (report : List ℕ) (old new : Option (List ℕ)) (stop : Stop) → file_at files b.named.keys ≡ Some bytes → IsReported b (keys_of b bytes) failure report → GotReport failure report old new stop → IsRefused b files old new stop
reported b files bytes failure report old new Memory there is got = absurd got
reported b files bytes failure report old new Read there is got = absurd got
reported b files bytes failure report old new Write there is got = absurd got
reported b files bytes failure report old new WriteOut there is got = (bytes, there, (failure, report, is, got))
reported b files bytes failure report old new (Refused other) there is got = (bytes, there, (report, subst (λ (f : SeedFailure). IsReported b (keys_of b bytes) f report) (sym got.0) is, got.1))
reported b files bytes failure report old new (Changed first again) there is got = absurd got
reported b files bytes failure report old new Spill there is got = absurd got
reported b files bytes failure report old new (SpillDamaged offset expected found) there is got = absurd got
reported b files bytes failure report old new NoKeys there is got = absurd got
reported b files bytes failure report old new (TooLong line) there is got = absurd got
reported b files bytes failure report old new TooMany there is got = absurd got
reported b files bytes failure report old new (TooLarge line) there is got = absurd got

-- a fault over the keys of a file that is there
pub refused_from : {M R : Type 0} (b : Building M) (report_of : R → List ℕ) (files : Files) (bytes : List ℕ) (fault : Fault R) (old new : Option (List ℕ)) (stop : Stop) → file_at files b.named.keys ≡ Some bytes
    → RefusesBy report_of b.meaning (keys_of b bytes) fault → StopsFor report_of fault old new stop → IsRefused b files old new stop
refused_from b report_of files bytes made_fault.Memory old new stop there refuses stops = rw stops.0 tt
refused_from b report_of files bytes made_fault.NoKeys old new stop there refuses stops = rw stops.0 (bytes, there, refuses)
refused_from b report_of files bytes (made_fault.Refused failure report) old new stop there refuses stops =
    reported b files bytes failure (report_of report) old new stop there (record { is = refuses.0; reports = refuses.1 }) stops
refused_from b report_of files bytes (made_fault.Key key_fault.Read) old new stop there refuses stops = rw stops.0 tt
refused_from b report_of files bytes (made_fault.Key (key_fault.TooLong line)) old new stop there refuses stops = rw stops.0 (bytes, there, refuses)
refused_from b report_of files bytes (made_fault.Key key_fault.TooMany) old new stop there refuses stops = rw stops.0 (bytes, there, refuses)
refused_from b report_of files bytes (made_fault.TooLarge line) old new stop there refuses stops = rw stops.0 (bytes, there, refuses)
refused_from b report_of files bytes (made_fault.Changed first again) old new stop there refuses stops = absurd refuses
refused_from b report_of files bytes made_fault.Spill old new stop there refuses stops = rw stops.0 (bytes, there, tt)
refused_from b report_of files bytes (made_fault.SpillDamaged offset expected found) old new stop there refuses stops = absurd refuses

-- what a stop for a report has
shown_form : (may_stop : Stop → Type 0) (failure : SeedFailure) (report : List ℕ) (old new : Option (List ℕ)) (stop : Stop) → may_stop (Refused failure) → GotReport failure report old new stop → IsAllowedStop may_stop stop
shown_form may_stop failure report old new Memory may got = tt
shown_form may_stop failure report old new Read may got = tt
shown_form may_stop failure report old new Write may got = tt
shown_form may_stop failure report old new WriteOut may got = tt
shown_form may_stop failure report old new (Refused other) may got = rw got.0 may
shown_form may_stop failure report old new (Changed first again) may got = absurd got
shown_form may_stop failure report old new Spill may got = absurd got
shown_form may_stop failure report old new (SpillDamaged offset expected found) may got = absurd got
shown_form may_stop failure report old new NoKeys may got = tt
shown_form may_stop failure report old new (TooLong line) may got = tt
shown_form may_stop failure report old new TooMany may got = tt
shown_form may_stop failure report old new (TooLarge line) may got = absurd got

-- and what any stop has
pub stop_form : {R : Type 0} (may_stop : Stop → Type 0) (report_of : R → List ℕ) (fault : Fault R) (old new : Option (List ℕ)) (stop : Stop) → IsAllowedFault may_stop fault → StopsFor report_of fault old new stop → IsAllowedStop may_stop stop
stop_form may_stop report_of made_fault.Memory old new stop form stops = rw stops.0 form
stop_form may_stop report_of made_fault.NoKeys old new stop form stops = rw stops.0 form
stop_form may_stop report_of (made_fault.Refused failure report) old new stop form stops = shown_form may_stop failure (report_of report) old new stop form stops
stop_form may_stop report_of (made_fault.Key key_fault.Read) old new stop form stops = rw stops.0 form
stop_form may_stop report_of (made_fault.Key (key_fault.TooLong line)) old new stop form stops = rw stops.0 form
stop_form may_stop report_of (made_fault.Key key_fault.TooMany) old new stop form stops = rw stops.0 form
stop_form may_stop report_of (made_fault.TooLarge line) old new stop form stops = rw stops.0 form
stop_form may_stop report_of (made_fault.Changed first again) old new stop form stops = rw stops.0 form
stop_form may_stop report_of made_fault.Spill old new stop form stops = rw stops.0 form
stop_form may_stop report_of (made_fault.SpillDamaged offset expected found) old new stop form stops = rw stops.0 form

-- a build that was refused leaves the files as they were
pub leaves_refused : {M : Type 0} (b : Building M) (old new : Option Files) (out_old out_new : Option (List ℕ)) (stop : Stop) → new ≡ old → ForSome old (λ files. IsRefused b files out_old out_new stop) → Leaves b old new out_old out_new (Err stop)
leaves_refused b old new out_old out_new Memory same refused = inl same
leaves_refused b old new out_old out_new Read same refused = (same, refused)
leaves_refused b old new out_old out_new Write same refused = ([], inl same, λ files is. absurd ((refused files is).2))
leaves_refused b old new out_old out_new WriteOut same refused = (same, refused)
leaves_refused b old new out_old out_new (Refused failure) same refused = (same, refused)
leaves_refused b old new out_old out_new (Changed first again) same refused = (same, refused)
leaves_refused b old new out_old out_new Spill same refused = (same, refused)
leaves_refused b old new out_old out_new (SpillDamaged offset expected found) same refused = (same, refused)
leaves_refused b old new out_old out_new NoKeys same refused = (same, refused)
leaves_refused b old new out_old out_new (TooLong line) same refused = (same, refused)
leaves_refused b old new out_old out_new TooMany same refused = (same, refused)
leaves_refused b old new out_old out_new (TooLarge line) same refused = (same, refused)

-- which counts of the disk a stop for a report has raised: none
shown_cause : (failure : SeedFailure) (report : List ℕ) (old new : Option (List ℕ)) (stop : Stop) (r r_now w w_now : ℕ) → GotReport failure report old new stop → r_now ≡ r → w_now ≡ w → IsStopCause r r_now w w_now stop
shown_cause failure report old new Memory r r_now w w_now got read wrote = (read, wrote)
shown_cause failure report old new Read r r_now w w_now got read wrote = absurd got
shown_cause failure report old new Write r r_now w w_now got read wrote = absurd got
shown_cause failure report old new WriteOut r r_now w w_now got read wrote = (read, wrote)
shown_cause failure report old new (Refused other) r r_now w w_now got read wrote = (read, wrote)
shown_cause failure report old new (Changed first again) r r_now w w_now got read wrote = (read, wrote)
shown_cause failure report old new Spill r r_now w w_now got read wrote = absurd got
shown_cause failure report old new (SpillDamaged offset expected found) r r_now w w_now got read wrote = (read, wrote)
shown_cause failure report old new NoKeys r r_now w w_now got read wrote = (read, wrote)
shown_cause failure report old new (TooLong line) r r_now w w_now got read wrote = (read, wrote)
shown_cause failure report old new TooMany r r_now w w_now got read wrote = (read, wrote)
shown_cause failure report old new (TooLarge line) r r_now w w_now got read wrote = (read, wrote)

-- and any stop, once the reader of the keys was handed back
cause_of : {R : Type 0} (report_of : R → List ℕ) (fault : Fault R) (old new : Option (List ℕ)) (stop : Stop) (count count_now r middle r_now w w_now : ℕ) → StopsFor report_of fault old new stop → IsMakeCause count count_now w w_now fault → count ≡ 0 → Collects count_now middle r_now → middle ≡ r
    → IsStopCause r r_now w w_now stop
cause_of report_of made_fault.Memory old new stop count count_now r middle r_now w w_now stops cause fresh back same = rw stops.0 (back.none (cause.0 ∙ fresh) ∙ same, cause.1)
cause_of report_of made_fault.NoKeys old new stop count count_now r middle r_now w w_now stops cause fresh back same = rw stops.0 (back.none (cause.0 ∙ fresh) ∙ same, cause.1)
cause_of report_of (made_fault.Refused failure report) old new stop count count_now r middle r_now w w_now stops cause fresh back same =
    shown_cause failure (report_of report) old new stop r r_now w w_now stops (back.none (cause.0 ∙ fresh) ∙ same) cause.1
cause_of report_of (made_fault.Key key_fault.Read) old new stop count count_now r middle r_now w w_now stops cause fresh back same =
    rw stops.0 (omega (arith, back.later, same), collected count count_now r middle r_now cause.0 fresh back same, cause.1)
cause_of report_of (made_fault.Key (key_fault.TooLong line)) old new stop count count_now r middle r_now w w_now stops cause fresh back same = rw stops.0 (back.none (cause.0 ∙ fresh) ∙ same, cause.1)
cause_of report_of (made_fault.Key key_fault.TooMany) old new stop count count_now r middle r_now w w_now stops cause fresh back same = rw stops.0 (back.none (cause.0 ∙ fresh) ∙ same, cause.1)
cause_of report_of (made_fault.TooLarge line) old new stop count count_now r middle r_now w w_now stops cause fresh back same = rw stops.0 (back.none (cause.0 ∙ fresh) ∙ same, cause.1)
cause_of report_of (made_fault.Changed first again) old new stop count count_now r middle r_now w w_now stops cause fresh back same = rw stops.0 (back.none (cause.0 ∙ fresh) ∙ same, cause.1)
cause_of report_of made_fault.Spill old new stop count count_now r middle r_now w w_now stops cause fresh back same = rw stops.0 (back.none (cause.0 ∙ fresh) ∙ same, cause.1, cause.2)
cause_of report_of (made_fault.SpillDamaged offset expected found) old new stop count count_now r middle r_now w w_now stops cause fresh back same = rw stops.0 (back.none (cause.0 ∙ fresh) ∙ same, cause.1)

-- and the file was opened before
pub stop_cause : {R : Type 0} (report_of : R → List ℕ) (fault : Fault R) (old new : Option (List ℕ)) (stop : Stop) (count count_now r middle r_now w opened built w_now : ℕ) → StopsFor report_of fault old new stop → IsMakeCause count count_now opened built fault → count ≡ 0 → Collects count_now middle r_now → middle ≡ r → opened ≡ w → w_now ≡ built
    → IsStopCause r r_now w w_now stop
stop_cause {R = R} report_of fault old new stop count count_now r middle r_now w opened built w_now stops cause fresh back same before after =
    let moved = subst (λ (n : ℕ). IsMakeCause {R = R} count count_now n built fault) before cause in
    subst (λ (n : ℕ). IsStopCause r r_now w n stop) (sym after) (cause_of report_of fault old new stop count count_now r middle r_now w built stops moved fresh back same)

-- and one that made something whose file can't be created for memory
pub leaves_created : {M : Type 0} (b : Building M) (old new : Option Files) (out_old out_new : Option (List ℕ)) (made : M) → (new ≡ old) ⊎ (new ≡ with_file b.named.function [] old) → ForSome old (λ files. MadeOf b files made) → Leaves b old new out_old out_new (Err Memory)
leaves_created b old new out_old out_new made (inl same) of = inl same
leaves_created b old new out_old out_new made (inr empty) of = inr (empty, λ files is. (made, of files is))
