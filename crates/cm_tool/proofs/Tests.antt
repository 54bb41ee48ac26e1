-- From the tests of algorithms to the outcome of a test.
use Rattle.std.proofs.Common.{◌≡◌, ◌≢◌, ◌∙◌, ◌⊎◌, ℕ, ◌+◌, ◌^◌, ◌<◌, ◌≤◌, List, [], ◌∷◌, ◌++◌, length, take, Option, None, Some, Result, Ok, Err, inl, inr, refl, ap, sym, subst, arith, append-nil, append_assoc, lit<, true}
use Rattle.cm_algo_names.specs.declared.algorithm.Algorithm.{Algorithm}
use Rattle.cm_algo_names.specs.declared.algorithm.Algorithm.TheVariants.{Chm, Bdz, BdzPh, Brz}
use Rattle.cm_dump.specs.Dumps.{dump_of}
use Rattle.cm_func.specs.Functions.{answer_by}
use Rattle.cm_func.specs.declared.function.Func.{Func}
use Rattle.cm_keys.specs.Lines.{lines_of}
use Rattle.cm_keys.specs.declared.keys.TheConstants.{LINE_END}
use Rattle.cm_keys_made.specs.Numbered.{AreMade}
use Rattle.cm_keys_made.specs.Texts.{made_text}
use Rattle.cm_words_values.specs.Options.{algorithms, usual_ratio}
use Rattle.cm_io.specs.Files.{Files}
use Rattle.cm_io.specs.Passes.{HasKeyCause}
use Rattle.cm_io.specs.States.{DiskState, IsSent, Outside, SinkState, outside}
use Rattle.cm_io.specs.Writing.{then_bytes}
use Rattle.cm_io.specs.WritingLaws.{front_of_first, later_front, then_nothing, then_twice}
use Rattle.cm_io.specs.declared.key_pass.KeyFault.{KeyFault}
use Rattle.cm_io.specs.declared.key_pass.KeyFault.TheVariants as key_fault
use Rattle.cm_io.specs.declared.key_pass.TheConstants.{MAX_KEY_LEN}
use Rattle.cm_spec.specs.declared.limits.TheConstants.{MAX_KEYS}
use Rattle.cm_query_batch.specs.Stops.{StopsAt}
use Rattle.cm_query.specs.Sums.{answer_sum}
use Rattle.cm_query_batch.specs.declared.fault.QueryFault.TheVariants.{Key}
use Rattle.cm_tool_stops.specs.Ends.{Says, message_of, status_of}
use Rattle.cm_tool_stops.specs.declared.stop.Stop.TheVariants.{Memory, Read, Write, WriteOut, Refused, Changed, Spill, SpillDamaged, NoKeys, TooLong, TooMany, TooLarge}
use Rattle.cm_tool_stops.specs.declared.stop.Stop.{Stop}
use Rattle.cm_tool_builds.specs.Faults.{FailsFunc, HasFuncCause, HasFuncForm, IsSeedFailureBy, UsesSpill, shown_core, shown_overfull}
use Rattle.cm_tool_cells.specs.Seeds.{seeds_of}
use Rattle.cm_tool_builds.specs.FuncOf.{IsFuncOf}
use Rattle.cm_tool_building.specs.Leaves.{GotReport, IsOutCause, KeepsOut}
use Rattle.cm_tool.specs.Building.{StopsFor}
use Rattle.cm_tool.specs.Ending.{Outcome, printing, reporting}
use Rattle.cm_spec.specs.Lists.{has}
use Rattle.cm_tool_stops.specs.Ending.{Reaches}
use Rattle.cm_tool.specs.Spills.{TestSpilled, TestsSpilled}
use Rattle.cm_tool.specs.TestEnds.{EndsTest, FailsTest, GotPrefix, HasTestForm, IsUnfinishedTest, MayLeave, StopsSpilling, test_frame, test_name}
use Rattle.cm_tool.specs.Tested as tested
use Rattle.cm_tool.specs.Tested.{line_text, test_plan, tested_by, tested_then, usual_b}
use Rattle.cm_tool_builds.specs.Results.{FailureReport}
use Rattle.cm_tool_builds.specs.declared.fault.FuncFault.{FuncFault}
use Rattle.cm_tool_builds.specs.declared.fault.FuncFault.TheVariants as func_fault
use Rattle.cm_tool_builds.specs.declared.plan.Plan.{Plan}
use Rattle.cm_tool.specs.Said.{cmph, naming}
use Rattle.cm_tool_stops.specs.Messages.{seed_failure_message}
use Rattle.cm_tool.proofs.Printing.{nothing_said}
use Rattle.cm_words.specs.declared.jobs.TestJob.{TestJob}

-- out got nothing of a text
pub got_nothing : (text : List ℕ) (old new : Option (List ℕ)) → new ≡ old → GotPrefix text old new
got_nothing text old new same = (0, same ∙ then_nothing old)

-- why keys that never change and have no fault have no function
pub fails_test : (job : TestJob) (algorithm : Algorithm) (fault : FuncFault) (k k' w w' : ℕ) → AreMade job.keys (tested.generated job.keys) → 1 ≤ job.keys → k ≡ 0 → 0 ≡ k' → HasFuncCause {T = Func} k k' w w' (Err fault)
    → FailsFunc algorithm (usual_b algorithm) (tested.generated job.keys) (usual_ratio algorithm) (seeds_of job.seed job.count) fault → FailsTest job algorithm fault
unfolding tested.test_result
fails_test job algorithm func_fault.Memory k k' w w' made some start end cause fails = tt
fails_test job algorithm func_fault.NoKeys k k' w w' made some start end cause fails = absurd (omega (arith, ap length fails.1, made.many, some))
fails_test job algorithm (func_fault.Cored shown) k k' w w' made some start end cause fails = fails.result_is
fails_test job algorithm (func_fault.Overfull seed bucket count equal) k k' w w' made some start end cause fails = fails.result_is
fails_test job algorithm (func_fault.Key key_fault.Read) k k' w w' made some start end cause fails = let low : k < 2 ^ 63 = omega (arith, start) in absurd (omega (arith, cause.0.1 low, start, end))
fails_test job algorithm (func_fault.Key (key_fault.TooLong line)) k k' w w' made some start end cause fails = let fine = made.fine in absurd (cc)
fails_test job algorithm (func_fault.Key key_fault.TooMany) k k' w w' made some start end cause fails = let fine = made.fine in absurd (cc)
fails_test job algorithm (func_fault.Changed first again) k k' w w' made some start end cause fails = fails
fails_test job algorithm func_fault.Spill k k' w w' made some start end cause fails = tt
fails_test job algorithm (func_fault.SpillDamaged offset expected found) k k' w w' made some start end cause fails = fails

-- a report ends a test
report_ends : (files : Files) (shown : FailureReport) (old new : Option (List ℕ)) (stop : Stop) → GotReport shown.failure shown.report old new stop → EndsTest (reporting files shown) old new (Err stop)
report_ends files shown old new Memory got = absurd got
report_ends files shown old new Read got = absurd got
report_ends files shown old new Write got = absurd got
report_ends files shown old new WriteOut got = got
report_ends files shown old new (Refused failure) got = (refl, ap (seed_failure_message cmph) (sym got.0), got.1)
report_ends files shown old new (Changed first again) got = absurd got
report_ends files shown old new Spill got = absurd got
report_ends files shown old new (SpillDamaged offset expected found) got = absurd got
report_ends files shown old new NoKeys got = absurd got
report_ends files shown old new (TooLong line) got = absurd got
report_ends files shown old new TooMany got = absurd got
report_ends files shown old new (TooLarge line) got = absurd got

-- by the result on an algorithm
by_result : (job : TestJob) (algorithm : Algorithm) (files : Files) (v : Result Func FailureReport) (old new : Option (List ℕ)) (r : Result (Unit {0}) Stop) → tested.test_result job algorithm ≡ v → EndsTest (tested_then job algorithm files v (printing [] files)) old new r
    → EndsTest (tested_by job files (algorithm ∷ [])) old new r
by_result job algorithm files v old new r is ends = subst (λ (w : Result Func FailureReport). EndsTest (tested_then job algorithm files w (printing [] files)) old new r) (sym is) ends

shown_ends : (job : TestJob) (algorithm : Algorithm) (files : Files) (shown : FailureReport) (old new : Option (List ℕ)) (stop : Stop) → tested.test_result job algorithm ≡ Err shown → GotReport shown.failure shown.report old new stop → EndsTest (tested_by job files (algorithm ∷ [])) old new (Err stop)
shown_ends job algorithm files shown old new stop result_is got = by_result job algorithm files (Err shown) old new (Err stop) result_is (report_ends files shown old new stop got)

-- and so does any fault of a build
pub fault_ends : (job : TestJob) (algorithm : Algorithm) (files : Files) (fault : FuncFault) (old new : Option (List ℕ)) (stop : Stop) → FailsTest job algorithm fault → StopsFor fault old new stop → EndsTest (tested_by job files (algorithm ∷ [])) old new (Err stop)
fault_ends job algorithm files func_fault.Memory old new stop fails stops = rw stops.0 (got_nothing (tested_by job files (algorithm ∷ [])).out old new stops.1)
fault_ends job algorithm files func_fault.NoKeys old new stop fails stops = absurd fails
fault_ends job algorithm files (func_fault.Cored made) old new stop fails stops = shown_ends job algorithm files (shown_core made) old new stop fails stops
fault_ends job algorithm files (func_fault.Overfull seed bucket count equal) old new stop fails stops = shown_ends job algorithm files (shown_overfull seed bucket count equal.items) old new stop fails stops
fault_ends job algorithm files (func_fault.Key fault) old new stop fails stops = absurd fails
fault_ends job algorithm files (func_fault.Changed first again) old new stop fails stops = absurd fails
fault_ends job algorithm files func_fault.Spill old new stop fails stops = rw stops.0 (got_nothing (tested_by job files (algorithm ∷ [])).out old new stops.1)
fault_ends job algorithm files (func_fault.SpillDamaged offset expected found) old new stop fails stops = absurd fails

-- what such a stop has, whether the files are known or not
report_form : (algorithm : Algorithm) (shown : FailureReport) (old new : Option (List ℕ)) (stop : Stop) → IsSeedFailureBy algorithm shown.failure → GotReport shown.failure shown.report old new stop → HasTestForm algorithm stop
report_form algorithm shown old new Memory failure got = tt
report_form algorithm shown old new Read failure got = got
report_form algorithm shown old new Write failure got = got
report_form algorithm shown old new WriteOut failure got = tt
report_form algorithm shown old new (Refused other) failure got = rw got.0 failure
report_form algorithm shown old new (Changed first again) failure got = absurd got
report_form algorithm shown old new Spill failure got = absurd got
report_form algorithm shown old new (SpillDamaged offset expected found) failure got = absurd got
report_form algorithm shown old new NoKeys failure got = tt
report_form algorithm shown old new (TooLong line) failure got = tt
report_form algorithm shown old new TooMany failure got = tt
report_form algorithm shown old new (TooLarge line) failure got = absurd got

pub test_form : (algorithm : Algorithm) (fault : FuncFault) (w w' : ℕ) (old new : Option (List ℕ)) (stop : Stop) → HasFuncCause {T = Func} 0 0 w w' (Err fault) → HasFuncForm algorithm fault → StopsFor fault old new stop → HasTestForm algorithm stop
test_form algorithm func_fault.Memory w w' old new stop cause form stops = rw stops.0 tt
test_form algorithm func_fault.NoKeys w w' old new stop cause form stops = rw stops.0 tt
test_form algorithm (func_fault.Cored made) w w' old new stop cause form stops = report_form algorithm (shown_core made) old new stop form stops
test_form algorithm (func_fault.Overfull seed bucket count equal) w w' old new stop cause form stops = report_form algorithm (shown_overfull seed bucket count equal.items) old new stop form stops
test_form algorithm (func_fault.Key key_fault.Read) w w' old new stop cause form stops = absurd (omega (arith, cause.0.1 (lit< tt)))
test_form algorithm (func_fault.Key (key_fault.TooLong line)) w w' old new stop cause form stops = rw stops.0 tt
test_form algorithm (func_fault.Key key_fault.TooMany) w w' old new stop cause form stops = rw stops.0 tt
test_form algorithm (func_fault.Changed first again) w w' old new stop cause form stops = rw stops.0 form
test_form algorithm func_fault.Spill w w' old new stop cause form stops = rw stops.0 form
test_form algorithm (func_fault.SpillDamaged offset expected found) w w' old new stop cause form stops = rw stops.0 form

-- the line of a function, by its parts
line_by : (job : TestJob) (algorithm : Algorithm) (f : Func) (bytes sum : ℕ) → bytes ≡ length (dump_of f) → sum ≡ answer_sum (answer_by f) (tested.generated job.keys).keys
    → line_text algorithm job.keys bytes sum ≡ tested.test_line algorithm job.keys f (tested.generated job.keys).keys
unfolding tested.test_line
line_by job algorithm f bytes sum bytes_are sum_is = rw (bytes_are, sum_is) refl

-- an algorithm came to its end, and out got its line
pub line_ends : (job : TestJob) (algorithm : Algorithm) (files : Files) (f : Func) (bytes sum : ℕ) (old new : Option (List ℕ)) → tested.test_result job algorithm ≡ Ok f → bytes ≡ length (dump_of f) → sum ≡ answer_sum (answer_by f) (tested.generated job.keys).keys
    → new ≡ then_bytes old (line_text algorithm job.keys bytes sum) → EndsTest (tested_by job files (algorithm ∷ [])) old new (Ok tt)
line_ends job algorithm files f bytes sum old new result_is bytes_are sum_is wrote =
    by_result job algorithm files (Ok f) old new (Ok tt) result_is (refl, refl, wrote ∙ ap (then_bytes old) (line_by job algorithm f bytes sum bytes_are sum_is ∙ sym (append-nil (tested.test_line algorithm job.keys f (tested.generated job.keys).keys))))

-- out failed, and got a prefix of the line
pub line_cut : (job : TestJob) (algorithm : Algorithm) (files : Files) (f : Func) (bytes sum n : ℕ) (old new : Option (List ℕ)) → tested.test_result job algorithm ≡ Ok f → bytes ≡ length (dump_of f) → sum ≡ answer_sum (answer_by f) (tested.generated job.keys).keys
    → new ≡ then_bytes old (take n (line_text algorithm job.keys bytes sum)) → EndsTest (tested_by job files (algorithm ∷ [])) old new (Err WriteOut)
line_cut job algorithm files f bytes sum n old new result_is bytes_are sum_is wrote =
    by_result job algorithm files (Ok f) old new (Err WriteOut) result_is (n, wrote ∙ ap (λ (t : List ℕ). then_bytes old (take n t)) (line_by job algorithm f bytes sum bytes_are sum_is ∙ sym (append-nil (tested.test_line algorithm job.keys f (tested.generated job.keys).keys))))

-- what comes after a line
after_line : (line : List ℕ) (o : Outcome) (old mid new : Option (List ℕ)) (r : Result (Unit {0}) Stop) → mid ≡ then_bytes old line → EndsTest o mid new r → EndsTest (record o { out = line ++ o.out }) old new r
after_line line o old mid new (Ok _) first ends = (ends.0, ends.1, ends.2 ∙ ap (λ (w : Option (List ℕ)). then_bytes w o.out) first ∙ then_twice old line o.out)
after_line line o old mid new (Err Memory) first ends = (length line + ends.0, later_front old mid new line o.out ends.0 first ends.1)
after_line line o old mid new (Err Read) first ends = absurd ends
after_line line o old mid new (Err Write) first ends = absurd ends
after_line line o old mid new (Err WriteOut) first ends = (length line + ends.0, later_front old mid new line o.out ends.0 first ends.1)
after_line line o old mid new (Err (Refused failure)) first ends = (ends.0, ends.1, ends.2 ∙ ap (λ (w : Option (List ℕ)). then_bytes w o.out) first ∙ then_twice old line o.out)
after_line line o old mid new (Err (Changed before again)) first ends = absurd ends
after_line line o old mid new (Err Spill) first ends = (length line + ends.0, later_front old mid new line o.out ends.0 first ends.1)
after_line line o old mid new (Err (SpillDamaged offset expected found)) first ends = absurd ends
after_line line o old mid new (Err NoKeys) first ends = absurd ends
after_line line o old mid new (Err (TooLong at)) first ends = absurd ends
after_line line o old mid new (Err TooMany) first ends = absurd ends
after_line line o old mid new (Err (TooLarge at)) first ends = absurd ends

-- an algorithm that came to its end, and what the next ones come to
next_by : (job : TestJob) (algorithm : Algorithm) (files : Files) (v : Result Func FailureReport) (o : Outcome) (old mid new : Option (List ℕ)) (r : Result (Unit {0}) Stop)
    → EndsTest (tested_then job algorithm files v (printing [] files)) old mid (Ok tt) → EndsTest o mid new r → EndsTest (tested_then job algorithm files v o) old new r
next_by job algorithm files (Ok f) o old mid new r first ends =
    let line = tested.test_line algorithm job.keys f (tested.generated job.keys).keys in
    after_line line o old mid new r (first.2 ∙ ap (then_bytes old) (append-nil line)) ends
next_by job algorithm files (Err shown) o old mid new r first ends = absurd (omega (arith, first.0))

pub next_ends : (job : TestJob) (algorithm : Algorithm) (next : List Algorithm) (files : Files) (old mid new : Option (List ℕ)) (r : Result (Unit {0}) Stop)
    → EndsTest (tested_by job files (algorithm ∷ [])) old mid (Ok tt) → EndsTest (tested_by job files next) mid new r → EndsTest (tested_by job files (algorithm ∷ next)) old new r
next_ends job algorithm next files old mid new r first ends = next_by job algorithm files (tested.test_result job algorithm) (tested_by job files next) old mid new r first ends

-- a prefix of a line is one of a longer text
longer : (line more : List ℕ) (old new : Option (List ℕ)) → GotPrefix (line ++ []) old new → GotPrefix (line ++ more) old new
longer line more old new got = front_of_first old new line more got.0 (got.1 ∙ ap (λ (t : List ℕ). then_bytes old (take got.0 t)) (append-nil line))

-- an algorithm that stopped
stop_by : (job : TestJob) (algorithm : Algorithm) (files : Files) (v : Result Func FailureReport) (o : Outcome) (old new : Option (List ℕ)) (stop : Stop)
    → EndsTest (tested_then job algorithm files v (printing [] files)) old new (Err stop) → EndsTest (tested_then job algorithm files v o) old new (Err stop)
stop_by job algorithm files (Err shown) o old new stop ends = ends
stop_by job algorithm files (Ok f) o old new Memory ends = longer (tested.test_line algorithm job.keys f (tested.generated job.keys).keys) o.out old new ends
stop_by job algorithm files (Ok f) o old new Read ends = absurd ends
stop_by job algorithm files (Ok f) o old new Write ends = absurd ends
stop_by job algorithm files (Ok f) o old new WriteOut ends = longer (tested.test_line algorithm job.keys f (tested.generated job.keys).keys) o.out old new ends
stop_by job algorithm files (Ok f) o old new (Refused failure) ends = absurd (omega (arith, ends.0))
stop_by job algorithm files (Ok f) o old new (Changed first again) ends = absurd ends
stop_by job algorithm files (Ok f) o old new Spill ends = longer (tested.test_line algorithm job.keys f (tested.generated job.keys).keys) o.out old new ends
stop_by job algorithm files (Ok f) o old new (SpillDamaged offset expected found) ends = absurd ends
stop_by job algorithm files (Ok f) o old new NoKeys ends = absurd ends
stop_by job algorithm files (Ok f) o old new (TooLong line) ends = absurd ends
stop_by job algorithm files (Ok f) o old new TooMany ends = absurd ends
stop_by job algorithm files (Ok f) o old new (TooLarge line) ends = absurd ends

pub stop_ends : (job : TestJob) (algorithm : Algorithm) (next : List Algorithm) (files : Files) (old new : Option (List ℕ)) (stop : Stop)
    → EndsTest (tested_by job files (algorithm ∷ [])) old new (Err stop) → EndsTest (tested_by job files (algorithm ∷ next)) old new (Err stop)
stop_ends job algorithm next files old new stop ends = stop_by job algorithm files (tested.test_result job algorithm) (tested_by job files next) old new stop ends

-- one algorithm more, and those after it
pub one_more : (all : List Algorithm) (i : ℕ) (algorithm : Algorithm) (next : List Algorithm) → take (i + 1) all ≡ take i all ++ algorithm ∷ [] → take (i + 1) all ++ next ≡ take i all ++ algorithm ∷ next
one_more all i algorithm next more = ap (λ (l : List Algorithm). l ++ next) more ∙ append_assoc (take i all) (algorithm ∷ []) next

-- an algorithm whose spill failed, after others that came to their end
pub stops_spilling : (job : TestJob) (files : Files) (all first : List Algorithm) (algorithm : Algorithm) (next : List Algorithm) (old mid new : Option (List ℕ)) (stop : Stop) → all ≡ first ++ algorithm ∷ next → HasTestForm algorithm stop → KeepsOut mid new stop
    → EndsTest (tested_by job files first) old mid (Ok tt) → StopsSpilling job files all old new stop
stops_spilling job files all first algorithm next old mid new Memory is form same ends = tt
stops_spilling job files all first algorithm next old mid new Read is form same ends = tt
stops_spilling job files all first algorithm next old mid new Write is form same ends = tt
stops_spilling job files all first algorithm next old mid new WriteOut is form same ends = tt
stops_spilling job files all first algorithm next old mid new (Refused failure) is form same ends = tt
stops_spilling job files all first algorithm next old mid new (Changed before again) is form same ends = tt
stops_spilling job files all first algorithm next old mid new Spill is form same ends = (first, algorithm, next, form, is, subst (λ (w : Option (List ℕ)). EndsTest (tested_by job files first) old w (Ok tt)) (sym same) ends)
stops_spilling job files all first algorithm next old mid new (SpillDamaged offset expected found) is form same ends = tt
stops_spilling job files all first algorithm next old mid new NoKeys is form same ends = tt
stops_spilling job files all first algorithm next old mid new (TooLong line) is form same ends = tt
stops_spilling job files all first algorithm next old mid new TooMany is form same ends = tt
stops_spilling job files all first algorithm next old mid new (TooLarge line) is form same ends = tt

-- BRZ alone has a spill, and the others are tried before it
before_brz : (first : List Algorithm) (algorithm : Algorithm) (next : List Algorithm) → UsesSpill algorithm → algorithms ≡ first ++ algorithm ∷ next → first ≡ Chm ∷ Bdz ∷ BdzPh ∷ []
before_brz first Chm next spill is = absurd spill
before_brz first Bdz next spill is = absurd spill
before_brz first BdzPh next spill is = absurd spill
before_brz [] Brz next spill is = absurd (cc)
before_brz (a ∷ []) Brz next spill is = absurd (cc)
before_brz (a ∷ b ∷ []) Brz next spill is = absurd (cc)
before_brz (a ∷ b ∷ d ∷ []) Brz next spill is = cc
before_brz (a ∷ b ∷ d ∷ e ∷ []) Brz next spill is = absurd (cc)
before_brz (a ∷ b ∷ d ∷ e ∷ f ∷ more) Brz next spill is = absurd (cc)

-- a test leaves the files as they were
then_files : (job : TestJob) (algorithm : Algorithm) (files : Files) (v : Result Func FailureReport) (o : Outcome) → o.files ≡ files → (tested_then job algorithm files v o).files ≡ files
then_files job algorithm files (Ok f) o same = same
then_files job algorithm files (Err shown) o same = refl

tested_files : (job : TestJob) (files : Files) (algorithms : List Algorithm) → (tested_by job files algorithms).files ≡ files
tested_files job files [] = refl
tested_files job files (algorithm ∷ next) = then_files job algorithm files (tested.test_result job algorithm) (tested_by job files next) (tested_files job files next)

-- a test that stopped
outcome_stopped : (o : Outcome) (files : Files) (stop : Stop) (old new : Outside) (dir : List ℕ) → o.files ≡ files → EndsTest o old.out.written new.out.written (Err stop)
    → Says old.err new.err (message_of (naming test_name []) dir stop) → status_of stop ≢ 5 → status_of stop ≢ 6 → new.disk.files ≡ Some files → Reaches old new (Some o) (status_of stop)
outcome_stopped o files Memory old new dir same ends says a b left = absurd (b refl)
outcome_stopped o files Read old new dir same ends says a b left = absurd ends
outcome_stopped o files Write old new dir same ends says a b left = absurd ends
outcome_stopped o files WriteOut old new dir same ends says a b left = absurd (a refl)
outcome_stopped o files (Refused failure) old new dir same ends says a b left = record {
  outcome = o;
  is = refl;
  status_is = sym ends.0;
  out = ends.2;
  err = subst (λ (t : List ℕ). Says old.err new.err t) (sym ends.1) says;
  files_are = left ∙ ap Some (sym same);
}
outcome_stopped o files (Changed first again) old new dir same ends says a b left = absurd ends
outcome_stopped o files Spill old new dir same ends says a b left = absurd (a refl)
outcome_stopped o files (SpillDamaged offset expected found) old new dir same ends says a b left = absurd ends
outcome_stopped o files NoKeys old new dir same ends says a b left = absurd ends
outcome_stopped o files (TooLong line) old new dir same ends says a b left = absurd ends
outcome_stopped o files TooMany old new dir same ends says a b left = absurd ends
outcome_stopped o files (TooLarge line) old new dir same ends says a b left = absurd ends

pub test_stopped : (job : TestJob) (files : Files) (stop : Stop) (old new : Outside) → EndsTest (tested.test_outcome job files) old.out.written new.out.written (Err stop)
    → Says old.err new.err (message_of (naming test_name []) job.dir stop) → status_of stop ≢ 5 → status_of stop ≢ 6 → new.disk.files ≡ Some files → Reaches old new (Some (tested.test_outcome job files)) (status_of stop)
test_stopped job files stop old new ends says a b left =
    outcome_stopped (tested.test_outcome job files) files stop old new job.dir (tested_files job files algorithms) ends says a b left

-- a test that came to its end
outcome_done : (o : Outcome) (files : Files) (disk disk_new : DiskState) (out out_new err : SinkState) → o.files ≡ files → EndsTest o out.written out_new.written (Ok tt) → disk_new.files ≡ Some files → Reaches (outside disk out err) (outside disk_new out_new err) (Some o) 0
outcome_done o files disk disk_new out out_new err same ends left = record {
  outcome = o;
  is = refl;
  status_is = sym ends.0;
  out = ends.2;
  err = subst (λ (t : List ℕ). Says err err t) (sym ends.1) (nothing_said err);
  files_are = left ∙ ap Some (sym same);
}

pub test_done : (job : TestJob) (files : Files) (disk disk_new : DiskState) (out out_new err : SinkState) → EndsTest (tested.test_outcome job files) out.written out_new.written (Ok tt) → disk_new.files ≡ Some files
    → Reaches (outside disk out err) (outside disk_new out_new err) (Some (tested.test_outcome job files)) 0
test_done job files disk disk_new out out_new err ends left = outcome_done (tested.test_outcome job files) files disk disk_new out out_new err (tested_files job files algorithms) ends left

-- neither the keys nor the spill change, and the keys have no fault
pub never_changed : (o : Outcome) (old new : Option (List ℕ)) (stop : Stop) → EndsTest o old new (Err stop) → (status_of stop ≢ 7) × (status_of stop ≢ 8)
never_changed o old new Memory ends = (λ e. omega (arith, e), λ e. omega (arith, e))
never_changed o old new Read ends = absurd ends
never_changed o old new Write ends = absurd ends
never_changed o old new WriteOut ends = (λ e. omega (arith, e), λ e. omega (arith, e))
never_changed o old new (Refused failure) ends = (λ e. omega (arith, e), λ e. omega (arith, e))
never_changed o old new (Changed first again) ends = absurd ends
never_changed o old new Spill ends = (λ e. omega (arith, e), λ e. omega (arith, e))
never_changed o old new (SpillDamaged offset expected found) ends = absurd ends
never_changed o old new NoKeys ends = absurd ends
never_changed o old new (TooLong line) ends = absurd ends
never_changed o old new TooMany ends = absurd ends
never_changed o old new (TooLarge line) ends = absurd ends

-- a test that a fault or lack of memory stopped
pub part_of_test : (o : Outcome) (old new : Option (List ℕ)) (stop : Stop) → EndsTest o old new (Err stop) → (status_of stop ≡ 5) ⊎ (status_of stop ≡ 6) → GotPrefix o.out old new
part_of_test o old new Memory ends either = ends
part_of_test o old new Read ends either = absurd ends
part_of_test o old new Write ends either = absurd ends
part_of_test o old new WriteOut ends either = ends
part_of_test o old new (Refused failure) ends either = absurd (omega (arith, either))
part_of_test o old new (Changed first again) ends either = absurd ends
part_of_test o old new Spill ends either = ends
part_of_test o old new (SpillDamaged offset expected found) ends either = absurd ends
part_of_test o old new NoKeys ends either = absurd ends
part_of_test o old new (TooLong line) ends either = absurd ends
part_of_test o old new TooMany ends either = absurd ends
part_of_test o old new (TooLarge line) ends either = absurd ends

-- a test that could not write
pub unfinished_test : (job : TestJob) (files : Files) (old new : Outside) (stop : Stop) → EndsTest (tested.test_outcome job files) old.out.written new.out.written (Err stop) → StopsSpilling job files algorithms old.out.written new.out.written stop → IsOutCause old.out.faults new.out.faults stop
    → Says old.err new.err (message_of (naming test_name []) job.dir stop) → status_of stop ≡ 5 → IsUnfinishedTest old new files job
unfinished_test job files old new Memory ends spilling count says five = absurd (omega arith)
unfinished_test job files old new Read ends spilling count says five = absurd ends
unfinished_test job files old new Write ends spilling count says five = absurd ends
unfinished_test job files old new WriteOut ends spilling count says five = record { text = _; says = says; part = inl (ends, count.1, refl) }
unfinished_test job files old new (Refused failure) ends spilling count says five = absurd (omega arith)
unfinished_test job files old new (Changed first again) ends spilling count says five = absurd (omega arith)
unfinished_test job files old new Spill ends spilling count says five =
    let first = before_brz spilling.0 spilling.1 spilling.2 spilling.3 spilling.4 in
    let others = subst (λ (l : List Algorithm). EndsTest (tested_by job files l) old.out.written new.out.written (Ok tt)) first spilling.5 in
    record { text = _; says = says; part = inr (others, count, refl) }
unfinished_test job files old new (SpillDamaged offset expected found) ends spilling count says five = absurd (omega arith)
unfinished_test job files old new NoKeys ends spilling count says five = absurd (omega arith)
unfinished_test job files old new (TooLong line) ends spilling count says five = absurd (omega arith)
unfinished_test job files old new TooMany ends spilling count says five = absurd (omega arith)
unfinished_test job files old new (TooLarge line) ends spilling count says five = absurd (omega arith)

-- what a test that stopped may leave
pub may_leave : (job : TestJob) (old new : Outside) (stop : Stop) → ((files : Files) → old.disk.files ≡ Some files → EndsTest (tested.test_outcome job files) old.out.written new.out.written (Err stop)) → ((files : Files) → old.disk.files ≡ Some files → StopsSpilling job files algorithms old.out.written new.out.written stop)
    → IsOutCause old.out.faults new.out.faults stop → Says old.err new.err (message_of (naming test_name []) job.dir stop) → (status_of stop ≡ 5) ⊎ (status_of stop ≡ 6) → MayLeave job old new (status_of stop)
may_leave job old new stop ends spilling count says either = record {
  part = λ files is. part_of_test (tested.test_outcome job files) old.out.written new.out.written stop (ends files is) either;
  unfinished = λ five files is. unfinished_test job files old new stop (ends files is) (spilling files is) count says five;
}

-- a test reads no file and has no function file: its status is one of a test's, with which out may have got lines
pub test_status : (job : TestJob) (algorithm : Algorithm) (stop : Stop) → HasTestForm algorithm stop → has (test_frame job).statuses (status_of stop) ≡ true
test_status job algorithm Memory form = refl
test_status job algorithm Read form = absurd form
test_status job algorithm Write form = absurd form
test_status job algorithm WriteOut form = refl
test_status job algorithm (Refused failure) form = refl
test_status job algorithm (Changed first again) form = refl
test_status job algorithm Spill form = refl
test_status job algorithm (SpillDamaged offset expected found) form = refl
test_status job algorithm NoKeys form = refl
test_status job algorithm (TooLong line) form = refl
test_status job algorithm TooMany form = refl
test_status job algorithm (TooLarge line) form = absurd form

pub test_known : (algorithm : Algorithm) (stop : Stop) → HasTestForm algorithm stop → status_of stop ≢ 4
test_known algorithm Memory form = λ e. omega (arith, e)
test_known algorithm Read form = absurd form
test_known algorithm Write form = absurd form
test_known algorithm WriteOut form = λ e. omega (arith, e)
test_known algorithm (Refused failure) form = λ e. omega (arith, e)
test_known algorithm (Changed first again) form = λ e. omega (arith, e)
test_known algorithm Spill form = λ e. omega (arith, e)
test_known algorithm (SpillDamaged offset expected found) form = λ e. omega (arith, e)
test_known algorithm NoKeys form = λ e. omega (arith, e)
test_known algorithm (TooLong line) form = λ e. omega (arith, e)
test_known algorithm TooMany form = λ e. omega (arith, e)
test_known algorithm (TooLarge line) form = λ e. omega (arith, e)

-- one that failed could not write, or memory ran out
pub written_or_short : (algorithm : Algorithm) (stop : Stop) → HasTestForm algorithm stop → (status_of stop ≡ 4) ⊎ (status_of stop ≡ 5) ⊎ (status_of stop ≡ 6) → (status_of stop ≡ 5) ⊎ (status_of stop ≡ 6)
written_or_short algorithm stop form (inl four) = absurd (test_known algorithm stop form four)
written_or_short algorithm stop form (inr either) = either

-- nothing waits after what was sent on, and then something more
pub sent_on : (a b d : SinkState) → b.faults ≡ a.faults → IsSent a b → (b.waits ≡ 0 → IsSent b d) → IsSent a d
sent_on a b d same first next = λ low. elim (first low) [
  | inl none ↦ subst (λ (f : ℕ). f < 2 ^ 63 → (d.waits ≡ 0) ⊎ (f < d.faults)) same (next none) low
  | inr rose ↦ absurd (omega (arith, rose, same))
]

-- the result on an algorithm, by the plan of its test
pub result_from : (job : TestJob) (algorithm : Algorithm) (plan : Plan) (seeds : List ℕ) (f : Func) → plan ≡ test_plan algorithm job.buffer → seeds ≡ seeds_of job.seed job.count
    → IsFuncOf plan.algorithm plan.b (tested.generated job.keys) plan.c seeds f → tested.test_result job algorithm ≡ Ok f
unfolding tested.test_result
result_from job algorithm plan seeds f plan_is seeds_are made = let by = rw (plan_is, seeds_are) at made in by.result_is

pub fault_from : (job : TestJob) (algorithm : Algorithm) (plan : Plan) (seeds : List ℕ) (fault : FuncFault) → plan ≡ test_plan algorithm job.buffer → seeds ≡ seeds_of job.seed job.count
    → FailsFunc plan.algorithm plan.b (tested.generated job.keys) plan.c seeds fault → FailsFunc algorithm (usual_b algorithm) (tested.generated job.keys) (usual_ratio algorithm) (seeds_of job.seed job.count) fault
fault_from job algorithm plan seeds fault plan_is seeds_are fails = rw (plan_is, seeds_are) at fails

-- the law of generated keys, said of a pass over them
pub made_by : (n : ℕ) → AreMade n (lines_of MAX_KEYS MAX_KEY_LEN LINE_END None (made_text n)) → AreMade n (tested.generated n)
unfolding tested.generated
made_by n made = made

-- a pass over them doesn't fail
pub no_fault : (n place : ℕ) (fault : KeyFault) (old new : ℕ) → AreMade n (tested.generated n) → old ≡ 0 → 0 ≡ new → HasKeyCause {T = ℕ} old new (Err fault) → StopsAt (tested.generated n) place (Key fault) → ⊥
no_fault n place key_fault.Read old new made start end cause stops = let low : old < 2 ^ 63 = omega (arith, start) in omega (arith, cause.1 low, start, end)
no_fault n place (key_fault.TooLong line) old new made start end cause stops = let fine = made.fine in let at_end = stops.fault_is in absurd (cc)
no_fault n place key_fault.TooMany old new made start end cause stops = let fine = made.fine in let at_end = stops.fault_is in absurd (cc)

-- only BRZ hands back a spill, and it is tested last
pub last_spilled : (job : TestJob) (old new : Option (List ℕ)) → TestsSpilled job algorithms old new → TestSpilled job Brz old new
last_spilled job old new (a, chm, (b, bdz, (d, bdz_ph, (e, brz, same)))) =
    let before : d ≡ old = bdz_ph.unspilled ∙ (bdz.unspilled ∙ chm.unspilled) in
    subst (λ (x : Option (List ℕ)). TestSpilled job Brz old x) (sym same) (subst (λ (x : Option (List ℕ)). TestSpilled job Brz x e) before brz)
