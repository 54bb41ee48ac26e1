use Rattle.std.proofs.Common.{◌≡◌, ◌∙◌, ◌*◌, ℕ, ◌+◌, ◌-◌, length, take, drop, Some, refl, ap, sym, arith}
use Rattle.cm_io.specs.Passes.{Told}
use Rattle.cm_keys.specs.Streams.{told_by}
use Rattle.cm_query_batch.specs.BatchLaws.{ahead_of, first_of, none_waits}
use Rattle.cm_shards_files.specs.Shards.{key_total, number_in, total_of}
use Rattle.cm_shards_query.proofs.Progress.{fault_cause, first_key, first_key_is, inside_first, later_of}
use Rattle.cm_shards_query.proofs.TestLemmas.{fault_found, fault_is, fine_next, has_mark, marks_next, test_at_end, test_at_fault}
use Rattle.cm_shards_query.proofs.testing.test_numbers.Goals as goal

pub lines-init : goal.lines-init
lines-init g c =
    let batch = c.new-batch.ensures in
    record {
      ready = c.requires.usable;
      same = refl;
      quiet = refl;
      few = omega (arith, c.requires.start);
      waits = omega (arith, ap length batch.none);
      room = refl;
      answered = none_waits _ _ _ batch.none batch.answers;
      ahead = λ told is. rw (batch.none, c.requires.start) refl;
      marks = λ told is. rw (batch.none, c.requires.start) (λ v. c.requires.none v);
      fine = λ told is. rw (batch.none, c.requires.start) refl;
    }

pub returns-in-Ok-false-clause-ends : goal.returns-in-Ok-false-clause-ends
returns-in-Ok-false-clause-ends g c = λ told is.
    let inv = c.lines.invariant in
    let n = c.in-Ok-false.ensures in
    let counts = rw c.in-Ok-false.field-0-test at n.counts in
    let ends = (rw c.in-Ok-false.field-0-test at n.refills) told (inv.same ∙ is) in
    let place = c.lines.lines.count in
    let done : place - length c.lines.batch.keys ≡ place = omega (arith, counts.0) in
    test_at_end (number_in c.args.shards.now) (key_total c.args.shards.now) told place _ _ _ c.count_verdict.ensures.verdict (c.count.ensures.count ∙ counts.1) c.keys.ensures.keys ends (rw done at (inv.fine told is))

pub returns-in-Err-clause-cause : goal.returns-in-Err-clause-cause
returns-in-Err-clause-cause g c =
    let inv = c.lines.invariant in
    fault_cause c.in-Err.fault _ _ _ _ _ 0 0 c.stop_of_line.ensures.stop inv.quiet refl c.in-Err.ensures.cause

pub returns-in-Err-clause-ends : goal.returns-in-Err-clause-ends
returns-in-Err-clause-ends g c = λ told is.
    let inv = c.lines.invariant in
    let n = c.in-Err.ensures in
    let place = c.lines.lines.count in
    let done : place - length c.lines.batch.keys ≡ place = omega (arith, n.counts.0) in
    test_at_fault (number_in c.args.shards.now) (key_total c.args.shards.now) told place c.refill.new.lines.count _ c.in-Err.fault _ c.stop_of_line.ensures.stop (c.count-in-Err.ensures.count ∙ n.counts.1) (n.refills told (inv.same ∙ is)) (rw done at (inv.fine told is))

pub mark-repeated-requires : goal.mark-repeated-requires
mark-repeated-requires g c =
    let inv = c.lines.invariant in
    let n = c.in-Ok-true.ensures in
    let counts = rw c.in-Ok-true.field-0-test at n.counts in
    let span = total_of c.args.shards.now in
    record { inside = has_mark span (64 * length c.lines.marks) c.number-number.result (omega (arith, c.requires.room, inv.room)) (inside_first (number_in c.args.shards.now) span c.refill.new.self c.number-number.result n.answers counts.0 c.number-number.ensures.answer) }

pub returns-in-Some-clause-ends : goal.returns-in-Some-clause-ends
returns-in-Some-clause-ends g c = λ told is.
    let inv = c.lines.invariant in
    let n = c.in-Ok-true.ensures in
    let counts = rw c.in-Ok-true.field-0-test at n.counts in
    let f = number_in c.args.shards.now in
    let waiting = c.refill.new.self in
    let line = c.line.result in
    let key = first_key waiting in
    let first = first_of f (total_of c.args.shards.now) waiting (later_of waiting) line key c.number-number.result n.answers counts.0 c.line.ensures.line (λ d. first_key_is waiting d counts.0) c.number-number.ensures.answer refl refl in
    let done = c.lines.lines.count - length c.lines.batch.keys in
    let ahead = ahead_of told.keys done _ _ c.lines.batch.keys waiting.keys (later_of waiting).keys (line, key) (inv.ahead told is) ((rw c.in-Ok-true.field-0-test at n.refills) told (inv.same ∙ is)) first.keys in
    let fault = fault_is f (take done told.keys) c.lines.marks line key c.number-number.result c.mark-repeated.result first.answer (inv.marks told is) c.mark-repeated.ensures.repeated in
    fault_found f (key_total c.args.shards.now) told done (line, key) c.in-Some.verdict ahead.0 (inv.fine told is) (fault ∙ sym c.fault_by.ensures.fault ∙ c.in-Some.is)

pub lines-preserved : goal.lines-preserved
lines-preserved g c =
    let inv = c.lines.invariant in
    let n = c.in-Ok-true.ensures in
    let counts = rw c.in-Ok-true.field-0-test at n.counts in
    let f = number_in c.args.shards.now in
    let waiting = c.refill.new.self in
    let later = c.pass.new.self in
    let line = c.line.result in
    let key = first_key waiting in
    let first = first_of f (total_of c.args.shards.now) waiting later line key c.number-number.result n.answers counts.0 c.line.ensures.line (λ d. first_key_is waiting d counts.0) c.number-number.ensures.answer c.pass.ensures.keys c.pass.ensures.answers in
    let one_less : length waiting.keys ≡ 1 + length later.keys = ap length first.keys ∙ omega arith in
    let done = c.lines.lines.count - length c.lines.batch.keys in
    let one : c.refill.new.lines.count - length later.keys ≡ done + 1 = omega (arith, one_less, counts.1, inv.waits) in
    let ahead = λ (told : Told) (is : told_by c.args.lines.now ≡ Some told). ahead_of told.keys done _ _ c.lines.batch.keys waiting.keys later.keys (line, key) (inv.ahead told is) ((rw c.in-Ok-true.field-0-test at n.refills) told (inv.same ∙ is)) first.keys in
    record {
      ready = n.usable;
      same = n.told ∙ inv.same;
      quiet = n.cause ∙ inv.quiet;
      few = n.few;
      waits = omega (arith, one_less, counts.1, inv.waits);
      room = c.mark-repeated.ensures.room ∙ inv.room;
      answered = first.rest;
      ahead = λ told is. ap (λ (p : ℕ). drop p told.keys) one ∙ (ahead told is).1;
      marks = λ told is. rw one (marks_next f told.keys done c.lines.marks c.mark-repeated.new.self (line, key) c.number-number.result (ahead told is).0 first.answer (inv.marks told is) c.mark-repeated.ensures.marked);
      fine = λ told is.
          let fault = fault_is f (take done told.keys) c.lines.marks line key c.number-number.result c.mark-repeated.result first.answer (inv.marks told is) c.mark-repeated.ensures.repeated in
          rw one (fine_next f told.keys done (line, key) (ahead told is).0 (inv.fine told is) (fault ∙ sym c.fault_by.ensures.fault ∙ c.in-None.is));
    }
