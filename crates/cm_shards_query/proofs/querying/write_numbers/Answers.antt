use Rattle.std.proofs.Common.{◌≡◌, ◌∙◌, ℕ, ◌+◌, ◌-◌, [], length, take, drop, Some, Bool, inl, inr, refl, ap, sym, arith}
use Rattle.std.specs.Prelude.{◌&&◌, is_some}
use Rattle.cm_io.specs.NotingLaws.{noted_more, noted_nothing}
use Rattle.cm_io.specs.Passes.{Told}
use Rattle.cm_io.specs.WritingLaws.{then_nothing}
use Rattle.cm_keys.specs.Streams.{IsBuffered, told_by}
use Rattle.cm_query_batch.specs.BatchLaws.{ahead_of, first_of, none_waits, sent_next}
use Rattle.cm_shards_files.specs.Shards.{number_in, total_of}
use Rattle.cm_shards_query.proofs.Progress.{complete-more, fault_cause, later_of, next_of, not_failed, not_more, query_at_end, query_at_fault, sent_at}
use Rattle.cm_shards_query.specs.Written.{number_replies}
use Rattle.cm_tool_asking.specs.Meanings.{notes_of}
use Rattle.cm_tool_asking.specs.PassLaws.{ends_at_write, noted_next_key, so_far_next}
use Rattle.cm_shards_query.proofs.querying.write_numbers.Goals as goal

pub lines-init : goal.lines-init
lines-init g c =
    let batch = c.new-batch.ensures in
    record {
      ready = c.requires.usable;
      same = refl;
      quiet = refl;
      quiet_out = refl;
      few = omega (arith, c.requires.start);
      waits = omega (arith, ap length batch.none);
      sent = λ none. inr (inr none);
      notes_sent = λ none. none;
      says = ([], noted_nothing _ _);
      answered = none_waits _ _ _ batch.none batch.answers;
      ahead = λ told is. rw (batch.none, c.requires.start) refl;
      so_far = λ told is. rw (batch.none, c.requires.start) (record { out = then_nothing _; complete_is = refl });
      noted = λ told is. rw (batch.none, c.requires.start) (noted_nothing _ _);
    }

pub returns-in-Ok-false-clause-ends : goal.returns-in-Ok-false-clause-ends
returns-in-Ok-false-clause-ends g c = λ told is.
    let inv = c.lines.invariant in
    let n = c.in-Ok-false.ensures in
    let counts = rw c.in-Ok-false.field-0-test at n.counts in
    let ends = (rw c.in-Ok-false.field-0-test at n.refills) told (inv.same ∙ is) in
    let place = c.lines.lines.count in
    let r = number_replies (number_in c.args.shards.now) c.args.end in
    let done : place - length c.lines.batch.keys ≡ place = omega (arith, counts.0) in
    (notes_of r (take place told.keys), rw done at (inv.noted told is), query_at_end r told place _ _ _ ends (rw done at (inv.so_far told is)))

pub returns-in-Err-clause-cause : goal.returns-in-Err-clause-cause
returns-in-Err-clause-cause g c =
    let inv = c.lines.invariant in
    fault_cause c.in-Err.fault _ _ _ _ _ _ _ c.stop_of_line.ensures.stop inv.quiet inv.quiet_out c.in-Err.ensures.cause

pub returns-in-Err-clause-ends : goal.returns-in-Err-clause-ends
returns-in-Err-clause-ends g c = λ told is.
    let inv = c.lines.invariant in
    let n = c.in-Err.ensures in
    let place = c.lines.lines.count in
    let r = number_replies (number_in c.args.shards.now) c.args.end in
    let done : place - length c.lines.batch.keys ≡ place = omega (arith, n.counts.0) in (
      notes_of r (take place told.keys),
      rw done at (inv.noted told is),
      query_at_fault r told place c.refill.new.lines.count _ _ _ _ c.in-Err.fault _ c.stop_of_line.ensures.stop (c.count.ensures.count ∙ n.counts.1) (n.refills told (inv.same ∙ is)) (rw done at (inv.so_far told is)),
    )

pub returns-in-Err-write_line-clause-ends : goal.returns-in-Err-write_line-clause-ends
returns-in-Err-write_line-clause-ends g c = λ told is.
    let inv = c.lines.invariant in
    let n = c.in-Ok-true.ensures in
    let counts = rw c.in-Ok-true.field-0-test at n.counts in
    let waiting = c.refill.new.self in
    let f = number_in c.args.shards.now in
    let first = next_of f (total_of c.args.shards.now) waiting c.key.result.now c.number-number.result n.answers counts.0 c.key.ensures.key c.number-number.ensures.answer in
    let done = c.lines.lines.count - length c.lines.batch.keys in
    let ahead = ahead_of told.keys done _ _ c.lines.batch.keys waiting.keys (later_of waiting).keys _ (inv.ahead told is) ((rw c.in-Ok-true.field-0-test at n.refills) told (inv.same ∙ is)) first.keys in
    let r = number_replies f c.args.end in (
      notes_of r (take done told.keys),
      inv.noted told is,
      ends_at_write r told done (done + 1) _ _ _ _ _ ahead.0 (inv.so_far told is) (rw (sym first.answer) at c.in-Err-write_line.ensures.line),
    )

pub lines-preserved : goal.lines-preserved
lines-preserved g c =
    let inv = c.lines.invariant in
    let n = c.in-Ok-true.ensures in
    let counts = rw c.in-Ok-true.field-0-test at n.counts in
    let f = number_in c.args.shards.now in
    let r = number_replies f c.args.end in
    let waiting = c.refill.new.self in
    let later = c.pass.new.self in
    let line = c.line.result in
    let key = c.key.result.now in
    let first = first_of f (total_of c.args.shards.now) waiting later line key c.number-number.result n.answers counts.0 c.line.ensures.line c.key.ensures.key c.number-number.ensures.answer c.pass.ensures.keys c.pass.ensures.answers in
    let one_less : length waiting.keys ≡ 1 + length later.keys = ap length first.keys ∙ omega arith in
    let done = c.lines.lines.count - length c.lines.batch.keys in
    let one : c.refill.new.lines.count - length later.keys ≡ done + 1 = omega (arith, one_less, counts.1, inv.waits) in
    let ahead = λ (told : Told) (is : told_by c.args.lines.now ≡ Some told). ahead_of told.keys done _ _ c.lines.batch.keys waiting.keys later.keys (line, key) (inv.ahead told is) ((rw c.in-Ok-true.field-0-test at n.refills) told (inv.same ∙ is)) first.keys in
    record {
      ready = n.usable;
      same = n.told ∙ inv.same;
      quiet = n.cause ∙ inv.quiet;
      quiet_out = c.in-Ok.ensures.cause.fine ∙ inv.quiet_out;
      few = n.few;
      waits = omega (arith, one_less, counts.1, inv.waits);
      sent = λ none. sent_next _ _ _ _ _ one_less c.in-Ok.ensures.sent c.reads_next-sends.ensures.waits;
      notes_sent = λ none. c.note_key.ensures.sent (inv.notes_sent none);
      says = (_, noted_more inv.says.1 c.note_key.ensures.noted);
      answered = first.rest;
      ahead = λ told is. ap (λ (p : ℕ). drop p told.keys) one ∙ (ahead told is).1;
      so_far = λ told is.
          let so_far = inv.so_far told is in
          let all = ap (λ (b : Bool). c.lines.complete && b) (c.is_some-complete.ensures ∙ ap is_some (sym first.answer)) ∙ ap (λ (b : Bool). b && is_some (f key)) so_far.complete_is ∙ sym (complete-more f c.args.end (take done told.keys) (line, key)) in
          rw one (so_far_next r told.keys done _ c.lines.complete _ _ _ _ (ahead told is).0 all so_far (rw (sym first.answer) at c.in-Ok.ensures.line));
      noted = λ told is. rw one (noted_next_key r told.keys done (line, key) _ _ _ _ _ _ (ahead told is).0 (inv.noted told is) (rw (sym first.answer) at c.note_key.ensures.noted));
    }

pub returns-in-Ok-false-clause-sent : goal.returns-in-Ok-false-clause-sent
returns-in-Ok-false-clause-sent g c = λ empty _.
    let n = c.in-Ok-false.ensures in
    let counts = rw c.in-Ok-false.field-0-test at n.counts in
    inl (sent_at (IsBuffered c.lines.lines) _ _ (c.lines.invariant.sent empty) counts.0 (λ key there. not_more _ c.in-Ok-false.field-0-test (n.buffered key there)))

pub returns-in-Err-clause-sent : goal.returns-in-Err-clause-sent
returns-in-Err-clause-sent g c = λ empty _.
    let n = c.in-Err.ensures in
    inl (sent_at (IsBuffered c.lines.lines) _ _ (c.lines.invariant.sent empty) n.counts.0 (λ key there. not_failed _ (n.buffered key there)))
