use Rattle.std.proofs.Common.{[], ◌≡◌, ◌∙◌, ℕ, ◌+◌, ◌-◌, ◌≤◌, List, ◌++◌, length, map, take, drop, get_or, replicate, Option, None, Some, Bool, inr, refl, ap, sym, subst, arith}
use Rattle.std.proofs.lemmas.List.{length-map, length-replicate}
use Rattle.cm_io.specs.WritingLaws.{then_twice}
use Rattle.cm_io.specs.Noting.{Noted}
use Rattle.cm_io.specs.Writing.{then_bytes}
use Rattle.cm_query_batch.specs.BatchLaws.{ahead_of, first_of, none_waits, same_first, sent_next}
use Rattle.cm_query.proofs.MarkLemmas.{next_wait, none_marked}
use Rattle.cm_io.specs.NotingLaws.{noted_more}
use Rattle.cm_query.proofs.ProgressLemmas.{SoFar, next_within, so_far_all, so_far_next, so_far_none, take_next, text_at_write}
use Rattle.cm_io.specs.NotingLaws.{noted_nothing}
use Rattle.cm_io.specs.WritingLaws.{then_nothing}
use Rattle.cm_query.specs.Tallies.{counted}
use Rattle.cm_query.specs.Texts.{line_of, notes_of}
use Rattle.cm_io.specs.Passes.{Told}
use Rattle.cm_query.specs.Marks.{AreMarks}
use Rattle.cm_query_batch.specs.Waiting.{WaitingKeys}
use Rattle.cm_query.specs.declared.tally.Tally.{Tally}
use Rattle.cm_query.proofs.answering.query.Goals as goal

pub keys-init : goal.keys-init
keys-init g c =
    let batch = c.new-batch.ensures in
    let span = g.A.Answers.span_of c.args.function.now in
    let zeros : c.in-Ok.marks.cells ≡ replicate span 0 = c.in-Ok.ensures.none ∙ ap (λ (n : ℕ). replicate {A = ℕ} n 0) c.span.ensures.span in
    record {
      ready = c.requires.usable;
      same = refl;
      quiet = refl;
      quiet_out = refl;
      at = omega (arith, c.requires.start, ap length batch.none);
      few = omega (arith, c.requires.start);
      counts = omega arith;
      size = ap length zeros ∙ length-replicate {A = ℕ} span 0;
      sent = λ none. inr (inr none);
      notes_sent = λ none. none;
      text = ([], then_nothing _);
      says = ([], noted_nothing _ _);
      answered = none_waits _ _ _ batch.none batch.answers;
      ahead = λ told is. rw (batch.none, c.requires.start) refl;
      marked = λ told is. none_marked _ _ span _ zeros c.in-Ok.ensures.empty;
      so_far = λ told is. (omega arith, so_far_none _ _ _ _ _ (g.E.Sink.state c.args.err.now) refl);
    }

pub returns-in-Ok-false-clause-tally : goal.returns-in-Ok-false-clause-tally
returns-in-Ok-false-clause-tally g c = λ told is.
    let inv = c.keys.invariant in
    let n = c.in-Ok-false.ensures in
    let counts = rw c.in-Ok-false.field-0-test at n.counts in
    let ends = (rw c.in-Ok-false.field-0-test at n.refills) told (inv.same ∙ is) in
    (so_far_all _ _ told c.keys.tally.lines _ _ _ _ _ (g.E.Sink.state c.args.err.now) (g.E.Sink.state c.keys.err) (record { none_left = ap (λ (p : ℕ). drop p told.keys) (omega (arith, inv.at, counts.0)) ∙ ends.none_left; all = omega (arith, inv.at, counts.0, ends.all); fault_is = ends.fault_is }) (inv.so_far told is).1).tally_is

pub returns-in-Ok-false-clause-text : goal.returns-in-Ok-false-clause-text
returns-in-Ok-false-clause-text g c = λ told is.
    let inv = c.keys.invariant in
    let n = c.in-Ok-false.ensures in
    let counts = rw c.in-Ok-false.field-0-test at n.counts in
    let ends = (rw c.in-Ok-false.field-0-test at n.refills) told (inv.same ∙ is) in
    (so_far_all _ _ told c.keys.tally.lines _ _ _ _ _ (g.E.Sink.state c.args.err.now) (g.E.Sink.state c.keys.err) (record { none_left = ap (λ (p : ℕ). drop p told.keys) (omega (arith, inv.at, counts.0)) ∙ ends.none_left; all = omega (arith, inv.at, counts.0, ends.all); fault_is = ends.fault_is }) (inv.so_far told is).1).out

pub returns-in_default-clause-says : goal.returns-in_default-clause-says
returns-in_default-clause-says g c = ([], noted_nothing _ _)

pub returns-in-Err-clause-after : goal.returns-in-Err-clause-after
returns-in-Err-clause-after g c = λ told is.
    let inv = c.keys.invariant in
    let so_far = (inv.so_far told is).1 in
    let counts = c.in-Err.ensures.counts in
    (c.keys.tally.lines, omega (arith, inv.at, counts.0, counts.1), so_far.out, so_far.notes)

pub returns-in-Err-write_line-clause-appends : goal.returns-in-Err-write_line-clause-appends
returns-in-Err-write_line-clause-appends g c =
    let before = c.keys.invariant.text in
    let wrote = rw c.widened.ensures.same at c.in-Err-write_line.ensures.line in
    let line = take wrote.0 (line_of c.args.end c.key.result.now c.answer-answer.result) in
    (before.0 ++ line, wrote.1 ∙ ap (λ (o : Option (List ℕ)). then_bytes o line) before.1 ∙ then_twice (g.O.Sink.state c.args.out.now).written before.0 line)

pub returns-in-Err-write_line-clause-after : goal.returns-in-Err-write_line-clause-after
returns-in-Err-write_line-clause-after g c = λ told is.
    let inv = c.keys.invariant in
    let n = c.in-Ok-true.ensures in
    let counts = rw c.in-Ok-true.field-0-test at n.counts in
    let f = g.A.Answers.answer_of c.args.function.now in
    let waiting = c.refill.new.self in
    let later : WaitingKeys = record { keys = drop 1 waiting.keys; answers = drop 1 waiting.answers } in
    let lines = c.keys.tally.lines in
    let so_far = (inv.so_far told is).1 in
    let key = c.key.result.now in
    let none : ℕ × List ℕ = (0, []) in
    let line = (get_or waiting.keys 0 none).0 in
    let first = first_of f (g.A.Answers.span_of c.args.function.now) waiting later line key c.answer-answer.result n.answers counts.0 (λ d. ap (λ (k : ℕ × List ℕ). k.0) (same_first waiting.keys counts.0 none d)) c.key.ensures.key c.answer-answer.ensures.answer refl refl in
    let next = (ahead_of told.keys lines _ _ c.keys.batch.keys waiting.keys later.keys (line, key) (inv.ahead told is) ((rw c.in-Ok-true.field-0-test at n.refills) told (inv.same ∙ is)) first.keys).0 in
    let less : lines + 1 ≤ g.P.KeyPass.place c.refill.new.keys = omega (arith, inv.at, counts.0, counts.1) in
    let wrote = rw c.widened.ensures.same at c.in-Err-write_line.ensures.line in (
      lines + 1,
      (omega arith, less),
      text_at_write c.args.end f told.keys lines (line, key) c.answer-answer.result _ (g.O.Sink.state c.keys.out).written _ next first.answer so_far.out wrote,
      subst (λ (p : ℕ). Noted c.args.notes.now c.keys.notes (g.E.Sink.state c.args.err.now) (g.E.Sink.state c.keys.err) (notes_of f (take p told.keys))) (let same : lines ≡ lines + 1 - 1 = omega arith in same) so_far.notes,
    )

pub mark_first-repeated-requires-clause-some : goal.mark_first-repeated-requires-clause-some
mark_first-repeated-requires-clause-some g c =
    let n = c.in-Ok-true.ensures in
    let counts = rw c.in-Ok-true.field-0-test at n.counts in
    let waiting = c.refill.new.self in
    omega (arith, counts.0, ap length n.answers.are, ap length c.answers.ensures.answers, length-map waiting.keys (λ (k : ℕ × List ℕ). g.A.Answers.answer_of c.args.function.now k.1))

pub mark_first-repeated-requires-clause-inside : goal.mark_first-repeated-requires-clause-inside
mark_first-repeated-requires-clause-inside g c =
    rw (c.answers.ensures.answers, c.keys.invariant.size) c.in-Ok-true.ensures.answers.inside

-- one line more is counted
lines-counted : (t : Tally) (a : Option ℕ) (repeated : Bool) → (counted t a repeated).lines ≡ t.lines + 1
lines-counted t None repeated = refl
lines-counted t (Some v) repeated = refl

pub keys-preserved : goal.keys-preserved
keys-preserved g c =
    let inv = c.keys.invariant in
    let n = c.in-Ok-true.ensures in
    let counts = rw c.in-Ok-true.field-0-test at n.counts in
    let f = g.A.Answers.answer_of c.args.function.now in
    let waiting = c.refill.new.self in
    let key = c.key.result.now in
    let line = c.line.result in
    let a : Option ℕ = c.answer-answer.result in
    let first = first_of f (g.A.Answers.span_of c.args.function.now) waiting c.pass.new.self line key a n.answers counts.0 c.line.ensures.line c.key.ensures.key c.answer-answer.ensures.answer c.pass.ensures.keys c.pass.ensures.answers in
    let lines : c.count.new.self.lines ≡ c.keys.tally.lines + 1 = ap (λ (t : Tally). t.lines) c.count.ensures.counted ∙ lines-counted c.keys.tally a c.mark_first-repeated.result in
    let one_less : length waiting.keys ≡ 1 + length c.pass.new.self.keys = ap length first.keys ∙ omega arith in
    let wrote = rw c.widened.ensures.same at c.in-Ok-write_line.ensures.line in
    let ahead = λ (told : Told) (is : g.P.KeyPass.told c.args.keys.now ≡ Some told). ahead_of told.keys c.keys.tally.lines _ _ c.keys.batch.keys waiting.keys c.pass.new.self.keys (line, key) (inv.ahead told is) ((rw c.in-Ok-true.field-0-test at n.refills) told (inv.same ∙ is)) first.keys in
    let marked = λ (told : Told) (is : g.P.KeyPass.told c.args.keys.now ≡ Some told).
    let reached = take c.keys.tally.lines told.keys in
    let all = c.answers.ensures.answers ∙ n.answers.are ∙ ap (map (λ (k : ℕ × List ℕ). f k.1)) first.keys in
    let waits = next_wait f reached c.keys.batch.keys waiting.keys c.keys.marks (λ some. ap (λ (b : WaitingKeys). b.keys) (n.waits some).1) (inv.marked told is) in
    c.mark_first-repeated.ensures.marks f reached (line, key) c.pass.new.self.keys all (subst (λ (ks : List (ℕ × List ℕ)). AreMarks f reached ks c.keys.marks) first.keys waits) in
    record {
      ready = n.usable;
      same = n.told ∙ inv.same;
      quiet = n.cause ∙ inv.quiet;
      quiet_out = c.in-Ok-write_line.ensures.cause.fine ∙ inv.quiet_out;
      at = omega (arith, lines, inv.at, counts.1, one_less);
      few = n.few;
      counts = c.count.ensures.within;
      size = c.mark_first-repeated.ensures.size ∙ inv.size;
      sent = λ none. sent_next _ _ _ _ _ one_less c.in-Ok-write_line.ensures.sent c.reads_next-sends.ensures.waits;
      notes_sent = λ none. c.note_key.ensures.sent (inv.notes_sent none);
      text = (
        inv.text.0 ++ line_of c.args.end key a,
        wrote ∙ ap (λ (o : Option (List ℕ)). then_bytes o (line_of c.args.end key a)) inv.text.1 ∙ then_twice (g.O.Sink.state c.args.out.now).written inv.text.0 (line_of c.args.end key a),
      );
      says = (_, noted_more inv.says.1 c.note_key.ensures.noted);
      answered = first.rest;
      ahead = λ told is. ap (λ (p : ℕ). drop p told.keys) lines ∙ (ahead told is).1;
      marked = λ told is.
          let next = take_next told.keys c.keys.tally.lines (line, key) (ahead told is).0 in
          subst (λ (ks : List (ℕ × List ℕ)). AreMarks f ks c.pass.new.self.keys c.mark_first-repeated.new.self) (sym (ap (λ (p : ℕ). take p told.keys) lines ∙ next)) (marked told is).1;
      so_far = λ told is.
          let next = (ahead told is).0 in
          let within : c.keys.tally.lines + 1 ≤ length told.keys = next_within told.keys c.keys.tally.lines (line, key) next in (
            omega (arith, lines, within),
            subst (λ (p : ℕ). SoFar c.args.end f (take p told.keys) c.count.new.self (g.O.Sink.state c.args.out.now).written (g.O.Sink.state c.write_line.new.out).written c.args.notes.now c.note_key.new.notes (g.E.Sink.state c.args.err.now) (g.E.Sink.state c.note_key.new.err)) (sym lines)
                (so_far_next c.args.end f told.keys c.keys.tally.lines (line, key) a c.mark_first-repeated.result c.keys.tally c.count.new.self _ (g.O.Sink.state c.keys.out).written _ _ _ _ (g.E.Sink.state c.args.err.now) (g.E.Sink.state c.keys.err) (g.E.Sink.state c.note_key.new.err)
                next first.answer (inv.so_far told is).1 wrote (marked told is).0 c.note_key.ensures.noted c.count.ensures.counted),
          );
    }
