use Rattle.std.proofs.Common.{◌≡◌, ◌∙◌, ℕ, ◌+◌, ◌-◌, [], length, take, drop, Some, Bool, inr, refl, ap, sym, arith}
use Rattle.std.specs.Prelude.{◌&&◌, is_some}
use Rattle.cm_bdz.specs.Functions.{bdz_answer}
use Rattle.cm_io.specs.NotingLaws.{noted_more, noted_nothing}
use Rattle.cm_io.specs.Passes.{Told}
use Rattle.cm_io.specs.WritingLaws.{then_nothing}
use Rattle.cm_query_batch.specs.BatchLaws.{ahead_of, first_of, none_waits, sent_next}
use Rattle.cm_store.specs.Stores.{look}
use Rattle.cm_store_values.proofs.Progress.{complete-more, ends_at_end, found_is, later_of, next_of, some_found}
use Rattle.cm_store_values.specs.Written.{store_replies}
use Rattle.cm_tool_asking.specs.Meanings.{notes_of}
use Rattle.cm_tool_asking.specs.PassLaws.{ends_at_fault, ends_at_write, noted_next_key, so_far_next}
use Rattle.cm_store_values.proofs.values.write_values.Goals as goal

pub keys-init : goal.keys-init
keys-init g c =
    let batch = c.new-batch.ensures in
    record {
      ready = c.requires.usable;
      same = refl;
      quiet = refl;
      quiet_out = refl;
      few = omega (arith, c.requires.start);
      waits = omega (arith, ap length batch.none);
      sent = λ none. inr (inr none);
      notes_sent = λ none. none;
      says = ([], noted_nothing _ _);
      answered = none_waits _ _ _ batch.none batch.answers;
      ahead = λ told is. rw (batch.none, c.requires.start) refl;
      so_far = λ told is. rw (batch.none, c.requires.start) (record { out = then_nothing _; complete_is = refl });
      noted = λ told is. rw (batch.none, c.requires.start) (noted_nothing _ _);
    }

pub returns-in-Ok-false-clause-ends : goal.returns-in-Ok-false-clause-ends
returns-in-Ok-false-clause-ends g c = λ told is.
    let inv = c.keys.invariant in
    let n = c.in-Ok-false.ensures in
    let counts = rw c.in-Ok-false.field-0-test at n.counts in
    let ends = (rw c.in-Ok-false.field-0-test at n.refills) told (inv.same ∙ is) in
    let place = g.P.KeyPass.place c.keys.keys in
    let r = store_replies c.args.store.now c.args.end in
    let done : place - length c.keys.batch.keys ≡ place = omega (arith, counts.0) in
    (notes_of r (take place told.keys), rw done at (inv.noted told is), ends_at_end r told place _ _ _ ends (rw done at (inv.so_far told is)))

pub returns-in-Err-clause-ends : goal.returns-in-Err-clause-ends
returns-in-Err-clause-ends g c = λ told is.
    let inv = c.keys.invariant in
    let n = c.in-Err.ensures in
    let place = g.P.KeyPass.place c.keys.keys in
    let r = store_replies c.args.store.now c.args.end in
    let done : place - length c.keys.batch.keys ≡ place = omega (arith, n.counts.0) in (
      notes_of r (take place told.keys),
      rw done at (inv.noted told is),
      ends_at_fault r told place (g.P.KeyPass.place c.refill.new.keys) 0 [] _ _ _ c.in-Err.fault (n.refills told (inv.same ∙ is)) (rw done at (inv.so_far told is)),
    )

pub look_at-value-requires-clause-number : goal.look_at-value-requires-clause-number
look_at-value-requires-clause-number g c =
    let n = c.in-Ok-true.ensures in
    let counts = rw c.in-Ok-true.field-0-test at n.counts in
    sym (next_of c.args.store.now c.refill.new.self c.key-key.result.now c.answer.result (rw c.index.ensures.index at n.answers) counts.0 c.key-key.ensures.key c.answer.ensures.answer).answer

pub look_at-value-requires-clause-inside : goal.look_at-value-requires-clause-inside
look_at-value-requires-clause-inside g c =
    let n = c.in-Ok-true.ensures in
    let counts = rw c.in-Ok-true.field-0-test at n.counts in
    (next_of c.args.store.now c.refill.new.self c.key-key.result.now c.answer.result (rw c.index.ensures.index at n.answers) counts.0 c.key-key.ensures.key c.answer.ensures.answer).inside

pub returns-in-Err-write_line-clause-ends : goal.returns-in-Err-write_line-clause-ends
returns-in-Err-write_line-clause-ends g c = λ told is.
    let inv = c.keys.invariant in
    let n = c.in-Ok-true.ensures in
    let counts = rw c.in-Ok-true.field-0-test at n.counts in
    let waiting = c.refill.new.self in
    let first = next_of c.args.store.now waiting c.key-key.result.now c.answer.result (rw c.index.ensures.index at n.answers) counts.0 c.key-key.ensures.key c.answer.ensures.answer in
    let done = g.P.KeyPass.place c.keys.keys - length c.keys.batch.keys in
    let ahead = ahead_of told.keys done _ _ c.keys.batch.keys waiting.keys (later_of waiting).keys _ (inv.ahead told is) ((rw c.in-Ok-true.field-0-test at n.refills) told (inv.same ∙ is)) first.keys in
    let value = found_is _ c.look_at-value.result _ c.look_at-value.ensures.value in
    let r = store_replies c.args.store.now c.args.end in (
      notes_of r (take done told.keys),
      inv.noted told is,
      ends_at_write r told done (done + 1) _ _ _ _ _ ahead.0 (inv.so_far told is) (rw value at c.in-Err-write_line.ensures.line),
    )

pub keys-preserved : goal.keys-preserved
keys-preserved g c =
    let inv = c.keys.invariant in
    let n = c.in-Ok-true.ensures in
    let counts = rw c.in-Ok-true.field-0-test at n.counts in
    let s = c.args.store.now in
    let r = store_replies s c.args.end in
    let waiting = c.refill.new.self in
    let later = c.pass.new.self in
    let line = c.line.result in
    let key = c.key-key.result.now in
    let first = first_of (bdz_answer s.index) s.index.keys waiting later line key c.answer.result (rw c.index.ensures.index at n.answers) counts.0 c.line.ensures.line c.key-key.ensures.key c.answer.ensures.answer c.pass.ensures.keys c.pass.ensures.answers in
    let value = found_is _ c.look_at-value.result _ c.look_at-value.ensures.value in
    let one_less : length waiting.keys ≡ 1 + length later.keys = ap length first.keys ∙ omega arith in
    let done = g.P.KeyPass.place c.keys.keys - length c.keys.batch.keys in
    let one : g.P.KeyPass.place c.refill.new.keys - length later.keys ≡ done + 1 = omega (arith, one_less, counts.1, inv.waits) in
    let ahead = λ (told : Told) (is : g.P.KeyPass.told c.args.keys.now ≡ Some told). ahead_of told.keys done _ _ c.keys.batch.keys waiting.keys later.keys (line, key) (inv.ahead told is) ((rw c.in-Ok-true.field-0-test at n.refills) told (inv.same ∙ is)) first.keys in
    record {
      ready = n.usable;
      same = n.told ∙ inv.same;
      quiet = n.cause ∙ inv.quiet;
      quiet_out = c.in-Ok.ensures.cause.fine ∙ inv.quiet_out;
      few = n.few;
      waits = omega (arith, one_less, counts.1, inv.waits);
      sent = λ none. sent_next _ _ _ _ _ one_less c.in-Ok.ensures.sent c.reads_next-sends.ensures.waits;
      notes_sent = λ none. c.note_key.ensures.sent (inv.notes_sent none);
      says = (_, noted_more inv.says.1 c.note_key.ensures.noted);
      answered = first.rest;
      ahead = λ told is. ap (λ (p : ℕ). drop p told.keys) one ∙ (ahead told is).1;
      so_far = λ told is.
          let so_far = inv.so_far told is in
          let all = ap (λ (b : Bool). c.keys.complete && b) (c.is_some-complete.ensures ∙ some_found _ c.look_at-value.result ∙ ap is_some value) ∙ ap (λ (b : Bool). b && is_some (look s key)) so_far.complete_is ∙ sym (complete-more s c.args.end (take done told.keys) _) in
          rw one (so_far_next r told.keys done _ c.keys.complete _ _ _ _ (ahead told is).0 all so_far (rw value at c.in-Ok.ensures.line));
      noted = λ told is. rw one (noted_next_key r told.keys done (line, key) _ _ _ _ _ _ (ahead told is).0 (inv.noted told is) (rw value at c.note_key.ensures.noted));
    }
