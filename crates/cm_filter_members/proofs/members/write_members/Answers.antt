use Rattle.std.proofs.Common.{◌≡◌, ◌∙◌, ℕ, ◌+◌, ◌-◌, [], length, take, drop, Bool, Err, refl, ap, sym, subst, arith}
use Rattle.std.specs.Prelude.{◌&&◌}
use Rattle.cm_filter.specs.Filters.{holds}
use Rattle.cm_filter_members.proofs.Progress.{complete-more, ends_at_end, next_of, without_notes}
use Rattle.cm_filter_members.specs.Written.{filter_replies}
use Rattle.cm_query_batch.specs.BatchLaws.{ahead_of, sent_next}
use Rattle.cm_query_batch.specs.Waiting.{WaitingKeys}
use Rattle.cm_query_batch.specs.declared.fault.QueryFault.TheVariants.{Key, Write}
use Rattle.cm_tool_asking.specs.PassLaws.{SoFar, ends_at_fault, ends_at_write, so_far_next}
use Rattle.cm_filter_members.proofs.members.write_members.Goals as goal

pub returns-in-Ok-false-clause-ends : goal.returns-in-Ok-false-clause-ends
returns-in-Ok-false-clause-ends g c = λ told is.
    let inv = c.keys.invariant in
    let n = c.in-Ok-false.ensures in
    let counts = rw c.in-Ok-false.field-0-test at n.counts in
    let ends = (rw c.in-Ok-false.field-0-test at n.refills) told (inv.same ∙ is) in
    let place = g.P.KeyPass.place c.keys.keys in
    let done : place - length c.keys.batch.keys ≡ place = omega (arith, counts.0) in
    ends_at_end c.args.filter.now c.args.end told place _ _ _ ends
    (subst (λ (p : ℕ). SoFar (filter_replies c.args.filter.now c.args.end) (take p told.keys) c.keys.complete (g.O.Sink.state c.args.out.now).written (g.O.Sink.state c.keys.out).written) done (inv.so_far told is))

pub returns-in-Err-clause-ends : goal.returns-in-Err-clause-ends
returns-in-Err-clause-ends g c = λ told is.
    let inv = c.keys.invariant in
    let n = c.in-Err.ensures in
    let f = c.args.filter.now in
    let end = c.args.end in
    let place = g.P.KeyPass.place c.keys.keys in
    let done : place - length c.keys.batch.keys ≡ place = omega (arith, n.counts.0) in
    let so_far = subst (λ (p : ℕ). SoFar (filter_replies f end) (take p told.keys) c.keys.complete (g.O.Sink.state c.args.out.now).written (g.O.Sink.state c.keys.out).written) done (inv.so_far told is) in
    without_notes f end told (take place told.keys) (g.O.Sink.state c.args.out.now).written (g.O.Sink.state c.keys.out).written (Err (Key c.in-Err.fault))
    (ends_at_fault (filter_replies f end) told place (g.P.KeyPass.place c.refill.new.keys) 0 [] _ _ _ c.in-Err.fault (n.refills told (inv.same ∙ is)) so_far)

pub returns-in-Err-write_line-clause-ends : goal.returns-in-Err-write_line-clause-ends
returns-in-Err-write_line-clause-ends g c = λ told is.
    let inv = c.keys.invariant in
    let n = c.in-Ok-true.ensures in
    let counts = rw c.in-Ok-true.field-0-test at n.counts in
    let f = c.args.filter.now in
    let r = filter_replies f c.args.end in
    let waiting = c.refill.new.self in
    let later : WaitingKeys = record { keys = drop 1 waiting.keys; answers = drop 1 waiting.answers } in
    let next = next_of f waiting later c.key.result.now c.answer.result c.is_some-holds.result n.answers counts.0 c.key.ensures.key c.answer.ensures.answer c.is_some-holds.ensures refl refl in
    let done = g.P.KeyPass.place c.keys.keys - length c.keys.batch.keys in
    let ahead = ahead_of told.keys done _ _ c.keys.batch.keys waiting.keys later.keys _ (inv.ahead told is) ((rw c.in-Ok-true.field-0-test at n.refills) told (inv.same ∙ is)) next.keys in
    without_notes f c.args.end told (take done told.keys) (g.O.Sink.state c.args.out.now).written (g.O.Sink.state c.write_line.new.out).written (Err Write)
    (ends_at_write r told done (done + 1) _ _ _ _ _ ahead.0 (inv.so_far told is) (rw next.holding_is at c.in-Err-write_line.ensures.line))

pub keys-preserved : goal.keys-preserved
keys-preserved g c =
    let inv = c.keys.invariant in
    let n = c.in-Ok-true.ensures in
    let counts = rw c.in-Ok-true.field-0-test at n.counts in
    let f = c.args.filter.now in
    let end = c.args.end in
    let r = filter_replies f end in
    let waiting = c.refill.new.self in
    let later = c.pass.new.self in
    let next = next_of f waiting later c.key.result.now c.answer.result c.is_some-holds.result n.answers counts.0 c.key.ensures.key c.answer.ensures.answer c.is_some-holds.ensures c.pass.ensures.keys c.pass.ensures.answers in
    let one_less : length waiting.keys ≡ 1 + length later.keys = ap length next.keys ∙ omega arith in
    let done = g.P.KeyPass.place c.keys.keys - length c.keys.batch.keys in
    let one : g.P.KeyPass.place c.refill.new.keys - length later.keys ≡ done + 1 = omega (arith, one_less, counts.1, inv.waits) in
    record {
      ready = n.usable;
      same = n.told ∙ inv.same;
      quiet = n.cause ∙ inv.quiet;
      quiet_out = c.in-Ok.ensures.cause.fine ∙ inv.quiet_out;
      few = n.few;
      waits = omega (arith, one_less, counts.1, inv.waits);
      sent = λ none. sent_next _ _ _ _ _ one_less c.in-Ok.ensures.sent c.reads_next-sends.ensures.waits;
      answered = next.rest;
      ahead = λ told is.
          let ahead = ahead_of told.keys done _ _ c.keys.batch.keys waiting.keys later.keys _ (inv.ahead told is) ((rw c.in-Ok-true.field-0-test at n.refills) told (inv.same ∙ is)) next.keys in
          ap (λ (p : ℕ). drop p told.keys) one ∙ ahead.1;
      so_far = λ told is.
          let ahead = ahead_of told.keys done _ _ c.keys.batch.keys waiting.keys later.keys _ (inv.ahead told is) ((rw c.in-Ok-true.field-0-test at n.refills) told (inv.same ∙ is)) next.keys in
          let so_far = inv.so_far told is in
          let key = c.key.result.now in
          let all = ap (λ (b : Bool). c.keys.complete && b) next.holding_is ∙ ap (λ (b : Bool). b && holds f key) so_far.complete_is ∙ sym (complete-more f end (take done told.keys) _) in
          subst (λ (p : ℕ). SoFar r (take p told.keys) (c.keys.complete && c.is_some-holds.result) (g.O.Sink.state c.args.out.now).written (g.O.Sink.state c.write_line.new.out).written) (sym one)
          (so_far_next r told.keys done _ c.keys.complete _ _ _ _ ahead.0 all so_far (rw next.holding_is at c.in-Ok.ensures.line));
    }
