use Rattle.std.proofs.Common.{rules, [], ◌≡◌, ◌∙◌, ℕ, ◌+◌, ◌≤◌, List, drop, get_or, length, ap, arith, sym}
use Rattle.std.specs.Prelude.{unwrap_or}
use Rattle.cm_query_batch.specs.BatchLaws.{ahead_of, first_of, same_first}
use Rattle.cm_query.proofs.ProgressLemmas.{next_within}
use Rattle.cm_query.proofs.SumLemmas.{sum_next}
use Rattle.cm_query.specs.Sums.{answer_sum}
use Rattle.cm_query.proofs.summing.sum_answers.Goals as goal

pub loop-turn-preserved : goal.loop-turn-preserved
loop-turn-preserved g c =
    let inv = c.loop-turn.invariant in
    let n = c.in-Ok-true.ensures in
    let counts = rw c.in-Ok-true.field-0-test at n.counts in
    let f = g.A.Answers.answer_of c.args.function.now in
    let waiting = c.refill.new.self in
    let later = c.pass.new.self in
    let turn = c.loop-turn.turn in
    let none : ℕ × List ℕ = (0, []) in
    let k = get_or waiting.keys 0 none in
    let same = same_first waiting.keys counts.0 none in
    let first = first_of f (g.A.Answers.span_of c.args.function.now) waiting later k.0 k.1 c.answer.result n.answers counts.0 (λ d. ap (λ (k : ℕ × List ℕ). k.0) (same d)) (λ d. ap (λ (k : ℕ × List ℕ). k.1) (same d)) c.answer.ensures.answer c.pass.ensures.keys c.pass.ensures.answers in
    let one_less : length waiting.keys ≡ 1 + length later.keys = ap length first.keys ∙ omega arith in
    let number : c.from-sum.result ≡ unwrap_or c.answer.result 0 = search rules in
    let small : c.from-sum.result ≤ 4294967295 = search rules in
    record {
      ready = n.usable;
      same = n.told ∙ inv.same;
      quiet = n.cause ∙ inv.quiet;
      at = omega (arith, inv.at, counts.1, one_less);
      few = n.few;
      bound = omega (arith, inv.bound, small);
      answered = first.rest;
      ahead = λ told is.
          (ahead_of told.keys turn _ _ c.loop-turn.batch.keys waiting.keys later.keys k (inv.ahead told is) ((rw c.in-Ok-true.field-0-test at n.refills) told (inv.same ∙ is)) first.keys).1;
      so_far = λ told is.
          let next = (ahead_of told.keys turn _ _ c.loop-turn.batch.keys waiting.keys later.keys k (inv.ahead told is) ((rw c.in-Ok-true.field-0-test at n.refills) told (inv.same ∙ is)) first.keys).0 in
          (next_within told.keys turn k next, sum_next f told.keys turn k c.answer.result _ c.loop-turn.sum (inv.so_far told is).1 next first.answer ∙ ap (λ (v : ℕ). c.loop-turn.sum + v + answer_sum f (drop (turn + 1) told.keys)) (sym number));
    }
