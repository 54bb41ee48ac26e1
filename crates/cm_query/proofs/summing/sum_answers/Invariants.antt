use Rattle.std.proofs.Common.{◌≡◌, ◌+◌, ◌*◌, ◌≤◌, ◌++◌, length, drop, true}
use Rattle.std.specs.Option.{ForSome}
use Rattle.cm_query.specs.Sums.{answer_sum}
use Rattle.cm_query_batch.specs.Waiting.{AreAnswers}
use Rattle.cm_query.proofs.summing.sum_answers.Given as goal
use Rattle.cm_spec.specs.declared.limits.TheConstants.{MAX_KEYS}

abbrev pub invariant-loop-turn : goal.invariant-loop-turn
invariant-loop-turn g l =
    let P = g.P.KeyPass in
    let f = g.A.Answers.answer_of l.function in
    record {
      ready : P.usable l.keys ≡ true;
      same : P.told l.keys ≡ P.told l.fn.keys;
      quiet : P.faults l.keys ≡ P.faults l.fn.keys;
      at : P.place l.keys ≡ l.turn + length l.batch.keys;
      few : P.place l.keys ≤ MAX_KEYS;
      bound : l.sum ≤ 4294967296 * l.turn;
      answered : AreAnswers f (g.A.Answers.span_of l.function) l.batch;
      ahead : ForSome (P.told l.fn.keys) (λ told. drop l.turn told.keys ≡ l.batch.keys ++ drop (P.place l.keys) told.keys);
      so_far : ForSome (P.told l.fn.keys) (λ told. (l.turn ≤ length told.keys) × (answer_sum f told.keys ≡ l.sum + answer_sum f (drop l.turn told.keys)));
    }
