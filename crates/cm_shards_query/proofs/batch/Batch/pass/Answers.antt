use Rattle.std.proofs.Common.{◌∙◌, drop, ap, sym, arith}
use Rattle.std.proofs.lemmas.List.{drop-drop}
use Rattle.cm_query_batch.specs.Waiting.{WaitingKeys}
use Rattle.cm_shards_query.specs.Taking.{numbered}
use Rattle.cm_shards_query.proofs.TakingLemmas.{waiting_count}
use Rattle.cm_shards_query.proofs.batch.Batch.pass.Goals as goal

pub invariant_of-self : goal.invariant_of-self
invariant_of-self c =
    let self = c.self.inside in
    let many = waiting_count self.before self.next self.keys c.args.self.now.keys (ap (λ (w : WaitingKeys). w.keys) c.self.view_is) in
    record { next = omega (arith, many, c.requires.waits); long = c.self.invariant.long; few = c.self.invariant.few; lines = c.self.invariant.lines }

pub returns-clause-keys : goal.returns-clause-keys
returns-clause-keys c =
    let self = c.self.inside in
    sym (drop-drop 1 self.next (numbered self.before self.keys)) ∙ ap (λ (w : WaitingKeys). drop 1 w.keys) c.self.view_is

pub returns-clause-answers : goal.returns-clause-answers
returns-clause-answers c =
    let self = c.self.inside in
    sym (drop-drop 1 self.next self.numbers.items) ∙ ap (λ (w : WaitingKeys). drop 1 w.answers) c.self.view_is
