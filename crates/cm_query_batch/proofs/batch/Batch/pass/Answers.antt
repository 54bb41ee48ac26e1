use Rattle.std.proofs.Common.{◌∙◌, drop, ap, sym, arith}
use Rattle.std.proofs.lemmas.List.{drop-drop}
use Rattle.cm_query_batch.specs.Waiting.{WaitingKeys}
use Rattle.cm_query_batch.proofs.batch.Batch.pass.Goals as goal

pub overflow_add-self : goal.overflow_add-self
overflow_add-self c = omega (arith, c.self.invariant.next, c.self.invariant.few)

pub returns-clause-keys : goal.returns-clause-keys
returns-clause-keys c =
    let self = c.self.inside in
    sym (drop-drop 1 self.next self.taken.keys) ∙ ap (λ (w : WaitingKeys). drop 1 w.keys) c.self.view_is

pub returns-clause-answers : goal.returns-clause-answers
returns-clause-answers c =
    let self = c.self.inside in
    sym (drop-drop 1 self.next self.answers.items) ∙ ap (λ (w : WaitingKeys). drop 1 w.answers) c.self.view_is
