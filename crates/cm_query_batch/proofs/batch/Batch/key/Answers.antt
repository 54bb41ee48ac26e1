use Rattle.std.proofs.Common.{◌∙◌, ℕ, List, get_or, ap, sym}
use Rattle.cm_query_batch.proofs.BatchLemmas.{first_waiting}
use Rattle.cm_query_batch.specs.Waiting.{WaitingKeys}
use Rattle.cm_query_batch.proofs.batch.Batch.key.Goals as goal

pub returns : goal.returns
returns c =
    let self = c.self.inside in
    record { key = λ d. c.key.ensures.key d ∙ sym (ap (λ (k : ℕ × List ℕ). k.1) (first_waiting self.taken.keys self.next d)) ∙ ap (λ (w : WaitingKeys). (get_or w.keys 0 d).1) c.self.view_is }
