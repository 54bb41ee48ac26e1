use Rattle.std.proofs.Common.{◌∙◌, ◌<◌, ℕ, List, [], length, ap, arith}
use Rattle.cm_query_batch.specs.Waiting.{WaitingKeys}
use Rattle.cm_shards_query.proofs.TakingLemmas.{first_waiting, waiting_count}
use Rattle.cm_shards_query.proofs.batch.Batch.key.Goals as goal

pub key-requires : goal.key-requires
key-requires c =
    let self = c.self.inside in
    let many = waiting_count self.before self.next self.keys c.args.self.now.keys (ap (λ (w : WaitingKeys). w.keys) c.self.view_is) in
    record { there = omega (arith, many, c.requires.waits) }

pub returns : goal.returns
returns c =
    let self = c.self.inside in
    let is = ap (λ (w : WaitingKeys). w.keys) c.self.view_is in
    let many = waiting_count self.before self.next self.keys c.args.self.now.keys is in
    let inside : self.next < length self.keys = omega (arith, many, c.requires.waits) in
    record { key = λ d. c.key.ensures.key [] ∙ ap (λ (k : ℕ × List ℕ). k.1) (first_waiting self.before self.next self.keys _ d is inside) }
