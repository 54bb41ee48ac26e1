use Rattle.std.proofs.Common.{◌+◌, ◌≡◌, ap, arith}
use Rattle.std.proofs.lemmas.Bool.{eq-eqb, eqb-true}
use Rattle.cm_query_batch.specs.Waiting.{WaitingKeys}
use Rattle.cm_shards_query.proofs.TakingLemmas.{waiting_count}
use Rattle.cm_shards_query.proofs.batch.Batch.is_last.Goals as goal

pub returns : goal.returns
returns c =
    let self = c.self.inside in
    let many = waiting_count self.before self.next self.keys c.args.self.now.keys (ap (λ (w : WaitingKeys). w.keys) c.self.view_is) in (
      λ last. omega (arith, eqb-true (self.next + 1) c.len.result last, many, c.len.ensures.len),
      λ one.
          let last : self.next + 1 ≡ c.len.result = omega (arith, one, many, c.len.ensures.len, c.self.invariant.next) in
          eq-eqb (self.next + 1) c.len.result last,
    )
