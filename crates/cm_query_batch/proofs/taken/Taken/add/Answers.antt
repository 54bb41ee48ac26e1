use Rattle.std.proofs.Common.{rules, ◌∙◌, ◌∷◌, [], ◌++◌, ap}
use Rattle.cm_query_batch.proofs.BatchLemmas.{key_more}
use Rattle.cm_query_batch.specs.Waiting.{TakenKeys}
use Rattle.cm_query_batch.proofs.taken.Taken.add.Goals as goal

pub returns-clause-keys : goal.returns-clause-keys
returns-clause-keys c =
    let self = c.self.inside in
    key_more self.bytes.items c.args.key.now _ self.spots.items _ _ c.self.invariant (search rules) c.push.ensures.items c.len-from.ensures.value c.len.ensures.value
    ∙ ap (λ (t : TakenKeys). t.keys ++ (c.args.line, c.args.key.now) ∷ []) c.self.view_is
