use Rattle.std.proofs.Common.{rules, ◌∙◌, ◌∷◌, [], ◌++◌, ℕ, List, ap}
use Rattle.cm_shards_files.proofs.KeyLemmas.{key_more, stand_more}
use Rattle.cm_shards_files.proofs.taken.ShardKeys.add.Goals as goal

pub invariant_of-self : goal.invariant_of-self
invariant_of-self c =
    let self = c.self.inside in
    stand_more self.bytes.items c.args.key.now _ self.spots.items _ _ c.self.invariant (search rules) c.push.ensures.items c.len-from.ensures.value c.len.ensures.value

pub returns : goal.returns
returns c =
    let self = c.self.inside in
    record {
      keys = key_more self.bytes.items c.args.key.now _ self.spots.items _ _ c.self.invariant.0 (search rules) c.push.ensures.items c.len-from.ensures.value c.len.ensures.value
          ∙ ap (λ (t : List (List ℕ)). t ++ c.args.key.now ∷ []) c.self.view_is;
    }
