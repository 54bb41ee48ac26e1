use Rattle.std.proofs.Common.{◌≡◌, ◌∙◌, ℕ, ◌+◌, ◌<◌, List, [], ◌∷◌, ◌++◌, length, take, ap, sym, append_assoc}
use Rattle.std.specs.Prelude.{decimal}
use Rattle.cm_shards_join.specs.Taking.{keys_text}
use Rattle.cm_shards_join.proofs.CountLemmas.{one, text_more}
use Rattle.cm_shards_manifest.specs.declared.shard.Shard.{Shard}
use Rattle.cm_shards_join.proofs.counting.keys_text.Goals as goal

pub loop-shard-preserved : goal.loop-shard-preserved
loop-shard-preserved c =
    let s : Shard = c.shard-item.result in
    let k : ℕ = c.loop-shard.shard-index in
    let shards : List Shard = c.args.shards.now in
    let inside : k < length shards = c.loop-shard-test.true in
    let more : keys_text (take (k + 1) shards) ≡ keys_text (take k shards) ++ one s.keys = text_more shards k s inside ∙ ap (λ (t : Shard). keys_text (take k shards) ++ one t.keys) (sym c.shard-item.is) in
    let digits : c.as_bytes.result.now ≡ decimal s.keys = c.as_bytes.ensures.value ∙ c.format.ensures.text in
    c.in_ok-extend_from_slice-2.ensures.items
    ∙ ap (λ (l : List ℕ). l ++ 10 ∷ []) (c.in_ok-extend_from_slice.ensures.items ∙ ap (λ (l : List ℕ). c.loop-shard.text.items ++ l) digits ∙ ap (λ (l : List ℕ). l ++ decimal s.keys) c.loop-shard.invariant)
    ∙ append_assoc (keys_text (take k shards)) (decimal s.keys) (10 ∷ [])
    ∙ sym more
