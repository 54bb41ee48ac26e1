use Rattle.std.proofs.Common.{◌≡◌, ◌∙◌, ◌<◌, ◌+◌, ℕ, [], length, inl, inr, arith, sym}
use Rattle.std.proofs.lemmas.List.{get_or-map}
use Rattle.cm_shards_split.specs.Names.{shard_path}
use Rattle.cm_shards_split.specs.declared.part.Part.{Part}
use Rattle.cm_shards_split.proofs.Created.{shard_created}
use Rattle.cm_shards_split.proofs.creating.create_parts.Goals as goal

pub returns-in-Err-clause-creates : goal.returns-in-Err-clause-creates
returns-in-Err-clause-creates g c = λ dir base have before.
    let i : ℕ = c.loop-i.i in
    let inside : i < length c.args.parts.now = omega (arith, c.loop-i-test.true, c.loop-i.invariant.end) in
    let written = c.loop-i.invariant.created dir base have before in
    let path : c.as_str.result.now ≡ shard_path dir i = c.as_str.ensures.bytes ∙ sym (get_or-map (λ (part : Part). part.path) c.args.parts.now i c.index-parts-i.result [] inside) ∙ have.paths i inside in
    elim c.in-Err.ensures.files [
      | inl same ↦ (i, omega (arith, inside), same ∙ written)
      | inr empty ↦ (i + 1, omega (arith, inside), shard_created dir base i _ _ _ written path (omega (arith, inside, have.few)) empty)
    ]

pub loop-i-preserved : goal.loop-i-preserved
loop-i-preserved g c =
    let i : ℕ = c.loop-i.i in
    let inside : i < length c.args.parts.now = omega (arith, c.loop-i-test.true, c.loop-i.invariant.end) in
    let done = c.in-Ok.ensures in
    record {
      end = c.loop-i.invariant.end;
      created = λ dir base have before.
          let path : c.as_str.result.now ≡ shard_path dir i = c.as_str.ensures.bytes ∙ sym (get_or-map (λ (part : Part). part.path) c.args.parts.now i c.index-parts-i.result [] inside) ∙ have.paths i inside in
          shard_created dir base i _ _ _ (c.loop-i.invariant.created dir base have before) path (omega (arith, inside, have.few)) done.files;
      spilled = done.spilled ∙ c.loop-i.invariant.spilled;
      read_faults = done.read_faults ∙ c.loop-i.invariant.read_faults;
      write_faults = done.cause ∙ c.loop-i.invariant.write_faults;
    }
