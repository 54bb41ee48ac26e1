use Rattle.std.proofs.Common.{◌∙◌, ap, arith, sym}
use Rattle.cm_dump_items.specs.StepLaws.{byte_fault}
use Rattle.cm_shards_manifest.specs.ManifestItems.{header_at}
use Rattle.cm_shards_manifest.proofs.NearLemmas.{header_near, manifest_of_header, manifest_of_none}
use Rattle.cm_shards_manifest.proofs.limits.read_limit.Goals as goal

pub returns-in-Ok-clause-enough : goal.returns-in-Ok-clause-enough
returns-in-Ok-clause-enough c = λ bytes is.
    manifest_of_header bytes _ c.in-Ok.header (sym (header_near bytes 20 (omega arith)) ∙ ap header_at (sym is) ∙ c.in-Ok.ensures.exact) (omega arith)

pub returns-in-Err-clause-enough : goal.returns-in-Err-clause-enough
returns-in-Err-clause-enough c = λ bytes is.
    let none = byte_fault c.in-Err.field-0 (header_at c.args.first.now) c.in-Err.ensures.kind c.in-Err.ensures.exact in
    manifest_of_none bytes 20 c.in-Err.field-0 (sym (header_near bytes 20 (omega arith)) ∙ ap header_at (sym is) ∙ none) (omega arith)
