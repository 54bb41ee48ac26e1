use Rattle.std.proofs.Common.{◌∙◌, Some, None, ap, arith, length, sym}
use Rattle.cm_io.specs.Files.{file_at}
use Rattle.cm_shards_join.proofs.CountLemmas.{counted_near}
use Rattle.cm_shards_join.proofs.counting.compare_in.Goals as goal

pub returns-in-None-clause-same : goal.returns-in-None-clause-same
returns-in-None-clause-same g c = λ x is.
    let begins = c.in-Ok-read_start.ensures.begins x is in
    let there = ap (file_at x) (sym c.as_str.ensures.bytes) ∙ begins.there in
    counted_near x c.args.dir.now c.in-Ok.path begins.bytes c.as_slice.result.now c.as_slice-2.result.now c.args.shards.now _ None c.in-Ok.ensures.path there
    (c.as_slice.ensures.value ∙ c.in-Ok-keys_text.ensures.text) (c.as_slice-2.ensures.value ∙ begins.first) (omega (arith, ap length c.as_slice.ensures.value)) (sym c.in-None.is ∙ c.line_apart.ensures.line)

pub returns-in-Some-clause-refused : goal.returns-in-Some-clause-refused
returns-in-Some-clause-refused g c = λ x is.
    let begins = c.in-Ok-read_start.ensures.begins x is in
    let there = ap (file_at x) (sym c.as_str.ensures.bytes) ∙ begins.there in
    counted_near x c.args.dir.now c.in-Ok.path begins.bytes c.as_slice.result.now c.as_slice-2.result.now c.args.shards.now _ (Some c.in-Some.line) c.in-Ok.ensures.path there
    (c.as_slice.ensures.value ∙ c.in-Ok-keys_text.ensures.text) (c.as_slice-2.ensures.value ∙ begins.first) (omega (arith, ap length c.as_slice.ensures.value)) (sym c.in-Some.is ∙ c.line_apart.ensures.line)
