use Rattle.std.proofs.Common.{◌≡◌, ◌∙◌, ℕ, ◌+◌, ◌≤◌, List, ap, arith, length, sym, subst, lit<, rules, Ok, Err}
use Rattle.std.specs.Int.{byte_len}
use Rattle.cm_bits.specs.Held.{packed_cells}
use Rattle.cm_bits.specs.PackedLaws.{AllBelow-packed_cells, length-packed_cells}
use Rattle.cm_brz_func.specs.Functions.{Brz, Bucket, IsBucket, bucket_cells, keys_in}
use Rattle.cm_dump.specs.Forms.{form_of}
use Rattle.cm_dump.specs.RestLaws.{bucket_known, bucket_uncelled, bucket_unseeded, bucket_unsized}
use Rattle.cm_dump.specs.Spelling.{bucket_len, size_at}
use Rattle.cm_dump_items.specs.StepLaws.{fails_then}
use Rattle.cm_dump_items.specs.declared.fault.LoadFault.TheVariants as faults
use Rattle.cm_spec.specs.Image.{packed_len}
use Rattle.cm_dump_brz.specs.Indexed.{bucket_of_image}
use Rattle.cm_dump_brz.proofs.BucketLemmas as held
use Rattle.cm_dump_brz.proofs.OpenLemmas.{size_fits, size_off}
use Rattle.cm_dump_brz.proofs.opening.next_bucket.Goals as goal

pub returns-in-Err-clause-exact : goal.returns-in-Err-clause-exact
unfolding size_at
returns-in-Err-clause-exact c = λ f keys ratio before.
    bucket_unsized (form_of c.args.version) c.args.dump.now c.args.at f c.args.left c.in-Err.fault (fails_then c.in-Err.fault _ _ c.in-Err.ensures.exact)

pub returns-then-is_off-clause-exact : goal.returns-then-is_off-clause-exact
returns-then-is_off-clause-exact c = λ f keys ratio before.
    let v = form_of c.args.version in
    let off = size_off v c.args.dump.now c.args.at c.args.left c.in-Ok.size c.args.header.keys c.args.held f keys before c.in-Ok.ensures.exact (sym c.if-is_off.ensures) in
    bucket_unsized v c.args.dump.now c.args.at f c.args.left (faults.BadCount c.args.at) off

pub returns-in-Err-seed_at-clause-exact : goal.returns-in-Err-seed_at-clause-exact
returns-in-Err-seed_at-clause-exact c = λ f keys ratio before.
    let v = form_of c.args.version in
    let sized = size_fits v c.args.dump.now c.args.at c.args.left c.in-Ok.size c.args.header.keys c.args.held f keys before c.in-Ok.ensures.exact (sym c.if-is_off.ensures) in
    bucket_unseeded v c.args.dump.now c.args.at f c.args.left c.in-Ok.size c.in-Err-seed_at.fault sized c.in-Err-seed_at.ensures.exact

pub returns-in-Ok-counted_image-clause-bucket : goal.returns-in-Ok-counted_image-clause-bucket
returns-in-Ok-counted_image-clause-bucket c =
    let item = rw (c.front_len.ensures, c.cells_of-n.ensures) at c.in-Ok-counted_image.ensures.item in
    let known = held.bucket_known (form_of c.args.version) c.args.dump.now c.args.header.ratio c.args.at c.in-Ok.size c.in-Ok-seed_at.seed c.in-Ok-counted_image.image.now c.in-Ok.ensures.exact c.in-Ok-seed_at.ensures.exact item in
    known ∙ ap Ok (sym c.new.ensures.bucket)

pub returns-in-Ok-counted_image-clause-valid : goal.returns-in-Ok-counted_image-clause-valid
returns-in-Ok-counted_image-clause-valid c =
    let n : ℕ = bucket_cells c.in-Ok.size c.args.header.ratio in
    let image : List ℕ = c.in-Ok-counted_image.image.now in
    subst (IsBucket c.args.header.ratio) (sym c.new.ensures.bucket) (record {
      few = c.in-Ok.ensures.few;
      seed = search rules;
      unseeded = c.in-Ok-seed_at.ensures.unseeded;
      cells = length-packed_cells 4 4 n image;
      below = AllBelow-packed_cells 4 4 n image (lit< tt);
      busy = rw c.cells_of-n.ensures at c.in-Ok-counted_image.ensures.busy;
    })

pub returns-in-Ok-counted_image-clause-inside : goal.returns-in-Ok-counted_image-clause-inside
returns-in-Ok-counted_image-clause-inside c =
    let v = form_of c.args.version in
    let n : ℕ = bucket_cells c.in-Ok.size c.args.header.ratio in
    let image : List ℕ = c.in-Ok-counted_image.image.now in
    let long : packed_len 4 (length (packed_cells 4 4 n image)) ≡ packed_len 4 n = ap (packed_len 4) (length-packed_cells 4 4 n image) in
    let inside = rw (c.front_len.ensures, c.cells_of-n.ensures) at c.in-Ok-counted_image.ensures.inside in
    rw c.new.ensures.bucket (omega (arith, long, inside))

pub returns-in-Ok-counted_image-clause-exact : goal.returns-in-Ok-counted_image-clause-exact
returns-in-Ok-counted_image-clause-exact c = λ f keys ratio before.
    let v = form_of c.args.version in
    let sized = size_fits v c.args.dump.now c.args.at c.args.left c.in-Ok.size c.args.header.keys c.args.held f keys before c.in-Ok.ensures.exact (sym c.if-is_off.ensures) in
    let crumbs = rw (c.front_len.ensures, c.cells_of-n.ensures, ← ratio) at c.in-Ok-counted_image.ensures.exact in
    let known = bucket_known v c.args.dump.now c.args.at f c.args.left c.in-Ok.size c.in-Ok-seed_at.seed _ sized c.in-Ok-seed_at.ensures.exact crumbs in
    known ∙ ap Ok (ap (λ (r : ℕ). bucket_of_image c.in-Ok.size c.in-Ok-seed_at.seed (bucket_cells c.in-Ok.size r) c.in-Ok-counted_image.image.now) ratio ∙ sym c.new.ensures.bucket)

pub returns-in-Err-counted_image-clause-exact : goal.returns-in-Err-counted_image-clause-exact
returns-in-Err-counted_image-clause-exact c = λ f keys ratio before.
    let v = form_of c.args.version in
    let sized = size_fits v c.args.dump.now c.args.at c.args.left c.in-Ok.size c.args.header.keys c.args.held f keys before c.in-Ok.ensures.exact (sym c.if-is_off.ensures) in
    let failed = rw (c.front_len.ensures, c.cells_of-n.ensures, ← ratio) at c.in-Err-counted_image.ensures.exact in
    bucket_uncelled v c.args.dump.now c.args.at f c.args.left c.in-Ok.size c.in-Ok-seed_at.seed c.in-Err-counted_image.fault sized c.in-Ok-seed_at.ensures.exact failed
