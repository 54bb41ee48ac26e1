use Rattle.std.proofs.Common.{◌≡◌, ◌∙◌, ap}
use Rattle.cm_dump.specs.Forms.{form_of}
use Rattle.cm_dump_brz.specs.Indexed.{bucket_in, bucket_or_none}
use Rattle.cm_dump_brz.proofs.BucketLemmas.{bucket_known, bucket_past, bucket_uncelled, bucket_unseeded, bucket_unsized}
use Rattle.cm_dump_brz.proofs.bucket.bucket_at.Goals as goal

pub returns-then-at-dump-clause-none : goal.returns-then-at-dump-clause-none
returns-then-at-dump-clause-none c = bucket_past (form_of c.args.version) c.args.dump.now c.args.ratio c.args.at c.if-at-dump.true

pub returns-in-Err-clause-none : goal.returns-in-Err-clause-none
returns-in-Err-clause-none c =
    let e = c.in-Err.ensures in
    bucket_unsized (form_of c.args.version) c.args.dump.now c.args.ratio c.args.at c.in-Err.field-0 e.kind e.exact

pub returns-in-Err-seed_at-clause-none : goal.returns-in-Err-seed_at-clause-none
returns-in-Err-seed_at-clause-none c =
    let e = c.in-Err-seed_at.ensures in
    bucket_unseeded (form_of c.args.version) c.args.dump.now c.args.ratio c.args.at c.in-Ok.size c.in-Err-seed_at.field-0 e.kind c.in-Ok.ensures.exact e.exact

pub returns-in-Ok-lent_item-clause-bucket : goal.returns-in-Ok-lent_item-clause-bucket
returns-in-Ok-lent_item-clause-bucket c =
    let there = rw (c.front_len.ensures, c.image_len-len.ensures, c.cells_of.ensures) at c.in-Ok-lent_item.ensures.exact in
    let known = bucket_known (form_of c.args.version) c.args.dump.now c.args.ratio c.args.at c.in-Ok.size c.in-Ok-seed_at.seed c.in-Ok-lent_item.image.now c.in-Ok.ensures.exact c.in-Ok-seed_at.ensures.exact there in
    rw known c.new.ensures.bucket

pub returns-in-Err-lent_item-clause-none : goal.returns-in-Err-lent_item-clause-none
returns-in-Err-lent_item-clause-none c =
    let e = c.in-Err-lent_item.ensures in
    let cut = rw (c.front_len.ensures, c.image_len-len.ensures, c.cells_of.ensures) at e.exact in
    bucket_uncelled (form_of c.args.version) c.args.dump.now c.args.ratio c.args.at c.in-Ok.size c.in-Ok-seed_at.seed c.in-Err-lent_item.field-0 e.kind c.in-Ok.ensures.exact c.in-Ok-seed_at.ensures.exact cut
