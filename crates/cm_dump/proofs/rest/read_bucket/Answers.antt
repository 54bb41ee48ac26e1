use Rattle.std.proofs.Common.{◌-◌, ◌+◌, ◌≤◌, ℕ, arith}
use Rattle.std.specs.Int.{byte_len}
use Rattle.cm_dump_items.specs.declared.piece.TheConstants.{ENOUGH}
use Rattle.cm_dump_items.specs.PartLaws.{part_slice}
use Rattle.cm_spec.specs.Image.{packed_len}
use Rattle.cm_dump.specs.Forms.{form_of}
use Rattle.cm_dump.proofs.FormLemmas.{form_facts}
use Rattle.cm_dump.proofs.SizeLemmas.{bucket_short}
use Rattle.cm_dump.specs.RestLaws.{bucket_known, bucket_uncelled, bucket_unseeded, bucket_unsized}
use Rattle.cm_dump.proofs.rest.read_bucket.Goals as goal

pub returns-in-Err-clause-exact : goal.returns-in-Err-clause-exact
returns-in-Err-clause-exact c = λ x there.
    let v = form_of c.args.version in
    bucket_unsized v x c.args.at c.args.parts.now c.args.left c.in-Err.fault (c.in-Err.ensures.exact x ENOUGH (omega (arith, (form_facts c.args.version).narrow)) there)

pub returns-in-Err-number_of-clause-exact : goal.returns-in-Err-number_of-clause-exact
returns-in-Err-number_of-clause-exact c = λ x there.
    let v = form_of c.args.version in
    let narrow = (form_facts c.args.version).narrow in
    let sized = c.in-Ok.ensures.exact x ENOUGH (omega (arith, narrow)) there in
    let seeds = part_slice x c.args.part.now c.args.at ENOUGH (byte_len v.size) there c.in-Ok.ensures.inside in
    let failed = rw (c.size_len-sized.ensures, c.greatest_seed.ensures) at (c.in-Err-number_of.ensures.exact x (ENOUGH - byte_len v.size) (omega (arith, narrow))) in
    bucket_unseeded v x c.args.at c.args.parts.now c.args.left c.in-Ok.size c.in-Err-number_of.fault sized (failed seeds)

pub returns-in-Ok-read_crumbs-clause-exact : goal.returns-in-Ok-read_crumbs-clause-exact
returns-in-Ok-read_crumbs-clause-exact c = λ x there.
    let v = form_of c.args.version in
    let known = form_facts c.args.version in
    let front : ℕ = byte_len v.size + 4 in
    let sized = c.in-Ok.ensures.exact x ENOUGH (omega (arith, known.narrow)) there in
    let seeds = part_slice x c.args.part.now c.args.at ENOUGH (byte_len v.size) there c.in-Ok.ensures.inside in
    let seeded = rw (c.size_len-sized.ensures, c.greatest_seed.ensures) at (c.in-Ok-number_of.ensures.exact x (ENOUGH - byte_len v.size) (omega (arith, known.narrow))) in
    let cells = part_slice x c.args.part.now c.args.at ENOUGH front there (omega (arith, c.in-Ok.ensures.inside, c.in-Ok-number_of.ensures.inside, c.size_len-sized.ensures)) in
    let few : packed_len 4 c.cells_of-n.result ≤ ENOUGH - front = rw c.cells_of-n.ensures (omega (arith, bucket_short v known c.in-Ok.size c.c.result c.in-Ok.ensures.few c.c.ensures.within)) in
    let read = rw (c.front_len-front.ensures, c.cells_of-n.ensures, c.c.ensures.ratio) at (c.in-Ok-read_crumbs.ensures.exact x (ENOUGH - front) few) in
    bucket_known v x c.args.at c.args.parts.now c.args.left c.in-Ok.size c.in-Ok-number_of.seed _ sized (seeded seeds) (read cells)

pub returns-in-Err-read_crumbs-clause-exact : goal.returns-in-Err-read_crumbs-clause-exact
returns-in-Err-read_crumbs-clause-exact c = λ x there.
    let v = form_of c.args.version in
    let known = form_facts c.args.version in
    let front : ℕ = byte_len v.size + 4 in
    let sized = c.in-Ok.ensures.exact x ENOUGH (omega (arith, known.narrow)) there in
    let seeds = part_slice x c.args.part.now c.args.at ENOUGH (byte_len v.size) there c.in-Ok.ensures.inside in
    let seeded = rw (c.size_len-sized.ensures, c.greatest_seed.ensures) at (c.in-Ok-number_of.ensures.exact x (ENOUGH - byte_len v.size) (omega (arith, known.narrow))) in
    let cells = part_slice x c.args.part.now c.args.at ENOUGH front there (omega (arith, c.in-Ok.ensures.inside, c.in-Ok-number_of.ensures.inside, c.size_len-sized.ensures)) in
    let few : packed_len 4 c.cells_of-n.result ≤ ENOUGH - front = rw c.cells_of-n.ensures (omega (arith, bucket_short v known c.in-Ok.size c.c.result c.in-Ok.ensures.few c.c.ensures.within)) in
    let read = rw (c.front_len-front.ensures, c.cells_of-n.ensures, c.c.ensures.ratio) at (c.in-Err-read_crumbs.ensures.exact x (ENOUGH - front) few) in
    bucket_uncelled v x c.args.at c.args.parts.now c.args.left c.in-Ok.size c.in-Ok-number_of.seed c.in-Err-read_crumbs.fault sized (seeded seeds) (read cells)
