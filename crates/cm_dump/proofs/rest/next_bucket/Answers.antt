use Rattle.std.proofs.Common.{◌∙◌, ◌-◌, ℕ, ap, arith}
use Rattle.cm_bits.specs.PackedLaws.{packed_room}
use Rattle.cm_spec.specs.Image.{packed_len}
use Rattle.cm_dump.specs.Forms.{form_of}
use Rattle.cm_dump.proofs.FormLemmas.{form_facts}
use Rattle.cm_dump.proofs.SizeLemmas.{bucket_short}
use Rattle.cm_dump.specs.RestLaws.{rest_fault, rest_next}
use Rattle.cm_dump.proofs.rest.next_bucket.Goals as goal

pub returns-in-Err-clause-fault : goal.returns-in-Err-clause-fault
returns-in-Err-clause-fault c = λ x there.
    rest_fault (form_of c.args.version) x c.args.at (c.left-left.result - 1) _ c.args.parts.now c.in-Err.fault (omega (arith, c.left-left.ensures.left, c.requires.some)) (c.in-Err.ensures.exact x there)

pub image_len-requires-clause-room : goal.image_len-requires-clause-room
image_len-requires-clause-room c =
    let t = c.in-Ok.bucket.cells in
    omega (arith, c.len.ensures, packed_room 4 4 t.n t.bytes.items t.in_room)

pub returns-in-Ok-push-clause-inside : goal.returns-in-Ok-push-clause-inside
returns-in-Ok-push-clause-inside c =
    let size = c.image_len.ensures ∙ ap (λ (n : ℕ). packed_len 4 n) c.len.ensures in
    omega (arith, c.in-Ok.ensures.inside, c.front_len.ensures, size)

pub returns-in-Ok-push-clause-near : goal.returns-in-Ok-push-clause-near
returns-in-Ok-push-clause-near c =
    let size = c.image_len.ensures ∙ ap (λ (n : ℕ). packed_len 4 n) (c.len.ensures ∙ c.in-Ok.ensures.size) in
    omega (arith, c.front_len.ensures, size, bucket_short (form_of c.args.version) (form_facts c.args.version) c.in-Ok.bucket.size c.args.parts.now.ratio c.in-Ok.ensures.few c.in-Ok.ensures.ratio)

pub returns-in-Ok-push-clause-right : goal.returns-in-Ok-push-clause-right
returns-in-Ok-push-clause-right c = λ x there.
    let size = c.image_len.ensures ∙ ap (λ (n : ℕ). packed_len 4 n) c.len.ensures in
    rest_next (form_of c.args.version) x c.args.at (c.left-left.result - 1) _ c.args.parts.now c.push.new.self _ c.in-Ok-push.ensures.pushed (omega (arith, c.left-left.ensures.left, c.requires.some)) (omega (arith, c.front_len.ensures, size)) (c.in-Ok.ensures.exact x there)
