use Rattle.std.proofs.Common.{◌∙◌, ℕ, ◌+◌, ◌<◌, ◌≤◌, ap, arith, sym}
use Rattle.std.specs.Prelude.{IfSome, None, Option, Some, option_map}
use Rattle.cm_bits.specs.Held.{packed_cells}
use Rattle.cm_brz_func.specs.Functions.{Bucket, answer_in, offset_of}
use Rattle.cm_brz_func.specs.Kept.{bucket_in}
use Rattle.cm_brz_func.specs.Places.{ends_in}
use Rattle.cm_brz_func.proofs.KeptLemmas.{kept_at, sized_at}
use Rattle.cm_brz_func.proofs.parts.BrzParts.answer_at.Goals as goal

below_more : (r : Option ℕ) (a b : ℕ) → IfSome r (λ n. n < a) → a ≤ b → IfSome r (λ n. n < b)
below_more None a b below more = below
below_more (Some n) a b below more = omega (arith, below, more)

pub held_at-requires-clause-sized : goal.held_at-requires-clause-sized
held_at-requires-clause-sized c = rw c.deref.ensures.value (sized_at c.self.inside.kept.items c.args.j c.self.invariant c.self.view_is c.requires.inside)

pub returns-clause-answer : goal.returns-clause-answer
returns-clause-answer c key same =
    let p = c.self.inside in
    let table = packed_cells 4 4 p.cells.n p.cells.bytes.items in
    let known = kept_at c.self.inside.kept.items c.self.invariant c.self.view_is c.requires.inside (rw c.deref.ensures.value at c.held_at.ensures.held) in
    let h = c.held_at.result in
    let ends = same ∙ ap (λ (b : Bucket). ends_in b key) (sym known.bucket) in
    c.answer_at.ensures.answer key ends
    ∙ ap (λ (o : ℕ). option_map (λ r. o + r) (answer_in (bucket_in table h) key)) known.offset
    ∙ ap (λ (b : Bucket). option_map (λ r. offset_of c.args.self.now.buckets c.args.j + r) (answer_in b key)) known.bucket

pub returns-clause-inside : goal.returns-clause-inside
returns-clause-inside c =
    let known = kept_at c.self.inside.kept.items c.self.invariant c.self.view_is c.requires.inside (rw c.deref.ensures.value at c.held_at.ensures.held) in
    let h = c.held_at.result in
    below_more c.answer_at.result (h.offset + h.size) c.args.self.now.keys c.answer_at.ensures.inside known.within
