use Rattle.std.proofs.Common.{◌≡◌, ◌∙◌, ℕ, ◌+◌, ◌-◌, ◌*◌, ◌/◌, ◌≤◌, take, drop, length, ap, arith}
use Rattle.std.proofs.lemmas.List.FromFn.{length-map-range_with_len}
use Rattle.cm_bits.specs.Held.{packed_cells}
use Rattle.cm_spec.specs.Image.{packed_byte, packed_len}
use Rattle.cm_spec.specs.Lists.{list_of}
use Rattle.cm_brz_func.specs.Functions.{Bucket}
use Rattle.cm_brz_func.proofs.KeptLemmas.{kept_at, sized_at}
use Rattle.cm_brz_func.proofs.TableLemmas.{image_in, image_within}
use Rattle.cm_brz_func.proofs.parts.BrzParts.image_of.Goals as goal

pub held_at-held-requires-clause-sized : goal.held_at-held-requires-clause-sized
held_at-held-requires-clause-sized c = rw c.deref.ensures.value (sized_at c.self.inside.kept.items c.args.j c.self.invariant c.self.view_is c.requires.inside)

pub slice_bounds-result-end : goal.slice_bounds-result-end
slice_bounds-result-end c =
    let p = c.self.inside in
    let table = packed_cells 4 4 p.cells.n p.cells.bytes.items in
    let known = kept_at c.self.inside.kept.items c.self.invariant c.self.view_is c.requires.inside (rw c.deref.ensures.value at c.held_at-held.ensures.held) in
    let h = c.held_at-held.result in
    let all = ap length c.image.ensures.image ∙ length-map-range_with_len (packed_byte 4 4 table) 0 (packed_len 4 (length table)) in
    let end : h.start / 4 + c.div_ceil.result ≤ length c.image.result.now = omega (arith, c.div_ceil.ensures, image_within table h known.lies, all) in
    end

pub returns : goal.returns
returns c =
    let p = c.self.inside in
    let table = packed_cells 4 4 p.cells.n p.cells.bytes.items in
    let known = kept_at c.self.inside.kept.items c.self.invariant c.self.view_is c.requires.inside (rw c.deref.ensures.value at c.held_at-held.ensures.held) in
    let h = c.held_at-held.result in
    let n : h.start / 4 + c.div_ceil.result - h.start / 4 ≡ packed_len 4 (3 * h.third) = omega (arith, c.div_ceil.ensures) in
    record {
      image =
          ap (λ (k : ℕ). take k (drop (h.start / 4) c.image.result.now)) n
          ∙ image_in table c.image.result.now h known.lies c.image.ensures.image
          ∙ ap (λ (b : Bucket). list_of (packed_byte 4 4 b.cells) (packed_len 4 (length b.cells))) known.bucket;
    }
