use Rattle.std.proofs.Common.{arith, sym, ◌∙◌, ◌≡◌, ◌*◌, ◌/◌, ◌<◌, ℕ, get_or, Fits, w8}
use Rattle.std.specs.List.{slice_index}
use Rattle.cm_bits.specs.Held.{window_at}
use Rattle.cm_bits.proofs.FieldsLemmas.{field_read}
use Rattle.cm_bits.proofs.lent_fields.lent_cell.Goals as goal
use Rattle.cm_bits.proofs.lent_fields.lent_cell.Goals.{then-at-bytes, else-at-bytes}

pub returns : goal.returns
returns c =
    let small : (i : ℕ) → slice_index c.args.bytes.now i < 256 = λ i. (let f : Fits w8 (get_or c.args.bytes.now i 0) = c.type_inv.bytes i in omega (arith, f)) in
    let read : c.if-at-bytes.number ≡ window_at c.args.bytes.now (c.args.i * c.args.width / 8) = elim c.if-at-bytes.branch [
      | then-at-bytes w ↦ w.number-is ∙ w.window-number.ensures
      | else-at-bytes w ↦ w.number-is ∙ w.last_window-number.ensures
    ] in
    c.part.ensures ∙ rw (c.requires.mask, read) (sym (field_read c.args.width c.args.i c.args.bytes.now c.requires.width small))
