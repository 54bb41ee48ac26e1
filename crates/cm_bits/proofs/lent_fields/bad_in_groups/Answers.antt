use Rattle.std.proofs.Common.{arith, ap, sym, ◌∙◌, ℕ, ◌<◌, ◌*◌, get_or, Fits, w8, position, nat_le}
use Rattle.std.specs.List.{slice_index}
use Rattle.cm_bits.specs.Fault.{bytes_number}
use Rattle.cm_bits.proofs.FieldsFaultLemmas.{bad_none}
use Rattle.cm_bits.proofs.LentFieldsLemmas.{groups_cells}
use Rattle.cm_bits.proofs.lent_fields.bad_in_groups.Goals as goal

pub returns-then-groups-eq0 : goal.returns-then-groups-eq0
returns-then-groups-eq0 c =
    sym (bad_none c.args.width (8 * c.args.groups) c.args.bound (bytes_number c.args.bytes.now) (λ k l. absurd (omega (arith, c.if-groups-eq0.true))))

pub returns : goal.returns
returns c =
    let small : (i : ℕ) → slice_index c.args.bytes.now i < 256 = λ i. (let f : Fits w8 (get_or c.args.bytes.now i 0) = c.type_inv.bytes i in omega (arith, f)) in
    c.bad_cell.ensures ∙ ap (λ xs. position (λ x. nat_le c.args.bound x) xs) (groups_cells c.args.width c.args.groups c.args.bytes.now c.requires.width small)
