use Rattle.std.proofs.Common.{arith, sym, ◌∙◌, ℕ, ◌<◌, get_or, Fits, w8}
use Rattle.std.specs.List.{slice_index}
use Rattle.cm_bits.specs.FaultLaws.{no_fault, padding_fault}
use Rattle.cm_bits.proofs.FieldsFaultLemmas.{padding_last, padding_none}
use Rattle.cm_bits.proofs.fields.padding_fault.Goals as goal

pub returns-then-bytes-last-ne0 : goal.returns-then-bytes-last-ne0
returns-then-bytes-last-ne0 c =
    let small : (i : ℕ) → slice_index c.args.bytes.now i < 256 = λ i. (let f : Fits w8 (get_or c.args.bytes.now i 0) = c.type_inv.bytes i in omega (arith, f)) in
    let padding = padding_last c.args.width c.args.n c.args.bytes.now c.requires.whole small c.if-bit-ne0.true in
    sym (padding_fault c.args.n c.args.n _ _ (omega arith) (rw padding (omega (arith, c.if-bytes-last-ne0.true))))

pub returns-else-bytes-last-ne0 : goal.returns-else-bytes-last-ne0
returns-else-bytes-last-ne0 c =
    let small : (i : ℕ) → slice_index c.args.bytes.now i < 256 = λ i. (let f : Fits w8 (get_or c.args.bytes.now i 0) = c.type_inv.bytes i in omega (arith, f)) in
    let padding = padding_last c.args.width c.args.n c.args.bytes.now c.requires.whole small c.if-bit-ne0.true in
    sym (no_fault c.args.n c.args.n _ _ (omega arith) (padding ∙ c.if-bytes-last-ne0.false))

pub returns-else-bit-ne0 : goal.returns-else-bit-ne0
returns-else-bit-ne0 c =
    let small : (i : ℕ) → slice_index c.args.bytes.now i < 256 = λ i. (let f : Fits w8 (get_or c.args.bytes.now i 0) = c.type_inv.bytes i in omega (arith, f)) in
    sym (no_fault c.args.n c.args.n _ _ (omega arith) (padding_none c.args.width c.args.n c.args.bytes.now c.requires.whole small c.if-bit-ne0.false))
