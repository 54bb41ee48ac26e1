use Rattle.std.proofs.Common.{arith, sym, refl, ◌≡◌, ◌-◌, ◌<◌, ℕ, get_or, Fits, w8}
use Rattle.std.specs.List.{slice_index}
use Rattle.cm_bits.proofs.LentFieldsLemmas.{number_from-none, number_from-small, number_from-before, number_from-window}
use Rattle.cm_bits.proofs.lent_fields.last_window.Goals as goal

pub loop-from-init : goal.loop-from-init
loop-from-init c = (c.requires.inside, omega arith, sym (number_from-none c.args.bytes.now))

pub overflow_mul-number : goal.overflow_mul-number
overflow_mul-number c =
    let small : (i : ℕ) → slice_index c.args.bytes.now i < 256 = λ i. (let f : Fits w8 (get_or c.args.bytes.now i 0) = c.type_inv.bytes i in omega (arith, f)) in
    omega (arith, c.loop-from.invariant.2, number_from-small c.args.bytes.now c.loop-from.from small (omega (arith, c.requires.last, c.loop-from-test.true)))

pub overflow_add-number : goal.overflow_add-number
overflow_add-number c =
    let small : (i : ℕ) → slice_index c.args.bytes.now i < 256 = λ i. (let f : Fits w8 (get_or c.args.bytes.now i 0) = c.type_inv.bytes i in omega (arith, f)) in
    let byte : get_or c.args.bytes.now (c.loop-from.from - 1) 0 < 256 = small (c.loop-from.from - 1) in
    omega (arith, byte, c.loop-from.invariant.2, number_from-small c.args.bytes.now c.loop-from.from small (omega (arith, c.requires.last, c.loop-from-test.true)))

pub loop-from-preserved : goal.loop-from-preserved
loop-from-preserved c =
    let before = number_from-before c.args.bytes.now c.loop-from.from (omega (arith, c.loop-from-test.true)) c.loop-from.invariant.1 in
    (omega (arith, c.loop-from-test.true), omega (arith, c.loop-from.invariant.1), rw (before, c.loop-from.invariant.2) refl)

pub returns : goal.returns
returns c =
    let end : c.loop-from.from ≡ c.args.at = omega (arith, c.loop-from-test.false, c.loop-from.invariant.0) in
    rw (c.loop-from.invariant.2, end) (number_from-window c.args.bytes.now c.args.at (omega (arith, c.requires.last)))
