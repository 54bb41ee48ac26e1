use Rattle.std.proofs.Common.{◌≡◌, ◌^◌, ℕ, arith, refl, inl, inr}
use Rattle.cm_bits.specs.Bound.{AllBelow}
use Rattle.cm_bits.specs.declared.fault.ImageFault.TheVariants as image
use Rattle.cm_store_file.proofs.PlaceLemmas.{bad_cell, no_padding, places_known}
use Rattle.cm_store_file.proofs.reader.places_of.Goals as goal

padding_or_memory : (q : ℕ) → image.BadPadding q ≡ image.Memory → ⊥
padding_or_memory q is = cc

cell_or_memory : (i : ℕ) → image.BadCell i ≡ image.Memory → ⊥
cell_or_memory i is = cc

pub unreachable-requires : goal.unreachable-requires
unreachable-requires c =
    let bad = rw c.in-Err-BadPadding.field-0-is at c.in-Err-BadPadding.ensures.fault in
    elim bad [
      | inl memory ↦ padding_or_memory _ memory
      | inr fault ↦ no_padding c.args.n c.args.bound c.args.image.items _ fault
    ]

pub returns-in-Ok-clause-exact : goal.returns-in-Ok-clause-exact
returns-in-Ok-clause-exact c =
    let t = c.in-Ok.places in
    let small : AllBelow (2 ^ 32) t.items.items = λ k l. omega (arith, t.in_bound k l, t.small) in
    places_known c.args.n c.args.bound t.items.items c.args.image.items c.in-Ok.ensures.len small c.in-Ok.ensures.image (c.in-Ok.ensures.sound refl)

pub returns-in-Err-BadCell-clause-exact : goal.returns-in-Err-BadCell-clause-exact
returns-in-Err-BadCell-clause-exact c =
    let bad = rw c.in-Err-BadCell.field-0-is at c.in-Err-BadCell.ensures.fault in
    elim bad [
      | inl memory ↦ absurd (cell_or_memory _ memory)
      | inr fault ↦ bad_cell c.args.n c.args.bound c.args.image.items _ fault
    ]
