use Rattle.std.proofs.Common.{◌≡◌, ◌∙◌, take, ap, sym, subst, arith, Ok}
use Rattle.cm_dump_items.specs.Reading.{Fails, item_at}
use Rattle.cm_dump_items.proofs.PartLemmas.{part_cut, part_item}
use Rattle.cm_dump_items.proofs.part.bytes_of.Goals as goal

pub returns-then-part-n-clause-exact : goal.returns-then-part-n-clause-exact
returns-then-part-n-clause-exact c = λ bytes room few is.
    subst (λ f. Fails f (item_at bytes c.args.at c.args.n)) (sym c.cut.ensures) (part_cut bytes c.args.part.now c.args.at room c.args.n is few (omega (arith, c.if-part-n.true)))

pub returns-in-Ok-extend_from_slice-clause-exact : goal.returns-in-Ok-extend_from_slice-clause-exact
returns-in-Ok-extend_from_slice-clause-exact c = λ bytes room few is.
    let same : c.extend_from_slice.new.self.items ≡ take c.args.n c.args.part.now = grind (arith, c.in-Ok-extend_from_slice.ensures.items, c.in-Ok.ensures.items) in
    part_item bytes c.args.part.now c.args.at room c.args.n is (omega (arith, c.if-part-n.false)) ∙ ap Ok (sym same)
