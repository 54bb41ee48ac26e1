use Rattle.std.proofs.Common.{◌≡◌, ◌∙◌, length, take, ap, sym, subst, arith, Ok}
use Rattle.cm_dump_items.specs.Reading.{Fails, item_at}
use Rattle.cm_dump_items.proofs.PartLemmas.{part_cut, part_item}
use Rattle.cm_dump_items.proofs.part.item_of.Goals as goal

pub returns-then-part-n-clause-exact : goal.returns-then-part-n-clause-exact
returns-then-part-n-clause-exact c = λ bytes room few is.
    subst (λ f. Fails f (item_at bytes c.args.at (length c.args.buf.now))) (sym c.cut.ensures) (part_cut bytes c.args.part.now c.args.at room (length c.args.buf.now) is few (omega (arith, c.if-part-n.true)))

pub returns-clause-exact : goal.returns-clause-exact
returns-clause-exact c = λ bytes room few is.
    let same : c.copy_from_slice.new.self ≡ take (length c.args.buf.now) c.args.part.now = grind (arith, c.copy_from_slice.ensures.after) in
    part_item bytes c.args.part.now c.args.at room (length c.args.buf.now) is (omega (arith, c.if-part-n.false)) ∙ ap Ok (sym same)
