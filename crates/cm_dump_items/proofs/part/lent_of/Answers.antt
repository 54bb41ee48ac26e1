use Rattle.std.proofs.Common.{sym, subst, arith}
use Rattle.cm_dump_items.specs.Reading.{Fails, item_at}
use Rattle.cm_dump_items.proofs.PartLemmas.{part_cut, part_item}
use Rattle.cm_dump_items.proofs.part.lent_of.Goals as goal

pub returns-then-part-n-clause-exact : goal.returns-then-part-n-clause-exact
returns-then-part-n-clause-exact c = λ bytes room few is.
    subst (λ f. Fails f (item_at bytes c.args.at c.args.n)) (sym c.cut.ensures) (part_cut bytes c.args.part.now c.args.at room c.args.n is few (omega (arith, c.if-part-n.true)))

pub returns-else-part-n-clause-exact : goal.returns-else-part-n-clause-exact
returns-else-part-n-clause-exact c = λ bytes room few is. part_item bytes c.args.part.now c.args.at room c.args.n is (omega (arith, c.if-part-n.false))
