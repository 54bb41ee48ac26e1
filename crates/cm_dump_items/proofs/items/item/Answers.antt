use Rattle.std.proofs.Common.{◌≡◌, ◌∙◌, length, arith}
use Rattle.cm_dump_items.proofs.ItemLemmas.{item_cut, item_whole}
use Rattle.cm_dump_items.proofs.items.item.Goals as goal

pub returns-then-got-buf-clause-exact : goal.returns-then-got-buf-clause-exact
returns-then-got-buf-clause-exact g c = λ x is. item_cut x c.fill.new.buf c.args.at c.in-Ok.got (length c.args.buf.now) (c.in-Ok.ensures.fills x is) (omega (arith, c.if-got-buf.true, c.fill.auto.buf)) c.fill.auto.buf

pub returns-else-got-buf-clause-at : goal.returns-else-got-buf-clause-at
returns-else-got-buf-clause-at g c = λ x is.
    let at = c.in-Ok.ensures.at x is in
    let all : c.in-Ok.got ≡ length c.args.buf.now = omega (arith, c.in-Ok.ensures.inside, c.if-got-buf.false, c.fill.auto.buf) in
    (omega (arith, at.0, all), omega (arith, at.1, all))

pub returns-else-got-buf-clause-exact : goal.returns-else-got-buf-clause-exact
returns-else-got-buf-clause-exact g c = λ x is.
    let all : c.in-Ok.got ≡ length c.args.buf.now = omega (arith, c.in-Ok.ensures.inside, c.if-got-buf.false, c.fill.auto.buf) in
    item_whole x c.fill.new.buf c.args.at c.in-Ok.got (length c.args.buf.now) (c.in-Ok.ensures.fills x is).given all c.fill.auto.buf (c.in-Ok.ensures.at x (c.in-Ok.ensures.told ∙ is)).1
