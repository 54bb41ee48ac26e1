use Rattle.std.proofs.Common.{◌≡◌, ◌∙◌, ◌*◌, drop, arith, length-drop}
use Rattle.cm_dump.proofs.RankLemmas.{piece_wrong, piece_cut, piece_all}
use Rattle.cm_dump.proofs.ranks.read_piece.Goals as goal

pub returns-in-Some-clause-exact : goal.returns-in-Some-clause-exact
returns-in-Some-clause-exact g c = λ x is.
    let fills = c.in-Ok.ensures.fills x is in
    let whole = (c.in-Ok.ensures.at x (c.in-Ok.ensures.told ∙ is)).1 in
    let wrong = c.in-Some.ensures.first in
    piece_wrong x c.fill.new.buf (drop c.args.from c.args.ranks.now.ranks) c.args.at c.in-Ok.got c.args.count c.in-Some.i fills
    (omega (arith, c.in-Ok.ensures.inside, c.fill.auto.buf)) whole
    (omega (arith, wrong.0))
    (omega (arith, wrong.0, c.in-Ok.ensures.inside, c.requires.long))
    (omega (arith, length-drop c.args.from c.args.ranks.now.ranks, c.requires.inside))
    wrong.1 wrong.2

pub returns-then-got-part-clause-exact : goal.returns-then-got-part-clause-exact
returns-then-got-part-clause-exact g c = λ x is.
    piece_cut x c.fill.new.buf (drop c.args.from c.args.ranks.now.ranks) c.args.at c.in-Ok.got c.args.count (c.in-Ok.ensures.fills x is)
    c.if-got-part.true
    (omega (arith, c.fill.auto.buf, c.requires.long))
    (c.in-Ok.ensures.at x (c.in-Ok.ensures.told ∙ is)).1
    (omega (arith, length-drop c.args.from c.args.ranks.now.ranks, c.requires.inside))
    c.in-None.ensures.first

pub returns-else-got-part-clause-at : goal.returns-else-got-part-clause-at
returns-else-got-part-clause-at g c = λ x is.
    let at = c.in-Ok.ensures.at x is in
    let all : c.in-Ok.got ≡ 4 * c.args.count = omega (arith, c.in-Ok.ensures.inside, c.if-got-part.false, c.fill.auto.buf, c.requires.long) in
    (omega (arith, at.0, all), omega (arith, at.1, all))

pub returns-else-got-part-clause-exact : goal.returns-else-got-part-clause-exact
returns-else-got-part-clause-exact g c = λ x is.
    piece_all x c.fill.new.buf (drop c.args.from c.args.ranks.now.ranks) c.args.at c.in-Ok.got c.args.count (c.in-Ok.ensures.fills x is)
    (omega (arith, c.in-Ok.ensures.inside, c.if-got-part.false, c.fill.auto.buf))
    (omega (arith, c.fill.auto.buf, c.requires.long))
    (c.in-Ok.ensures.at x (c.in-Ok.ensures.told ∙ is)).1
    (omega (arith, length-drop c.args.from c.args.ranks.now.ranks, c.requires.inside))
    c.in-None.ensures.first
