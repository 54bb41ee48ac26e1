use Rattle.std.proofs.Common.{◌∙◌, ap, map}
use Rattle.cm_spec.specs.Lookup2.{three_lines}
use Rattle.cm_lookup2.proofs.LaneLemmas.{three_of_each}
use Rattle.cm_lookup2.proofs.four.three.Goals as goal

pub returns : goal.returns
returns c = rw c.right-c.ensures (rw c.left-b.ensures (rw c.right-a.ensures
    (three_of_each c.args.i c.args.j c.args.k c.s.inside.a c.s.inside.b c.s.inside.c ∙ ap (map (three_lines c.args.i c.args.j c.args.k)) c.s.view_is)))
