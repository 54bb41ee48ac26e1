use Rattle.std.proofs.Common.{◌∙◌, map}
use Rattle.std.proofs.lemmas.Simd.{map-map}
use Rattle.cm_spec.specs.Lookup2.{three_lines}
use Rattle.cm_lookup2.proofs.four.mix.Goals as goal

pub returns : goal.returns
returns c = rw c.three.ensures (rw c.three-s-2.ensures (rw c.three-s.ensures
    (map-map (three_lines 3 10 15) (three_lines 12 16 5) (map (three_lines 13 8 13) c.args.s) ∙ map-map _ (three_lines 13 8 13) c.args.s)))
