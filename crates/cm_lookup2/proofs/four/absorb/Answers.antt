use Rattle.std.proofs.Common.{◌∙◌, [], ◌∷◌, ap, map, refl}
use Rattle.std.proofs.lemmas.Simd.{length-zip2}
use Rattle.cm_lookup2.specs.Four.{plus_lanes}
use Rattle.cm_spec.specs.Lookup2.{mix as mixed}
use Rattle.cm_lookup2.proofs.LaneLemmas.{plus_at}
use Rattle.cm_lookup2.proofs.four.absorb.Goals as goal

pub invariant_of-mix : goal.invariant_of-mix
invariant_of-mix c =
    let long = c.s.invariant in
    (length-zip2 _ c.s.inside.a _ long.0 ∙ long.0, length-zip2 _ c.s.inside.b _ long.1 ∙ long.1, length-zip2 _ c.s.inside.c _ long.2 ∙ long.2)

pub returns : goal.returns
returns c =
    let parts = c.args.p ∷ c.args.q ∷ c.args.r ∷ c.args.t ∷ [] in
    c.mix.ensures ∙ ap (map mixed) (plus_at _ (λ x y. refl) c.s.inside.a c.s.inside.b c.s.inside.c parts ∙ ap (λ s. plus_lanes s parts) c.s.view_is)
