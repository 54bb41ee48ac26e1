use Rattle.std.proofs.Common.{arith, ◌≡◌, ◌∙◌, All, is_some, sym, subst}
use Rattle.std.proofs.lemmas.Result.{IfOk-weaker}
use Rattle.cm_algo_names.specs.declared.algorithm.Algorithm.{Algorithm}
use Rattle.cm_peel.specs.CoreLaws.{rest_are_places}
use Rattle.cm_algo_scheme.specs.Kinds.{HasEnds}
use Rattle.cm_spec.specs.Graph.{ArePlaces}
use Rattle.cm_spec.specs.Rounds.{rest_of}
use Rattle.cm_witness_gather.specs.Gathers.{has_third}
use Rattle.cm_algo_seeds.specs.CoredLaws.{ended, ends_met, shows}
use Rattle.cm_algo_seeds.proofs.seeds.certify.Goals as goal

pub gather_with-requires : goal.gather_with-requires
gather_with-requires g c =
    let edges = c.args.left.now.edges.edges in
    let ends = ends_met g.row.K c.algorithm.result (subst (HasEnds g.row.K) (sym c.algorithm.ensures.algorithm) (g.met.S.Scheme.ends c.args.scheme.now)) in
    let is : c.rest.result.now ≡ rest_of edges = c.rest.ensures ∙ c.requires.peeled in
    let places : ArePlaces edges c.rest.result.now = subst (ArePlaces edges) (sym is) (rest_are_places edges) in
    (omega arith, (ends.0, (ends.1, (places.0, (places.1, c.requires.equal_keys)))))

pub returns-clause-shows : goal.returns-clause-shows
returns-clause-shows g c =
    shows (g.P.KeyPass.told c.args.keys.now) (g.S.Scheme.rule c.args.scheme.now) c.args.seed c.args.left.now.edges.edges c.rest.result.now c.gather_with.result
    (c.rest.ensures ∙ c.requires.peeled) c.gather_with.ensures.gathered

pub returns-clause-form : goal.returns-clause-form
returns-clause-form g c =
    let named = c.algorithm.ensures.algorithm in
    IfOk-weaker c.gather_with.result _ _ (λ made is. (
      is.algorithm_is ∙ named,
      is.seed_is,
      is.place_is,
      subst (λ (a : Algorithm). All (λ e. is_some e.third ≡ has_third a) made.edges.items) named is.third,
    )) c.gather_with.ensures.form

pub returns-clause-end : goal.returns-clause-end
returns-clause-end g c = ended (g.P.KeyPass.told c.args.keys.now) c.args.left.now.edges.edges c.rest.result.now c.gather_with.result c.gather_with.ensures.gathered
