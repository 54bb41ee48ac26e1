use Rattle.std.proofs.Common.{◌≡◌, ◌∙◌, ℕ, ◌+◌, All, List, [], ◌∷◌, ◌++◌, ap, arith, is_some, length, rules, subst}
use Rattle.std.proofs.lemmas.List.{length_push, take_all}
use Rattle.std.proofs.lemmas.List.Elements.{All-push, All-same}
use Rattle.cm_witness_gather.specs.Cores.{core_edges}
use Rattle.cm_io.specs.PassFaults.{FailsPass}
use Rattle.cm_witness_gather.specs.Gathers.{has_third}
use Rattle.cm_witness_gather.specs.declared.certificate.CoreEdge.{CoreEdge}
use Rattle.cm_witness_gather.proofs.GatherLemmas.{edges_more, handed_on, keys_more, pairs_all}
use Rattle.cm_witness_gather.proofs.gathering.gather_edges.Goals as goal

-- one edge more
one_more : (core core' : List CoreEdge) (edge : CoreEdge) (i : ℕ) → core' ≡ core ++ edge ∷ [] → length core ≡ i → length core' ≡ i + 1
one_more core core' edge i more long = ap length more ∙ length_push core edge ∙ ap (λ (n : ℕ). n + 1) long

third_more : (P : CoreEdge → Type 0) (core core' : List CoreEdge) (edge : CoreEdge) → core' ≡ core ++ edge ∷ [] → All P core → P edge → All P core'
third_more P core core' edge more all here = All-same P core' (core ++ edge ∷ []) more (All-push P core edge all here)

pub returns-in_err-pass_keys-clause-fault : goal.returns-in_err-pass_keys-clause-fault
returns-in_err-pass_keys-clause-fault g c =
    let fault = c.in_err-pass_keys.field-0.0 in
    handed_on c.from_residual-in_err-pass_keys.result fault _ c.from_residual-in_err-pass_keys.ensures.1
    (λ told is. subst (λ (m : ℕ). FailsPass told m fault) c.len-m.ensures.count (c.in_err-pass_keys.ensures.fault told (c.loop-e.invariant.same ∙ is)))

pub returns-in_err-line-clause-fault : goal.returns-in_err-line-clause-fault
returns-in_err-line-clause-fault g c =
    let fault = c.in_err-line.field-0.0 in
    handed_on c.from_residual-in_err-line.result fault _ c.from_residual-in_err-line.ensures.1
    (λ told is. subst (λ (m : ℕ). FailsPass told m fault) c.len-m.ensures.count (c.in_err-line.ensures.fault told (c.pass_keys.ensures.told ∙ (c.loop-e.invariant.same ∙ is))))

pub loop-e-preserved : goal.loop-e-preserved
loop-e-preserved g c =
    let before = c.loop-e.invariant in
    let i : ℕ = c.loop-e.e-index in
    let rest : List ℕ = c.args.rest.now in
    record {
      ready = c.in_ok-line.ensures.usable;
      same = c.take_key.ensures.told ∙ (c.pass_keys.ensures.told ∙ before.same);
      quiet = c.in_ok-line.ensures.cause ∙ (c.in_ok-pass_keys.ensures.cause ∙ before.quiet);
      at = c.in_ok-line.ensures.at;
      few = omega (arith, c.requires.inside i 0 c.loop-e-test.true, c.len-m.ensures.count);
      ahead = λ more. omega (arith, c.requires.rising i more);
      room = search rules;
      count = one_more c.loop-e.core.items c.push_reserved.new.self.items c.core_edge.result i c.push_reserved.ensures.items before.count;
      third = λ algorithm ends.
          let third = λ (x : CoreEdge). is_some x.third ≡ has_third algorithm in
          third_more third c.loop-e.core.items c.push_reserved.new.self.items c.core_edge.result c.push_reserved.ensures.items (before.third algorithm ends) (c.core_edge.ensures.third algorithm ends);
      edges = λ told is.
          let takes = c.in_ok-line.ensures.gives told (c.pass_keys.ensures.told ∙ (before.same ∙ is)) in
          edges_more told.keys c.args.edges.now.edges rest i c.in_ok-line.line takes.key c.ends-ends.result c.loop-e.core.items c.push_reserved.new.self.items c.core_edge.result c.loop-e-test.true takes.is
          c.ends-ends.ensures.ends (before.edges told is)
          (c.core_edge.ensures.edge takes.key) c.push_reserved.ensures.items;
      noted = λ told is.
          keys_more told.keys c.args.edges.now.edges c.args.candidates.now rest i c.in_ok-line.line c.ends-ends.result c.twice-candidate.result c.loop-e.equal.firsts c.take_key.new.equal.firsts c.loop-e.equal.pairs.items c.take_key.new.equal.pairs.items c.loop-e-test.true
          c.ends-ends.ensures.ends c.twice-candidate.ensures (c.in_ok-line.ensures.gives told (c.pass_keys.ensures.told ∙ (before.same ∙ is))) (before.noted told is);
    }

pub returns-in_err-pass_to_end-clause-fault : goal.returns-in_err-pass_to_end-clause-fault
returns-in_err-pass_to_end-clause-fault g c =
    let fault = c.in_err-pass_to_end.field-0.0 in
    handed_on c.from_residual-in_err-pass_to_end.result fault _ c.from_residual-in_err-pass_to_end.ensures.1
    (λ told is. subst (λ (m : ℕ). FailsPass told m fault) c.len-m.ensures.count (c.in_err-pass_to_end.ensures.fault told (c.loop-e.invariant.same ∙ is)))

pub returns-clause-edges : goal.returns-clause-edges
returns-clause-edges g c = λ told is. c.loop-e.invariant.edges told is ∙ ap (core_edges told.keys c.args.edges.now.edges) (take_all c.loop-e.e-index c.args.rest.now (omega (arith, c.loop-e-test.false)))

pub returns-clause-end : goal.returns-clause-end
returns-clause-end g c = λ told is.
    let end = c.in_ok-pass_to_end.ensures.end told (c.loop-e.invariant.same ∙ is) in
    (end.0 ∙ c.len-m.ensures.count, end.1)

pub returns-clause-equal : goal.returns-clause-equal
returns-clause-equal g c = λ told is.
    let all = (c.in_ok-pass_to_end.ensures.end told (c.loop-e.invariant.same ∙ is)).0 ∙ c.len-m.ensures.count in
    pairs_all told.keys c.args.edges.now.edges c.args.candidates.now c.args.rest.now _ _ c.loop-e.e-index all c.requires.inside (c.requires.equal_keys told is) c.requires.finds (omega (arith, c.loop-e-test.false))
    (c.loop-e.invariant.noted told is)
