use Rattle.std.proofs.Common.{◌≡◌, ◌∙◌, List, ap, arith, map, subst, sym, None, Some}
use Rattle.cm_judge_verdict.specs.Rising.{RisesBy}
use Rattle.cm_judge_verdict.specs.Verdicts.{least, lines_lacking, lines_other}
use Rattle.cm_judge_core.proofs.Own.{edges_over, own_lines, own_rise, reason_after, reason_ends, reason_no_key}
use Rattle.cm_judge_core.proofs.edges.edge_fault.Goals as goal
use Rattle.cm_witness_gather.specs.declared.certificate.CoreEdge.{CoreEdge}

pub returns-in-Some-clause-reason : goal.returns-in-Some-clause-reason
returns-in-Some-clause-reason g c = reason_no_key _ _ c.args.sizes c.args.edges.now c.in_ok-own.own.items c.in-Some.line c.in_ok-own.ensures.own (c.in-Some.ensures.missing c.requires.edges (subst (λ (es : List CoreEdge). RisesBy (λ e. e.line) 0 es) (sym c.deref.ensures.value) (own_rise _ _ c.args.sizes c.args.edges.now _ c.in_ok-own.ensures.own)) ∙ ap (λ (es : List CoreEdge). least (lines_lacking es c.args.edges.now)) c.deref.ensures.value)

pub first_other-requires-clause-own : goal.first_other-requires-clause-own
first_other-requires-clause-own g c = subst (λ (es : List CoreEdge). RisesBy (λ e. e.line) 0 es) (sym c.deref-2.ensures.value) (own_rise _ _ c.args.sizes c.args.edges.now _ c.in_ok-own.ensures.own)

pub first_other-requires-clause-lines : goal.first_other-requires-clause-lines
first_other-requires-clause-lines g c =
    let none : None ≡ least (lines_lacking c.in_ok-own.own.items c.args.edges.now) = c.in_default.ensures.missing c.requires.edges (subst (λ (es : List CoreEdge). RisesBy (λ e. e.line) 0 es) (sym c.deref.ensures.value) (own_rise _ _ c.args.sizes c.args.edges.now _ c.in_ok-own.ensures.own)) ∙ ap (λ (es : List CoreEdge). least (lines_lacking es c.args.edges.now)) c.deref.ensures.value in
    ap (map (λ (e : CoreEdge). e.line)) c.deref-2.ensures.value ∙ own_lines _ _ c.args.sizes c.args.edges.now c.in_ok-own.own.items c.in_ok-own.ensures.own c.requires.edges (sym none)

pub returns-in-Some-first_other-clause-reason : goal.returns-in-Some-first_other-clause-reason
returns-in-Some-first_other-clause-reason g c =
    let none : None ≡ least (lines_lacking c.in_ok-own.own.items c.args.edges.now) = c.in_default.ensures.missing c.requires.edges (subst (λ (es : List CoreEdge). RisesBy (λ e. e.line) 0 es) (sym c.deref.ensures.value) (own_rise _ _ c.args.sizes c.args.edges.now _ c.in_ok-own.ensures.own)) ∙ ap (λ (es : List CoreEdge). least (lines_lacking es c.args.edges.now)) c.deref.ensures.value in
    reason_ends _ _ c.args.sizes c.args.edges.now c.in_ok-own.own.items c.in-Some-first_other.line c.in_ok-own.ensures.own none (c.in-Some-first_other.ensures.other ∙ ap (λ (es : List CoreEdge). least (lines_other es c.args.edges.now)) c.deref-2.ensures.value)

pub first_lone-requires-clause-room : goal.first_lone-requires-clause-room
first_lone-requires-clause-room g c = omega (arith, (g.met.S.Scheme.laws c.args.scheme.now).few c.args.sizes.vertices c.requires.size)

pub first_lone-requires-clause-edges : goal.first_lone-requires-clause-edges
first_lone-requires-clause-edges g c =
    let other : None ≡ least (lines_other c.in_ok-own.own.items c.args.edges.now) = c.in_default-first_other.ensures.other ∙ ap (λ (es : List CoreEdge). least (lines_other es c.args.edges.now)) c.deref-2.ensures.value in
    edges_over _ _ _ c.args.sizes c.args.edges.now c.in_ok-own.own.items (g.met.S.Scheme.laws c.args.scheme.now) c.requires.size c.in_ok-own.ensures.own (sym other)

pub returns-in-Some-2-clause-reason : goal.returns-in-Some-2-clause-reason
returns-in-Some-2-clause-reason g c =
    let none : None ≡ least (lines_lacking c.in_ok-own.own.items c.args.edges.now) = c.in_default.ensures.missing c.requires.edges (subst (λ (es : List CoreEdge). RisesBy (λ e. e.line) 0 es) (sym c.deref.ensures.value) (own_rise _ _ c.args.sizes c.args.edges.now _ c.in_ok-own.ensures.own)) ∙ ap (λ (es : List CoreEdge). least (lines_lacking es c.args.edges.now)) c.deref.ensures.value in
    let other : None ≡ least (lines_other c.in_ok-own.own.items c.args.edges.now) = c.in_default-first_other.ensures.other ∙ ap (λ (es : List CoreEdge). least (lines_other es c.args.edges.now)) c.deref-2.ensures.value in
    reason_after _ _ c.args.sizes c.args.edges.now c.in_ok-own.own.items None (Some c.in-Some-2.vertex) c.in_ok-own.ensures.own none other (sym c.in-Some-2.is ∙ c.in_ok-vertex.ensures.lone)

pub returns-in-None-clause-reason : goal.returns-in-None-clause-reason
returns-in-None-clause-reason g c =
    let none : None ≡ least (lines_lacking c.in_ok-own.own.items c.args.edges.now) = c.in_default.ensures.missing c.requires.edges (subst (λ (es : List CoreEdge). RisesBy (λ e. e.line) 0 es) (sym c.deref.ensures.value) (own_rise _ _ c.args.sizes c.args.edges.now _ c.in_ok-own.ensures.own)) ∙ ap (λ (es : List CoreEdge). least (lines_lacking es c.args.edges.now)) c.deref.ensures.value in
    let other : None ≡ least (lines_other c.in_ok-own.own.items c.args.edges.now) = c.in_default-first_other.ensures.other ∙ ap (λ (es : List CoreEdge). least (lines_other es c.args.edges.now)) c.deref-2.ensures.value in
    reason_after _ _ c.args.sizes c.args.edges.now c.in_ok-own.own.items None None c.in_ok-own.ensures.own none other (sym c.in-None.is ∙ c.in_ok-vertex.ensures.lone)
