use Rattle.std.proofs.Common.{◌≡◌, ◌⊎◌, ◌∙◌, ◌<◌, ◌+◌, ℕ, List, ap, arith, drop, get_or, inl, inr, length, sym, None}
use Rattle.cm_judge_verdict.specs.Verdicts.{least, lines_lacking}
use Rattle.cm_judge_core.proofs.Merging.{match_at, miss_at, none_at, skip_at}
use Rattle.cm_judge_core.proofs.comparing.first_missing.Goals as goal
use Rattle.cm_judge_core.proofs.comparing.first_missing.Goals.{else-edges-i, then-edges-i, then-i-edges-via-else-i-edges+then-line-edges, then-i-edges-via-then-i-edges}
use Rattle.cm_witness_gather.specs.declared.certificate.CoreEdge.{CoreEdge}

abbrev none : CoreEdge
none = record { line = 0; first = 0; second = 0; third = None }

pub returns-then-i-edges : goal.returns-then-i-edges
returns-then-i-edges c =
    let edges : List CoreEdge = c.args.edges.now in
    let core : List CoreEdge = c.args.core.now in
    let why : (c.loop-j.i ≡ length edges) ⊎ ((get_or core c.loop-j.j none).line < (get_or edges c.loop-j.i none).line) = elim c.then-i-edges.branch [
      | then-i-edges-via-then-i-edges w ↦ inl w.if-i-edges.true
      | then-i-edges-via-else-i-edges+then-line-edges w ↦ inr w.if-line-edges.true
    ] in
    record { missing = λ rise rises. sym (ap least (c.loop-j.invariant.left rise) ∙ miss_at edges core c.loop-j.i c.loop-j.j none rises rise c.loop-j.invariant.edges_within c.loop-j-test.true why) }

pub loop-j-preserved : goal.loop-j-preserved
loop-j-preserved c =
    let edges : List CoreEdge = c.args.edges.now in
    let core : List CoreEdge = c.args.core.now in
    let i : ℕ = c.loop-j.i in
    let j : ℕ = c.loop-j.j in
    let more : i < length edges = omega (arith, c.loop-j.invariant.edges_within, c.if-i-edges.false) in
    elim c.if-edges-i.branch [
      | then-edges-i w ↦ record {
        edges_within = omega arith;
        core_within = omega arith;
        left = λ rise. c.loop-j.invariant.left rise ∙ (match_at edges core i j none rise more c.loop-j-test.true w.if-edges-i.true ∙ ap (λ n. lines_lacking (drop (i + 1) edges) (drop n core)) (sym w.j-is));
      }
      | else-edges-i w ↦ record {
        edges_within = omega arith;
        core_within = omega arith;
        left = λ rise. c.loop-j.invariant.left rise ∙ (skip_at edges core i j none rise more c.loop-j-test.true (omega (arith, w.if-edges-i.false, c.if-line-edges.false)) ∙ ap (λ n. lines_lacking (drop (i + 1) edges) (drop n core)) (sym w.j-is));
      }
    ]

pub returns : goal.returns
returns c = record { missing = λ rise rises. sym (ap least (c.loop-j.invariant.left rise) ∙ none_at c.args.edges.now c.args.core.now c.loop-j.i c.loop-j.j c.loop-j-test.false) }
