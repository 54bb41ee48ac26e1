use Rattle.std.proofs.Common.{◌≡◌, ◌∙◌, ℕ, List, ap, arith, get_or, sym, false}
use Rattle.std.proofs.lemmas.Bool.{false≢true}
use Rattle.cm_judge_verdict.specs.Verdicts.{least, same_edge}
use Rattle.cm_judge_verdict.specs.LackingLaws.{edge_equality}
use Rattle.cm_judge_core.proofs.Merging.{differ_both_at, match_both_at}
use Rattle.cm_judge_verdict.specs.PlaceLaws.{edge_or}
use Rattle.cm_judge_core.proofs.comparing.first_other.Goals as goal
use Rattle.cm_witness_gather.specs.declared.certificate.CoreEdge.{CoreEdge}

differs : (a b : CoreEdge) → same_edge a b ≡ false → a ≡ b → ⊥
differs a b other e = false≢true (sym other ∙ (ap (same_edge a) (sym e) ∙ edge_equality.itself a))

pub returns-then-not-is_same : goal.returns-then-not-is_same
returns-then-not-is_same c =
    let own : List CoreEdge = c.args.own.now in
    let edges : List CoreEdge = c.args.edges.now in
    let i : ℕ = c.loop-i.i in
    let other : same_edge (get_or own i edge_or) (get_or edges i edge_or) ≡ false = sym c.is_same.ensures.same ∙ c.if-not-is_same.true in
    record { other = sym (ap least c.loop-i.invariant.left ∙ differ_both_at own edges i c.requires.own c.requires.edges c.requires.lines c.if-i-own.true c.loop-i-test.true (differs (get_or own i edge_or) (get_or edges i edge_or) other)) }

pub loop-i-preserved : goal.loop-i-preserved
loop-i-preserved c =
    let own : List CoreEdge = c.args.own.now in
    let edges : List CoreEdge = c.args.edges.now in
    let i : ℕ = c.loop-i.i in
    let same : get_or own i edge_or ≡ get_or edges i edge_or = edge_equality.to (get_or own i edge_or) (get_or edges i edge_or) (sym c.is_same.ensures.same ∙ c.if-not-is_same.false) in
    record { within = omega arith; left = c.loop-i.invariant.left ∙ match_both_at own edges i c.requires.edges c.if-i-own.true c.loop-i-test.true same }
