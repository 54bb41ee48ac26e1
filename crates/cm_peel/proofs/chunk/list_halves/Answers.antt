use Rattle.std.proofs.Common.{◌≡◌, ◌∙◌, ◌<◌, ℕ, List, [], length, get_or, ap, arith}
use Rattle.std.proofs.lemmas.List.{get_or_default, get_or-map, length-map}
use Rattle.cm_spec.specs.Graph.{ends_at}
use Rattle.cm_peel.proofs.Halves.{others_next}
use Rattle.cm_peel.proofs.chunk.list_halves.Goals as goal

pub loop-i-preserved : goal.loop-i-preserved
loop-i-preserved g c =
    let inv = c.loop-i.invariant in
    let edges : List (List ℕ) = c.args.edges.now.edges in
    let chunk : List ℕ = c.args.chunk.now in
    let i : ℕ = c.loop-i.i in
    let within : i < length chunk = c.loop-i-test.true in
    let long : length c.gather.new.ends ≡ length chunk = ap length c.gather.ensures.ends ∙ length-map chunk (ends_at edges) in
    let row : c.index-ends-i.result ≡ ends_at edges (get_or chunk i 0) = c.index-ends-i.is ∙ (get_or_default c.gather.new.ends i _ [] (omega (arith, within, long)) ∙ (ap (λ (xs : List (List ℕ)). get_or xs i []) c.gather.ensures.ends ∙ get_or-map (ends_at edges) chunk i 0 [] within)) in
    record {
      long = c.add_halves-count.auto.halves ∙ inv.long;
      halves = others_next edges c.args.bytes.now chunk i _ _ _ c.index-ends-i.result within inv.halves (c.look_up.ensures i within) row c.add_halves-count.ensures.halves;
      few = omega (arith, inv.few, c.add_halves-count.ensures.few);
    }
