use Rattle.std.proofs.Common.{rules, arith, ◌≡◌, ℕ, ◌+◌, ◌-◌, ◌<◌, ◌≤◌, length, List, take, drop, subst, sym, ap, ◌∙◌, length-drop}
use Rattle.std.specs.List.{All}
use Rattle.std.proofs.lemmas.List.{length-take-le}
use Rattle.std.proofs.lemmas.List.Elements.{All-from_get_or, All-take, All-drop}
use Rattle.cm_algo_cells.specs.declared.cells.TheConstants.{CHUNK}
use Rattle.cm_algo_cells.specs.OneByOne.{IsPart, one_by_one}
use Rattle.cm_spec.specs.Cells.{Plan, plan_of, all_idle, AreSolved}
use Rattle.cm_spec.specs.Rounds.{order_of}
use Rattle.cm_algo_cells.proofs.Solving.{long_at, order_at, plan_solved, chunk_step, loop_end}
use Rattle.cm_algo_cells.proofs.cells.assign.Goals as goal

order_places : (edges : List (List ℕ)) (order : List ℕ) → order ≡ order_of edges → All (λ e. e < length edges) order
order_places edges order is = All-from_get_or (λ e. e < length edges) order 0 (λ k h. (order_at edges order k is h).place)

pub filled-requires-clause-below : goal.filled-requires-clause-below
filled-requires-clause-below g c =
    let bound : c.bound.result ≡ (g.S.Scheme.rule c.args.scheme.now).bound (length c.args.edges.now.edges) = c.bound.ensures.bound ∙ ap (λ (m : ℕ). (g.S.Scheme.rule c.args.scheme.now).bound m) c.len-m.ensures.count in
    omega (arith, bound, c.idle.ensures.idle, (g.met.S.Scheme.laws c.args.scheme.now).idle_below (length c.args.edges.now.edges) c.requires.many)

pub settle_chunk-requires : goal.settle_chunk-requires
settle_chunk-requires g c =
    let edges : List (List ℕ) = c.args.edges.now.edges in
    let order : List ℕ = c.order-order.result.now in
    let n : ℕ = c.min-count.result in
    let at : ℕ = c.chunks.at - n in
    let moved : at + n - at ≡ n = omega arith in
    let small : n ≤ CHUNK = omega (arith, c.min-count.ensures) in
    let short : n ≤ length (drop at order) = omega (arith, c.min-count.ensures, c.chunks.invariant.within, length-drop at order) in
    let long : length (take n (drop at order)) ≡ n = length-take-le n (drop at order) short in
    let few : length (take (at + n - at) (drop at order)) ≤ CHUNK = omega (arith, small, long, ap (λ k. length (take k (drop at order))) moved) in
    let places : All (λ e. e < length edges) order = order_places edges order (c.order-order.ensures ∙ c.requires.peeling.order) in
    let some : 0 < length (take (at + n - at) (drop at order)) = omega (arith, long, ap (λ k. length (take k (drop at order))) moved, c.min-count.ensures, c.chunks-test.true) in
    let part : IsPart (order_of edges) (take (at + n - at) (drop at order)) = (at, at + n - at, ap (λ (xs : List ℕ). take (at + n - at) (drop at xs)) (c.order-order.ensures ∙ c.requires.peeling.order)) in
    let cells = long_at (plan_of (g.S.Scheme.rule c.args.scheme.now) c.args.edges.now.vertices edges c.args.tags.now) (g.S.Table.Cells.cells c.chunks.table) (drop c.chunks.at order) c.chunks.invariant.cells in
    (search rules, (search rules, (c.requires.peeling, (c.requires.empty, (c.requires.many, ((some, few), (part, (All-take (λ e. e < length edges) (at + n - at) (drop at order) (All-drop (λ e. e < length edges) at order places), (c.chunks.invariant.bound, cells)))))))))

pub chunks-preserved : goal.chunks-preserved
chunks-preserved g c =
    let order : List ℕ = c.order-order.result.now in
    let n : ℕ = c.min-count.result in
    let at : ℕ = c.chunks.at - n in
    let moved : at + n - at ≡ n = omega arith in
    let back : c.chunks.at ≡ at + n = omega (arith, c.min-count.ensures) in
    let p : Plan = plan_of (g.S.Scheme.rule c.args.scheme.now) c.args.edges.now.vertices c.args.edges.now.edges c.args.tags.now in
    record {
      bound = c.settle_chunk.ensures.bound ∙ c.chunks.invariant.bound;
      within = omega (arith, c.chunks.invariant.within);
      cells = chunk_step p (all_idle p) (g.S.Table.Cells.cells c.chunks.table) (g.S.Table.Cells.cells c.settle_chunk.new.table) order at n
          (c.chunks.invariant.cells ∙ ap (λ k. one_by_one p (all_idle p) (drop k order)) back)
          (c.settle_chunk.ensures.cells ∙ ap (λ k. one_by_one p (g.S.Table.Cells.cells c.chunks.table) (take k (drop at order))) moved);
    }

pub returns-clause-cells : goal.returns-clause-cells
returns-clause-cells g c =
    loop_end (plan_of (g.S.Scheme.rule c.args.scheme.now) c.args.edges.now.vertices c.args.edges.now.edges c.args.tags.now) (g.S.Table.Cells.cells c.chunks.table) c.order-order.result.now c.chunks.at
    c.chunks.invariant.cells (omega (arith, c.chunks-test.false)) (c.order-order.ensures ∙ c.requires.peeling.order)

pub returns-clause-solved : goal.returns-clause-solved
returns-clause-solved g c =
    subst (AreSolved (plan_of (g.S.Scheme.rule c.args.scheme.now) c.args.edges.now.vertices c.args.edges.now.edges c.args.tags.now)) (sym (returns-clause-cells g c))
    (plan_solved g.row.K (g.S.Scheme.rule c.args.scheme.now) c.args.edges.now.vertices c.args.edges.now.edges c.args.tags.now (g.met.S.Scheme.laws c.args.scheme.now) c.requires.many c.len-m.ensures.edges c.requires.empty)
