use Rattle.std.proofs.Common.{◌≡◌, ◌∙◌, ◌+◌, ◌*◌, ◌/◌, ◌%◌, ◌<◌, List, [], ℕ, ap, sym, arith, rules, length, get_or}
use Rattle.std.proofs.lemmas.Option.{get_or_from_slice_get}
use Rattle.cm_graph.proofs.Positions.{place_edge, place_position}
use Rattle.cm_graph.proofs.blocks.add_edge.Goals as goal

pub overflow_mul-half : goal.overflow_mul-half
overflow_mul-half g c = omega (arith, c.requires.edge, c.requires.few)

pub overflow_add-half : goal.overflow_add-half
overflow_add-half g c = omega (arith, c.requires.edge, c.requires.few, c.loop-j-test.true, c.ends-ends.ensures.width.1, c.loop-j.invariant.end)

pub add-requires : goal.add-requires
add-requires g c =
    let e : ℕ = c.args.e in
    let j : ℕ = c.loop-j.j in
    let ends : List ℕ = c.ends-ends.result in
    let edges : List (List ℕ) = c.args.edges.now.edges in
    let wide : length ends ≡ g.row.K = search rules in
    let four : j < 4 = omega (arith, c.loop-j-test.true, c.ends-ends.ensures.width.1, c.loop-j.invariant.end) in
    let within : j < length ends = omega (arith, c.loop-j-test.true, wide, c.loop-j.invariant.end) in
    let edge : (4 * e + j) / 4 ≡ e = place_edge e j four in
    let position : (4 * e + j) % 4 ≡ j = place_position e j four in
    let below : get_or ends j 0 < c.args.edges.now.vertices = c.ends-ends.ensures.edge.0 j 0 within in
    let is : get_or edges e [] ≡ ends = get_or_from_slice_get edges e ends [] c.ends-ends.ensures.ends in
    let vertex : get_or ends j 0 ≡ get_or (get_or edges ((4 * e + j) / 4) []) ((4 * e + j) % 4) 0 = ap (λ xs. get_or xs j 0) (sym is) ∙ (ap (λ i. get_or (get_or edges i []) j 0) (sym edge) ∙ ap (λ i. get_or (get_or edges ((4 * e + j) / 4) []) i 0) (sym position)) in (
      omega arith,
      (
        omega (arith, below, c.requires.many, c.loop-j.invariant.many),
        (
          c.loop-j.invariant.split,
          (
            record {
              edge = omega (arith, edge, c.requires.edge);
              position = omega (arith, position, within, wide);
              vertex = vertex;
            },
            c.loop-j.invariant.first.past (4 * e + j) (omega arith),
          ),
        ),
      ),
    )
