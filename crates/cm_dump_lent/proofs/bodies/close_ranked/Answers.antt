use Rattle.std.proofs.Common.{◌≡◌, ◌∙◌, ◌*◌, ◌^◌, ℕ, List, ap, arith, sym, subst, length, count_by, lit<, rules, Result, Ok}
use Rattle.std.specs.Int.{div_ceil}
use Rattle.cm_bdz.specs.BdzLaws.{is_thirds}
use Rattle.cm_bdz.specs.Functions.{Bdz, IsBdz}
use Rattle.cm_bits.specs.Held.{packed_cells}
use Rattle.cm_bits.specs.PackedLaws.{AllBelow-packed_cells, length-packed_cells}
use Rattle.cm_dump.specs.CellLaws.{few_vertices}
use Rattle.cm_dump_items.specs.StepLaws.{fails_then}
use Rattle.cm_dump_items.specs.declared.fault.LoadFault.{LoadFault}
use Rattle.cm_rank.specs.Ranks.{rank_of}
use Rattle.cm_spec.specs.Cells.{is_busy}
use Rattle.cm_dump_brz.specs.CountLaws.{count_is}
use Rattle.cm_dump_lent.proofs.BodyLemmas.{bdz_of, ranked_to_end, ranked_uncounted}
use Rattle.cm_dump_lent.proofs.bodies.close_ranked.Goals as goal

-- there are cells
pub busy_by_ranks-requires-clause-some : goal.busy_by_ranks-requires-clause-some
busy_by_ranks-requires-clause-some c =
    let h = c.args.header in
    let long = ap length c.new-cells.ensures.cells ∙ length-packed_cells 4 4 c.args.n c.args.image.now in
    let thirds = is_thirds h.keys h.ratio c.args.n (c.requires.keys.0, omega (arith, c.requires.keys.1)) c.requires.ratio c.requires.n in
    omega (arith, long, thirds.is, thirds.some)

pub busy_by_ranks-requires-clause-n : goal.busy_by_ranks-requires-clause-n
busy_by_ranks-requires-clause-n c =
    let h = c.args.header in
    let long = ap length c.new-cells.ensures.cells ∙ length-packed_cells 4 4 c.args.n c.args.image.now in
    omega (arith, long, c.requires.n, few_vertices h.keys h.ratio c.requires.keys.0 c.requires.keys.1 c.requires.ratio)

pub busy_by_ranks-requires-clause-long : goal.busy_by_ranks-requires-clause-long
busy_by_ranks-requires-clause-long c =
    let long = ap length c.new-cells.ensures.cells ∙ length-packed_cells 4 4 c.args.n c.args.image.now in
    c.requires.long ∙ ap (λ (k : ℕ). 4 * div_ceil k (2 ^ c.args.header.b)) (sym long)

pub returns-then-busy_by_ranks-header-clause-exact : goal.returns-then-busy_by_ranks-header-clause-exact
returns-then-busy_by_ranks-header-clause-exact c =
    let h = c.args.header in
    let n : ℕ = c.args.n in
    let cells : List ℕ = packed_cells 4 4 n c.args.image.now in
    let long : length cells ≡ n = length-packed_cells 4 4 n c.args.image.now in
    let same_long : length (packed_cells 4 4 c.new-cells.result.n c.new-cells.result.bytes.now) ≡ n = ap length c.new-cells.ensures.cells ∙ long in
    let counted = count_is _ cells n c.busy_by_ranks.result c.new-cells.ensures.cells long (c.busy_by_ranks.ensures.busy ∙ ap (rank_of 3 (packed_cells 4 4 c.new-cells.result.n c.new-cells.result.bytes.now)) same_long) in
    ranked_uncounted c.args.dump.now h cells (λ is. c.if-busy_by_ranks-header.true (counted ∙ is))

pub returns-in-Ok-clause-exact : goal.returns-in-Ok-clause-exact
returns-in-Ok-clause-exact c =
    let h = c.args.header in
    let n : ℕ = c.args.n in
    let cells : List ℕ = packed_cells 4 4 n c.args.image.now in
    let long : length cells ≡ n = length-packed_cells 4 4 n c.args.image.now in
    let same_long : length (packed_cells 4 4 c.new-cells.result.n c.new-cells.result.bytes.now) ≡ n = ap length c.new-cells.ensures.cells ∙ long in
    let counted = count_is _ cells n c.busy_by_ranks.result c.new-cells.ensures.cells long (c.busy_by_ranks.ensures.busy ∙ ap (rank_of 3 (packed_cells 4 4 c.new-cells.result.n c.new-cells.result.bytes.now)) same_long) in
    let busy : count_by (is_busy 3) cells ≡ h.keys = omega (arith, counted, c.if-busy_by_ranks-header.false) in
    let ended = rw (c.image_len.ensures, c.ranks_len.ensures) at c.in-Ok.ensures.exact in
    let same : bdz_of h cells ≡ c.new.result.function = ap (λ (k : ℕ). bdz_of h (packed_cells 4 4 k c.args.image.now)) c.requires.n ∙ sym c.new.ensures.function in
    ranked_to_end c.args.dump.now h cells n long busy c.requires.ranked ∙ rw ended (ap (λ (f : Bdz). let r : Result Bdz LoadFault = Ok f in r) same)

pub returns-in-Ok-clause-valid : goal.returns-in-Ok-clause-valid
returns-in-Ok-clause-valid c =
    let h = c.args.header in
    let n : ℕ = c.args.n in
    let cells : List ℕ = packed_cells 4 4 n c.args.image.now in
    let long : length cells ≡ n = length-packed_cells 4 4 n c.args.image.now in
    let same_long : length (packed_cells 4 4 c.new-cells.result.n c.new-cells.result.bytes.now) ≡ n = ap length c.new-cells.ensures.cells ∙ long in
    let counted = count_is _ cells n c.busy_by_ranks.result c.new-cells.ensures.cells long (c.busy_by_ranks.ensures.busy ∙ ap (rank_of 3 (packed_cells 4 4 c.new-cells.result.n c.new-cells.result.bytes.now)) same_long) in
    let busy : count_by (is_busy 3) cells ≡ h.keys = omega (arith, counted, c.if-busy_by_ranks-header.false) in
    let same : bdz_of h cells ≡ c.new.result.function = ap (λ (k : ℕ). bdz_of h (packed_cells 4 4 k c.args.image.now)) c.requires.n ∙ sym c.new.ensures.function in
    subst IsBdz same (record {
      keys = c.requires.keys;
      ratio = c.requires.ratio;
      seed = search rules;
      shift = c.requires.b;
      size = long ∙ c.requires.n;
      below = AllBelow-packed_cells 4 4 n c.args.image.now (lit< tt);
      busy = busy;
    })

pub returns-in-Err-clause-exact : goal.returns-in-Err-clause-exact
returns-in-Err-clause-exact c =
    let h = c.args.header in
    let n : ℕ = c.args.n in
    let cells : List ℕ = packed_cells 4 4 n c.args.image.now in
    let long : length cells ≡ n = length-packed_cells 4 4 n c.args.image.now in
    let same_long : length (packed_cells 4 4 c.new-cells.result.n c.new-cells.result.bytes.now) ≡ n = ap length c.new-cells.ensures.cells ∙ long in
    let counted = count_is _ cells n c.busy_by_ranks.result c.new-cells.ensures.cells long (c.busy_by_ranks.ensures.busy ∙ ap (rank_of 3 (packed_cells 4 4 c.new-cells.result.n c.new-cells.result.bytes.now)) same_long) in
    let busy : count_by (is_busy 3) cells ≡ h.keys = omega (arith, counted, c.if-busy_by_ranks-header.false) in
    let ended = rw (c.image_len.ensures, c.ranks_len.ensures) at c.in-Err.ensures.exact in
    rw (ranked_to_end c.args.dump.now h cells n long busy c.requires.ranked) (fails_then c.in-Err.fault _ _ ended)
