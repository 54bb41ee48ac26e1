use Rattle.std.proofs.Common.{rules, Bool, false, cond, ◌≡◌, ◌∙◌, ℕ, ◌-◌, ◌%◌, ◌<◌, true, List, [], length, map, take, drop, get_or, sym, refl, ap, subst, arith}
use Rattle.std.specs.List.{All}
use Rattle.std.proofs.lemmas.List.{length-map}
use Rattle.std.proofs.lemmas.List.Elements.{All-map, All-contains}
use Rattle.cm_peel.specs.Peeling.{Peeling, IsPeelingOf}
use Rattle.cm_spec.specs.Cells.{Plan, plan_of, at_once}
use Rattle.cm_spec.specs.Graph.{ends_at, AreEdges}
use Rattle.cm_spec.specs.Lists.{has}
use Rattle.cm_spec.specs.Rounds.{rest_of, pivot_of, order_of, level_of}
use Rattle.cm_peel.specs.SetLaws.{Contains-from_has}
use Rattle.cm_algo_cells.specs.OneByOne.{AreOf, AreReady, IsPart, edge_parts, one_by_one}
use Rattle.cm_algo_cells.proofs.OneRound.{one_round}
use Rattle.cm_spec.specs.Rule.{Rule, IsRule, IsCount}
use Rattle.cm_algo_cells.proofs.Solving.{map_agree, removed_at}
use Rattle.cm_algo_cells.proofs.cells.settle_chunk.Goals as goal

-- what is looked up is the pivots and the targets of the plan
pivot_is : (edges : List (List ℕ)) (p : Peeling) (e : ℕ) → IsPeelingOf edges p → rest_of edges ≡ [] → e < length edges → get_or p.pivots e 0 ≡ pivot_of edges e
pivot_is edges p e peeling none place = peeling.pivot e place (removed_at edges e none place).level

pivots_are : (edges : List (List ℕ)) (p : Peeling) (chunk positions : List ℕ) → IsPeelingOf edges p → rest_of edges ≡ [] → All (λ e. e < length edges) chunk → positions ≡ map (λ e. get_or p.pivots e 0) chunk → positions ≡ map (pivot_of edges) chunk
pivots_are edges p chunk positions peeling none places is = is ∙ map_agree _ _ chunk (λ k d h. pivot_is edges p (get_or chunk k d) peeling none (places k d h))

targets_are : (r : Rule) (n : ℕ) (edges : List (List ℕ)) (tags : List ℕ) (p : Peeling) (chunk targets : List ℕ) → IsPeelingOf edges p → rest_of edges ≡ [] → All (λ e. e < length edges) chunk → targets ≡ map (λ e. r.target e (get_or p.pivots e 0) (get_or tags e 0)) chunk
    → targets ≡ map (plan_of r n edges tags).target chunk
targets_are r n edges tags p chunk targets peeling none places is =
    is ∙ map_agree _ _ chunk (λ k d h. ap (λ (q : ℕ). r.target (get_or chunk k d) q (get_or tags (get_or chunk k d) 0)) (pivot_is edges p (get_or chunk k d) peeling none (places k d h)))

pivots_within : (k n : ℕ) (edges : List (List ℕ)) (chunk : List ℕ) → AreEdges k n edges → rest_of edges ≡ [] → All (λ e. e < length edges) chunk → All (λ position. position < k) (map (pivot_of edges) chunk)
pivots_within k n edges chunk are none places = All-map (λ position. position < k) (pivot_of edges) chunk (λ i d h.
    let e : ℕ = get_or chunk i d in
    let place : e < length edges = places i d h in
    omega (arith, (removed_at edges e none place).within, (are e [] place).0))

-- the targets of a chunk are below the modulus
targets_below : (k n : ℕ) (r : Rule) (edges : List (List ℕ)) (tags chunk : List ℕ) → IsRule k r → IsCount (length edges) → AreEdges k n edges → rest_of edges ≡ [] → All (λ e. e < length edges) chunk → All (λ target. target < r.modulus (length edges)) (map (plan_of r n edges tags).target chunk)
targets_below k n r edges tags chunk law many are none places = All-map (λ target. target < r.modulus (length edges)) (plan_of r n edges tags).target chunk (λ i d h.
    let e : ℕ = get_or chunk i d in
    let place : e < length edges = places i d h in
    law.target_below (length edges) e (pivot_of edges e) (get_or tags e 0) many place (omega (arith, (removed_at edges e none place).within, (are e [] place).0)))

-- the edges of a chunk are ready
ready : (k n bound modulus : ℕ) (r : Rule) (edges : List (List ℕ)) (tags chunk cells : List ℕ) (ends : List (List ℕ)) (positions targets : List ℕ) → IsRule k r → IsCount (length edges) → AreEdges k n edges → rest_of edges ≡ [] → All (λ e. e < length edges) chunk
    → bound ≡ r.bound (length edges) → All (λ each. All (λ u. u < length cells) each) ends → AreOf (plan_of r n edges tags) chunk modulus (edge_parts ends positions targets) → AreReady k bound cells modulus (edge_parts ends positions targets)
ready k n bound modulus r edges tags chunk cells ends positions targets law many are none places b_is within of =
    let long : length ends ≡ length chunk = ap length of.ends_are ∙ length-map chunk (ends_at edges) in
    record {
      modulus_within = omega (arith, of.modulus_is, b_is, law.modulus_within (length edges) many);
      within = within;
      positions_below = subst (λ (xs : List ℕ). All (λ position. position < k) xs) (sym of.positions_are) (pivots_within k n edges chunk are none places);
      targets_below = subst (λ (xs : List ℕ). All (λ target. target < modulus) xs) (sym of.targets_are) (subst (λ (m : ℕ). All (λ target. target < m) (map (plan_of r n edges tags).target chunk)) (sym of.modulus_is) (targets_below k n r edges tags chunk law many are none places));
      positions_long = ap length of.positions_are ∙ (length-map chunk (pivot_of edges) ∙ sym long);
      targets_long = ap length of.targets_are ∙ (length-map chunk _ ∙ sym long);
    }

-- the edges of a chunk whose rounds have one parity may be settled at once
at_once_in_part : (q : Plan) (before : List ℕ) (p : Peeling) (chunk : List ℕ) → IsPeelingOf q.edges p → rest_of q.edges ≡ [] → All (λ e. e < length q.edges) chunk → IsPart (order_of q.edges) chunk
    → All (λ e. get_or p.parities e 0 ≡ get_or p.parities (get_or chunk 0 0) 0) chunk → at_once q before chunk ≡ one_by_one q before chunk
at_once_in_part q before p chunk peeling none places part same =
    let is : chunk ≡ take part.1 (drop part.0 (order_of q.edges)) = part.2 in
    let parity : (e : ℕ) → has chunk e ≡ true → (level_of q.edges e - 1) % 2 ≡ get_or p.parities (get_or chunk 0 0) 0 = λ e m.
    (let in_chunk = Contains-from_has chunk e m in
    let place : e < length q.edges = All-contains (λ e. e < length q.edges) chunk e places in_chunk in
    sym (peeling.parity e place (removed_at q.edges e none place).level) ∙ All-contains (λ e. get_or p.parities e 0 ≡ get_or p.parities (get_or chunk 0 0) 0) chunk e same in_chunk) in
    sym (ap (one_by_one q before) is ∙ (one_round q before part.0 part.1 _ (λ e m. parity e (ap (λ (xs : List ℕ). has xs e) is ∙ m)) ∙ ap (at_once q before) (sym is)))

either : (q : Plan) (before : List ℕ) (p : Peeling) (chunk : List ℕ) → IsPeelingOf q.edges p → rest_of q.edges ≡ [] → All (λ e. e < length q.edges) chunk → IsPart (order_of q.edges) chunk
    → (b : Bool) → (b ≡ true → All (λ e. get_or p.parities e 0 ≡ get_or p.parities (get_or chunk 0 0) 0) chunk) → cond b (at_once q before chunk) (one_by_one q before chunk) ≡ one_by_one q before chunk
either q before p chunk peeling none places part true same = at_once_in_part q before p chunk peeling none places part (same refl)
either q before p chunk peeling none places part false same = refl

-- some edge has a target below the modulus
modulus_some : (k m : ℕ) (r : Rule) → IsRule k r → IsCount m → 0 < r.modulus m
modulus_some k m r law many = omega (arith, law.target_below m 0 0 0 many (omega (arith, many.0)) (omega (arith, law.two_or_three.0)))

pub new-modulus-requires : goal.new-modulus-requires
new-modulus-requires g c =
    let many : IsCount (length c.args.edges.now.edges) = c.requires.many in
    let is : c.modulus.result ≡ (g.S.Scheme.rule c.args.scheme.now).modulus (length c.args.edges.now.edges) = c.modulus.ensures.modulus ∙ ap (λ (m : ℕ). (g.S.Scheme.rule c.args.scheme.now).modulus m) c.len.ensures.count in
    let some = modulus_some g.row.K (length c.args.edges.now.edges) (g.S.Scheme.rule c.args.scheme.now) (g.met.S.Scheme.laws c.args.scheme.now) many in
    omega (arith, is, some)

-- what is looked up is of the plan
of_plan : (r : Rule) (n modulus : ℕ) (edges : List (List ℕ)) (tags : List ℕ) (p : Peeling) (chunk : List ℕ) (ends : List (List ℕ)) (positions targets : List ℕ) → IsPeelingOf edges p → rest_of edges ≡ [] → All (λ e. e < length edges) chunk → modulus ≡ r.modulus (length edges)
    → ends ≡ map (ends_at edges) chunk → positions ≡ map (λ e. get_or p.pivots e 0) chunk → targets ≡ map (λ e. r.target e (get_or p.pivots e 0) (get_or tags e 0)) chunk → AreOf (plan_of r n edges tags) chunk modulus (edge_parts ends positions targets)
of_plan r n modulus edges tags p chunk ends positions targets peeling none places m_is en po ta = record {
  modulus_is = m_is;
  ends_are = en;
  positions_are = pivots_are edges p chunk positions peeling none places po;
  targets_are = targets_are r n edges tags p chunk targets peeling none places ta;
}

pub settle_all-requires : goal.settle_all-requires
settle_all-requires g c =
    let edges : List (List ℕ) = c.args.edges.now.edges in
    let r : Rule = g.S.Scheme.rule c.args.scheme.now in
    let of = of_plan r c.args.edges.now.vertices c.new-modulus.result edges c.args.tags.now c.args.peeled.now c.args.chunk.now _ _ _ c.requires.peeling c.requires.empty c.requires.places
    (c.new-modulus.ensures.value ∙ (c.modulus.ensures.modulus ∙ ap (λ (m : ℕ). r.modulus m) c.len.ensures.count)) c.gather.ensures.ends c.look_up.ensures.positions c.look_up.ensures.targets in (
      search rules,
      (
        c.len.ensures.width.1,
        (
          omega (arith, c.requires.few.1, ap length c.gather.ensures.ends, length-map c.args.chunk.now (ends_at edges)),
          ready g.row.K c.args.edges.now.vertices (g.S.Table.Cells.bound_of c.args.table.now) c.new-modulus.result r edges c.args.tags.now c.args.chunk.now (g.S.Table.Cells.cells c.args.table.now) _ _ _
              (g.met.S.Scheme.laws c.args.scheme.now) c.requires.many c.len.ensures.edges c.requires.empty c.requires.places c.requires.bound
              (λ k d h k' d' h'. omega (arith, (c.gather.ensures.edges k d h).0 k' d' h', c.requires.long)) of,
        ),
      ),
    )

pub returns-clause-cells : goal.returns-clause-cells
returns-clause-cells g c =
    let edges : List (List ℕ) = c.args.edges.now.edges in
    let chunk : List ℕ = c.args.chunk.now in
    let r : Rule = g.S.Scheme.rule c.args.scheme.now in
    let p : Plan = plan_of r c.args.edges.now.vertices edges c.args.tags.now in
    let before : List ℕ = g.S.Table.Cells.cells c.args.table.now in
    let of = of_plan r c.args.edges.now.vertices c.new-modulus.result edges c.args.tags.now c.args.peeled.now chunk _ _ _ c.requires.peeling c.requires.empty c.requires.places
    (c.new-modulus.ensures.value ∙ (c.modulus.ensures.modulus ∙ ap (λ (m : ℕ). r.modulus m) c.len.ensures.count)) c.gather.ensures.ends c.look_up.ensures.positions c.look_up.ensures.targets in
    c.settle_all.ensures.cells p chunk of ∙ either p before c.args.peeled.now chunk c.requires.peeling c.requires.empty c.requires.places c.requires.part c.is_at_once-all_at_once.result (λ is. (c.is_at_once-all_at_once.ensures.0 is).1)
