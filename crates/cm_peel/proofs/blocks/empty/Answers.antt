use Rattle.std.proofs.Common.{◌≡◌, ◌∙◌, ℕ, List, ◌+◌, ◌*◌, ◌/◌, ◌<◌, ◌≤◌, ◌++◌, length, map, take, drop, sym, ap, subst, arith, rules}
use Rattle.std.specs.List.{All}
use Rattle.std.proofs.Math.Seq.{take-add}
use Rattle.std.proofs.lemmas.List.{take_all}
use Rattle.cm_spec.specs.Graph.{AreEdges}
use Rattle.cm_graph_edges.specs.declared.incidence.Half.{Half}
use Rattle.cm_graph_edges.specs.Graph.{Graph, Links, places_of, removed_all}
use Rattle.cm_peel.specs.declared.freed.Plan.{Plan}
use Rattle.cm_peel.specs.AtRound.{AreTaken}
use Rattle.cm_peel.specs.Waiting.{AreOpen, AtPart, InTaking, Leads, by_plan, edge_blocks, edges_of, halves_in}
use Rattle.cm_peel.proofs.ByBlocks.{taking_more}
use Rattle.cm_peel.proofs.Incident.{place_in}
use Rattle.cm_peel.proofs.InRound.{places_inside}
use Rattle.cm_peel.proofs.Parts.{removed_all-append, part_is, part_long, IsPart, is_part, part_below, parts_next}
use Rattle.cm_peel.proofs.Pieces.{length_written}
use Rattle.cm_peel.proofs.Same.{part_plan}
use Rattle.cm_peel.proofs.Settling.{marked_few}
use Rattle.cm_peel.proofs.blocks.empty.Goals as goal

pub remove-alone-requires-clause-vertices : goal.remove-alone-requires-clause-vertices
remove-alone-requires-clause-vertices g c =
    let inv = c.parts.invariant in
    let p = part_plan g.row.K c.requires.state.0 c.args.taking.now.plan c.parts.taking.plan c.requires.state.1 (g.I.Incidence.links c.args.incidence.now) c.args.taking.now.marks.now c.args.taking.now.bytes.now c.args.taking.now.freed.now (halves_in c.args.pairs.now) (sym inv.taking.plan) c.requires.state.2 in
    let graph : Graph = c.requires.state.0 in
    let t : ℕ = c.parts.taking.plan.rounds in
    let hs : List Half = halves_in c.args.pairs.now in
    let l : Links = g.I.Incidence.links c.parts.incidence in
    let n : ℕ = c.min-many.result in
    let i : ℕ = c.parts.at / 2 in
    let few : i + n ≤ length hs = omega (arith, c.min-many.ensures, inv.even, inv.high, c.requires.even) in
    let is = part_is c.args.pairs.now c.parts.at n c.read_pairs.new.halves c.parts.halves inv.even c.read_pairs.ensures c.read_pairs.auto.halves (omega (arith, c.min-many.ensures, inv.halves)) in
    let part = is_part graph.edges t (g.I.Incidence.links c.args.incidence.now) l hs _ i n few p.linked p.others inv.links is in
    let r = inv.state c.requires.state.0 c.requires.state.1 c.requires.state.2 in
    part_below g.row.K graph t _ l _ _ _ p.small.edges r.round part

pub remove-alone-requires-clause-halves : goal.remove-alone-requires-clause-halves
remove-alone-requires-clause-halves g c =
    let inv = c.parts.invariant in
    let p = part_plan g.row.K c.requires.state.0 c.args.taking.now.plan c.parts.taking.plan c.requires.state.1 (g.I.Incidence.links c.args.incidence.now) c.args.taking.now.marks.now c.args.taking.now.bytes.now c.args.taking.now.freed.now (halves_in c.args.pairs.now) (sym inv.taking.plan) c.requires.state.2 in
    let graph : Graph = c.requires.state.0 in
    let t : ℕ = c.parts.taking.plan.rounds in
    let hs : List Half = halves_in c.args.pairs.now in
    let l : Links = g.I.Incidence.links c.parts.incidence in
    let n : ℕ = c.min-many.result in
    let i : ℕ = c.parts.at / 2 in
    let few : i + n ≤ length hs = omega (arith, c.min-many.ensures, inv.even, inv.high, c.requires.even) in
    let is = part_is c.args.pairs.now c.parts.at n c.read_pairs.new.halves c.parts.halves inv.even c.read_pairs.ensures c.read_pairs.auto.halves (omega (arith, c.min-many.ensures, inv.halves)) in
    let part = is_part graph.edges t (g.I.Incidence.links c.args.incidence.now) l hs _ i n few p.linked p.others inv.links is in
    part.halves

-- the places that are left alone
places_for : (k : ℕ) (graph : Graph) (t blocks each : ℕ) (gone : List ℕ) (l m : Links) (part : List Half) (places marks bytes freed : List ℕ) → k ≤ 3 → AreEdges k graph.vertices graph.edges → InTaking graph gone l (edge_blocks t blocks each marks bytes freed) → IsPart graph.edges t l part → m ≡ removed_all l part → places ≡ places_of m part → All (λ q. q / 4 < length bytes) places
places_for k graph t blocks each gone l m part places marks bytes freed small are r p is listed =
    subst (λ (n : ℕ). All (λ q. q / 4 < n) places) r.leads.taken.bytes_long (subst (λ (xs : List ℕ). All (λ q. q / 4 < length r.after) xs) (sym listed) (places_inside k graph t gone l m part r.next r.after small are r.round p.halves.0 p.others is))

pub wait-count-requires-clause-places : goal.wait-count-requires-clause-places
wait-count-requires-clause-places g c =
    let inv = c.parts.invariant in
    let p = part_plan g.row.K c.requires.state.0 c.args.taking.now.plan c.parts.taking.plan c.requires.state.1 (g.I.Incidence.links c.args.incidence.now) c.args.taking.now.marks.now c.args.taking.now.bytes.now c.args.taking.now.freed.now (halves_in c.args.pairs.now) (sym inv.taking.plan) c.requires.state.2 in
    let graph : Graph = c.requires.state.0 in
    let t : ℕ = c.parts.taking.plan.rounds in
    let hs : List Half = halves_in c.args.pairs.now in
    let l : Links = g.I.Incidence.links c.parts.incidence in
    let n : ℕ = c.min-many.result in
    let i : ℕ = c.parts.at / 2 in
    let few : i + n ≤ length hs = omega (arith, c.min-many.ensures, inv.even, inv.high, c.requires.even) in
    let is = part_is c.args.pairs.now c.parts.at n c.read_pairs.new.halves c.parts.halves inv.even c.read_pairs.ensures c.read_pairs.auto.halves (omega (arith, c.min-many.ensures, inv.halves)) in
    let part = is_part graph.edges t (g.I.Incidence.links c.args.incidence.now) l hs _ i n few p.linked p.others inv.links is in
    let r = inv.state c.requires.state.0 c.requires.state.1 c.requires.state.2 in
    places_for g.row.K graph t _ _ _ l (g.I.Incidence.links c.remove-alone.new.self) _ _ _ c.parts.taking.bytes.now _ p.small.ends p.small.edges r part c.remove-alone.ensures.links c.remove-alone.ensures.places

pub wait-count-requires-clause-free : goal.wait-count-requires-clause-free
wait-count-requires-clause-free g c = (c.parts.invariant.state c.requires.state.0 c.requires.state.1 c.requires.state.2).free

pub wait-count-requires-clause-state : goal.wait-count-requires-clause-state
wait-count-requires-clause-state g c =
    let r = c.parts.invariant.state c.requires.state.0 c.requires.state.1 c.requires.state.2 in
    (r.after, r.next, r.leads)

pub overflow_add-count : goal.overflow_add-count
overflow_add-count g c =
    let inv = c.parts.invariant in
    let p = part_plan g.row.K c.requires.state.0 c.args.taking.now.plan c.parts.taking.plan c.requires.state.1 (g.I.Incidence.links c.args.incidence.now) c.args.taking.now.marks.now c.args.taking.now.bytes.now c.args.taking.now.freed.now (halves_in c.args.pairs.now) (sym inv.taking.plan) c.requires.state.2 in
    let r = inv.state c.requires.state.0 c.requires.state.1 c.requires.state.2 in
    let w = c.wait-count.ensures.state r.after r.next r.leads in
    let small : c.parts.count + c.wait-count.result < 67108865 = omega (arith, marked_few c.wait-count.new.marks, w.3.few_marks, c.wait-count.ensures.count, inv.count) in
    search rules

-- how long a part is
long_for : (hs part : List Half) (i n : ℕ) → i + n ≤ length hs → part ≡ take n (drop i hs) → length part ≡ n
long_for hs part i n few is = ap length is ∙ part_long hs i n few

-- the state after a part
next_for : (k : ℕ) (graph : Graph) (plan : Plan) (gone : List ℕ) (l₀ l m : Links) (hs part : List Half) (i n : ℕ) (places marks₀ bytes₀ freed₀ marks bytes freed marks' bytes' freed' : List ℕ) → AtPart k graph gone l₀ (by_plan plan marks₀ bytes₀ freed₀) hs → i + n ≤ length hs → l ≡ removed_all l₀ (take i hs) → part ≡ take n (drop i hs) → m ≡ removed_all l part → places ≡ places_of m part
    → InTaking graph (gone ++ map place_in (take i hs)) l (by_plan plan marks bytes freed) → AreOpen plan.blocks plan.each freed' → ((after next : List ℕ) → Leads (by_plan plan marks bytes freed) after next → (after' : List ℕ) × (next' : List ℕ) × AreTaken plan.rounds places after after' next next' × Leads (by_plan plan marks' bytes' freed') after' next')
    → InTaking graph (gone ++ map place_in (take (i + n) hs)) m (by_plan plan marks' bytes' freed')
next_for k graph plan gone l₀ l m hs part i n places marks₀ bytes₀ freed₀ marks bytes freed marks' bytes' freed' p few links is unlinked listed r free more =
    subst (λ (xs : List ℕ). InTaking graph xs m (by_plan plan marks' bytes' freed')) (ap (λ (xs : List Half). (gone ++ map place_in (take i hs)) ++ map place_in xs) is ∙ parts_next hs gone i n)
    (taking_more k graph plan.rounds plan.blocks plan.each _ l m part places marks bytes freed marks' bytes' freed' p.small.ends p.small.edges r (is_part graph.edges plan.rounds l₀ l hs part i n few p.linked p.others links is) unlinked listed free more)

pub parts-preserved : goal.parts-preserved
parts-preserved g c =
    let inv = c.parts.invariant in
    let hs : List Half = halves_in c.args.pairs.now in
    let l₀ : Links = g.I.Incidence.links c.args.incidence.now in
    let l : Links = g.I.Incidence.links c.parts.incidence in
    let m : Links = g.I.Incidence.links c.remove-alone.new.self in
    let n : ℕ = c.min-many.result in
    let i : ℕ = c.parts.at / 2 in
    let few : i + n ≤ length hs = omega (arith, c.min-many.ensures, inv.even, inv.high, c.requires.even) in
    let is = part_is c.args.pairs.now c.parts.at n c.read_pairs.new.halves c.parts.halves inv.even c.read_pairs.ensures c.read_pairs.auto.halves (omega (arith, c.min-many.ensures, inv.halves)) in
    let half : (c.parts.at + 2 * n) / 2 ≡ i + n = omega (arith, inv.even) in
    record {
      halves = length_written c.read_pairs.new.halves c.parts.halves n 256 c.read_pairs.auto.halves (omega (arith, c.min-many.ensures)) inv.halves;
      places = c.remove-alone.auto.places ∙ inv.places;
      even = omega (arith, inv.even);
      high = omega (arith, c.min-many.ensures, inv.high);
      links = c.remove-alone.ensures.links ∙ (ap (removed_all l) is ∙ (ap (λ (x : Links). removed_all x (take n (drop i hs))) inv.links ∙ (sym (removed_all-append (take i hs) (take n (drop i hs)) l₀) ∙ ap (removed_all l₀) (sym (take-add i n hs) ∙ ap (λ j. take j hs) (sym half)))));
      taking = record {
        plan = inv.taking.plan;
        bytes = inv.taking.bytes;
        freed = inv.taking.freed;
        marks = inv.taking.marks;
        counts = inv.taking.counts;
        bytes_long = c.wait-count.auto.bytes ∙ inv.taking.bytes_long;
        freed_long = c.wait-count.auto.freed ∙ inv.taking.freed_long;
        marks_long = c.wait-count.auto.marks ∙ inv.taking.marks_long;
        counts_long = inv.taking.counts_long;
      };
      counts = inv.counts;
      state = λ graph gone p. subst (λ (j : ℕ). InTaking graph (gone ++ map place_in (take j hs)) m (by_plan c.parts.taking.plan c.wait-count.new.marks c.wait-count.new.bytes c.wait-count.new.freed)) (sym half)
          (next_for g.row.K graph c.parts.taking.plan gone l₀ l m hs _ i n _ c.args.taking.now.marks.now c.args.taking.now.bytes.now c.args.taking.now.freed.now c.parts.taking.marks.now c.parts.taking.bytes.now c.parts.taking.freed.now c.wait-count.new.marks c.wait-count.new.bytes c.wait-count.new.freed (part_plan g.row.K graph c.args.taking.now.plan c.parts.taking.plan gone l₀ c.args.taking.now.marks.now c.args.taking.now.bytes.now c.args.taking.now.freed.now hs (sym inv.taking.plan) p) few inv.links is c.remove-alone.ensures.links c.remove-alone.ensures.places (inv.state graph gone p) c.wait-count.ensures.free c.wait-count.ensures.state);
      count = omega (arith, c.wait-count.ensures.count, inv.count);
      steps = omega (arith, c.remove-alone.ensures.steps, inv.steps, half, long_for hs _ i n few is);
    }

pub returns-clause-state : goal.returns-clause-state
returns-clause-state g c =
    let inv = c.parts.invariant in
    let hs : List Half = halves_in c.args.pairs.now in
    let all : take (c.parts.at / 2) hs ≡ hs = take_all (c.parts.at / 2) hs (omega (arith, c.parts-test.false, inv.even, inv.high, c.requires.even)) in
    λ graph gone s. subst (λ (xs : List Half). InTaking graph (gone ++ map place_in xs) (g.I.Incidence.links c.parts.incidence) (edges_of c.parts.taking)) all (inv.state graph gone s)
