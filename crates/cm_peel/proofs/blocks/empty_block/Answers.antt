use Rattle.std.proofs.Common.{◌≡◌, ℕ, List, ◌++◌, map, ◌+◌, ◌-◌, ◌*◌, ◌<◌, ◌≤◌, length, get_or, set, take, drop, refl, sym, ap, subst, arith, length-drop}
use Rattle.std.proofs.Math.ListN.{length-set}
use Rattle.std.proofs.lemmas.List.{length-take-le}
use Rattle.cm_graph_edges.specs.Graph.{Graph, Links}
use Rattle.cm_peel.specs.declared.freed.Plan.{Plan}
use Rattle.cm_peel.specs.Waiting.{AtBlocks, AtPart, InBlocks, InTaking, by_plan, edge_blocks, halves_in, vertex_blocks, waiting_in}
use Rattle.cm_peel.proofs.Incident.{place_in}
use Rattle.cm_peel.proofs.Parts.{IsPart}
use Rattle.cm_peel.proofs.Pairs.{pairs_long}
use Rattle.cm_peel.proofs.Same.{at_plan, taking_plan}
use Rattle.cm_peel.proofs.Waits.{step_over, block_halves, blocks_emptied, room_kept}
use Rattle.cm_peel.proofs.blocks.empty_block.Goals as goal

-- the pairs of a block
raw_is : (room : List ℕ) (s n : ℕ) → take (s + n - s) (drop s room) ≡ take n (drop s room)
raw_is room s n = let moved : s + n - s ≡ n = omega arith in ap (λ k. take k (drop s room)) moved

block_long : (graph : Graph) (t size blocks each : ℕ) (room counts : List ℕ) (l : Links) (marks bytes freed done : List ℕ) (b : ℕ) → InBlocks graph (vertex_blocks size room counts) l (edge_blocks t blocks each marks bytes freed) done → length counts * size ≤ length room → b < length counts
    → (length (take (2 * get_or counts b 0) (drop (b * size) room)) ≡ 2 * get_or counts b 0) × (length (waiting_in size room counts b) ≡ get_or counts b 0)
block_long graph t size blocks each room counts l marks bytes freed done b r within low =
    let long : length (take (2 * get_or counts b 0) (drop (b * size) room)) ≡ 2 * get_or counts b 0 = length-take-le (2 * get_or counts b 0) (drop (b * size) room) (omega (arith, length-drop (b * size) room, step_over b (length counts) size low, within, r.fits b low)) in
    (long, pairs_long (take (2 * get_or counts b 0) (drop (b * size) room)) (get_or counts b 0) long)

-- what `empty` requires of them
record AreReady (graph : Graph) (t : ℕ) (l : Links) (pairs : List ℕ) : Type 0 where
  pub even : length pairs ≡ 2 * length (halves_in pairs)
  pub part : IsPart graph.edges t l (halves_in pairs)

pairs_for : (k : ℕ) (graph : Graph) (plan : Plan) (room counts : List ℕ) (l : Links) (marks bytes freed done : List ℕ) (b : ℕ) → AtBlocks k graph (vertex_blocks plan.size room counts) l (by_plan plan marks bytes freed) done → b < length counts → AreReady graph plan.rounds l (take (b * plan.size + 2 * get_or counts b 0 - b * plan.size) (drop (b * plan.size) room))
pairs_for k graph plan room counts l marks bytes freed done b r low =
    let long = block_long graph plan.rounds plan.size plan.blocks plan.each room counts l marks bytes freed done b r.state r.space.within low in
    subst (AreReady graph plan.rounds l) (sym (raw_is room (b * plan.size) (2 * get_or counts b 0))) (record {
      even = omega (arith, long.0, long.1);
      part = block_halves graph plan.rounds plan.size plan.blocks plan.each room counts l marks bytes freed done b r.state low;
    })

part_for : (k : ℕ) (graph : Graph) (plan : Plan) (room counts : List ℕ) (l : Links) (marks bytes freed done : List ℕ) (b : ℕ) (gone : List ℕ) → AtBlocks k graph (vertex_blocks plan.size room counts) l (by_plan plan marks bytes freed) done → b < length counts → InTaking graph gone l (by_plan plan marks bytes freed)
    → AtPart k graph gone l (by_plan plan marks bytes freed) (halves_in (take (b * plan.size + 2 * get_or counts b 0 - b * plan.size) (drop (b * plan.size) room)))
part_for k graph plan room counts l marks bytes freed done b gone r low state =
    let ready = pairs_for k graph plan room counts l marks bytes freed done b r low in
    record { small = r.small; early = r.early; state = state; linked = ready.part.halves; others = ready.part.others }

-- the blocks once this one is empty
emptied_for : (k : ℕ) (graph : Graph) (plan plan' : Plan) (room counts : List ℕ) (l m : Links) (marks bytes freed marks' bytes' freed' done : List ℕ) (b : ℕ) → AtBlocks k graph (vertex_blocks plan.size room counts) l (by_plan plan marks bytes freed) done → b < length counts → plan' ≡ plan → length marks' ≡ length marks
    → ((graph : Graph) (gone : List ℕ) → AtPart k graph gone l (by_plan plan marks bytes freed) (halves_in (take (b * plan.size + 2 * get_or counts b 0 - b * plan.size) (drop (b * plan.size) room))) → InTaking graph (gone ++ map place_in (halves_in (take (b * plan.size + 2 * get_or counts b 0 - b * plan.size) (drop (b * plan.size) room)))) m (by_plan plan' marks' bytes' freed'))
    → AtBlocks k graph (vertex_blocks plan'.size room (set counts b 0)) m (by_plan plan' marks' bytes' freed') done
emptied_for k graph plan plan' room counts l m marks bytes freed marks' bytes' freed' done b r low equal long step =
    let same = raw_is room (b * plan.size) (2 * get_or counts b 0) in
    at_plan k graph plan plan' room (set counts b 0) m marks' bytes' freed' done (sym equal) (record {
      small = r.small;
      early = r.early;
      positive = r.positive;
      space = room_kept graph plan.size room counts marks room (set counts b 0) marks' r.space refl (length-set counts b 0) long;
      state = blocks_emptied graph plan.rounds plan.size plan.blocks plan.each room counts l m marks bytes freed marks' bytes' freed' done b r.state low (λ gone s.
          subst (λ (xs : List ℕ). InTaking graph (gone ++ map place_in (halves_in xs)) m (by_plan plan marks' bytes' freed')) same (taking_plan graph plan' plan _ m marks' bytes' freed' equal (step graph gone (part_for k graph plan room counts l marks bytes freed done b gone r low s))));
    })

pub empty-requires-clause-even : goal.empty-requires-clause-even
empty-requires-clause-even g c = (pairs_for g.row.K c.requires.state.0 c.args.taking.now.plan _ _ _ _ _ _ c.requires.state.1 c.args.b c.requires.state.2 c.requires.there).even

pub empty-requires-clause-state : goal.empty-requires-clause-state
empty-requires-clause-state g c = (c.requires.state.0, c.requires.state.2.state.gone, part_for g.row.K c.requires.state.0 c.args.taking.now.plan _ _ _ _ _ _ c.requires.state.1 c.args.b _ c.requires.state.2 c.requires.there c.requires.state.2.state.round)

pub returns-clause-state : goal.returns-clause-state
returns-clause-state g c = λ graph done r. rw c.empty.ensures.counts
    (emptied_for g.row.K graph c.args.taking.now.plan c.empty.new.taking.plan c.args.room.now c.args.taking.now.counts.now (g.I.Incidence.links c.args.incidence.now) (g.I.Incidence.links c.empty.new.incidence) c.args.taking.now.marks.now c.args.taking.now.bytes.now c.args.taking.now.freed.now c.empty.new.taking.marks.now c.empty.new.taking.bytes.now c.empty.new.taking.freed.now done c.args.b r c.requires.there c.empty.ensures.taking.plan c.empty.ensures.taking.marks_long c.empty.ensures.state)

pub returns-clause-steps : goal.returns-clause-steps
returns-clause-steps g c =
    let b : ℕ = c.args.b in
    let r = c.requires.state.2 in
    let same = raw_is c.args.room.now (b * c.args.taking.now.plan.size) (2 * get_or c.args.taking.now.counts.now b 0) in
    let long = block_long c.requires.state.0 c.args.taking.now.plan.rounds c.args.taking.now.plan.size c.args.taking.now.plan.blocks c.args.taking.now.plan.each c.args.room.now c.args.taking.now.counts.now (g.I.Incidence.links c.args.incidence.now) c.args.taking.now.marks.now c.args.taking.now.bytes.now c.args.taking.now.freed.now c.requires.state.1 b r.state r.space.within c.requires.there in
    omega (arith, c.empty.ensures.steps, ap (λ (xs : List ℕ). length (halves_in xs)) same, long.1)
