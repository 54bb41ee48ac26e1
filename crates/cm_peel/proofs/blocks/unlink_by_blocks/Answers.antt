use Rattle.std.proofs.Common.{◌≡◌, ◌∙◌, ℕ, suc, ◌+◌, ◌*◌, ◌/◌, ◌<◌, ◌≤◌, List, [], ◌++◌, length, get_or, take, drop, replicate, sym, ap, subst, arith, rules, nat_cmp, length-append}
use Rattle.std.specs.List.Sorted.{IsSorted}
use Rattle.std.proofs.lemmas.List.{length-take-le}
use Rattle.cm_spec.specs.Rounds.{left_after, removed_after}
use Rattle.cm_graph_edges.specs.Graph.{Graph, Links}
use Rattle.cm_peel.specs.AtRound.{InRound, other_places}
use Rattle.cm_peel.specs.Marks.{IsUnmarked, is_marked}
use Rattle.cm_peel.specs.Waiting.{AreEmpty, AreTables, InTaking, IsRoom, edge_blocks, marked_of}
use Rattle.cm_peel.proofs.ByBlocks.{blocks_begun, part_some, room_of_parts, taking_begun}
use Rattle.cm_peel.proofs.InRound.{next_few}
use Rattle.cm_peel.proofs.Listing.{kept_sorted}
use Rattle.cm_peel.proofs.Pieces.{front_written, written_back}
use Rattle.cm_peel.proofs.Settling.{leads_begun}
use Rattle.cm_peel.proofs.blocks.unlink_by_blocks.Goals as goal

-- before the first place waits
ready : (graph : Graph) (t t' blocks each : ℕ) (l : Links) (marks bytes freed : List ℕ) → t' ≡ t → InRound graph t [] l [] bytes → IsUnmarked (length graph.edges) marks → blocks + blocks * each ≤ length freed → length freed ≤ 67109056 → each ≤ 16384 → 0 < each → length graph.edges ≤ 131072 * blocks → ((b : ℕ) → b < blocks → get_or freed b 0 ≡ 0) → InTaking graph [] l (edge_blocks t' blocks each marks bytes freed)
ready graph t t' blocks each l marks bytes freed same r u within few short some all none =
    taking_begun graph t' blocks each l marks bytes freed (subst (λ (n : ℕ). InRound graph n [] l [] bytes) (sym same) r) (leads_begun t' blocks each marks bytes freed within few short (omega (arith, all, r.bytes_long)) (omega (arith, u.room, r.bytes_long)) u.fits u.clear none) none some

fits_for : (graph : Graph) (size : ℕ) (list counts marks : List ℕ) → size ≡ 2 * (length list / 2 / length counts) → length list ≤ 67109056 → graph.vertices ≤ 65536 * length counts → IsUnmarked (length graph.edges) marks → IsRoom graph size list counts marks
fits_for graph size list counts marks is few blocks u = subst (λ (n : ℕ). IsRoom graph n list counts marks) (sym is) (room_of_parts graph list counts marks few blocks u)

pub unlink_marked-count-requires : goal.unlink_marked-count-requires
unlink_marked-count-requires g c =
    let graph : Graph = c.args.edges.now in
    let p = c.plan_round-plan.ensures in
    let split = c.split_at_mut-room.ensures in
    let front : List ℕ = c.split_at_mut-room.result.0.now in
    let l : Links = g.I.Incidence.links c.args.incidence.now in
    let round : InRound graph c.args.round.before [] l [] c.deref_mut-bytes.result.now = rw c.deref_mut-bytes.ensures.value c.requires.ready.state in
    let tables : AreTables graph c.deref_mut-counts.result.now c.deref_mut-marks.result.now = rw (c.deref_mut-counts.ensures.value, c.deref_mut-marks.ensures.value) c.requires.tables in
    let many = ap length c.deref_mut-counts.ensures.value in
    let blocks : 0 < length c.deref_mut-counts.result.now = omega (arith, c.requires.some, many) in
    let few : length front ≤ 67109056 = omega (arith, split.front_len, c.requires.few) in
    let fits = fits_for graph c.plan_round-plan.result.size front c.deref_mut-counts.result.now c.deref_mut-marks.result.now p.size few (tables.blocks blocks) tables.clear in
    let some : 0 < c.plan_round-plan.result.size = omega (arith, p.size, part_some (length front) (length c.deref_mut-counts.result.now) blocks (omega (arith, split.front_len, c.requires.pairs, many))) in
    let state = ready graph c.args.round.before c.plan_round-plan.result.rounds c.plan_round-plan.result.blocks c.plan_round-plan.result.each l c.deref_mut-marks.result.now c.deref_mut-bytes.result.now c.clear.new.freed p.rounds round tables.clear (omega (arith, p.within, c.clear.auto.freed)) (omega (arith, split.back_len, c.clear.auto.freed, c.requires.few)) p.short p.some (omega (arith, p.edges, c.len.ensures.count)) c.clear.ensures.none in (
      search rules,
      (
        c.requires.ready.round ∙ ap (removed_after graph.edges) (sym p.rounds),
        (
          tables.empty,
          (
            tables.clear,
            record {
              small = c.requires.ready.small;
              early = omega (arith, c.requires.ready.early, p.rounds);
              positive = some;
              space = fits;
              state = blocks_begun graph c.plan_round-plan.result.rounds c.plan_round-plan.result.size c.plan_round-plan.result.blocks c.plan_round-plan.result.each front c.deref_mut-counts.result.now l c.deref_mut-marks.result.now c.deref_mut-bytes.result.now c.clear.new.freed state tables.empty;
            },
          ),
        ),
      ),
    )

-- the marked edges fit into the list
few_for : (graph : Graph) (t t' count : ℕ) (gone : List ℕ) (l : Links) (marks bytes old room freed : List ℕ) → t' ≡ t → InRound graph t' gone l (marked_of marks) bytes → length (marked_of marks) ≡ count → length (left_after graph.edges (suc t)) ≤ length old → length room + length freed ≡ length old → count ≤ length (room ++ freed)
few_for graph t t' count gone l marks bytes old room freed same r many fits long = omega (arith, next_few graph t' gone l (marked_of marks) bytes r, many, fits, long, length-append room freed, ap (λ n. length (left_after graph.edges (suc n))) same)

pub slice_bounds-list_marked-end : goal.slice_bounds-list_marked-end
slice_bounds-list_marked-end g c =
    let split = c.split_at_mut-room.ensures in
    let long : length c.unlink_marked-count.new.room + length c.freed-2-1.given.0 ≡ length c.args.list.now = omega (arith, c.unlink_marked-count.auto.room, c.freed-2-1.given.1.0, c.clear.auto.freed, split.front_len, split.back_len) in
    few_for c.args.edges.now c.args.round.before _ _ _ _ c.unlink_marked-count.new.taking.marks.now c.unlink_marked-count.new.taking.bytes.now c.args.list.now _ _ c.plan_round-plan.ensures.rounds c.unlink_marked-count.ensures.state c.unlink_marked-count.ensures.count c.requires.room long

pub slice_bounds-list_marked-end-2 : goal.slice_bounds-list_marked-end-2
slice_bounds-list_marked-end-2 g c =
    let split = c.split_at_mut-room.ensures in
    let long : length c.unlink_marked-count.new.room + length c.freed-2-1.given.0 ≡ length c.args.list.now = omega (arith, c.unlink_marked-count.auto.room, c.freed-2-1.given.1.0, c.clear.auto.freed, split.front_len, split.back_len) in
    sym (length-take-le _ (c.unlink_marked-count.new.room ++ c.freed-2-1.given.0) (few_for c.args.edges.now c.args.round.before _ _ _ _ c.unlink_marked-count.new.taking.marks.now c.unlink_marked-count.new.taking.bytes.now c.args.list.now _ _ c.plan_round-plan.ensures.rounds c.unlink_marked-count.ensures.state c.unlink_marked-count.ensures.count c.requires.room long))

pub list_marked-requires-clause-room : goal.list_marked-requires-clause-room
list_marked-requires-clause-room g c =
    let marks = c.marks-1.given.1.1 (sym c.unlink_marked-count.ensures.taking.marks) in
    let split = c.split_at_mut-room.ensures in
    let long : length c.unlink_marked-count.new.room + length c.freed-2-1.given.0 ≡ length c.args.list.now = omega (arith, c.unlink_marked-count.auto.room, c.freed-2-1.given.1.0, c.clear.auto.freed, split.front_len, split.back_len) in
    length-take-le _ (c.unlink_marked-count.new.room ++ c.freed-2-1.given.0) (few_for c.args.edges.now c.args.round.before _ _ _ _ c.unlink_marked-count.new.taking.marks.now c.unlink_marked-count.new.taking.bytes.now c.args.list.now _ _ c.plan_round-plan.ensures.rounds c.unlink_marked-count.ensures.state c.unlink_marked-count.ensures.count c.requires.room long) ∙ (sym c.unlink_marked-count.ensures.count ∙ ap (λ (xs : List ℕ). length (marked_of xs)) (sym marks))

-- the list once the marked edges are written into it
list_is : (list new kept : List ℕ) (count : ℕ) → count ≤ length list → length new ≡ length (take count list) → new ≡ kept → take count (new ++ drop count list) ≡ kept
list_is list new kept count within long is = front_written new list count (long ∙ length-take-le count list within) ∙ is

pub returns-clause-state : goal.returns-clause-state
returns-clause-state g c =
    let marks = c.marks-1.given.1.1 (sym c.unlink_marked-count.ensures.taking.marks) in
    let split = c.split_at_mut-room.ensures in
    let graph : Graph = c.args.edges.now in
    let long : length c.unlink_marked-count.new.room + length c.freed-2-1.given.0 ≡ length c.args.list.now = omega (arith, c.unlink_marked-count.auto.room, c.freed-2-1.given.1.0, c.clear.auto.freed, split.front_len, split.back_len) in
    let few = few_for graph c.args.round.before _ _ _ _ c.unlink_marked-count.new.taking.marks.now c.unlink_marked-count.new.taking.bytes.now c.args.list.now _ _ c.plan_round-plan.ensures.rounds c.unlink_marked-count.ensures.state c.unlink_marked-count.ensures.count c.requires.room long in
    let list = list_is (c.unlink_marked-count.new.room ++ c.freed-2-1.given.0) c.list_marked.new.list (marked_of c.unlink_marked-count.new.taking.marks.now) _ few c.list_marked.auto.list (c.list_marked.ensures.list ∙ ap (λ (xs : List ℕ). marked_of xs) marks) in
    let bytes = c.bytes-1.given.1.1 (sym c.unlink_marked-count.ensures.taking.bytes) in
    let old = c.args.tables.now.bytes in
    let written = written_back c.bytes-1.given.0 old.items old.len old.ok.0 (c.bytes-1.given.1.0 ∙ ap length c.deref_mut-bytes.ensures.value) in
    rw written
    (subst (λ (bs : List ℕ). InRound graph c.args.round.before (other_places graph.edges c.args.round.edges.now) (g.I.Incidence.links c.unlink_marked-count.new.incidence) (take c.unlink_marked-count.result (c.list_marked.new.list ++ drop c.unlink_marked-count.result (c.unlink_marked-count.new.room ++ c.freed-2-1.given.0))) bs) (sym bytes)
    (subst (λ (xs : List ℕ). InRound graph c.args.round.before (other_places graph.edges c.args.round.edges.now) (g.I.Incidence.links c.unlink_marked-count.new.incidence) xs c.unlink_marked-count.new.taking.bytes.now) (sym list) (subst (λ (n : ℕ). InRound graph n (other_places graph.edges c.args.round.edges.now) (g.I.Incidence.links c.unlink_marked-count.new.incidence) (marked_of c.unlink_marked-count.new.taking.marks.now) c.unlink_marked-count.new.taking.bytes.now) c.plan_round-plan.ensures.rounds c.unlink_marked-count.ensures.state)))

pub returns-clause-sorted : goal.returns-clause-sorted
returns-clause-sorted g c =
    let marks = c.marks-1.given.1.1 (sym c.unlink_marked-count.ensures.taking.marks) in
    let split = c.split_at_mut-room.ensures in
    let long : length c.unlink_marked-count.new.room + length c.freed-2-1.given.0 ≡ length c.args.list.now = omega (arith, c.unlink_marked-count.auto.room, c.freed-2-1.given.1.0, c.clear.auto.freed, split.front_len, split.back_len) in
    let few = few_for c.args.edges.now c.args.round.before _ _ _ _ c.unlink_marked-count.new.taking.marks.now c.unlink_marked-count.new.taking.bytes.now c.args.list.now _ _ c.plan_round-plan.ensures.rounds c.unlink_marked-count.ensures.state c.unlink_marked-count.ensures.count c.requires.room long in
    let list = list_is (c.unlink_marked-count.new.room ++ c.freed-2-1.given.0) c.list_marked.new.list (marked_of c.unlink_marked-count.new.taking.marks.now) _ few c.list_marked.auto.list (c.list_marked.ensures.list ∙ ap (λ (xs : List ℕ). marked_of xs) marks) in
    subst (λ (xs : List ℕ). IsSorted nat_cmp xs) (sym list) (kept_sorted (is_marked c.unlink_marked-count.new.taking.marks.now) (64 * length c.unlink_marked-count.new.taking.marks.now))

-- the tables after the round
cleared : (graph : Graph) (counts counts' marks marks' new : List ℕ) → AreTables graph counts marks → length counts' ≡ length counts → AreEmpty counts' → length marks' ≡ length marks → length new ≡ length marks' → new ≡ replicate (length marks') 0 → AreTables graph counts' new
cleared graph counts counts' marks marks' new old long none many same clear = record {
  blocks = λ some. omega (arith, old.blocks (omega (arith, some, long)), long);
  empty = none;
  clear = record {
    room = omega (arith, old.clear.room, many, same);
    fits = omega (arith, old.clear.fits, many, same);
    clear = clear ∙ ap (λ (n : ℕ). replicate n 0) (sym same);
  };
}

pub returns-clause-tables : goal.returns-clause-tables
returns-clause-tables g c =
    let old = c.args.tables.now in
    let long = c.counts-1.given.1.0 ∙ ap length c.deref_mut-counts.ensures.value in
    let many = c.marks-1.given.1.0 ∙ ap length c.deref_mut-marks.ensures.value in
    let counts = written_back c.counts-1.given.0 old.counts.items old.counts.len old.counts.ok.0 long in
    let marks = written_back c.list_marked.new.marks old.marks.items old.marks.len old.marks.ok.0 (c.list_marked.auto.marks ∙ many) in
    let none = subst (λ (xs : List ℕ). AreEmpty xs) (sym (c.counts-1.given.1.1 (sym c.unlink_marked-count.ensures.taking.counts))) c.unlink_marked-count.ensures.empty in
    rw (counts, marks) (cleared c.args.edges.now old.counts.items c.counts-1.given.0 old.marks.items c.marks-1.given.0 c.list_marked.new.marks c.requires.tables long none many c.list_marked.auto.marks c.list_marked.ensures.clear)
