-- A round that is worked on by blocks: what is marked, and the half-edges that wait. Only the contracts of its steps cite this.
use Rattle.std.specs.Prelude.{◌≡◌, ℕ, ◌+◌, ◌*◌, ◌/◌, ◌%◌, ◌<◌, ◌≤◌, true, false, ◌||◌, List, [], ◌∷◌, length, All, filter, map, take, drop, slice_index, slice_set}
use Rattle.cm_spec.specs.Lists.{has, numbers_from}
use Rattle.cm_spec.specs.Graph.{ends_at}
use Rattle.cm_graph_edges.specs.declared.incidence.Half.{Half}
use Rattle.cm_graph_edges.specs.Graph.{AreHalves, Graph, Links}
use Rattle.cm_peel.specs.declared.freed.Plan.{Plan}
use Rattle.cm_peel.specs.declared.freed.Taking.{Taking}
use Rattle.cm_peel.specs.AtRound.{AreTaken, InRound, IsOtherPlace, IsSmall}
use Rattle.cm_peel.specs.Marks.{IsUnmarked, is_marked}
use Rattle.cm_peel.specs.Peeling.{is_taken}
use Rattle.cm_peel.specs.SetLaws.{AreApart}
use Rattle.cm_spec.specs.declared.limits.TheConstants.{MAX_EDGES}

-- the marked edges
abbrev pub marked_of : List ℕ → List ℕ
marked_of marks = filter (is_marked marks) (numbers_from 0 (64 * length marks))

-- the bytes of all edges, and their marks
pub record EdgeTags : Type 0 where
  pub bytes : List ℕ
  pub marks : List ℕ

abbrev pub edge_tags : List ℕ → List ℕ → EdgeTags
edge_tags bytes marks = record { bytes = bytes; marks = marks }

-- the edges of some places are taken as `AreTaken` says, and those that are new, `count` of them, are marked
pub record AreMarked (old new : EdgeTags) (t : ℕ) (places : List ℕ) (count : ℕ) : Type 0 where
  pub fresh : List ℕ
  pub taken : AreTaken t places old.bytes new.bytes [] fresh
  pub marked : (e : ℕ) → is_marked new.marks e ≡ (is_marked old.marks e || has fresh e)
  pub many : count ≡ length fresh

-- what a round by blocks knows of the edges: how many rounds went before; how many blocks of edges there are, and how many places wait for
-- each at most; the marks and the bytes of the edges; and the places that wait
pub record EdgeBlocks : Type 0 where
  pub rounds : ℕ
  pub blocks : ℕ
  pub each : ℕ
  pub marks : List ℕ
  pub bytes : List ℕ
  pub freed : List ℕ

abbrev pub edge_blocks : ℕ → ℕ → ℕ → List ℕ → List ℕ → List ℕ → EdgeBlocks
edge_blocks rounds blocks each marks bytes freed = record { rounds = rounds; blocks = blocks; each = each; marks = marks; bytes = bytes; freed = freed }

-- the same by a plan
abbrev pub by_plan : Plan → List ℕ → List ℕ → List ℕ → EdgeBlocks
by_plan plan marks bytes freed = edge_blocks plan.rounds plan.blocks plan.each marks bytes freed

-- and of what the steps of a round take and change
abbrev pub edges_of : Taking → EdgeBlocks
edges_of taking = by_plan taking.plan taking.marks.now taking.bytes.now taking.freed.now

-- what it knows of the vertices: how many numbers of the room each block of vertices has, the room, and how many half-edges wait for each
pub record VertexBlocks : Type 0 where
  pub size : ℕ
  pub room : List ℕ
  pub counts : List ℕ

abbrev pub vertex_blocks : ℕ → List ℕ → List ℕ → VertexBlocks
vertex_blocks size room counts = record { size = size; room = room; counts = counts }

-- the places that wait for block b of edges: the room has a count for each of the blocks, and then `each` numbers for each
abbrev pub freed_in : ℕ → ℕ → List ℕ → ℕ → List ℕ
freed_in blocks each freed b = take (slice_index freed b) (drop (blocks + b * each) freed)

-- the room once a place is written behind the c that wait for block b
abbrev pub put_freed : ℕ → ℕ → List ℕ → ℕ → ℕ → ℕ → List ℕ
put_freed blocks each freed b c q = slice_set (slice_set freed (blocks + b * each + c) q) b (c + 1)

-- no block's part is full
abbrev pub AreOpen : ℕ → ℕ → List ℕ → Type 0
AreOpen blocks each freed = (b : ℕ) → b < blocks → slice_index freed b < each

-- the places in `waiting`, of `many` edges, wait for their blocks, each of which has 131,072 edges
pub record AreWaiting (many blocks each : ℕ) (freed waiting : List ℕ) : Type 0 where
  pub within : blocks + blocks * each ≤ length freed
  pub few : length freed ≤ 67109056
  pub short : each ≤ 16384
  pub all : many ≤ 131072 * blocks
  pub fits : (b : ℕ) → b < blocks → slice_index freed b ≤ each
  pub block : (b q : ℕ) → b < blocks → has (freed_in blocks each freed b) q ≡ true → (q / 524288 ≡ b) × (q / 4 < many)
  pub inside : (q : ℕ) → has waiting q ≡ true → q / 4 < many
  pub same : (q : ℕ) → q / 4 < many → has waiting q ≡ has (freed_in blocks each freed (q / 524288)) q

-- once the edges of all places that wait are taken, the bytes are those in `after`, and the marked edges are those in `next`
pub record Leads (edges : EdgeBlocks) (after next : List ℕ) : Type 0 where
  pub all_marks : length edges.bytes ≤ 64 * length edges.marks
  pub few_marks : 64 * length edges.marks ≤ MAX_EDGES
  pub old : (e : ℕ) → is_marked edges.marks e ≡ true → is_taken edges.bytes e ≡ true
  pub waiting : List ℕ
  pub waits : AreWaiting (length edges.bytes) edges.blocks edges.each edges.freed waiting
  pub fresh : List ℕ
  pub taken : AreTaken edges.rounds waiting edges.bytes after [] fresh
  pub members : (e : ℕ) → has next e ≡ (is_marked edges.marks e || has fresh e)

-- in a round by blocks: the half-edges at the places in `gone` are removed so far, and the edges that this has freed are marked, or a place of theirs waits
pub record InTaking (graph : Graph) (gone : List ℕ) (l : Links) (edges : EdgeBlocks) : Type 0 where
  pub after : List ℕ
  pub next : List ℕ
  pub leads : Leads edges after next
  pub free : AreOpen edges.blocks edges.each edges.freed
  pub round : InRound graph edges.rounds gone l next after

-- the half-edges that numbers stand for, two each: vertex and place
abbrev pub halves_in : List ℕ → List Half
halves_in [] = []
halves_in (v ∷ []) = []
halves_in (v ∷ q ∷ rest) = record { vertex = v; place = q } ∷ halves_in rest

-- the half-edges that wait for block b, which has `size` numbers of the room
abbrev pub waiting_in : ℕ → List ℕ → List ℕ → ℕ → List Half
waiting_in size room counts b = halves_in (take (2 * slice_index counts b) (drop (b * size) room))

-- the vertex is the end of the place's edge at its position
abbrev pub IsEnd : List (List ℕ) → Half → Type 0
IsEnd edges h = (h.place / 4 < length edges) × (h.place % 4 < length (ends_at edges (h.place / 4))) × (slice_index (ends_at edges (h.place / 4)) (h.place % 4) ≡ h.vertex)

-- a half-edge that waits for block b, which has 65,536 vertices
pub record Waits (edges : List (List ℕ)) (t b : ℕ) (gone : List ℕ) (h : Half) : Type 0 where
  pub end : IsEnd edges h
  pub block : h.vertex / 65536 ≡ b
  pub other : IsOtherPlace edges t h.place
  pub there : has gone h.place ≡ false

-- in a round by blocks: each half-edge at a place in `done` is removed, or waits for its block
pub record InBlocks (graph : Graph) (vertices : VertexBlocks) (l : Links) (edges : EdgeBlocks) (done : List ℕ) : Type 0 where
  -- those that are removed, and what this leaves; the edges that it frees are marked, or wait
  pub gone : List ℕ
  pub round : InTaking graph gone l edges
  -- those that wait: each for its block, and none of them twice
  pub fits : (b : ℕ) → b < length vertices.counts → 2 * slice_index vertices.counts b ≤ vertices.size
  pub waits : (b : ℕ) → b < length vertices.counts → All (Waits graph.edges edges.rounds b gone) (waiting_in vertices.size vertices.room vertices.counts b)
  pub apart : (b : ℕ) → b < length vertices.counts → AreApart (map (λ h. h.place) (waiting_in vertices.size vertices.room vertices.counts b))
  -- both together are those in `done`
  pub waits_done : (b q : ℕ) → b < length vertices.counts → has (map (λ h. h.place) (waiting_in vertices.size vertices.room vertices.counts b)) q ≡ true → has done q ≡ true
  pub gone_done : (q : ℕ) → has gone q ≡ true → has done q ≡ true
  pub all : (q : ℕ) → has done q ≡ true → (has gone q ≡ false) → (b : ℕ) × (b < length vertices.counts) × (has (map (λ h. h.place) (waiting_in vertices.size vertices.room vertices.counts b)) q ≡ true)

-- the room once a half-edge is written behind the c that wait for block b
abbrev pub put_room : ℕ → List ℕ → ℕ → ℕ → Half → List ℕ
put_room size room b c h = slice_set (slice_set room (b * size + 2 * c) h.vertex) (b * size + 2 * c + 1) h.place

-- there is room for all blocks and marks
pub record IsRoom (graph : Graph) (size : ℕ) (room counts marks : List ℕ) : Type 0 where
  pub even : size ≡ 2 * (size / 2)
  pub within : length counts * size ≤ length room
  pub few : length room ≤ 67109056
  pub blocks : graph.vertices ≤ 65536 * length counts
  pub all_marks : length graph.edges ≤ 64 * length marks

-- no block's part is full
abbrev pub IsOpen : ℕ → List ℕ → Type 0
IsOpen size counts = (b : ℕ) → b < length counts → 2 * slice_index counts b < size

-- no half-edge waits
abbrev pub AreEmpty : List ℕ → Type 0
AreEmpty counts = (b : ℕ) → b < length counts → slice_index counts b ≡ 0

-- in a round by blocks, with room for all of them, as `InBlocks` says
pub record AtBlocks (k : ℕ) (graph : Graph) (vertices : VertexBlocks) (l : Links) (edges : EdgeBlocks) (done : List ℕ) : Type 0 where
  pub small : IsSmall k graph
  pub early : edges.rounds < length graph.edges
  pub positive : 0 < vertices.size
  pub space : IsRoom graph vertices.size vertices.room vertices.counts edges.marks
  pub state : InBlocks graph vertices l edges done

-- the same of what the steps of a round take and change
abbrev pub AtTaking : ℕ → Graph → Taking → List ℕ → Links → List ℕ → Type 0
AtTaking k graph taking room l done = AtBlocks k graph (vertex_blocks taking.plan.size room taking.counts.now) l (edges_of taking) done

-- the same plan, and the same slices
pub record IsSameTaking (a b : Taking) : Type 0 where
  pub plan : a.plan ≡ b.plan
  pub bytes : a.bytes.ghost_name ≡ b.bytes.ghost_name
  pub freed : a.freed.ghost_name ≡ b.freed.ghost_name
  pub marks : a.marks.ghost_name ≡ b.marks.ghost_name
  pub counts : a.counts.ghost_name ≡ b.counts.ghost_name
  pub bytes_long : length a.bytes.now ≡ length b.bytes.now
  pub freed_long : length a.freed.now ≡ length b.freed.now
  pub marks_long : length a.marks.now ≡ length b.marks.now
  pub counts_long : length a.counts.now ≡ length b.counts.now

-- in a round by blocks, as `InTaking` says, and these half-edges can be removed
pub record AtPart (k : ℕ) (graph : Graph) (gone : List ℕ) (l : Links) (edges : EdgeBlocks) (halves : List Half) : Type 0 where
  pub small : IsSmall k graph
  pub early : edges.rounds < length graph.edges
  pub state : InTaking graph gone l edges
  pub linked : AreHalves l halves
  pub others : (q : ℕ) → has (map (λ h. h.place) halves) q ≡ true → IsOtherPlace graph.edges edges.rounds q

-- these half-edges of the edges that this round removes can wait, since none is removed or waits
pub record CanWait (edges : List (List ℕ)) (t : ℕ) (done : List ℕ) (halves : List Half) : Type 0 where
  pub ends : All (IsEnd edges) halves
  pub others : (q : ℕ) → has (map (λ h. h.place) halves) q ≡ true → IsOtherPlace edges t q
  pub apart : AreApart (map (λ h. h.place) halves)
  pub fresh : (q : ℕ) → has (map (λ h. h.place) halves) q ≡ true → has done q ≡ false

-- between rounds: no half-edge waits and no edge is marked, and if there are counts, there is one for each block of vertices
pub record AreTables (graph : Graph) (counts marks : List ℕ) : Type 0 where
  pub blocks : 0 < length counts → graph.vertices ≤ 65536 * length counts
  pub empty : AreEmpty counts
  pub clear : IsUnmarked (length graph.edges) marks
