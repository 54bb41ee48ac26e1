use Rattle.std.proofs.Common.{◌≡◌, ◌≤◌, ◌+◌, ◌-◌, ◌*◌, ◌/◌, ◌++◌, ℕ, List, length, map, take}
use Rattle.cm_graph_edges.specs.Graph.{Graph, removed_all}
use Rattle.cm_peel.specs.Waiting.{AtPart, InTaking, IsSameTaking, edges_of, halves_in, marked_of}
use Rattle.cm_peel.proofs.Incident.{place_in}
use Rattle.cm_peel.proofs.blocks.empty.Given as goal

abbrev pub invariant-parts : goal.invariant-parts
invariant-parts g l = record {
  halves : length l.halves ≡ 256;
  places : length l.places ≡ 256;
  even : l.at ≡ 2 * (l.at / 2);
  high : l.at ≤ length l.pairs;
  links : g.I.Incidence.links l.incidence ≡ removed_all (g.I.Incidence.links l.fn.incidence) (take (l.at / 2) (halves_in l.pairs));
  taking : IsSameTaking l.taking l.fn.taking;
  counts : l.taking.counts.now ≡ l.fn.taking.counts.now;
  state : (graph : Graph) (gone : List ℕ) → AtPart g.row.K graph gone (g.I.Incidence.links l.fn.incidence) (edges_of l.fn.taking) (halves_in l.pairs) → InTaking graph (gone ++ map place_in (take (l.at / 2) (halves_in l.pairs))) (g.I.Incidence.links l.incidence) (edges_of l.taking);
  count : length (marked_of l.taking.marks.now) ≡ length (marked_of l.fn.taking.marks.now) + l.count;
  steps : l.steps ≤ l.fn.steps + 3 * (l.at / 2);
}

abbrev pub decreases-parts : goal.decreases-parts
decreases-parts g l = length l.pairs - l.at
