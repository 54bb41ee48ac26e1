-- Incidences with words of one width or the other as contracts see them, and which edges narrow words suffice for.
use Rattle.std.specs.Prelude.{ℕ, ◌≤◌, Bool, true, false, List, length}
use Rattle.cm_graph_edges.specs.Graph.{Links, AreDegreesWithin, all_linked}
use Rattle.cm_graph.specs.declared.xored.Table.{Table}
use Rattle.cm_graph.specs.declared.xored.Table.TheVariants as table

-- the half-edges, and whether further edges can be linked
pub record Seen : Type 0 where
  pub links : Links
  pub takes : Bool

abbrev pub seen_of : Table → Seen
seen_of (table.Narrow l) = record { links = l; takes = false }
seen_of (table.Wide l) = record { links = l; takes = true }

-- words of 4 bytes suffice for these edges over n vertices: their places take 26 bits, and the degrees 6
abbrev pub FitNarrow : ℕ → List (List ℕ) → Type 0
FitNarrow n edges = (length edges ≤ 16777216) × AreDegreesWithin 63 (all_linked n edges)
