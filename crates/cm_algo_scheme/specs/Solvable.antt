-- What the cells of peeled graphs are for: those of each edge add up to what the rule asks for.
use Rattle.std.specs.Prelude.{◌≡◌, ℕ, List, [], length}
use Rattle.cm_spec.specs.Cells.{AreSolved, cells_of, plan_of}
use Rattle.cm_spec.specs.Graph.{AreEdges}
use Rattle.cm_spec.specs.Rounds.{rest_of}
use Rattle.cm_spec.specs.Rule.{IsCount, IsRule, Rule}

-- under every rule, the cells of each graph with an empty residual graph solve its plan
abbrev pub CellsSolve : Type 0
CellsSolve = (k : ℕ) (r : Rule) (n : ℕ) (edges : List (List ℕ)) (tags : List ℕ) → IsRule k r → IsCount (length edges) → AreEdges k n edges → rest_of edges ≡ [] → AreSolved (plan_of r n edges tags) (cells_of (plan_of r n edges tags))
