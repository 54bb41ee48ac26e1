-- What passes over the keys show of a report.
use Rattle.std.specs.Prelude.{◌≡◌, ◌<◌, ◌≤◌, ℕ, Bool, if◌then◌else◌, nat_eq, List, length, map, slice_index_or, Option, None, Some}
use Rattle.std.specs.List.{list_any}
use Rattle.std.specs.Option.{ForSome}
use Rattle.cm_io.specs.Passes.{Told}
use Rattle.cm_judge_verdict.specs.Judged.{Judged, edge_over, with_lines_of}
use Rattle.cm_judge_verdict.specs.Rising.{RisesBy}
use Rattle.cm_judge_core.specs.declared.walking.Sizes.{Sizes}
use Rattle.cm_spec.specs.Lookup2.{words}
use Rattle.cm_spec.specs.Rule.{Rule}
use Rattle.cm_witness_gather.specs.declared.certificate.CoreEdge.{CoreEdge}

-- There are as many keys as were counted, with rising lines, which are those of the pass if they are known; and these edges are those of
-- the keys that have the line of an edge of the report.
pub record AreOwn (told : Option Told) (r : Rule) (sizes : Sizes) (edges own : List CoreEdge) : Type 0 where
  pub keys : List (ℕ × List ℕ)
  pub many : length keys ≡ sizes.keys
  pub rise : RisesBy (λ k. k.0) 0 keys
  pub own_are : own ≡ with_lines_of edges (map (edge_over r sizes.vertices sizes.seed) keys)
  pub known : ForSome told (λ t. (t.keys ≡ keys) × (t.fault ≡ None))

-- whether one of some edges has a line
abbrev pub has_line : List CoreEdge → ℕ → Bool
has_line edges line = list_any (nat_eq line) (map (λ x. x.line) edges)

-- the hash values of a key under a seed, if one of some edges has its line
abbrev pub hashed_if_listed : List CoreEdge → ℕ → ℕ → List ℕ → Option (List ℕ)
hashed_if_listed edges seed line key = if has_line edges line then Some (words key seed) else None

-- the edges before a place have lesser lines
pub record HasLessBefore (edges : List CoreEdge) (line place : ℕ) : Type 0 where
  pub within : place ≤ length edges
  pub below : (k : ℕ) (d : CoreEdge) → k < place → (slice_index_or edges k d).line < line

-- what is judged by these keys, if their graph is made by a rule, at this ratio in millionths and under this seed
abbrev pub graph_judged : Rule → List (ℕ × List ℕ) → ℕ → ℕ → Judged
graph_judged r keys c seed = record { rule = r; keys = keys; ratio = c; seed = seed }
