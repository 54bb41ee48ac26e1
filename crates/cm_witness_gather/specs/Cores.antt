-- The edges at some places of a list, with the lines of their keys.
use Rattle.std.specs.Prelude.{◌≡◌, ℕ, ◌<◌, List, [], length, map, slice_get, slice_index, slice_index_or}
use Rattle.cm_spec.specs.Built.{graph_of, key_at}
use Rattle.cm_spec.specs.Graph.{ends_at}
use Rattle.cm_spec.specs.Rounds.{rest_of}
use Rattle.cm_spec.specs.Rule.{Rule}
use Rattle.cm_witness_gather.specs.Pairs.{pairs}
use Rattle.cm_witness_gather.specs.declared.certificate.CoreEdge.{CoreEdge}
use Rattle.cm_witness_gather.specs.declared.certificate.Pair.{Pair}

-- the edge of a key
abbrev pub core_edge : ℕ × List ℕ → List ℕ → CoreEdge
core_edge key ends = record { line = key.0; first = slice_index ends 0; second = slice_index ends 1; third = slice_get ends 2 }

-- the keys at some places
abbrev pub keys_at : List (ℕ × List ℕ) → List ℕ → List (ℕ × List ℕ)
keys_at keys places = map (λ e. slice_index_or keys e (0, [])) places

-- the edges at these places, each with the line of its key
abbrev pub core_edges : List (ℕ × List ℕ) → List (List ℕ) → List ℕ → List CoreEdge
core_edges keys edges places = map (λ e. core_edge (slice_index_or keys e (0, [])) (slice_index_or edges e [])) places

-- the residual graph of keys under a seed: its edges, with the lines of their keys
abbrev pub edges_left : Rule → List (ℕ × List ℕ) → ℕ → ℕ → List CoreEdge
edges_left r keys c seed = core_edges keys (graph_of r keys c seed) (rest_of (graph_of r keys c seed))

-- and the pairs of equal keys among theirs
abbrev pub pairs_left : Rule → List (ℕ × List ℕ) → ℕ → ℕ → List Pair
pairs_left r keys c seed = pairs (keys_at keys (rest_of (graph_of r keys c seed)))

-- equal keys have edges with the same ends
abbrev pub EqualKeysMeet : List (ℕ × List ℕ) → List (List ℕ) → Type 0
EqualKeysMeet keys edges = (i j : ℕ) → i < length keys → j < length keys → key_at keys i ≡ key_at keys j → ends_at edges i ≡ ends_at edges j
