use Rattle.std.proofs.Common.{◌≡◌, ◌<◌, ℕ, slice_index, true}
use Rattle.cm_spec.specs.Graph.{ends_at}
use Rattle.cm_witness_gather.specs.Candidates.{is_once, is_twice}
use Rattle.cm_witness_gather.proofs.candidates.Candidates.among.Given as goal

abbrev pub invariant-loop-e : goal.invariant-loop-e
invariant-loop-e g l =
    let edges = l.edges.edges in
    let ends = λ (i : ℕ). ends_at edges (slice_index l.places i) in
    record {
      once : (i : ℕ) → i < l.e-index → is_once l.marked (ends i) ≡ true;
      twice : (i j : ℕ) → i < j → j < l.e-index → ends i ≡ ends j → is_twice l.marked (ends j) ≡ true;
    }
