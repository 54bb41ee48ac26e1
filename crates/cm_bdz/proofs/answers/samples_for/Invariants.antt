use Rattle.std.proofs.Common.{◌≡◌, ◌<◌, ℕ, length, slice_index}
use Rattle.cm_algo_scheme.specs.declared.answers.TheConstants.{MOST_PLACES}
use Rattle.cm_bdz.specs.Choices.{sample_of}
use Rattle.cm_bdz.proofs.answers.samples_for.Given as goal

-- the samples before are there
abbrev pub invariant-loop-i : goal.invariant-loop-i
invariant-loop-i l = record {
  room : length l.samples ≡ MOST_PLACES;
  are : (i : ℕ) → i < l.i → slice_index l.samples i ≡ sample_of l.function (slice_index l.vertices i);
}
