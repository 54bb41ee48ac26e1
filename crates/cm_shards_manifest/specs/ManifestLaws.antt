-- Lemmas about shards one after another, which the proofs of those who make manifests cite. No contract needs them.
use Rattle.std.proofs.Common.{◌≡◌, ◌∙◌, ℕ, zero, suc, ◌+◌, ◌*◌, ◌<◌, ◌≤◌, List, [], ◌∷◌, ◌++◌, length, take, get_or, ap, sym, arith, append_assoc, append-nil}
use Rattle.std.proofs.lemmas.List.{take_more}
use Rattle.std.proofs.lemmas.List.Sums.{sum_by-cons, sum_by_push}
use Rattle.cm_spec.specs.declared.limits.TheConstants.{MAX_VERTICES}
use Rattle.cm_shards_manifest.specs.ManifestBytes.{shard_bytes, shard_len, shards_bytes, shards_len}
use Rattle.cm_shards_manifest.specs.Manifests.{AreShards, IsShard, keys_in, spans}
use Rattle.cm_shards_manifest.specs.declared.shard.Shard.{Shard}

pub spans_cons : (s : Shard) (shards : List Shard) → spans (s ∷ shards) ≡ s.span + spans shards
spans_cons s shards = sum_by-cons (λ (t : Shard). t.span) s shards

pub spans_push : (shards : List Shard) (s : Shard) → spans (shards ++ s ∷ []) ≡ spans shards + s.span
spans_push shards s = sum_by_push (λ (t : Shard). t.span) shards s

pub keys_push : (shards : List Shard) (s : Shard) → keys_in (shards ++ s ∷ []) ≡ keys_in shards + s.keys
keys_push shards s = sum_by_push (λ (t : Shard). t.keys) shards s

-- one more shard, whose offset is the sum of the spans before it
pub shards_push : (before : ℕ) (shards : List Shard) (s : Shard) → AreShards before shards → IsShard s → s.offset ≡ before + spans shards → AreShards before (shards ++ s ∷ [])
shards_push before [] s are is offset = (is, omega (arith, offset), tt)
shards_push before (t ∷ shards) s are is offset =
    (are.0, are.1, shards_push (before + t.span) shards s are.2 is (omega (arith, offset, spans_cons t shards)))

-- how many bytes the shards have with one more
pub len_push : (shards : List Shard) (s : Shard) → shards_len (shards ++ s ∷ []) ≡ shards_len shards + shard_len s
len_push [] s = omega arith
len_push (t ∷ shards) s = omega (arith, len_push shards s)

-- their sum is bounded by their number
pub spans_few : (before : ℕ) (shards : List Shard) → AreShards before shards → spans shards ≤ length shards * MAX_VERTICES
spans_few before [] are = omega arith
spans_few before (s ∷ shards) are = omega (arith, spans_cons s shards, are.0.span.1, spans_few (before + s.span) shards are.2)

-- each of the shards is in its ranges
pub shard_valid : (before : ℕ) (shards : List Shard) (k : ℕ) (d : Shard) → AreShards before shards → k < length shards → IsShard (get_or shards k d)
shard_valid before [] k d are inside = absurd (omega (arith, inside))
shard_valid before (s ∷ shards) zero d are inside = are.0
shard_valid before (s ∷ shards) (suc k) d are inside = shard_valid (before + s.span) shards k d are.2 (omega (arith, inside))

-- the sums of the first shards with the next
pub spans_more : (shards : List Shard) (k : ℕ) (d : Shard) → k < length shards → spans (take (k + 1) shards) ≡ spans (take k shards) + (get_or shards k d).span
spans_more shards k d inside = ap spans (take_more shards k d inside) ∙ spans_push (take k shards) (get_or shards k d)

pub keys_more : (shards : List Shard) (k : ℕ) (d : Shard) → k < length shards → keys_in (take (k + 1) shards) ≡ keys_in (take k shards) + (get_or shards k d).keys
keys_more shards k d inside = ap keys_in (take_more shards k d inside) ∙ keys_push (take k shards) (get_or shards k d)

-- and their bytes
pub bytes_push : (shards : List Shard) (s : Shard) → shards_bytes (shards ++ s ∷ []) ≡ shards_bytes shards ++ shard_bytes s
bytes_push [] s = append-nil (shard_bytes s)
bytes_push (t ∷ shards) s = ap (λ (l : List ℕ). shard_bytes t ++ l) (bytes_push shards s) ∙ sym (append_assoc (shard_bytes t) (shards_bytes shards) (shard_bytes s))

pub bytes_more : (shards : List Shard) (k : ℕ) (d : Shard) → k < length shards → shards_bytes (take (k + 1) shards) ≡ shards_bytes (take k shards) ++ shard_bytes (get_or shards k d)
bytes_more shards k d inside = ap shards_bytes (take_more shards k d inside) ∙ bytes_push (take k shards) (get_or shards k d)
