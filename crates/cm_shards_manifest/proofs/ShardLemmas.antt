-- The shards that are read, one after another.
use Rattle.std.proofs.Common.{◌≡◌, ℕ, suc, ◌+◌, List, [], ◌∷◌, ◌++◌, ap, sym, refl, append_assoc, append-nil, Result, Ok, Err}
use Rattle.cm_dump_items.specs.declared.fault.LoadFault.{LoadFault}
use Rattle.cm_dump_items.specs.declared.fault.LoadFault.TheVariants as faults
use Rattle.cm_dump_items.specs.Reading.{◌>>=◌, Fails}
use Rattle.cm_dump_items.specs.StepLaws.{fails_then}
use Rattle.cm_shards_manifest.specs.ManifestBytes.{shard_len}
use Rattle.cm_shards_manifest.specs.ManifestItems.{shard_at, shards_at}
use Rattle.cm_shards_manifest.specs.declared.shard.Shard.{Shard}

-- these shards, and then others that are read
abbrev pub after : List Shard → Result (List Shard) LoadFault → Result (List Shard) LoadFault
after done (Ok rest) = Ok (done ++ rest)
after done (Err e) = Err e

then_one : (done : List Shard) (s : Shard) (r : Result (List Shard) LoadFault) → after done (r >>= (λ (rest : List Shard). Ok (s ∷ rest))) ≡ after (done ++ s ∷ []) r
then_one done s (Ok rest) = ap Ok (sym (append_assoc done (s ∷ []) rest))
then_one done s (Err e) = refl

pub left_step : (bytes : List ℕ) (at before n k : ℕ) (done : List Shard) (s : Shard) → k ≡ suc n → shard_at bytes at before ≡ Ok s → after done (shards_at bytes at before k) ≡ after (done ++ s ∷ []) (shards_at bytes (at + shard_len s) (before + s.span) n)
unfolding shards_at
left_step bytes at before n k done s more is = rw (more, is) (then_one done s (shards_at bytes (at + shard_len s) (before + s.span) n))

fails_after : (f : LoadFault) (done : List Shard) (r : Result (List Shard) LoadFault) → Fails f r → Fails f (after done r)
fails_after faults.Memory done r is = tt
fails_after faults.Read done r is = tt
fails_after (faults.Truncated a) done r is = rw is refl
fails_after faults.BadMagic done r is = rw is refl
fails_after faults.BadAlgorithm done r is = rw is refl
fails_after (faults.BadField a) done r is = rw is refl
fails_after (faults.BadPadding a) done r is = rw is refl
fails_after (faults.BadCell a) done r is = rw is refl
fails_after (faults.BadCount a) done r is = rw is refl
fails_after (faults.BadRank a) done r is = rw is refl
fails_after faults.Trailing done r is = rw is refl

-- a fault of the next shard is one of all
pub left_fails : (f : LoadFault) (bytes : List ℕ) (at before n k : ℕ) (done : List Shard) → k ≡ suc n → Fails f (shard_at bytes at before) → Fails f (after done (shards_at bytes at before k))
unfolding shards_at
left_fails f bytes at before n k done more is = fails_after f done (shards_at bytes at before k) (rw more (fails_then f (shard_at bytes at before) _ is))

-- no shard is left
pub left_none : (bytes : List ℕ) (at before k : ℕ) (done : List Shard) → k ≡ 0 → after done (shards_at bytes at before k) ≡ Ok done
unfolding shards_at
left_none bytes at before k done none = rw none (ap (λ (l : List Shard). let r : Result (List Shard) LoadFault = Ok l in r) (append-nil done))
