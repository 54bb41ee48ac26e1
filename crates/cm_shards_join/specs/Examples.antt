-- The files and the jobs that the worked examples are about.
use Rattle.std.specs.Prelude.{◌≡◌, ℕ, List, [], ◌∷◌, ◌++◌, None, Some, codes}
use Rattle.cm_algo_names.specs.declared.algorithm.Algorithm.{Algorithm}
use Rattle.cm_algo_names.specs.declared.algorithm.Algorithm.TheVariants as algorithm
use Rattle.cm_dump.specs.Examples.{front, front_of}
use Rattle.cm_io.specs.Files.{Files, file_at}
use Rattle.cm_route.specs.declared.route.TheConstants.{ROUTE_SEED}
use Rattle.cm_shards_manifest.specs.Manifests.{Manifest}
use Rattle.cm_shards_manifest.specs.declared.shard.Shard.{Shard}
use Rattle.cm_shards_words.specs.declared.jobs.JoinJob.{JoinJob}
use Rattle.sha2.specs.Sha256.{sha256}

-- the file of a function by CHM of two keys, and of one
abbrev pub file_of_two : List ℕ
file_of_two = front 2 ++ 4 ∷ []

abbrev pub file_of_one : List ℕ
file_of_one = front 1 ++ 0 ∷ []

-- that of one by BDZ_PH of two keys, which has nine vertices
abbrev pub file_by_vertices : List ℕ
file_by_vertices = front_of 3 0 2 ++ 0 ∷ 0 ∷ []

-- the job of `cmph_shards -j -m out/all -d out out/a out/b`
abbrev pub counted_job : JoinJob
counted_job = record { manifest = codes "out/all"; dir = Some (codes "out"); functions = codes "out/a" ∷ codes "out/b" ∷ [] }

-- and of `cmph_shards -j -m out/all out/a out/b`
abbrev pub plain_job : JoinJob
plain_job = record counted_job { dir = None }

-- The function files of both jobs, and the counts.
pub record AreFiles (files : Files) (a b counts : List ℕ) : Type 0 where
  pub first : file_at files (codes "out/a") ≡ Some a
  pub second : file_at files (codes "out/b") ≡ Some b
  pub split : file_at files (codes "out/counts") ≡ Some counts

-- what a manifest says of a function file
abbrev pub shard_for : List ℕ → ℕ → ℕ → ℕ → List ℕ → Shard
shard_for name keys span offset bytes = record { name = name; keys = keys; span = span; offset = offset; len = 25; digest = sha256 bytes }

-- the manifest of two functions
abbrev pub manifest_by : Algorithm → Shard → Shard → Manifest
manifest_by a first second = record { algorithm = a; seed = ROUTE_SEED; shards = first ∷ second ∷ [] }

-- that of the functions of two keys and of one, and that of two functions by BDZ_PH
abbrev pub of_three : Manifest
of_three = manifest_by algorithm.Chm (shard_for (codes "a") 2 2 0 file_of_two) (shard_for (codes "b") 1 1 2 file_of_one)

abbrev pub of_vertices : Manifest
of_vertices = manifest_by algorithm.BdzPh (record (shard_for (codes "a") 2 9 0 file_by_vertices) { len = 26 }) (record (shard_for (codes "b") 2 9 9 file_by_vertices) { len = 26 })
