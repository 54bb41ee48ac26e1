-- The files that a join reads.
use Rattle.std.specs.Prelude.{◌≡◌, ◌⊎◌, ℕ, List, [], ◌∷◌, Option, None, Some}
use Rattle.cm_shards_manifest.specs.Paths.{name_of, path_of}
use Rattle.cm_shards_split.specs.Names.{counts_path}
use Rattle.cm_shards_words.specs.declared.jobs.JoinJob.{JoinJob}

-- the path at which the function file of an argument is read
abbrev pub path_for : List ℕ → List ℕ → List ℕ
path_for manifest function = path_of manifest (name_of manifest function)

-- one of these arguments is read at the path of the manifest
abbrev pub ReadsManifest : List ℕ → List (List ℕ) → Type 0
ReadsManifest manifest [] = ⊥
ReadsManifest manifest (function ∷ functions) = (path_for manifest function ≡ manifest) ⊎ ReadsManifest manifest functions

-- the counts are, if they are compared
abbrev pub CountsAreManifest : List ℕ → Option (List ℕ) → Type 0
CountsAreManifest manifest None = ⊥
CountsAreManifest manifest (Some dir) = counts_path dir ≡ manifest

-- The manifest of a job would take the place of a function file or of the counts. Paths are compared by their bytes.
abbrev pub ReplacesInput : JoinJob → Type 0
ReplacesInput job = ReadsManifest job.manifest job.functions ⊎ CountsAreManifest job.manifest job.dir
