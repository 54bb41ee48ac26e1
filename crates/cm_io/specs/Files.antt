-- The known files of a disk: a finite map from the bytes of a path to the bytes of a file.
use Rattle.std.specs.Prelude.{◌≡◌, ◌⊎◌, ℕ, List, [], Option, None, Some, Result, MatchResult, take, IsTrue, unwrap_or}
use Rattle.std.specs.Option.{option_map}
use Rattle.std.specs.Ordering.{nat_cmp}
use Rattle.std.specs.Cmp.Lexicographic.{slice_cmp}
use Rattle.std.specs.FinMap as map
use Rattle.cm_io.specs.declared.fault.Failed.{Failed}
use Rattle.cm_io.specs.declared.fault.DiskFault.{DiskFault}

-- paths with their files
abbrev pub Files : Type 0
Files = map.FinMap (slice_cmp nat_cmp) (List ℕ)

-- the file of a path
abbrev pub file_at : Files → List ℕ → Option (List ℕ)
file_at files path = map.get files path

-- the files, with these bytes at the path
abbrev pub with_file : List ℕ → List ℕ → Option Files → Option Files
with_file path bytes known = option_map (λ files. map.insert files path bytes) known

-- The path is among the files, if they are known.
abbrev pub IsThere : List ℕ → Option Files → Type 0
IsThere path None = Unit {0}
IsThere path (Some files) = IsTrue (map.contains_key files path)

-- A reader over the bytes of the path, at their start.
pub record Opens (files : Files) (path : List ℕ) (told : Option (List ℕ)) (place : ℕ) : Type 0 where
  pub bytes : List ℕ
  pub there : file_at files path ≡ Some bytes
  pub tells : told ≡ Some bytes
  pub start : place ≡ 0

-- `Ok` made the path hold no bytes. An error left the files as they were, or it did the same.
abbrev pub Creates : {W : Type 0} → List ℕ → Option Files → Option Files → Result W DiskFault → Type 0
Creates path old new result = MatchResult result
    (λ _. new ≡ with_file path [] old)
    (λ _. (new ≡ old) ⊎ (new ≡ with_file path [] old))

-- `Ok` made the path hold what was written, and `Failed` a prefix of it.
abbrev pub Closes : List ℕ → Option (List ℕ) → Option Files → Option Files → Result (Unit {0}) Failed → Type 0
Closes path known old new result = MatchResult result
    (λ _. new ≡ with_file path (unwrap_or known []) old)
    (λ _. (n : ℕ) × (new ≡ with_file path (take n (unwrap_or known [])) old))
