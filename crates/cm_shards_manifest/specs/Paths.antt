-- Names in a manifest, and the paths that they mean.
use Rattle.std.specs.Prelude.{ℕ, zero, suc, ◌==◌, Bool, List, [], ◌∷◌, Option, None, Some, length, take, drop, nat_eq, if◌then◌else◌, codes}
use Rattle.std.specs.Cmp.Lexicographic.{pointwise}
use Rattle.std.specs.Path as paths
use Rattle.std.specs.Path.{path_join}

-- how many bytes of a path stand up to its last slash, with it
abbrev pub folder_step : ℕ → ℕ → ℕ
folder_step b zero = if b == paths.slash then 1 else 0
folder_step b (suc n) = suc (suc n)

abbrev pub folder_len : List ℕ → ℕ
folder_len [] = 0
folder_len (b ∷ bytes) = folder_step b (folder_len bytes)

-- the folder of a path: what stands up to its last slash, with it, and nothing if there is none
unfoldable pub folder_of : List ℕ → List ℕ
folder_of path = take (folder_len path) path

-- the path that a name in a manifest means, which is seen from the manifest's folder
abbrev pub path_of : List ℕ → List ℕ → List ℕ
path_of manifest name = path_join (folder_of manifest) name

-- a text begins with these bytes
abbrev pub begins : List ℕ → List ℕ → Bool
begins begin text = pointwise nat_eq (take (length begin) text) begin

-- a text without the slashes at its start
abbrev pub no_slashes : List ℕ → List ℕ
no_slashes [] = []
no_slashes (b ∷ bytes) = if b == paths.slash then no_slashes bytes else b ∷ bytes

-- a path without `./` at its start, and without the slashes that follow that
abbrev pub plain : List ℕ → List ℕ
plain path = if begins (codes "./") path then no_slashes (drop 2 path) else path

-- what follows a folder in a path, without slashes at its start, if the path begins with the folder
abbrev pub behind : List ℕ → List ℕ → Option (List ℕ)
behind folder path = if length folder == 0 then None else if begins folder path then Some (no_slashes (drop (length folder) path)) else None

-- what follows a folder in a path as both are, or else as both are without `./`, or else the path
abbrev pub first_name : Option (List ℕ) → Option (List ℕ) → List ℕ → List ℕ
first_name (Some name) plainly path = name
first_name None (Some name) path = name
first_name None None path = path

abbrev pub name_in : List ℕ → List ℕ → List ℕ
name_in folder path = first_name (behind folder path) (behind (plain folder) (plain path)) path

-- the name of a function file in a manifest: its path without the manifest's folder, if it begins with that
abbrev pub name_of : List ℕ → List ℕ → List ℕ
name_of manifest function = name_in (folder_of manifest) function
