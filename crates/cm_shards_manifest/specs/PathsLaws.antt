-- Names in a manifest, and the paths of function files.
use Rattle.std.proofs.Common.{◌≡◌, ◌≢◌, ◌∙◌, ◌⊎◌, ℕ, zero, suc, ◌-◌, ◌≤◌, List, [], ◌∷◌, ◌++◌, length, take, drop, get_or, Bool, true, false, Option, None, Some, inl, inr, ap, sym, subst, refl, arith, if◌then◌else◌}
use Rattle.std.specs.Cmp.Lexicographic.{bytes_decides}
use Rattle.std.specs.Path.{IsRelative, path_join, with_separator}
use Rattle.std.specs.Prelude.{◌==◌, ◌||◌}
use Rattle.std.proofs.lemmas.List.{drop_at, get_or-take, length-take-le, take_at}
use Rattle.std.proofs.lemmas.Paths.{path_join_relative}
use Rattle.cm_shards_manifest.specs.Paths as names
use Rattle.cm_shards_manifest.specs.Paths.{begins, behind, first_name, folder_len, folder_of, folder_step, name_in, name_of, no_slashes, path_of, plain}

is_slash : (b : ℕ) → b ≡ 47 → (b == 47) ≡ true
is_slash b is = grind (arith, is)

no_slash : (b : ℕ) → b ≢ 47 → (b == 47) ≡ false
no_slash b none = grind (arith, none)

-- a text without the slashes at its start is not from the root
relative_rest : (text : List ℕ) → IsRelative (no_slashes text)
relative_rest [] = λ e. absurd (omega (arith, e))
relative_rest (b ∷ bytes) = go (b == 47) refl (relative_rest bytes)
  where
    go : (t : Bool) → (b == 47) ≡ t → IsRelative (no_slashes bytes) → IsRelative (if t then no_slashes bytes else b ∷ bytes)
    go true is rest = rest
    go false is rest = λ e. absurd (clash (is_slash b e) is)
      where
        clash : (b == 47) ≡ true → (b == 47) ≡ false → ⊥
        clash first second = absurd (cc)

-- one that has none stays
kept_rest : (text : List ℕ) → IsRelative text → no_slashes text ≡ text
kept_rest [] relative = refl
kept_rest (b ∷ bytes) relative = rw (no_slash b relative) refl

-- what follows a folder is not from the root
relative_behind : (folder path name : List ℕ) → behind folder path ≡ Some name → IsRelative name
relative_behind folder path name is = go (length folder == 0) (begins folder path) is
  where
    go : (s t : Bool) → (let r : Option (List ℕ) = if s then None else if t then Some (no_slashes (drop (length folder) path)) else None in r) ≡ Some name → IsRelative name
    go true t e = absurd (cc)
    go false true e = let same : no_slashes (drop (length folder) path) ≡ name = cc in subst (λ (l : List ℕ). IsRelative l) same (relative_rest (drop (length folder) path))
    go false false e = absurd (cc)

relative_first : (a b : Option (List ℕ)) (path : List ℕ) → ((name : List ℕ) → a ≡ Some name → IsRelative name) → ((name : List ℕ) → b ≡ Some name → IsRelative name) → IsRelative path → IsRelative (first_name a b path)
relative_first (Some name) b path one two relative = one name refl
relative_first None (Some name) path one two relative = two name refl
relative_first None None path one two relative = relative

pub relative_name : (manifest function : List ℕ) → IsRelative function → IsRelative (name_of manifest function)
relative_name manifest function relative =
    let folder = folder_of manifest in
    relative_first (behind folder function) (behind (plain folder) (plain function)) function (relative_behind folder function) (relative_behind (plain folder) (plain function)) relative

-- how many bytes of a path of one byte stand up to its last slash
abbrev step_by : Bool → ℕ
step_by t = if t then 1 else 0

-- the folder of a path is nothing, or ends with a slash
ends : (path : List ℕ) → (folder_len path ≡ 0) ⊎ ((1 ≤ folder_len path) × (folder_len path ≤ length path) × (get_or path (folder_len path - 1) 0 ≡ 47))
ends [] = inl refl
ends (b ∷ bytes) = go (folder_len bytes) (ends bytes)
  where
    slash : (t : Bool) → (b == 47) ≡ t → (step_by t ≡ 0) ⊎ ((1 ≤ step_by t) × (step_by t ≤ suc (length bytes)) × (get_or (b ∷ bytes) (step_by t - 1) 0 ≡ 47))
    slash true is = inr (omega arith, omega arith, grind (arith, is))
    slash false is = inl refl

    go : (n : ℕ) → (n ≡ 0) ⊎ ((1 ≤ n) × (n ≤ length bytes) × (get_or bytes (n - 1) 0 ≡ 47))
        → (folder_step b n ≡ 0) ⊎ ((1 ≤ folder_step b n) × (folder_step b n ≤ suc (length bytes)) × (get_or (b ∷ bytes) (folder_step b n - 1) 0 ≡ 47))
    go zero known = slash (b == 47) refl
    go (suc n) (inl none) = absurd (omega (arith, none))
    go (suc n) (inr some) =
        let last : suc (suc n) - 1 ≡ suc n = omega arith in
        let before : n ≡ suc n - 1 = omega arith in
        inr (omega arith, omega (arith, some.1), ap (λ (i : ℕ). get_or (b ∷ bytes) i 0) last ∙ ap (λ (i : ℕ). get_or bytes i 0) before ∙ some.2)

-- a folder with a slash at its end is ready for a name to follow
with_slash : (folder : List ℕ) → get_or folder (length folder - 1) 0 ≡ 47 → with_separator folder ≡ folder
with_slash folder is = go (length folder == 0)
  where
    slash : (get_or folder (length folder - 1) 0 == 47) ≡ true
    slash = is_slash (get_or folder (length folder - 1) 0) is

    go : (t : Bool) → (if t || (get_or folder (length folder - 1) 0 == 47) then folder else folder ++ 47 ∷ []) ≡ folder
    go true = refl
    go false = rw slash refl

-- what is put behind it
joined_slash : (folder rest : List ℕ) → get_or folder (length folder - 1) 0 ≡ 47 → IsRelative rest → path_join folder rest ≡ folder ++ rest
joined_slash folder rest is relative = path_join_relative folder rest relative ∙ ap (λ (l : List ℕ). l ++ rest) (with_slash folder is)

-- the folder of a path
folder_ends : (path : List ℕ) → (folder_of path ≡ []) ⊎ ((length (folder_of path) ≢ 0) × (get_or (folder_of path) (length (folder_of path) - 1) 0 ≡ 47))
unfolding names.folder_of
folder_ends path = go (ends path)
  where
    go : (folder_len path ≡ 0) ⊎ ((1 ≤ folder_len path) × (folder_len path ≤ length path) × (get_or path (folder_len path - 1) 0 ≡ 47))
        → (take (folder_len path) path ≡ []) ⊎ ((length (take (folder_len path) path) ≢ 0) × (get_or (take (folder_len path) path) (length (take (folder_len path) path) - 1) 0 ≡ 47))
    go (inl none) = inl (rw none refl)
    go (inr some) =
        let n = folder_len path in
        let long : length (take n path) ≡ n = length-take-le n path some.1 in
        inr ((λ e. absurd (omega (arith, e, long, some.0))), ap (λ (i : ℕ). get_or (take n path) (i - 1) 0) long ∙ get_or-take n path (n - 1) 0 (omega (arith, some.0)) ∙ some.2)

-- the name of a path that begins with the folder
name_there : (folder path rest : List ℕ) → length folder ≢ 0 → path ≡ folder ++ rest → IsRelative rest → name_in folder path ≡ rest
name_there folder path rest some is relative =
    let front : take (length folder) path ≡ folder = ap (λ (l : List ℕ). take (length folder) l) is ∙ take_at folder rest (length folder) refl in
    let left : drop (length folder) path ≡ rest = ap (λ (l : List ℕ). drop (length folder) l) is ∙ drop_at folder rest (length folder) refl in
    let there : begins folder path ≡ true = (bytes_decides (take (length folder) path) folder).1 front in
    let not_empty : (length folder == 0) ≡ false = grind (arith, some) in
    rw (not_empty, there, left) (kept_rest rest relative)

-- a path that begins with the folder of the manifest is read as it is
pub own_path : (manifest function rest : List ℕ) → function ≡ folder_of manifest ++ rest → IsRelative rest → path_of manifest (name_of manifest function) ≡ function
own_path manifest function rest is relative = go (folder_ends manifest)
  where
    none : function ≡ rest → path_join [] (name_in [] function) ≡ function
    none same = path_join_relative [] function (subst (λ (l : List ℕ). IsRelative l) (sym same) relative)

    go : (folder_of manifest ≡ []) ⊎ ((length (folder_of manifest) ≢ 0) × (get_or (folder_of manifest) (length (folder_of manifest) - 1) 0 ≡ 47)) → path_of manifest (name_of manifest function) ≡ function
    go (inl empty) = ap (λ (folder : List ℕ). path_join folder (name_in folder function)) empty ∙ none (is ∙ ap (λ (l : List ℕ). l ++ rest) empty)
    go (inr some) = ap (path_join (folder_of manifest)) (name_there (folder_of manifest) function rest some.0 is relative) ∙ joined_slash (folder_of manifest) rest some.1 relative ∙ sym is
