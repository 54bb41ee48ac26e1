-- The folder of a path, and texts without their first bytes.
use Rattle.std.proofs.Common.{◌≡◌, ◌≢◌, ◌∙◌, ℕ, zero, suc, ◌+◌, ◌<◌, List, [], ◌∷◌, ◌++◌, length, take, drop, get_or, ap, sym, arith, refl, Bool, true, false}
use Rattle.std.specs.Prelude.{◌==◌, None, Some}
use Rattle.std.specs.Cmp.Lexicographic.{bytes_decides}
use Rattle.std.proofs.lemmas.List.{drop_at, take_at, take-append-drop}
use Rattle.cm_shards_manifest.specs.Paths.{begins, behind, folder_len, no_slashes}

eq_yes : (b : ℕ) → b ≡ 47 → (b == 47) ≡ true
eq_yes b is = grind (arith, is)

eq_no : (b : ℕ) → b ≢ 47 → (b == 47) ≡ false
eq_no b none = grind (arith, none)

-- no byte of the path is a slash
pub no_folder : (path : List ℕ) → ((i : ℕ) → i < length path → get_or path i 0 ≢ 47) → folder_len path ≡ 0
no_folder [] none = refl
no_folder (b ∷ bytes) none = rw (no_folder bytes (λ i inside. none (suc i) (omega (arith, inside))), eq_no b (none 0 (omega arith))) refl

-- this byte is the last slash
pub folder_known : (path : List ℕ) (k : ℕ) → k < length path → get_or path k 0 ≡ 47 → ((i : ℕ) → k < i → i < length path → get_or path i 0 ≢ 47) → folder_len path ≡ k + 1
folder_known [] k inside slash last = absurd (omega (arith, inside))
folder_known (b ∷ bytes) zero inside slash last = rw (no_folder bytes (λ i within. last (suc i) (omega arith) (omega (arith, within))), eq_yes b slash) refl
folder_known (b ∷ bytes) (suc k) inside slash last =
    let rest : folder_len bytes ≡ suc k = folder_known bytes k (omega (arith, inside)) slash (λ i later within. last (suc i) (omega (arith, later)) (omega (arith, within))) ∙ (let e : k + 1 ≡ suc k = omega arith in e) in
    rw rest (let e : suc (suc k) ≡ suc k + 1 = omega arith in e)

-- a text that begins with these bytes
begins_there : (begin text rest : List ℕ) → text ≡ begin ++ rest → (begins begin text ≡ true) × (drop (length begin) text ≡ rest)
begins_there begin text rest is =
    let front : take (length begin) text ≡ begin = ap (λ (l : List ℕ). take (length begin) l) is ∙ take_at begin rest (length begin) refl in
    let left : drop (length begin) text ≡ rest = ap (λ (l : List ℕ). drop (length begin) l) is ∙ drop_at begin rest (length begin) refl in
    ((bytes_decides (take (length begin) text) begin).1 front, left)

-- and one that doesn't
begins_not : (begin text : List ℕ) → ((rest : List ℕ) → text ≡ begin ++ rest → ⊥) → begins begin text ≡ false
begins_not begin text none = go (begins begin text) refl
  where
    go : (t : Bool) → begins begin text ≡ t → t ≡ false
    go true is =
        let front : take (length begin) text ≡ begin = (bytes_decides (take (length begin) text) begin).0 is in
        absurd (none (drop (length begin) text) (sym (take-append-drop (length begin) text) ∙ ap (λ (l : List ℕ). l ++ drop (length begin) text) front))
    go false is = refl

-- what follows a folder
some_folder : (folder : List ℕ) → length folder ≢ 0 → (length folder == 0) ≡ false
some_folder folder some = grind (arith, some)

pub behind_there : (folder path rest : List ℕ) → length folder ≢ 0 → path ≡ folder ++ rest → behind folder path ≡ Some (no_slashes rest)
behind_there folder path rest some is =
    let there = begins_there folder path rest is in
    rw (some_folder folder some, there.0, there.1) refl

pub behind_not : (folder path : List ℕ) → length folder ≢ 0 → ((rest : List ℕ) → path ≡ folder ++ rest → ⊥) → behind folder path ≡ None
behind_not folder path some none = rw (some_folder folder some, begins_not folder path none) refl

-- a text that begins with no slash
pub slash_none : (text : List ℕ) → ((rest : List ℕ) → text ≡ 47 ∷ rest → ⊥) → no_slashes text ≡ text
slash_none [] none = refl
slash_none (b ∷ bytes) none = rw (eq_no b (λ is. none bytes (ap (λ (c : ℕ). c ∷ bytes) is))) refl
