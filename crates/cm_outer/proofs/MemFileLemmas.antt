-- Files in memory as a finite map.
use Rattle.std.proofs.Common.{◌≡◌, ◌≢◌, ℕ, zero, suc, ◌+◌, ◌<◌, List, [], ◌∷◌, ◌++◌, length, get_or, map, Bool, true, false, cond, Option, None, Some, unwrap_or, Result, Ok, Err, refl, sym, ◌∙◌, ap, arith, string_bytes, position}
use Rattle.std.specs.Prelude.{IsTrue, OnErr, is_some}
use Rattle.std.proofs.Math.ListN.{set}
use Rattle.std.specs.Str.{bytes_eq}
use Rattle.std.specs.List.{position_from}
use Rattle.std.specs.Ordering.{nat_cmp, eq_by_cmp}
use Rattle.std.specs.Cmp.{eq_by_cmp_equiv}
use Rattle.std.specs.Cmp.Lexicographic.{slice_cmp, nat_list_cmp_total}
use Rattle.std.specs.FinMap as maps
use Rattle.std.proofs.lemmas.Map.Text.{is_eq-slice_cmp}
use Rattle.std.proofs.lemmas.Slice.Eq.{bytes_eq-Decides}
use Rattle.std.proofs.lemmas.Iterator.Adapters.{position_from-zero}
use Rattle.std.proofs.lemmas.List.Quantifiers.{position-Some}
use Rattle.std.proofs.lemmas.List.{set-get_or, map-append}
use Rattle.cm_io.specs.Files.{Files}
use Rattle.cm_outer.specs.MemFiles.{entry_of, files_of}
use Rattle.cm_outer.specs.declared.mem_file.MemFile.{MemFile}
use Rattle.cm_io.specs.FilesLaws.{same_path, insert_twice}
use Rattle.cm_io_append.specs.Extending.{bytes_or_none}
use Rattle.cm_io_append.specs.ExtendingLaws.{insert_same}

abbrev pub at_path : List ℕ → MemFile → Bool
at_path path f = bytes_eq (string_bytes f.path) path

tie : (p q : List ℕ) → eq_by_cmp (slice_cmp nat_cmp) p q ≡ true → p ≡ q
tie p q h = (bytes_eq-Decides p q).0 (sym (is_eq-slice_cmp p q) ∙ h)

swap_cond : {A : Type 0} (a b : Bool) (x y z : A) → (a ≡ true → b ≡ true → ⊥) → cond a x (cond b y z) ≡ cond b y (cond a x z)
swap_cond true true x y z apart = absurd (apart refl refl)
swap_cond true false x y z apart = refl
swap_cond false true x y z apart = refl
swap_cond false false x y z apart = refl

-- writes at two paths may be made in either order
insert_swap : (files : Files) (p q x y : List ℕ) → p ≢ q → maps.insert (maps.insert files p x) q y ≡ maps.insert (maps.insert files q y) p x
insert_swap files p q x y differ = maps.same_map nat_list_cmp_total same_path _ _ (λ r.
    let o = nat_list_cmp_total in
    let E = eq_by_cmp (slice_cmp nat_cmp) in
    maps.get-insert o (maps.insert files p x) q y r
    ∙ ap (cond (E r q) (Some y)) (maps.get-insert o files p x r)
    ∙ swap_cond (E r q) (E r p) (Some y) (Some x) (maps.get files r) (λ at_q at_p. differ (sym (tie r p at_p) ∙ tie r q at_q))
    ∙ sym (maps.get-insert o (maps.insert files q y) p x r ∙ ap (cond (E r p) (Some x)) (maps.get-insert o files q y r)))

-- to write the first file of a path is to write the path
set_is_insert : (path : List ℕ) (fs : List MemFile) (i : ℕ) (d g : MemFile) → string_bytes g.path ≡ path → i < length fs → at_path path (get_or fs i d) ≡ true → ((k : ℕ) → k < i → at_path path (get_or fs k d) ≡ false)
    → files_of (set fs i g) ≡ maps.insert (files_of fs) path g.bytes.items
set_is_insert path [] i d g named inside here before = absurd (omega arith)
set_is_insert path (f ∷ fs) zero d g named inside here before =
    let v = g.bytes.items in
    ap (λ (p : List ℕ). maps.insert (files_of fs) p v) named
    ∙ sym (insert_twice (files_of fs) path f.bytes.items v)
    ∙ ap (λ (p : List ℕ). maps.insert (maps.insert (files_of fs) p f.bytes.items) path v) (sym ((bytes_eq-Decides (string_bytes f.path) path).0 here))
set_is_insert path (f ∷ fs) (suc i) d g named inside here before =
    let v = g.bytes.items in
    let other : string_bytes f.path ≢ path = λ same. cc (before 0 (omega arith), (bytes_eq-Decides (string_bytes f.path) path).1 same) in
    ap (λ (m : Files). maps.insert m (string_bytes f.path) f.bytes.items) (set_is_insert path fs i d g named (omega arith) here (λ k h. before (suc k) (omega arith)))
    ∙ insert_swap (files_of fs) path (string_bytes f.path) v f.bytes.items (λ same. other (sym same))

passed : {A : Type 0} (b t : Bool) (i : ℕ) (x : A) (later : Option ℕ) (rest : Option A) → t ≡ b → cond b (Some i) later ≡ None → (later ≡ None → rest ≡ None) → cond t (Some x) rest ≡ None
passed true t i x later rest same none next = absurd (cc)
passed false t i x later rest same none next = ap (λ (b : Bool). cond b (Some x) rest) same ∙ next none

none_from : (path : List ℕ) (fs : List MemFile) (i : ℕ) → position_from (at_path path) i fs ≡ None → maps.find (slice_cmp nat_cmp) path (map entry_of fs) ≡ None
none_from path [] i none = refl
none_from path (f ∷ fs) i none =
    let same : eq_by_cmp (slice_cmp nat_cmp) path (string_bytes f.path) ≡ at_path path f = (eq_by_cmp_equiv nat_list_cmp_total).symm path (string_bytes f.path) ∙ is_eq-slice_cmp (string_bytes f.path) path in
    passed (at_path path f) _ i f.bytes.items (position_from (at_path path) (i + 1) fs) _ same none (none_from path fs (i + 1))

pub absent : (path : List ℕ) (fs : List MemFile) → position (at_path path) fs ≡ None → maps.find (slice_cmp nat_cmp) path (map entry_of fs) ≡ None
absent path fs none = none_from path fs 0 (sym (position_from-zero (at_path path) fs) ∙ none)

pub not_there : (path : List ℕ) (fs : List MemFile) → position (at_path path) fs ≡ None → IsTrue (maps.contains_key (files_of fs) path) → ⊥
not_there path fs none there =
    let missing : maps.get (files_of fs) path ≡ None = maps.get-from_entries nat_list_cmp_total (map entry_of fs) path ∙ absent path fs none in
    cc (ap is_some missing, there)

pub written_in_place : (path : List ℕ) (fs : List MemFile) (i : ℕ) (d g : MemFile) → position (at_path path) fs ≡ Some i → g.path ≡ (get_or fs i d).path → files_of (set fs i g) ≡ maps.insert (files_of fs) path g.bytes.items
written_in_place path fs i d g found kept =
    let at = position-Some (at_path path) fs i d found in
    let named : string_bytes g.path ≡ path = ap string_bytes kept ∙ (bytes_eq-Decides (string_bytes (get_or fs i d).path) path).0 at.1 in
    set_is_insert path fs i d g named at.0 at.1 at.2

pub found_there : (path : List ℕ) (fs : List MemFile) (i : ℕ) (d : MemFile) → position (at_path path) fs ≡ Some i → maps.get (files_of fs) path ≡ Some (get_or fs i d).bytes.items
found_there path fs i d found =
    let at = position-Some (at_path path) fs i d found in
    let f = get_or fs i d in
    let same : files_of fs ≡ maps.insert (files_of fs) path f.bytes.items =
    ap files_of (sym (set-get_or fs i d)) ∙ set_is_insert path fs i d f ((bytes_eq-Decides (string_bytes f.path) path).0 at.1) at.0 at.1 at.2 in
    ap (λ (m : Files). maps.get m path) same ∙ maps.get-insert nat_list_cmp_total (files_of fs) path f.bytes.items path
    ∙ ap (λ (b : Bool). cond b (Some f.bytes.items) (maps.get (files_of fs) path)) ((eq_by_cmp_equiv nat_list_cmp_total).refl path)

pub not_found : (path : List ℕ) (fs : List MemFile) → position (at_path path) fs ≡ None → maps.get (files_of fs) path ≡ None
not_found path fs none = maps.get-from_entries nat_list_cmp_total (map entry_of fs) path ∙ absent path fs none

pub pushed : (path : List ℕ) (fs : List MemFile) (g : MemFile) → string_bytes g.path ≡ path → position (at_path path) fs ≡ None → files_of (fs ++ g ∷ []) ≡ maps.insert (files_of fs) path g.bytes.items
pushed path fs g named none =
    ap maps.from_entries (map-append entry_of fs (g ∷ []))
    ∙ ap (λ (p : List ℕ). maps.from_entries (map entry_of fs ++ (p, g.bytes.items) ∷ [])) named
    ∙ maps.from_entries_push nat_list_cmp_total same_path (map entry_of fs) path g.bytes.items (absent path fs none)

-- What holds anyway holds if there is an error.
pub on_err : {T E P : Type 0} (result : Result T E) → P → OnErr result P
on_err (Ok _) holds = tt
on_err (Err _) holds = holds

-- bytes that are appended to the first file of a path
pub written_after : (path : List ℕ) (fs : List MemFile) (i : ℕ) (d g : MemFile) (piece : List ℕ) → position (at_path path) fs ≡ Some i → g.path ≡ (get_or fs i d).path → g.bytes.items ≡ (get_or fs i d).bytes.items ++ piece
    → files_of (set fs i g) ≡ maps.insert (files_of fs) path (bytes_or_none path (files_of fs) ++ piece)
written_after path fs i d g piece found kept is =
    written_in_place path fs i d g found kept
    ∙ ap (λ (bytes : List ℕ). maps.insert (files_of fs) path bytes) (is ∙ ap (λ (held : Option (List ℕ)). unwrap_or held [] ++ piece) (sym (found_there path fs i d found)))

-- the first file of a path, with the bytes that it has
pub written_again : (path : List ℕ) (fs : List MemFile) (i : ℕ) (d g : MemFile) → position (at_path path) fs ≡ Some i → g.path ≡ (get_or fs i d).path → g.bytes.items ≡ (get_or fs i d).bytes.items → files_of (set fs i g) ≡ files_of fs
written_again path fs i d g found kept is =
    written_in_place path fs i d g found kept
    ∙ ap (λ (bytes : List ℕ). maps.insert (files_of fs) path bytes) is
    ∙ insert_same (files_of fs) path (get_or fs i d).bytes.items (found_there path fs i d found)
