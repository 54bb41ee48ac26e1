-- Laws of files that are appended to.
use Rattle.std.proofs.Common.{◌≡◌, ◌≢◌, ℕ, List, [], ◌++◌, Bool, true, false, cond, Option, None, Some, unwrap_or, refl, sym, ◌∙◌, ap, subst, append_assoc, append-nil}
use Rattle.std.specs.Prelude.{is_some}
use Rattle.std.specs.declared.cmp.Ordering.{Ordering}
use Rattle.std.specs.declared.cmp.Ordering.TheVariants.{Less, Equal, Greater}
use Rattle.std.specs.Ordering.{eq_by_cmp, is_eq, nat_cmp}
use Rattle.std.specs.Cmp.{eq_by_cmp_equiv}
use Rattle.std.specs.Cmp.Lexicographic.{slice_cmp, nat_list_cmp_total}
use Rattle.std.specs.FinMap as map
use Rattle.cm_io.specs.Files.{Files, IsThere, file_at, with_file}
use Rattle.cm_io.specs.FilesLaws.{insert_twice, is_there, same_path}
use Rattle.cm_io_append.specs.Extending.{bytes_or_none, extended}

tie_or : (o : Ordering) (x y : Option (List ℕ)) → (o ≡ Equal → x ≡ y) → cond (is_eq o) x y ≡ y
tie_or Less x y same = refl
tie_or Equal x y same = same refl
tie_or Greater x y same = refl

-- the bytes that a path holds may be written to it again
pub insert_same : (files : Files) (path bytes : List ℕ) → file_at files path ≡ Some bytes → map.insert files path bytes ≡ files
insert_same files path bytes there = map.same_map nat_list_cmp_total same_path _ _ (λ q.
    map.get-insert nat_list_cmp_total files path bytes q
    ∙ tie_or (slice_cmp nat_cmp q path) (Some bytes) (map.get files q) (λ tie. sym there ∙ ap (λ (p : List ℕ). map.get files p) (sym (same_path q path tie))))

-- what a path holds after it was written
pub get_same : (files : Files) (path bytes : List ℕ) → file_at (map.insert files path bytes) path ≡ Some bytes
get_same files path bytes =
    map.get-insert nat_list_cmp_total files path bytes path ∙ ap (λ (b : Bool). cond b (Some bytes) (map.get files path)) ((eq_by_cmp_equiv nat_list_cmp_total).refl path)

other_or : (o : Ordering) (x y : Option (List ℕ)) → (o ≡ Equal → ⊥) → cond (is_eq o) x y ≡ y
other_or o x y differ = tie_or o x y (λ same. absurd (differ same))

-- what another path holds
pub get_other : (files : Files) (path bytes q : List ℕ) → q ≢ path → file_at (map.insert files path bytes) q ≡ file_at files q
get_other files path bytes q differ =
    map.get-insert nat_list_cmp_total files path bytes q ∙ other_or (slice_cmp nat_cmp q path) (Some bytes) (map.get files q) (λ tie. differ (same_path q path tie))

there_bytes : (found : Option (List ℕ)) → is_some found ≡ true → found ≡ Some (unwrap_or found [])
there_bytes None there = absurd (cc)
there_bytes (Some bytes) there = refl

-- No byte appended to a path that is there leaves the files as they are.
pub extended_nothing : (path : List ℕ) (known : Option Files) → IsThere path known → extended path [] known ≡ known
extended_nothing path None there = refl
extended_nothing path (Some files) there =
    ap (λ (bytes : List ℕ). Some (map.insert files path bytes)) (append-nil (bytes_or_none path files))
    ∙ ap Some (insert_same files path (bytes_or_none path files) (there_bytes (file_at files path) there))

-- One piece and then another are the two as one piece.
pub extended_twice : (path xs ys : List ℕ) (known : Option Files) → extended path ys (extended path xs known) ≡ extended path (xs ++ ys) known
extended_twice path xs ys None = refl
extended_twice path xs ys (Some files) =
    let held = bytes_or_none path files in
    ap (λ (found : Option (List ℕ)). Some (map.insert (map.insert files path (held ++ xs)) path (unwrap_or found [] ++ ys))) (get_same files path (held ++ xs))
    ∙ ap Some (insert_twice files path (held ++ xs) ((held ++ xs) ++ ys))
    ∙ ap (λ (bytes : List ℕ). Some (map.insert files path bytes)) (append_assoc held xs ys)

-- A piece behind the bytes that were written to a path.
pub extended_file : (path bytes piece : List ℕ) (known : Option Files) → extended path piece (with_file path bytes known) ≡ with_file path (bytes ++ piece) known
extended_file path bytes piece None = refl
extended_file path bytes piece (Some files) =
    ap (λ (found : Option (List ℕ)). Some (map.insert (map.insert files path bytes) path (unwrap_or found [] ++ piece))) (get_same files path bytes)
    ∙ ap Some (insert_twice files path bytes (bytes ++ piece))

found_or : (b : Bool) (bytes : List ℕ) (found : Option (List ℕ)) → is_some found ≡ true → is_some (cond b (Some bytes) found) ≡ true
found_or true bytes found there = refl
found_or false bytes found there = there

-- A path that was there is there still.
pub still_there : (path piece q : List ℕ) (known : Option Files) → IsThere q known → IsThere q (extended path piece known)
still_there path piece q None there = tt
still_there path piece q (Some files) there =
    let bytes = bytes_or_none path files ++ piece in
    ap is_some (map.get-insert nat_list_cmp_total files path bytes q) ∙ found_or (eq_by_cmp (slice_cmp nat_cmp) q path) bytes (map.get files q) there

-- A path that was appended to is there.
pub is_extended : (path piece : List ℕ) (old new : Option Files) → new ≡ extended path piece old → IsThere path new
is_extended path piece None new is = subst (IsThere path) (sym is) tt
is_extended path piece (Some files) new is = is_there path (bytes_or_none path files ++ piece) (Some files) new is
