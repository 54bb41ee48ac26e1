-- Lemmas about what the calls of a disk make of its files.
use Rattle.std.proofs.Common.{◌≡◌, ℕ, zero, suc, length, arith, List, [], ◌∷◌, take, Bool, true, false, cond, Option, None, Some, Result, Ok, Err, unwrap_or, refl, sym, ◌∙◌, ap, subst}
use Rattle.std.specs.Prelude.{is_some}
use Rattle.std.specs.Option.{ForSome}
use Rattle.std.specs.Ordering.{nat_cmp, eq_by_cmp}
use Rattle.std.specs.Cmp.{eq_by_cmp_equiv}
use Rattle.std.specs.Cmp.Lexicographic.{slice_cmp, nat_list_cmp_total}
use Rattle.std.specs.FinMap as map
use Rattle.std.proofs.lemmas.List.{take_all}
use Rattle.cm_io.specs.Writing.{then_bytes}
use Rattle.cm_io.specs.declared.fault.Failed.{Failed}
use Rattle.cm_io.specs.Files.{Closes, Files, IsThere, with_file}

-- the bytes of a path are alike only if they are equal
pub same_path : map.IsAntisymmetric (slice_cmp nat_cmp)
same_path = map.slice_cmp-IsAntisymmetric map.nat_cmp-IsAntisymmetric

pick_twice : {A : Type 0} (b : Bool) (x y z : A) → cond b x (cond b y z) ≡ cond b x z
pick_twice true x y z = refl
pick_twice false x y z = refl

-- the later bytes of a path are what counts
pub insert_twice : (files : Files) (path first second : List ℕ) → map.insert (map.insert files path first) path second ≡ map.insert files path second
insert_twice files path first second = map.same_map nat_list_cmp_total same_path _ _ (λ q.
    map.get-insert nat_list_cmp_total (map.insert files path first) path second q
    ∙ ap (cond (eq_by_cmp (slice_cmp nat_cmp) q path) (Some second)) (map.get-insert nat_list_cmp_total files path first q)
    ∙ pick_twice _ (Some second) (Some first) (map.get files q)
    ∙ sym (map.get-insert nat_list_cmp_total files path second q))

-- a path that was written is there
pub is_there : (path bytes : List ℕ) (old new : Option Files) → new ≡ with_file path bytes old → IsThere path new
is_there path bytes None new is = subst (IsThere path) (sym is) tt
is_there path bytes (Some files) new is = subst (IsThere path) (sym is) (
    ap is_some (map.get-insert nat_list_cmp_total files path bytes path ∙ ap (λ (b : Bool). cond b (Some bytes) (map.get files path)) ((eq_by_cmp_equiv nat_list_cmp_total).refl path))
    )

-- What a writer that began with nothing holds, or a prefix of it, is what the path holds in the end.
pub holds : (path piece : List ℕ) (cut : List ℕ → List ℕ) (old mid new : Option Files) (first last : Option (List ℕ)) → mid ≡ with_file path [] old → ForSome old (λ _. first ≡ Some []) → last ≡ then_bytes first piece
    → new ≡ with_file path (cut (unwrap_or last [])) mid → new ≡ with_file path (cut piece) old
holds path piece cut None mid new first last made empty wrote closed = closed ∙ ap (with_file path (cut (unwrap_or last []))) made
holds path piece cut (Some files) mid new first last made empty wrote closed =
    let is : last ≡ Some piece = wrote ∙ ap (λ (known : Option (List ℕ)). then_bytes known piece) (empty files refl) in
    closed
    ∙ ap (with_file path (cut (unwrap_or last []))) made
    ∙ ap (λ (known : Option (List ℕ)). Some (map.insert (map.insert files path []) path (cut (unwrap_or known [])))) is
    ∙ ap Some (insert_twice files path [] (cut piece))

-- Whatever closing returned, the path holds a prefix of what the writer held.
pub front_closed : (path : List ℕ) (known : Option (List ℕ)) (old new : Option Files) (result : Result (Unit {0}) Failed) → Closes path known old new result → (n : ℕ) × (new ≡ with_file path (take n (unwrap_or known [])) old)
front_closed path known old new (Ok _) closed =
    let held = unwrap_or known [] in
    (length held, closed ∙ ap (λ (l : List ℕ). with_file path l old) (sym (take_all (length held) held (omega arith))))
front_closed path known old new (Err _) closed = closed

-- a prefix of a prefix
pub front_of_front : (n m : ℕ) (xs : List ℕ) → (k : ℕ) × (take n (take m xs) ≡ take k xs)
front_of_front zero m xs = (0, refl)
front_of_front (suc n) zero xs = (0, refl)
front_of_front (suc n) (suc m) [] = (0, refl)
front_of_front (suc n) (suc m) (x ∷ xs) = let k = front_of_front n m xs in (suc k.0, ap (λ (l : List ℕ). x ∷ l) k.1)

pub holds_front : (path bytes : List ℕ) (m n : ℕ) (old new : Option Files) → new ≡ with_file path (take n (take m bytes)) old → (k : ℕ) × (new ≡ with_file path (take k bytes) old)
holds_front path bytes m n old new is = let k = front_of_front n m bytes in (k.0, is ∙ ap (λ (l : List ℕ). with_file path l old) k.1)
