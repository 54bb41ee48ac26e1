-- The pairs of equal keys, if some that equal no other are left out.
use Rattle.std.proofs.Common.{◌≡◌, ◌∙◌, ℕ, suc, ◌<◌, List, [], ◌∷◌, ◌++◌, length, map, filter, get_or, Option, None, Some, refl, ap, sym, subst, arith, append_assoc, append-nil, length-append, Bool, true, false, ⊎_elim, bytes_eq, cond}
use Rattle.std.proofs.lemmas.Bool.{cases_Bool, cond-false, false≢true}
use Rattle.std.proofs.lemmas.List.{get_or_append_left, get_or_at, map-append}
use Rattle.std.proofs.lemmas.List.Elements.{filter-append}
use Rattle.std.proofs.lemmas.Slice.Eq.{bytes_eq-Decides}
use Rattle.cm_witness_gather.specs.Pairs.{first_line, pairs, pairs_after, with_pair}
use Rattle.cm_witness_gather.specs.declared.certificate.Pair.{Pair}

-- if the keys at two of these places are equal, both places pass the test
abbrev pub PassEqual : (ℕ → Bool) → (ℕ → ℕ × List ℕ) → List ℕ → Type 0
PassEqual test key_of places = (i j : ℕ) → i < j → j < length places → (key_of (get_or places i 0)).1 ≡ (key_of (get_or places j 0)).1 → (test (get_or places i 0) ≡ true) × (test (get_or places j 0) ≡ true)

-- if the key at a place is this one, the place passes the test
abbrev PassKey : (ℕ → Bool) → (ℕ → ℕ × List ℕ) → List ℕ → List ℕ → Type 0
PassKey test key_of places key = (i : ℕ) → i < length places → (key_of (get_or places i 0)).1 ≡ key → test (get_or places i 0) ≡ true

-- keys differ if only equal ones pass
differ : (test : ℕ → Bool) (p : ℕ) (k key : List ℕ) → (k ≡ key → test p ≡ true) → test p ≡ false → bytes_eq k key ≡ false
differ test p k key passes fails = ⊎_elim
    (λ (same : bytes_eq k key ≡ true). absurd (false≢true (sym fails ∙ passes ((bytes_eq-Decides k key).0 same))))
    (λ (other : bytes_eq k key ≡ false). other)
    (cases_Bool (bytes_eq k key))

-- one place more
pub kept-push : (test : ℕ → Bool) (key_of : ℕ → ℕ × List ℕ) (places : List ℕ) (p : ℕ) → map key_of (filter test (places ++ p ∷ [])) ≡ map key_of (filter test places) ++ cond (test p) (key_of p ∷ []) []
kept-push test key_of places p =
    ap (map key_of) (filter-append test places (p ∷ []))
    ∙ map-append key_of (filter test places) (filter test (p ∷ []))
    ∙ ap (λ (l : List (ℕ × List ℕ)). map key_of (filter test places) ++ l) (alone (test p)) where
      alone : (b : Bool) → map key_of (cond b (p ∷ []) []) ≡ cond b (key_of p ∷ []) []
      alone true = refl
      alone false = refl

-- what is found of a key that no key equals which is left out
first_kept : (test : ℕ → Bool) (key_of : ℕ → ℕ × List ℕ) (places key : List ℕ) → PassKey test key_of places key → first_line (map key_of (filter test places)) key ≡ first_line (map key_of places) key
first_kept test key_of [] key pass = refl
first_kept test key_of (p ∷ places) key pass =
    let rest = first_kept test key_of places key (λ i inside. pass (suc i) (omega arith)) in
    ⊎_elim
    (λ (passes : test p ≡ true).
    ap (λ (b : Bool). first_line (map key_of (cond b (p ∷ filter test places) (filter test places))) key) passes
    ∙ ap (λ (o : Option ℕ). cond (bytes_eq (key_of p).1 key) (Some (key_of p).0) o) rest)
    (λ (fails : test p ≡ false).
    ap (λ (b : Bool). first_line (map key_of (cond b (p ∷ filter test places) (filter test places))) key) fails
    ∙ rest
    ∙ sym (cond-false (bytes_eq (key_of p).1 key) (Some (key_of p).0) (first_line (map key_of places) key) (differ test p (key_of p).1 key (pass 0 (omega arith)) fails)))
    (cases_Bool (test p))

-- a key of which no equal one is there
no_line : (key_of : ℕ → ℕ × List ℕ) (places key : List ℕ) → ((i : ℕ) → i < length places → (key_of (get_or places i 0)).1 ≡ key → ⊥) → first_line (map key_of places) key ≡ None
no_line key_of [] key none = refl
no_line key_of (p ∷ places) key none = ⊎_elim
    (λ (same : bytes_eq (key_of p).1 key ≡ true). absurd (none 0 (omega arith) ((bytes_eq-Decides (key_of p).1 key).0 same)))
    (λ (other : bytes_eq (key_of p).1 key ≡ false).
    cond-false (bytes_eq (key_of p).1 key) (Some (key_of p).0) (first_line (map key_of places) key) other
    ∙ no_line key_of places key (λ i inside. none (suc i) (omega arith)))
    (cases_Bool (bytes_eq (key_of p).1 key))

-- places before another one that has an equal key
passed_before : (test : ℕ → Bool) (key_of : ℕ → ℕ × List ℕ) (earlier places : List ℕ) (p i : ℕ) → PassEqual test key_of (earlier ++ p ∷ places) → i < length earlier → (key_of (get_or earlier i 0)).1 ≡ (key_of p).1 → (test (get_or earlier i 0) ≡ true) × (test p ≡ true)
passed_before test key_of earlier places p i pass inside same =
    let here : get_or (earlier ++ p ∷ places) (length earlier) 0 ≡ p = get_or_at earlier p places 0 (length earlier) refl in
    let there : get_or (earlier ++ p ∷ places) i 0 ≡ get_or earlier i 0 = get_or_append_left earlier (p ∷ places) 0 i inside in
    let key = λ (q : ℕ). (key_of q).1 in
    let both = pass i (length earlier) inside (omega (arith, length-append earlier (p ∷ places))) (ap key there ∙ same ∙ sym (ap key here)) in
    (sym (ap test there) ∙ both.0, sym (ap test here) ∙ both.1)

-- after some keys of which some were left out
kept_after : (test : ℕ → Bool) (key_of : ℕ → ℕ × List ℕ) (earlier places : List ℕ) → PassEqual test key_of (earlier ++ places) → pairs_after (map key_of (filter test earlier)) (map key_of (filter test places)) ≡ pairs_after (map key_of earlier) (map key_of places)
kept_after test key_of earlier [] pass = refl
kept_after test key_of earlier (p ∷ places) pass =
    let k = key_of p in
    let kept = map key_of (filter test earlier) in
    let later = map key_of (filter test places) in
    let more = pairs_after (map key_of earlier ++ k ∷ []) (map key_of places) in
    let before = λ (i : ℕ) (inside : i < length earlier) (same : (key_of (get_or earlier i 0)).1 ≡ k.1). passed_before test key_of earlier places p i pass inside same in
    let rest : pairs_after (kept ++ cond (test p) (k ∷ []) []) later ≡ more =
    ap (λ (l : List (ℕ × List ℕ)). pairs_after l later) (sym (kept-push test key_of earlier p))
    ∙ kept_after test key_of (earlier ++ p ∷ []) places (subst (PassEqual test key_of) (sym (append_assoc earlier (p ∷ []) places)) pass)
    ∙ ap (λ (l : List (ℕ × List ℕ)). pairs_after l (map key_of places)) (map-append key_of earlier (p ∷ [])) in
    ⊎_elim
    (λ (passes : test p ≡ true).
    ap (λ (b : Bool). pairs_after kept (map key_of (cond b (p ∷ filter test places) (filter test places)))) passes
    ∙ ap (λ (o : Option ℕ). with_pair o k.0 (pairs_after (kept ++ k ∷ []) later)) (first_kept test key_of earlier k.1 (λ i inside same. (before i inside same).0))
    ∙ ap (λ (l : List Pair). with_pair (first_line (map key_of earlier) k.1) k.0 l) (ap (λ (b : Bool). pairs_after (kept ++ cond b (k ∷ []) []) later) (sym passes) ∙ rest))
    (λ (fails : test p ≡ false).
    ap (λ (b : Bool). pairs_after kept (map key_of (cond b (p ∷ filter test places) (filter test places)))) fails
    ∙ ap (λ (l : List (ℕ × List ℕ)). pairs_after l later) (sym (append-nil kept))
    ∙ ap (λ (b : Bool). pairs_after (kept ++ cond b (k ∷ []) []) later) (sym fails)
    ∙ rest
    ∙ ap (λ (o : Option ℕ). with_pair o k.0 more) (sym (no_line key_of earlier k.1 (λ i inside same. false≢true (sym fails ∙ (before i inside same).1)))))
    (cases_Bool (test p))

-- all of them
pub pairs_kept : (test : ℕ → Bool) (key_of : ℕ → ℕ × List ℕ) (places : List ℕ) → PassEqual test key_of places → pairs (map key_of (filter test places)) ≡ pairs (map key_of places)
pairs_kept test key_of places pass = kept_after test key_of [] places pass
