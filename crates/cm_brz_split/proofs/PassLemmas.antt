-- The keys of a bucket in memory: one key more, and the lines of a pass over them.
use Rattle.std.proofs.Common.{◌≡◌, ◌∙◌, ℕ, suc, zero, ◌+◌, ◌-◌, ◌<◌, ◌≤◌, List, [], ◌∷◌, ◌++◌, length, map, take, drop, get_or, refl, ap, sym, subst, arith, add-one, length-append, length-drop, ⊎_elim, None}
use Rattle.std.specs.Prelude.{All}
use Rattle.std.proofs.Math.Nat.{eq-or-lt_of_le}
use Rattle.std.proofs.Math.Seq.{drop-cons, get_or-append_seam}
use Rattle.std.proofs.lemmas.List.{get_or_append_left, get_or-map, map-append, take-append-drop, take_all, take_more}
use Rattle.std.proofs.lemmas.List.Elements.{All-head, All-push, All-same, All-tail}
use Rattle.cm_brz_split.proofs.BytesLemmas.{behind, bytes_kept, first_ahead}
use Rattle.cm_brz_split.specs.BucketPass.{BucketPass, IsBucketPass, IsKeyIn, LinesRise, keyed_in, last_line, line_before}
use Rattle.cm_brz_split.specs.declared.bucket_keys.Spot.{Spot}
use Rattle.cm_io.specs.Passes.{Told}
use Rattle.cm_io.specs.declared.key_pass.TheConstants.{MAX_KEY_LEN}

-- a key of no line
abbrev pub no_key : ℕ × List ℕ
no_key = (0, [])

-- with more bytes behind, the keys are the same
keyed_kept : (bytes more : List ℕ) (spots : List Spot) → All (IsKeyIn bytes) spots → map (keyed_in (bytes ++ more)) spots ≡ map (keyed_in bytes) spots
keyed_kept bytes more [] all = refl
keyed_kept bytes more (s ∷ ss) all =
    let here : IsKeyIn bytes s = All-head (IsKeyIn bytes) s ss all in
    ap (λ (l : List ℕ). let k : ℕ × List ℕ = (s.line, l) in k ∷ map (keyed_in (bytes ++ more)) ss) (bytes_kept bytes more s.from s.until here.0 here.1)
    ∙ ap (λ (l : List (ℕ × List ℕ)). keyed_in bytes s ∷ l) (keyed_kept bytes more ss (All-tail (IsKeyIn bytes) s ss all))

-- one key more
pub keyed_more : (bytes key bytes' : List ℕ) (spots spots' : List Spot) (s : Spot) → All (IsKeyIn bytes) spots → bytes' ≡ bytes ++ key → spots' ≡ spots ++ s ∷ [] → s.from ≡ length bytes → s.until ≡ length bytes'
    → map (keyed_in bytes') spots' ≡ map (keyed_in bytes) spots ++ (s.line, key) ∷ []
keyed_more bytes key bytes' spots spots' s all grown more from until =
    let last : take (s.until - s.from) (drop s.from (bytes ++ key)) ≡ key = behind bytes key s.from s.until from (until ∙ ap length grown) in
    ap (λ (b : List ℕ). map (keyed_in b) spots') grown
    ∙ ap (map (keyed_in (bytes ++ key))) more
    ∙ map-append (keyed_in (bytes ++ key)) spots (s ∷ [])
    ∙ ap (λ (l : List (ℕ × List ℕ)). l ++ keyed_in (bytes ++ key) s ∷ []) (keyed_kept bytes key spots all)
    ∙ ap (λ (l : List ℕ). let k : ℕ × List ℕ = (s.line, l) in map (keyed_in bytes) spots ++ k ∷ []) last

-- before a place that was there, the line is the same
line_kept : (keys : List (ℕ × List ℕ)) (k : ℕ × List ℕ) (i : ℕ) → i ≤ length keys → line_before (keys ++ k ∷ []) i ≡ line_before keys i
line_kept keys k zero h = refl
line_kept keys k (suc i) h = ap (λ (x : ℕ × List ℕ). x.0) (get_or_append_left keys (k ∷ []) no_key i (omega arith))

-- behind the keys, it is that of the new one
pub line_added : (keys : List (ℕ × List ℕ)) (k : ℕ × List ℕ) → last_line (keys ++ k ∷ []) ≡ k.0
line_added keys k =
    ap (λ (i : ℕ). line_before (keys ++ k ∷ []) i) (length-append keys (k ∷ []) ∙ add-one (length keys))
    ∙ ap (λ (x : ℕ × List ℕ). x.0) (get_or-append_seam keys k [] no_key)

-- a key of a later line
rise_more : (keys : List (ℕ × List ℕ)) (k : ℕ × List ℕ) → LinesRise keys → last_line keys < k.0 → LinesRise (keys ++ k ∷ [])
rise_more keys k rise later i h =
    let all = length-append keys (k ∷ []) in
    let old : (i < length keys) → line_before (keys ++ k ∷ []) i < line_before (keys ++ k ∷ []) (i + 1) =
    λ less. omega (arith, rise i less, line_kept keys k i (omega (arith, less)), line_kept keys k (i + 1) (omega (arith, less))) in
    let new : (i ≡ length keys) → line_before (keys ++ k ∷ []) i < line_before (keys ++ k ∷ []) (i + 1) =
    λ is. let after : line_before (keys ++ k ∷ []) (i + 1) ≡ k.0 = ap (λ (n : ℕ). line_before (keys ++ k ∷ []) n) (omega (arith, is, all)) ∙ line_added keys k in
    let before : line_before (keys ++ k ∷ []) i ≡ last_line keys = line_kept keys k i (omega (arith, is)) ∙ ap (line_before keys) is in
    omega (arith, later, after, before) in
    ⊎_elim new old (eq-or-lt_of_le (omega (arith, h, all)))

-- keys in memory, and one more of a later line
pub pass_more : (most : ℕ) (bytes key bytes' : List ℕ) (spots spots' : List Spot) (s : Spot) (given : ℕ) → IsBucketPass most bytes spots given → bytes' ≡ bytes ++ key → spots' ≡ spots ++ s ∷ [] → s.from ≡ length bytes → s.until ≡ length bytes'
    → length spots < most → length key ≤ MAX_KEY_LEN → last_line (map (keyed_in bytes) spots) < s.line → IsBucketPass most bytes' spots' given
pass_more most bytes key bytes' spots spots' s given ok grown more from until few short later =
    let long = ap length grown ∙ length-append bytes key in
    let here : IsKeyIn bytes' s = (omega (arith, from, until, long), omega (arith, until), omega (arith, from, until, long, short)) in
    let kept : All (IsKeyIn bytes') spots = λ i d h. let old = ok.stand i d h in (old.0, omega (arith, old.1, long), old.2) in
    let keys = keyed_more bytes key bytes' spots spots' s ok.stand grown more from until in
    let count = ap length more ∙ length-append spots (s ∷ []) in
    record {
      stand = All-same (IsKeyIn bytes') spots' (spots ++ s ∷ []) more (All-push (IsKeyIn bytes') spots s kept here);
      rise = subst LinesRise (sym keys) (rise_more (map (keyed_in bytes) spots) (s.line, key) ok.rise later);
      few = omega (arith, few, count);
      within = omega (arith, ok.within, count);
    }

-- the lines rise over several keys too
pub rise_far : (keys : List (ℕ × List ℕ)) (i n : ℕ) → LinesRise keys → 0 < n → i + n ≤ length keys → line_before keys i < line_before keys (i + n)
rise_far keys i zero rise some inside = absurd (omega (arith, some))
rise_far keys i (suc n) rise some inside =
    let last : line_before keys (i + n) < line_before keys (i + suc n) = let step = rise (i + n) (omega (arith, inside)) in let next : i + n + 1 ≡ i + suc n = omega arith in subst (λ (j : ℕ). line_before keys (i + n) < line_before keys j) next step in
    let none : (n ≡ 0) → line_before keys i < line_before keys (i + suc n) = λ is. let same : line_before keys (i + n) ≡ line_before keys i = ap (line_before keys) (omega (arith, is)) in omega (arith, last, same) in
    let more : (0 < n) → line_before keys i < line_before keys (i + suc n) = λ h. omega (arith, rise_far keys i n rise h (omega (arith, inside)), last) in
    ⊎_elim (λ is. none (sym is)) more (eq-or-lt_of_le (omega arith))

-- of keys whose bytes stand among these, the one that a pass gives next
pub peeked : (bytes b : List ℕ) (spots s : List Spot) (i : ℕ) (d : Spot) (pass : BucketPass) (told : Told) (line : ℕ) (key : List ℕ) → map (keyed_in bytes) spots ≡ pass.keys → i ≡ pass.given → record { keys = pass.keys; fault = None } ≡ told → i < length spots → s ≡ spots → b ≡ bytes
    → line ≡ (get_or s i d).line → key ≡ take ((get_or s i d).until - (get_or s i d).from) (drop (get_or s i d).from b) → drop pass.given told.keys ≡ (line, key) ∷ drop (pass.given + 1) told.keys
peeked bytes b spots s i d pass told line key keys_are given_is is inside slots all line_is key_is =
    let k : (let p : ℕ × List ℕ = (line, key) in p) ≡ keyed_in bytes (get_or spots i d) =
    ap (λ (n : ℕ). let p : ℕ × List ℕ = (n, key) in p) (line_is ∙ ap (λ (l : List Spot). (get_or l i d).line) slots)
    ∙ ap (λ (l : List ℕ). let p : ℕ × List ℕ = ((get_or spots i d).line, l) in p)
    (key_is ∙ ap (λ (l : List ℕ). take ((get_or s i d).until - (get_or s i d).from) (drop (get_or s i d).from l)) all
    ∙ ap (λ (l : List Spot). take ((get_or l i d).until - (get_or l i d).from) (drop (get_or l i d).from bytes)) slots) in
    let here = first_ahead (keyed_in bytes) spots i d inside ∙ ap (λ (p : ℕ × List ℕ). p ∷ drop (i + 1) (map (keyed_in bytes) spots)) (sym k) in
    let P : List (ℕ × List ℕ) → Type 0 = λ ks. drop i ks ≡ (line, key) ∷ drop (i + 1) ks in
    let Q : ℕ → Type 0 = λ n. drop n pass.keys ≡ (line, key) ∷ drop (n + 1) pass.keys in
    let R : Told → Type 0 = λ t. drop pass.given t.keys ≡ (line, key) ∷ drop (pass.given + 1) t.keys in
    subst R is (subst Q given_is (subst P keys_are here))

-- the line of the key at a place
pub line_there : (bytes : List ℕ) (spots : List Spot) (i : ℕ) (d : Spot) → i < length spots → line_before (map (keyed_in bytes) spots) (i + 1) ≡ (get_or spots i d).line
line_there bytes spots i d inside =
    ap (λ (n : ℕ). line_before (map (keyed_in bytes) spots) n) (add-one i)
    ∙ ap (λ (k : ℕ × List ℕ). k.0) (get_or-map (keyed_in bytes) spots i d no_key inside)

-- the keys before a place, and the one there
pub taken_next : (keys : List (ℕ × List ℕ)) (before now : ℕ) (k : ℕ × List ℕ) → now ≡ before + 1 → drop before keys ≡ k ∷ drop now keys → take before keys ++ k ∷ [] ≡ take now keys
taken_next keys before now k is e =
    let inside : before < length keys = omega (arith, length-drop before keys, ap length e) in
    let ahead = drop-cons keys before no_key inside in
    let here : get_or keys before no_key ≡ k = cc (ahead, e) in
    ap (λ (x : ℕ × List ℕ). take before keys ++ x ∷ []) (sym here) ∙ (sym (take_more keys before no_key inside) ∙ ap (λ (n : ℕ). take n keys) (sym is))

-- the keys before a place, and all others
pub taken_rest : (all keys given : List (ℕ × List ℕ)) (i place n : ℕ) → all ≡ keys → i ≡ place → n ≡ length all → i ≤ n → given ≡ take place keys → (more : List (ℕ × List ℕ)) × (length more ≡ n - i) × (given ++ more ≡ take (i + (n - i)) all)
taken_rest all keys given i place n same at long inside is =
    let before : given ≡ take i all = is ∙ (ap (λ (j : ℕ). take j keys) (sym at) ∙ ap (λ (l : List (ℕ × List ℕ)). take i l) (sym same)) in (
      drop i all,
      omega (arith, length-drop i all),
      ap (λ (l : List (ℕ × List ℕ)). l ++ drop i all) before ∙ (take-append-drop i all ∙ sym (take_all (i + (n - i)) all (omega arith))),
    )

-- the keys before a place, and one more
pub taken_one : (all keys given : List (ℕ × List ℕ)) (i place : ℕ) (k : ℕ × List ℕ) → all ≡ keys → i ≡ place → drop place keys ≡ k ∷ drop (i + 1) keys → given ≡ take place keys → given ++ k ∷ [] ≡ take (i + 1) all
taken_one all keys given i place k same at ahead is =
    ap (λ (l : List (ℕ × List ℕ)). l ++ k ∷ []) is ∙ (taken_next keys place (i + 1) k (omega arith) ahead ∙ ap (λ (l : List (ℕ × List ℕ)). take (i + 1) l) (sym same))
