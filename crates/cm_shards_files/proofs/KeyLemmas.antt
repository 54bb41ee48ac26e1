-- Keys that are kept one after another.
use Rattle.std.proofs.Common.{◌≡◌, ◌∙◌, ℕ, ◌+◌, ◌-◌, ◌≤◌, List, [], ◌∷◌, ◌++◌, length, map, take, drop, refl, ap, sym, arith, length-append, length-drop}
use Rattle.std.specs.Prelude.{All}
use Rattle.std.specs.List.{concat}
use Rattle.std.proofs.lemmas.List.{append-nil, drop-append-le, map-append, take_all, take-append-le}
use Rattle.std.proofs.lemmas.List.Folds.{concat-append}
use Rattle.std.proofs.lemmas.List.Elements.{All-head, All-push, All-same, All-tail, All-weaker}
use Rattle.std.proofs.Math.Seq.{drop-append_seam}
use Rattle.cm_shards_files.specs.Taken.{StandsIn, key_in}
use Rattle.cm_shards_files.specs.declared.taken.Spot.{Spot}

-- with more bytes behind, the keys are the same
keys_kept : (bytes more : List ℕ) (items : List Spot) → All (StandsIn bytes) items → map (key_in (bytes ++ more)) items ≡ map (key_in bytes) items
keys_kept bytes more [] all = refl
keys_kept bytes more (s ∷ ss) all =
    let here : StandsIn bytes s = All-head (StandsIn bytes) s ss all in
    let n = s.until - s.from in
    let enough : n ≤ length (drop s.from bytes) = omega (arith, here.0, here.1, length-drop s.from bytes) in
    let from : drop s.from (bytes ++ more) ≡ drop s.from bytes ++ more = drop-append-le s.from bytes more (omega (arith, here.0, here.1)) in
    let same : take n (drop s.from (bytes ++ more)) ≡ take n (drop s.from bytes) = ap (λ (l : List ℕ). take n l) from ∙ take-append-le n (drop s.from bytes) more enough in
    ap (λ (l : List ℕ). l ∷ map (key_in (bytes ++ more)) ss) same
    ∙ ap (λ (l : List (List ℕ)). key_in bytes s ∷ l) (keys_kept bytes more ss (All-tail (StandsIn bytes) s ss all))

-- the bytes behind others
behind : (bytes key : List ℕ) (from until : ℕ) → from ≡ length bytes → until ≡ length (bytes ++ key) → take (until - from) (drop from (bytes ++ key)) ≡ key
behind bytes key from until is ends =
    ap (λ (i : ℕ). take (until - from) (drop i (bytes ++ key))) is
    ∙ ap (λ (l : List ℕ). take (until - from) l) (drop-append_seam bytes key)
    ∙ take_all (until - from) key (omega (arith, is, ends, length-append bytes key))

-- one key more
pub key_more : (bytes key bytes' : List ℕ) (items items' : List Spot) (s : Spot) → All (StandsIn bytes) items → bytes' ≡ bytes ++ key → items' ≡ items ++ s ∷ [] → s.from ≡ length bytes → s.until ≡ length bytes'
    → map (key_in bytes') items' ≡ map (key_in bytes) items ++ key ∷ []
key_more bytes key bytes' items items' s all grown more from until =
    let last : take (s.until - s.from) (drop s.from (bytes ++ key)) ≡ key = behind bytes key s.from s.until from (until ∙ ap length grown) in
    ap (λ (b : List ℕ). map (key_in b) items') grown
    ∙ ap (map (key_in (bytes ++ key))) more
    ∙ map-append (key_in (bytes ++ key)) items (s ∷ [])
    ∙ ap (λ (l : List (List ℕ)). l ++ key_in (bytes ++ key) s ∷ []) (keys_kept bytes key items all)
    ∙ ap (λ (l : List ℕ). map (key_in bytes) items ++ l ∷ []) last

concat_more : (keys : List (List ℕ)) (key : List ℕ) → concat (keys ++ key ∷ []) ≡ concat keys ++ key
concat_more keys key = concat-append keys (key ∷ []) ∙ ap (λ (l : List ℕ). concat keys ++ l) (append-nil key)

-- all stand among the bytes then, which are those of all keys
pub stand_more : (bytes key bytes' : List ℕ) (items items' : List Spot) (s : Spot) → All (StandsIn bytes) items × (concat (map (key_in bytes) items) ≡ bytes) → bytes' ≡ bytes ++ key → items' ≡ items ++ s ∷ [] → s.from ≡ length bytes → s.until ≡ length bytes'
    → All (StandsIn bytes') items' × (concat (map (key_in bytes') items') ≡ bytes')
stand_more bytes key bytes' items items' s invariant grown more from until =
    let long : length bytes' ≡ length bytes + length key = ap length grown ∙ length-append bytes key in
    let older : All (StandsIn bytes') items = All-weaker (StandsIn bytes) (StandsIn bytes') (λ t stands. (stands.0, omega (arith, stands.1, long))) items invariant.0 in
    let here : StandsIn bytes' s = (omega (arith, from, until, long), omega (arith, until)) in
    let whole = key_more bytes key bytes' items items' s invariant.0 grown more from until in (
      All-same (StandsIn bytes') _ _ more (All-push (StandsIn bytes') _ _ older here),
      ap concat whole ∙ concat_more (map (key_in bytes) items) key ∙ ap (λ (l : List ℕ). l ++ key) invariant.1 ∙ sym grown,
    )
