-- The hash values of the keys of a bucket.
use Rattle.std.proofs.Common.{◌≡◌, ◌∙◌, ℕ, ◌+◌, ◌<◌, List, [], ◌∷◌, ◌++◌, length, map, take, get_or, ap, sym, arith, length-append}
use Rattle.std.proofs.lemmas.List.{map-append, take-append-le, take_more}
use Rattle.cm_brz_split.specs.BucketPass.{AreHashed, words_under}

-- with one key more, those of the first ones are the same
pub hashed_before : (seeds : List ℕ) (key : ℕ × List ℕ) (keys all : List (ℕ × List ℕ)) (hashed : List (List (List ℕ))) → AreHashed seeds keys hashed → all ≡ keys ++ key ∷ [] → AreHashed seeds all hashed
hashed_before seeds key keys all hashed before more = (
  before.0 ∙ ap (map (words_under seeds)) (sym (ap (take (length hashed)) more ∙ take-append-le (length hashed) keys (key ∷ []) before.1)),
  omega (arith, before.1, ap length more, length-append keys (key ∷ [])),
)

-- one key more that was hashed
pub hashed_more : (seeds : List ℕ) (keys : List (ℕ × List ℕ)) (hashed now : List (List (List ℕ))) (i : ℕ) → AreHashed seeds keys hashed → length hashed ≡ i → i < length keys
    → now ≡ hashed ++ words_under seeds (get_or keys i (0, [])) ∷ [] → AreHashed seeds keys now
hashed_more seeds keys hashed now i before many inside added =
    let long : length now ≡ i + 1 = omega (arith, ap length added, length-append hashed (words_under seeds (get_or keys i (0, [])) ∷ []), many) in (
      added
          ∙ ap (λ (ws : List (List (List ℕ))). ws ++ words_under seeds (get_or keys i (0, [])) ∷ []) (before.0 ∙ ap (λ (n : ℕ). map (words_under seeds) (take n keys)) many)
          ∙ sym (map-append (words_under seeds) (take i keys) (get_or keys i (0, []) ∷ []))
          ∙ ap (map (words_under seeds)) (sym (take_more keys i (0, []) inside))
          ∙ ap (λ (n : ℕ). map (words_under seeds) (take n keys)) (sym long),
      omega (arith, long, inside),
    )
