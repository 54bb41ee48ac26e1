-- One key more, after keys that each see those before them.
use Rattle.std.proofs.Common.{◌≡◌, ◌∙◌, ℕ, List, [], ◌∷◌, ◌++◌, ap, sym, append_assoc, append-nil}
use Rattle.cm_query_batch.specs.Earlier.{with_earlier}

pub with_earlier-more : {A : Type 0} (give : List (ℕ × List ℕ) → ℕ × List ℕ → A) (earlier keys : List (ℕ × List ℕ)) (k : ℕ × List ℕ)
    → with_earlier give earlier (keys ++ k ∷ []) ≡ with_earlier give earlier keys ++ give (earlier ++ keys) k ∷ []
with_earlier-more give earlier [] k = ap (λ (e : List (ℕ × List ℕ)). give e k ∷ []) (sym (append-nil earlier))
with_earlier-more {A = A} give earlier (x ∷ xs) k =
    ap (λ (l : List A). give earlier x ∷ l) (with_earlier-more give (earlier ++ x ∷ []) xs k)
    ∙ ap (λ (e : List (ℕ × List ℕ)). give earlier x ∷ (with_earlier give (earlier ++ x ∷ []) xs ++ give e k ∷ [])) (append_assoc earlier (x ∷ []) xs)
