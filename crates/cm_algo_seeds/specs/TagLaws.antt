-- Lemmas about tags: only the tag of each edge counts, and a tag that is not there is 0.
use Rattle.std.proofs.Common.{◌≡◌, ◌⊎◌, ℕ, zero, suc, Bool, true, false, List, [], ◌∷◌, length, map, get_or, set, refl, sym, ap, ◌∙◌, inl, inr}
use Rattle.std.proofs.lemmas.Bool.{cases_Bool}
use Rattle.cm_spec.specs.Built.{tag_of}
use Rattle.cm_spec.specs.Cells.{plan_of, pivot_vertex, sum_but, completing, value_at, at_once, cells_from, cells_of}
use Rattle.cm_spec.specs.Graph.{ends_at}
use Rattle.cm_spec.specs.Lookup2.{words}
use Rattle.cm_spec.specs.Rounds.{removed_after, pivot_of}
use Rattle.cm_spec.specs.Rule.{Rule}

-- a list of tags has at each place what another one has
abbrev pub SameTags : List ℕ → List ℕ → Type 0
SameTags tags tags' = (e : ℕ) → get_or tags e 0 ≡ get_or tags' e 0

value_agrees : (r : Rule) (n : ℕ) (edges : List (List ℕ)) (tags tags' cells : List ℕ) (e : ℕ) → SameTags tags tags' → value_at (plan_of r n edges tags) cells e ≡ value_at (plan_of r n edges tags') cells e
value_agrees r n edges tags tags' cells e h =
    ap (λ (t : ℕ). completing (r.modulus (length edges)) (r.target e (pivot_of edges e) t) (sum_but cells (pivot_vertex edges e) (ends_at edges e))) (h e)

at_once_agrees : (r : Rule) (n : ℕ) (edges : List (List ℕ)) (tags tags' before es : List ℕ) → SameTags tags tags' → at_once (plan_of r n edges tags) before es ≡ at_once (plan_of r n edges tags') before es
at_once_agrees r n edges tags tags' before [] h = refl
at_once_agrees r n edges tags tags' before (e ∷ es) h =
    ap (λ (cells : List ℕ). set cells (pivot_vertex edges e) (value_at (plan_of r n edges tags) before e)) (at_once_agrees r n edges tags tags' before es h)
    ∙ ap (λ (x : ℕ). set (at_once (plan_of r n edges tags') before es) (pivot_vertex edges e) x) (value_agrees r n edges tags tags' before e h)

cells_from_agree : (r : Rule) (n : ℕ) (edges : List (List ℕ)) (tags tags' : List ℕ) (d t : ℕ) → SameTags tags tags' → cells_from (plan_of r n edges tags) d t ≡ cells_from (plan_of r n edges tags') d t
unfolding cells_from
cells_from_agree r n edges tags tags' zero t h = refl
cells_from_agree r n edges tags tags' (suc d) t h =
    ap (λ (before : List ℕ). at_once (plan_of r n edges tags) before (removed_after edges t)) (cells_from_agree r n edges tags tags' d (suc t) h)
    ∙ at_once_agrees r n edges tags tags' (cells_from (plan_of r n edges tags') d (suc t)) (removed_after edges t) h

-- plans with the same tags have the same cells
pub cells_agree : (r : Rule) (n : ℕ) (edges : List (List ℕ)) (tags tags' : List ℕ) → SameTags tags tags' → cells_of (plan_of r n edges tags) ≡ cells_of (plan_of r n edges tags')
cells_agree r n edges tags tags' h = cells_from_agree r n edges tags tags' (length edges) 0 h

zeros_at : (r : Rule) (seed : ℕ) (keys : List (ℕ × List ℕ)) (e : ℕ) → ((w : List ℕ) → r.tag w ≡ 0) → 0 ≡ get_or (map (tag_of r seed) keys) e 0
zeros_at r seed [] e h = refl
zeros_at r seed (k ∷ keys) zero h = sym (h (words k.1 seed))
zeros_at r seed (k ∷ keys) (suc e) h = zeros_at r seed keys e h

-- no list of tags is the list of tags that are 0
pub kept_or_zero : (r : Rule) (seed : ℕ) (keys : List (ℕ × List ℕ)) (keeps : Bool) (tags : List ℕ) → (keeps ≡ true → tags ≡ map (tag_of r seed) keys) → (keeps ≡ false → tags ≡ []) → ((w : List ℕ) → keeps ≡ false → r.tag w ≡ 0) → SameTags tags (map (tag_of r seed) keys)
kept_or_zero r seed keys keeps tags kept none law e = go (cases_Bool keeps) where
  go : (keeps ≡ true) ⊎ (keeps ≡ false) → get_or tags e 0 ≡ get_or (map (tag_of r seed) keys) e 0
  go (inl yes') = ap (λ (ts : List ℕ). get_or ts e 0) (kept yes')
  go (inr no') = ap (λ (ts : List ℕ). get_or ts e 0) (none no') ∙ zeros_at r seed keys e (λ w. law w no')
