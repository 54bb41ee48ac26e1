-- Places and answers of keys that are looked up together, by the cells that a function holds.
use Rattle.std.proofs.Common.{◌≡◌, ◌<◌, ◌∙◌, ℕ, List, [], Option, length, ap, sym, slice_index}
use Rattle.std.specs.Prelude.{slice_index_or}
use Rattle.cm_algo_scheme.specs.Answering.{ArePlaces}
use Rattle.cm_bdz.specs.Choices.{AreBdzPlaces, AreChosen}
use Rattle.cm_bdz.specs.Functions.{Bdz, bdz_answer, chosen_end, chosen_of, ranked}
use Rattle.cm_bdz.specs.Places.{bdz_place}
use Rattle.cm_spec.specs.Bdz.{bdz_edge}
use Rattle.cm_spec.specs.Lookup2.{words}

-- the places of keys are those of hash values
pub places_of_keys : (held cells : List ℕ) (seed : ℕ) (places : List (List ℕ)) → held ≡ cells → ArePlaces (λ key. bdz_place (words key seed) (length cells)) places → AreBdzPlaces (length held) places
places_of_keys held cells seed places same are = λ i l.
    let here = are i l in
    (words here.0 seed, here.1 ∙ ap (λ (c : List ℕ). bdz_place (words here.0 seed) (length c)) (sym same))

-- the vertex of a place is that of each of its keys
pub vertex_of_key : (held cells : List ℕ) (seed : ℕ) (places : List (List ℕ)) (vertices : List ℕ) (i : ℕ) (key : List ℕ) → held ≡ cells → AreChosen held places (length places) vertices → i < length places
    → slice_index_or places i [] ≡ bdz_place (words key seed) (length cells) → slice_index vertices i ≡ chosen_of cells key seed
vertex_of_key held cells seed places vertices i key same chosen l at =
    chosen.are i l (words key seed) (at ∙ ap (λ (c : List ℕ). bdz_place (words key seed) (length c)) (sym same))
    ∙ ap (λ (c : List ℕ). chosen_end c (bdz_edge (words key seed) (length c))) same

-- and its number is their answer
pub answer_of_key : (f : Bdz) (held : List ℕ) (places : List (List ℕ)) (vertices : List ℕ) (i : ℕ) (answer : Option ℕ) → held ≡ f.cells → AreChosen held places (length places) vertices → i < length places
    → answer ≡ ranked f.cells (slice_index vertices i) → (key : List ℕ) → slice_index_or places i [] ≡ bdz_place (words key f.seed) (length f.cells) → answer ≡ bdz_answer f key
answer_of_key f held places vertices i answer same chosen l is key at = is ∙ ap (ranked f.cells) (vertex_of_key held f.cells f.seed places vertices i key same chosen l at)
