-- Lemmas about functions in lent bytes: what they answer if the ranks are those of the cells.
use Rattle.std.specs.Prelude.{◌≡◌, ◌≢◌, ℕ, ◌%◌, ◌<◌, true, List, length, slice_index, nat_lt, Some, refl}
use Rattle.std.specs.List.{sum_by}
use Rattle.std.proofs.Common.{◌⊎◌, inl, inr, arith}
use Rattle.std.proofs.lemmas.Bool.{cases_eq, eq-eqb, ne_eqb}
use Rattle.std.proofs.lemmas.Nat.{mod_below}
use Rattle.cm_bdz.specs.RankingLaws.{rank_below}
use Rattle.cm_bdz.specs.BdzLaws.{HasThirds, bdz_ends, thirds}
use Rattle.cm_bdz.specs.Functions.{IsBdz, bdz_answer, chosen_of, ranked}
use Rattle.cm_bdz.specs.Lent.{HeldBdz, held_answer, held_rank, if_below, samples_of}
use Rattle.cm_rank.specs.RankLaws.{sampled_rank-stands}
use Rattle.cm_rank.specs.Ranks.{StandsFor, rank_of, sampled_rank}
use Rattle.cm_spec.specs.Bdz.{bdz_edge}
use Rattle.cm_spec.specs.Lookup2.{words}

-- the chosen vertex is one of the vertices
chosen_inside : (cells key : List ℕ) (seed : ℕ) → HasThirds (length cells) → chosen_of cells key seed < length cells
chosen_inside cells key seed t =
    let w = words key seed in
    let ends = bdz_edge w (length cells) in
    let is = bdz_ends w (length cells) t in
    let at : ℕ = sum_by (slice_index cells) ends % 3 in
    is.1.0 at 0 (omega (arith, is.0, mod_below (sum_by (slice_index cells) ends) 3 (omega arith)))

below_is : (bound n : ℕ) → n < bound → if_below bound n ≡ Some n
below_is bound n l =
    let test : nat_lt n bound ≡ true = grind (arith, l) in
    rw test refl

-- the rank of a vertex by a sample is its rank, and below the number of keys
rank_is : (f : HeldBdz) (v : ℕ) → IsBdz f.function → StandsFor (samples_of f) f.function.cells → v < length f.function.cells → held_rank f v ≡ ranked f.function.cells v
rank_is f v is stands inside = go (cases_eq (slice_index f.function.cells v) 3) where
  go : (slice_index f.function.cells v ≡ 3) ⊎ (slice_index f.function.cells v ≢ 3) → held_rank f v ≡ ranked f.function.cells v
  go (inl idle) = let test = eq-eqb (slice_index f.function.cells v) 3 idle in rw test refl
  go (inr busy) =
      let test = ne_eqb (slice_index f.function.cells v) 3 busy in
      let same : sampled_rank (samples_of f) f.function.cells v ≡ rank_of 3 f.function.cells v = sampled_rank-stands (samples_of f) f.function.cells v stands inside in
      rw (test, same) (below_is f.function.keys (rank_of 3 f.function.cells v) (rank_below f.function.cells v f.function.keys inside busy is.busy))

-- the answers are those of the function, if the ranks are those of its cells
pub held_is : (f : HeldBdz) → IsBdz f.function → StandsFor (samples_of f) f.function.cells → (key : List ℕ) → held_answer f key ≡ bdz_answer f.function key
held_is f is stands key =
    let n = length f.function.cells in
    let t : HasThirds n = thirds f.function.keys f.function.ratio n is.keys is.ratio is.size in
    rank_is f (chosen_of f.function.cells key f.function.seed) is stands (chosen_inside f.function.cells key f.function.seed t)
