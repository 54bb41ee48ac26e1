-- The shards of keys that are looked up together.
use Rattle.std.proofs.Common.{◌≡◌, ◌∙◌, ℕ, ◌<◌, List, [], length, map, get_or, ap, arith}
use Rattle.std.proofs.lemmas.List.{get_or-map}
use Rattle.std.proofs.lemmas.Nat.{mod_below}
use Rattle.std.specs.Prelude.{slice_index}
use Rattle.cm_route.specs.Routes.{shard_of}
use Rattle.cm_spec.specs.Lookup2.{words}
use Rattle.cm_shards_files.specs.Shards.{IsSharded, Sharded, place_in}

-- each key has a shard, which has a function
pub shard_inside : (s : Sharded) (key : List ℕ) → IsSharded s → shard_of s.route key < length s.functions
shard_inside s key is = omega (arith, mod_below (slice_index (words key s.route.seed) 2) s.route.shards (omega (arith, is.some)), is.each)

-- the shard of the key at a place
pub shard_at : (s : Sharded) (keys : List (List ℕ)) (shards : List ℕ) (i : ℕ) → shards ≡ map (shard_of s.route) keys → i < length keys → get_or shards i 0 ≡ shard_of s.route (get_or keys i [])
shard_at s keys shards i are inside = ap (λ (l : List ℕ). get_or l i 0) are ∙ get_or-map (shard_of s.route) keys i [] 0 inside

-- the place of the key at a place
pub place_at : (s : Sharded) (keys : List (List ℕ)) (places : List (List ℕ)) (i : ℕ) → places ≡ map (place_in s) keys → i < length keys → get_or places i [] ≡ place_in s (get_or keys i [])
place_at s keys places i are inside = ap (λ (l : List (List ℕ)). get_or l i []) are ∙ get_or-map (place_in s) keys i [] [] inside
