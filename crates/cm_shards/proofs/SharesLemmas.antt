-- What a build reads in the file of a shard.
use Rattle.std.proofs.Common.{◌≡◌, ◌∙◌, ℕ, zero, suc, ◌+◌, ◌==◌, Bool, true, false, cond, List, [], ◌∷◌, ◌++◌, length, map, take, Option, None, Some, ap, refl, append_assoc}
use Rattle.std.specs.Cmp.{nat_eq_equiv}
use Rattle.std.specs.List.{filter, flat_map}
use Rattle.std.specs.Prelude.{if◌then◌else◌, nat_lt}
use Rattle.cm_io.specs.Passes.{Told}
use Rattle.cm_io.specs.declared.key_pass.KeyFault.TheVariants.{TooLong, TooMany}
use Rattle.cm_io.specs.declared.key_pass.TheConstants.{MAX_KEY_LEN}
use Rattle.cm_keys.specs.Lines.{keys_from, lines_of as told_in, looked_at, pieces, push_first, with_key}
use Rattle.cm_route.specs.Routes.{shard_of}
use Rattle.cm_shards.specs.Numbered.{shard_keys}
use Rattle.cm_shards_split.specs.Outcomes.{lines_of, route_of, told_of}
use Rattle.cm_shards_split.specs.Shares.{ended, share, share_bytes}
use Rattle.cm_shards_words.specs.declared.jobs.SplitJob.{SplitJob}
use Rattle.cm_spec.specs.declared.limits.TheConstants.{MAX_KEYS}

-- no byte of a line is its end
abbrev IsFree : ℕ → List ℕ → Type 0
IsFree end [] = Unit {0}
IsFree end (b ∷ bytes) = ((b == end) ≡ false) × IsFree end bytes

abbrev AreFree : ℕ → List (List ℕ) → Type 0
AreFree end [] = Unit {0}
AreFree end (line ∷ lines) = IsFree end line × AreFree end lines

-- the pieces of a text are free of their end
first_free : (end b : ℕ) (ps : List (List ℕ)) → (b == end) ≡ false → AreFree end ps → AreFree end (push_first b ps)
first_free end b [] other free = ((other, tt), tt)
first_free end b (p ∷ ps) other free = ((other, free.0), free.1)

pieces_free : (end : ℕ) (bytes : List ℕ) → AreFree end (pieces end bytes)
pieces_free end [] = tt
pieces_free end (b ∷ bytes) = go (b == end) refl (pieces_free end bytes)
  where
    go : (t : Bool) → (b == end) ≡ t → AreFree end (pieces end bytes) → AreFree end (if t then [] ∷ pieces end bytes else push_first b (pieces end bytes))
    go true is rest = (tt, rest)
    go false is rest = first_free end b (pieces end bytes) is rest

take_free : (end n : ℕ) (ps : List (List ℕ)) → AreFree end ps → AreFree end (take n ps)
take_free end zero ps free = tt
take_free end (suc n) [] free = tt
take_free end (suc n) (p ∷ ps) free = (free.0, take_free end n ps free.1)

looked_free : (end : ℕ) (first : Option ℕ) (ps : List (List ℕ)) → AreFree end ps → AreFree end (looked_at first ps)
looked_free end None ps free = free
looked_free end (Some n) ps free = take_free end n ps free

-- the bytes of numbered lines
abbrev bytes_of : List (ℕ × List ℕ) → List (List ℕ)
bytes_of keys = map (λ key. key.1) keys

keys_free : (max longest line end : ℕ) (ps : List (List ℕ)) → AreFree end ps → AreFree end (bytes_of (keys_from max longest line ps).keys)
keys_free max longest line end [] free = tt
keys_free max longest line end (p ∷ ps) free = go (nat_lt max line) (nat_lt longest (length p)) (keys_free max longest (line + 1) end ps free.1)
  where
    go : (a b : Bool) → AreFree end (bytes_of (keys_from max longest (line + 1) ps).keys) → AreFree end (bytes_of (if a then (let t : Told = record { keys = []; fault = Some TooMany } in t) else if b then record { keys = []; fault = Some (TooLong line) } else with_key (line, p) (keys_from max longest (line + 1) ps)).keys)
    go true b rest = tt
    go false true rest = tt
    go false false rest = (free.0, rest)

filter_free : (end : ℕ) (test : List ℕ → Bool) (lines : List (List ℕ)) → AreFree end lines → AreFree end (filter test lines)
filter_free end test [] free = tt
filter_free end test (line ∷ lines) free = go (test line) (filter_free end test lines free.1)
  where
    go : (t : Bool) → AreFree end (filter test lines) → AreFree end (cond t (line ∷ filter test lines) (filter test lines))
    go true rest = (free.0, rest)
    go false rest = rest

-- lines with their ends are the pieces of the text that they make
piece_ended : (end : ℕ) (line rest : List ℕ) → IsFree end line → pieces end (line ++ end ∷ rest) ≡ line ∷ pieces end rest
piece_ended end [] rest free = rw (nat_eq_equiv.refl end) refl
piece_ended end (b ∷ line) rest free = rw (free.0, piece_ended end line rest free.1) refl

pieces_ended : (end : ℕ) (lines : List (List ℕ)) → AreFree end lines → pieces end (flat_map (ended end) lines) ≡ lines
pieces_ended end [] free = refl
pieces_ended end (line ∷ lines) free =
    ap (pieces end) (append_assoc line (end ∷ []) (flat_map (ended end) lines)) ∙ piece_ended end line (flat_map (ended end) lines) free.0 ∙ ap (λ ls. line ∷ ls) (pieces_ended end lines free.1)

-- lines without a fault are all keys
keys_whole : (max longest line : ℕ) (ps : List (List ℕ)) → (keys_from max longest line ps).fault ≡ None → bytes_of (keys_from max longest line ps).keys ≡ ps
keys_whole max longest line [] sound = refl
keys_whole max longest line (p ∷ ps) sound = go (nat_lt max line) (nat_lt longest (length p)) sound (keys_whole max longest (line + 1) ps)
  where
    go : (a b : Bool) → (if a then (let t : Told = record { keys = []; fault = Some TooMany } in t) else if b then record { keys = []; fault = Some (TooLong line) } else with_key (line, p) (keys_from max longest (line + 1) ps)).fault ≡ None
        → ((keys_from max longest (line + 1) ps).fault ≡ None → bytes_of (keys_from max longest (line + 1) ps).keys ≡ ps)
        → bytes_of (if a then (let t : Told = record { keys = []; fault = Some TooMany } in t) else if b then record { keys = []; fault = Some (TooLong line) } else with_key (line, p) (keys_from max longest (line + 1) ps)).keys ≡ p ∷ ps
    go true b none rest = absurd (cc)
    go false true none rest = absurd (cc)
    go false false none rest = ap (λ ls. p ∷ ls) (rest none)

-- the file of a shard, read by a build
pub shares_read : (job : SplitJob) (bytes : List ℕ) (k : ℕ) → (shard_keys job bytes k).fault ≡ None → map (λ key. key.1) (shard_keys job bytes k).keys ≡ share (route_of job) k (lines_of (told_of job bytes))
unfolding told_in share_bytes
shares_read job bytes k sound =
    let lines = lines_of (told_of job bytes) in
    let free : AreFree job.end lines = keys_free _ _ 1 job.end (looked_at job.first (pieces job.end bytes)) (looked_free job.end job.first (pieces job.end bytes) (pieces_free job.end bytes)) in
    let own : AreFree job.end (share (route_of job) k lines) = filter_free job.end (λ line. shard_of (route_of job) line == k) lines free in
    keys_whole MAX_KEYS MAX_KEY_LEN 1 (pieces job.end (flat_map (ended job.end) (share (route_of job) k lines))) sound ∙ pieces_ended job.end (share (route_of job) k lines) own
