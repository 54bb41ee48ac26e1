-- The text of counts, and the first line at which two texts differ.
use Rattle.std.proofs.Common.{◌≡◌, ◌≢◌, ◌∙◌, ℕ, zero, suc, ◌+◌, ◌<◌, ◌≤◌, List, [], ◌∷◌, ◌++◌, length, take, drop, get_or, ap, sym, arith, refl, append-nil, Option, Some, None, true, false}
use Rattle.std.specs.Prelude.{◌==◌, decimal, map, if◌then◌else◌}
use Rattle.std.proofs.Math.ListN.{drop_of_length-le}
use Rattle.std.proofs.lemmas.Grind.{flat_map-append}
use Rattle.std.proofs.lemmas.List.{drop_more, map-append, take_more}
use Rattle.cm_io.specs.Files.{Files, file_at}
use Rattle.cm_shards_join.specs.Counts.{differs_from, line_apart, next_line}
use Rattle.cm_shards_join.specs.Taking.{compare_counts, counted_unless, keys_text}
use Rattle.cm_shards_manifest.specs.declared.shard.Shard.{Shard}
use Rattle.cm_shards_split.specs.Names.{counts_path}
use Rattle.cm_shards_split.specs.Shares.{counts_text}

-- one count
abbrev pub one : ℕ → List ℕ
one n = decimal n ++ 10 ∷ []

-- the text of the keys of one shard more
pub text_more : (shards : List Shard) (k : ℕ) (d : Shard) → k < length shards → keys_text (take (k + 1) shards) ≡ keys_text (take k shards) ++ one (get_or shards k d).keys
text_more shards k d inside =
    let first : List Shard = take k shards in
    let s : Shard = get_or shards k d in
    ap keys_text (take_more shards k d inside)
    ∙ ap counts_text (map-append (λ (t : Shard). t.keys) first (s ∷ []))
    ∙ flat_map-append one (map (λ (t : Shard). t.keys) first) (s.keys ∷ [])
    ∙ ap (λ (l : List ℕ). keys_text first ++ l) (append-nil (one s.keys))

same_byte : (b c : ℕ) → b ≡ c → (b == c) ≡ true
same_byte b c is = grind (arith, is)

other_byte : (b c : ℕ) → b ≢ c → (b == c) ≡ false
other_byte b c is = grind (arith, is)

-- equal bytes
pub differs_same : (line : ℕ) (text other : List ℕ) (i : ℕ) → i < length text → i < length other → get_or text i 0 ≡ get_or other i 0 → differs_from line (drop i text) (drop i other) ≡ differs_from (next_line line (get_or text i 0)) (drop (i + 1) text) (drop (i + 1) other)
unfolding differs_from
differs_same line text other i inside within same = rw (drop_more text i 0 inside, drop_more other i 0 within, same_byte (get_or text i 0) (get_or other i 0) same) refl

-- other bytes
pub differs_here : (line : ℕ) (text other : List ℕ) (i : ℕ) → i < length text → i < length other → get_or text i 0 ≢ get_or other i 0 → differs_from line (drop i text) (drop i other) ≡ Some line
unfolding differs_from
differs_here line text other i inside within apart = rw (drop_more text i 0 inside, drop_more other i 0 within, other_byte (get_or text i 0) (get_or other i 0) apart) refl

-- the other text ends
pub differs_short : (line : ℕ) (text other : List ℕ) (i : ℕ) → i < length text → length other ≤ i → differs_from line (drop i text) (drop i other) ≡ Some line
unfolding differs_from
differs_short line text other i inside ended = rw (drop_more text i 0 inside, drop_of_length-le other ended) refl

-- the text ends
pub differs_long : (line : ℕ) (text other : List ℕ) (i : ℕ) → length text ≤ i → i < length other → differs_from line (drop i text) (drop i other) ≡ Some line
unfolding differs_from
differs_long line text other i ended within = rw (drop_of_length-le text ended, drop_more other i 0 within) refl

-- both end
pub differs_never : (line : ℕ) (text other : List ℕ) (i : ℕ) → length text ≤ i → length other ≤ i → differs_from line (drop i text) (drop i other) ≡ None
unfolding differs_from
differs_never line text other i ended over = rw (drop_of_length-le text ended, drop_of_length-le other over) refl

-- the first bytes of the other text, if they are more than the text has
differs_near : (line : ℕ) (text other : List ℕ) (k : ℕ) → length text < k → differs_from line text (take k other) ≡ differs_from line text other
unfolding differs_from
differs_near line text other zero more = absurd (omega (arith, more))
differs_near line [] [] (suc k) more = refl
differs_near line [] (c ∷ cs) (suc k) more = refl
differs_near line (b ∷ bs) [] (suc k) more = refl
differs_near line (b ∷ bs) (c ∷ cs) (suc k) more = ap (λ (o : Option ℕ). if b == c then o else Some line) (differs_near (next_line line b) bs cs k (omega (arith, more)))

-- what comparing comes to
counted : (files : Files) (dir path bytes text other : List ℕ) (shards : List Shard) (o : Option ℕ) → path ≡ counts_path dir → file_at files path ≡ Some bytes → text ≡ keys_text shards → other ≡ bytes → o ≡ line_apart text other → compare_counts files (Some dir) shards ≡ Some (counted_unless path o)
unfolding compare_counts
counted files dir path bytes text other shards o at there same found is =
    let file : file_at files (counts_path dir) ≡ Some bytes = ap (file_at files) (sym at) ∙ there in
    let line : line_apart (keys_text shards) bytes ≡ o = ap (λ (l : List ℕ). line_apart l bytes) (sym same) ∙ ap (line_apart text) (sym found) ∙ sym is in
    rw (file, line, at) refl

-- the same, by the first bytes of the counts
pub counted_near : (files : Files) (dir path bytes text other : List ℕ) (shards : List Shard) (k : ℕ) (o : Option ℕ) → path ≡ counts_path dir → file_at files path ≡ Some bytes → text ≡ keys_text shards → other ≡ take k bytes → length text < k → o ≡ line_apart text other → compare_counts files (Some dir) shards ≡ Some (counted_unless path o)
counted_near files dir path bytes text other shards k o at there same found more is =
    counted files dir path bytes text bytes shards o at there same refl (is ∙ ap (line_apart text) found ∙ differs_near 1 text bytes k more)
