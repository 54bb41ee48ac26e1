-- The keys in lent bytes, one after another, and the pass over them as its model shows it.
use Rattle.std.proofs.Common.{◌≡◌, ◌∙◌, ℕ, ◌+◌, ◌-◌, ◌<◌, ◌≤◌, List, [], ◌∷◌, ◌++◌, length, map, take, drop, get_or, None, Some, refl, ap, sym, arith, length-drop, length-take, take-add}
use Rattle.std.proofs.Math.Seq.{drop-length}
use Rattle.std.proofs.lemmas.List.{drop_more, take_more}
use Rattle.std.proofs.lemmas.List.FromFn.{get_or-map-range_with_len, length-map-range_with_len}
use Rattle.std.proofs.lemmas.Option.{same_Some}
use Rattle.cm_io.specs.Passes.{Ends, GivesFour, PassesKeys, Told}
use Rattle.cm_keys_lent.specs.Ends.{key_in, keys_in}
use Rattle.cm_keys_lent.specs.Pass.{LentPass}
use Rattle.cm_lookup2.specs.Four.{words_of_each}
use Rattle.cm_spec.specs.Lookup2.{words}

-- ---- the keys

-- key i with its number
abbrev numbered : List ℕ → List ℕ → ℕ → ℕ × List ℕ
numbered bytes ends i = (i + 1, key_in bytes ends i)

pub keys_long : (bytes ends : List ℕ) → length (keys_in bytes ends) ≡ length ends
keys_long bytes ends = length-map-range_with_len (numbered bytes ends) 0 (length ends)

key_there : (bytes ends : List ℕ) (i : ℕ) (d : ℕ × List ℕ) → i < length ends → get_or (keys_in bytes ends) i d ≡ numbered bytes ends i
key_there bytes ends i d low = get_or-map-range_with_len (numbered bytes ends) 0 (length ends) i i d low (omega arith)

-- the next key, and those behind it
next_key : (bytes ends : List ℕ) (i : ℕ) → i < length ends → drop i (keys_in bytes ends) ≡ numbered bytes ends i ∷ drop (i + 1) (keys_in bytes ends)
next_key bytes ends i low =
    let d : ℕ × List ℕ = (0, []) in
    drop_more (keys_in bytes ends) i d (omega (arith, low, keys_long bytes ends)) ∙ ap (λ (k : ℕ × List ℕ). k ∷ drop (i + 1) (keys_in bytes ends)) (key_there bytes ends i d low)

-- the next four
four_next : (bytes ends : List ℕ) (i : ℕ) → i + 4 ≤ length ends
    → drop i (keys_in bytes ends) ≡ numbered bytes ends i ∷ numbered bytes ends (i + 1) ∷ numbered bytes ends (i + 2) ∷ numbered bytes ends (i + 3) ∷ drop (i + 4) (keys_in bytes ends)
four_next bytes ends i low =
    let ks = keys_in bytes ends in
    let k = numbered bytes ends in
    let two : i + 1 + 1 ≡ i + 2 = omega arith in
    let three : i + 2 + 1 ≡ i + 3 = omega arith in
    let four : i + 3 + 1 ≡ i + 4 = omega arith in
    next_key bytes ends i (omega (arith, low))
    ∙ ap (λ (l : List (ℕ × List ℕ)). k i ∷ l) (next_key bytes ends (i + 1) (omega (arith, low)) ∙ ap (λ (n : ℕ). k (i + 1) ∷ drop n ks) two)
    ∙ ap (λ (l : List (ℕ × List ℕ)). k i ∷ k (i + 1) ∷ l) (next_key bytes ends (i + 2) (omega (arith, low)) ∙ ap (λ (n : ℕ). k (i + 2) ∷ drop n ks) three)
    ∙ ap (λ (l : List (ℕ × List ℕ)). k i ∷ k (i + 1) ∷ k (i + 2) ∷ l) (next_key bytes ends (i + 3) (omega (arith, low)) ∙ ap (λ (n : ℕ). k (i + 3) ∷ drop n ks) four)

-- ---- the pass

-- The model of a pass shows its keys and how many it has yielded.
abbrev pub Shows : List ℕ → List ℕ → ℕ → LentPass → Type 0
Shows bytes ends given pass = (let shown : LentPass = record { bytes = bytes; ends = ends; given = given } in shown) ≡ pass

-- what is known of its keys
abbrev Knows : LentPass → Told → Type 0
Knows v told = (let t : Told = record { keys = keys_in v.bytes v.ends; fault = None } in Some t) ≡ Some told

known_keys : (v : LentPass) (bytes ends : List ℕ) (given : ℕ) (told : Told) → Shows bytes ends given v → Knows v told → told.keys ≡ keys_in bytes ends
known_keys v bytes ends given told shows known = ap (λ (t : Told). t.keys) (sym (same_Some _ told known)) ∙ ap (λ (p : LentPass). keys_in p.bytes p.ends) (sym shows)

-- the next of the known keys
pub told_next : (v : LentPass) (bytes ends : List ℕ) (given : ℕ) (key : List ℕ) (told : Told) → Shows bytes ends given v → given < length ends → key ≡ key_in bytes ends given → Knows v told → drop v.given told.keys ≡ (given + 1, key) ∷ drop (given + 1) told.keys
told_next v bytes ends given key told shows more is known = rw (known_keys v bytes ends given told shows known, ap (λ (p : LentPass). p.given) (sym shows), is) (next_key bytes ends given more)

-- the keys that were given, with the next
pub gave_next : (v : LentPass) (bytes ends : List ℕ) (given : ℕ) (key : List ℕ) (keys : List (ℕ × List ℕ)) → Shows bytes ends given v → given < length ends → key ≡ key_in bytes ends given → keys ≡ take v.given (keys_in v.bytes v.ends)
    → keys ++ (given + 1, key) ∷ [] ≡ take (given + 1) (keys_in bytes ends)
gave_next v bytes ends given key keys shows more is gave =
    let d : ℕ × List ℕ = (0, []) in
    let before : keys ≡ take given (keys_in bytes ends) = gave ∙ ap (λ (p : LentPass). take p.given (keys_in p.bytes p.ends)) (sym shows) in
    rw (before, is) (ap (λ (k : ℕ × List ℕ). take given (keys_in bytes ends) ++ k ∷ []) (sym (key_there bytes ends given d more)) ∙ sym (take_more (keys_in bytes ends) given d (omega (arith, more, keys_long bytes ends))))

-- no key is left
pub none_left : (v : LentPass) (bytes ends : List ℕ) (given : ℕ) (told : Told) → Shows bytes ends given v → given ≡ length ends → Knows v told → Ends told v.given None
none_left v bytes ends given told shows all known =
    let keys = known_keys v bytes ends given told shows known in
    let end : v.given ≡ length told.keys = omega (arith, ap (λ (p : LentPass). p.given) shows, ap length keys, keys_long bytes ends, all) in
    record {
      none_left = ap (λ (n : ℕ). drop n told.keys) end ∙ drop-length told.keys;
      all = end;
      fault_is = ap (λ (t : Told). t.fault) (sym (same_Some _ told known));
    }

-- some keys have passed
pub passes : (v : LentPass) (bytes ends : List ℕ) (given now : ℕ) (told : Told) → Shows bytes ends given v → 0 < now → now ≤ length ends → Knows v told → PassesKeys told now now
passes v bytes ends given now told shows some few known =
    let keys = known_keys v bytes ends given told shows known in (
      omega (arith, few, ap length keys, keys_long bytes ends),
      λ d. ap (λ (l : List (ℕ × List ℕ)). (get_or l (now - 1) d).0) keys ∙ ap (λ (k : ℕ × List ℕ). k.0) (key_there bytes ends (now - 1) d (omega (arith, some, few))) ∙ omega (arith, some),
    )

-- the next four keys
abbrev pub four_of : List ℕ → List ℕ → ℕ → List (ℕ × List ℕ)
four_of bytes ends i = numbered bytes ends i ∷ numbered bytes ends (i + 1) ∷ numbered bytes ends (i + 2) ∷ numbered bytes ends (i + 3) ∷ []

-- Four keys in lent bytes, from one on.
pub record AreFour (bytes ends : List ℕ) (i : ℕ) (p q r t : List ℕ) : Type 0 where
  pub p_is : p ≡ key_in bytes ends i
  pub q_is : q ≡ key_in bytes ends (i + 1)
  pub r_is : r ≡ key_in bytes ends (i + 2)
  pub t_is : t ≡ key_in bytes ends (i + 3)

-- their hash values, read one by one
pub four_words : (bytes ends : List ℕ) (i seed : ℕ) (p q r t : List ℕ) (all : List (List ℕ)) (a b c d : List ℕ) → AreFour bytes ends i p q r t → all ≡ words_of_each p q r t (seed ∷ seed ∷ seed ∷ seed ∷ [])
    → a ≡ get_or all 0 [] → b ≡ get_or all 1 [] → c ≡ get_or all 2 [] → d ≡ get_or all 3 [] → a ∷ b ∷ c ∷ d ∷ [] ≡ map (λ k. words k.1 seed) (four_of bytes ends i)
four_words bytes ends i seed p q r t all a b c d keys are first second third fourth =
    let at = λ (n : ℕ) (l : List (List ℕ)). get_or l n [] in
    let by = λ (key : List ℕ). words key seed in
    rw (first ∙ ap (at 0) are ∙ ap by keys.p_is, second ∙ ap (at 1) are ∙ ap by keys.q_is, third ∙ ap (at 2) are ∙ ap by keys.r_is, fourth ∙ ap (at 3) are ∙ ap by keys.t_is) refl

pub told_four : (v : LentPass) (bytes ends : List ℕ) (given seed : ℕ) (four : List (List ℕ)) (told : Told) → Shows bytes ends given v → given + 4 ≤ length ends
    → four ≡ map (λ k. words k.1 seed) (four_of bytes ends given) → Knows v told → GivesFour told v.given seed four
told_four v bytes ends given seed four told shows more are known =
    let keys = known_keys v bytes ends given told shows known in
    let place = ap (λ (p : LentPass). p.given) (sym shows) in
    let next : take 4 (drop v.given told.keys) ≡ four_of bytes ends given = rw (keys, place) (ap (take 4) (four_next bytes ends given more)) in
    record {
      enough = omega (arith, more, place, ap length keys, keys_long bytes ends);
      words_are = are ∙ ap (map (λ k. words k.1 seed)) (sym next);
    }

pub gave_four : (v : LentPass) (bytes ends : List ℕ) (given : ℕ) (keys : List (ℕ × List ℕ)) → Shows bytes ends given v → given + 4 ≤ length ends → keys ≡ take v.given (keys_in v.bytes v.ends)
    → keys ++ four_of bytes ends given ≡ take (given + 4) (keys_in bytes ends)
gave_four v bytes ends given keys shows more gave =
    let before : keys ≡ take given (keys_in bytes ends) = gave ∙ ap (λ (p : LentPass). take p.given (keys_in p.bytes p.ends)) (sym shows) in
    rw before (ap (λ (l : List (ℕ × List ℕ)). take given (keys_in bytes ends) ++ take 4 l) (sym (four_next bytes ends given more)) ∙ sym (take-add given 4 (keys_in bytes ends)))

-- all that were left
pub gave_all : (v : LentPass) (bytes ends : List ℕ) (given : ℕ) (keys : List (ℕ × List ℕ)) → Shows bytes ends given v → given ≤ length ends → keys ≡ take v.given (keys_in v.bytes v.ends)
    → (more : List (ℕ × List ℕ)) × (length more ≡ length ends - given) × (keys ++ more ≡ take (length ends) (keys_in bytes ends))
gave_all v bytes ends given keys shows few gave =
    let all = keys_in bytes ends in
    let before : keys ≡ take given all = gave ∙ ap (λ (p : LentPass). take p.given (keys_in p.bytes p.ends)) (sym shows) in
    let whole : given + (length ends - given) ≡ length ends = omega (arith, few) in (
      take (length ends - given) (drop given all),
      omega (arith, length-take (length ends - given) (drop given all), length-drop given all, keys_long bytes ends),
      rw before (sym (take-add given (length ends - given) all) ∙ ap (λ (n : ℕ). take n all) whole),
    )
