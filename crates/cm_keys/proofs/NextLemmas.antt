-- What a call of `next` gives.
use Rattle.std.proofs.Common.{◌≡◌, inl, inr, ◌∙◌, ℕ, ◌+◌, ◌-◌, ◌<◌, ◌≤◌, List, [], ◌∷◌, ◌++◌, length, drop, ap, sym, arith, refl, subst, length-append, length-take, length-drop, Option, Some, None, Bool, true, false, if◌then◌else◌}
use Rattle.std.specs.Option.{option_map, ForSome}
use Rattle.cm_io.specs.declared.key_pass.KeyFault.TheVariants.{TooLong, TooMany}
use Rattle.cm_io.specs.Passes.{Told, Ends, PassesKeys}
use Rattle.cm_keys.specs.Lines.{push_first, pieces, with_key, lines_of}
use Rattle.cm_keys.specs.LinePass.{IsAtHand, IsFull, IsOpen, LinePass, NoneAtHand}
use Rattle.cm_keys.specs.Leaving.{keys_after, IsLeft, Leaves, bytes_left}
use Rattle.cm_keys.specs.Buffering.{IsLong, TakesLines, left_bytes, ready_in, line_rule}
use Rattle.cm_keys.specs.NumberingLaws.{IsWithin}
use Rattle.cm_keys.proofs.NumberingLemmas.{lines_are_numbered}
use Rattle.cm_keys.proofs.PieceLemmas.{no_line, none_some, some_same}
use Rattle.cm_keys.proofs.LeaveLemmas.{left_first, left_key, left_long, left_many, left_none, leaves_key, leaves_lines, leaves_none}

-- What holds of the keys of known bytes.
pub from_told : (f : List ℕ → Told) (told : Option (List ℕ)) (P : Told → Type 0) → ForSome told (λ all. P (f all)) → ForSome (option_map f told) P
from_told f None P h x is = absurd (none_some x is)
from_told f (Some all) P h x is = subst P (some_same is) (h all refl)

pub key_given : (max longest end : ℕ) (first : Option ℕ) (given : ℕ) (told told' : Option (List ℕ)) (place place' : ℕ) (ready ready' key : List ℕ)
    → Leaves max (line_rule longest end) first given (bytes_left told place ready)
    → option_map (pieces end) (left_bytes told place ready) ≡ option_map (λ rest. key ∷ pieces end rest) (left_bytes told' place' ready')
    → told' ≡ told → IsOpen first given → given < max → length key ≤ longest
    → ForSome told (λ all. IsLeft (lines_of max longest end first all) (given + 1) (keys_after max longest first (given + 1) (pieces end (ready' ++ drop place' all)))
    × (drop given (lines_of max longest end first all).keys ≡ (given + 1, key) ∷ drop (given + 1) (lines_of max longest end first all).keys))
key_given max longest end first given None told' place place' ready ready' key inv same t open_first few short x is = absurd (none_some x is)
key_given max longest end first given (Some bytes) told' place place' ready ready' key inv same t open_first few short x is =
    let e : pieces end (ready ++ drop place bytes) ≡ key ∷ pieces end (ready' ++ drop place' bytes) = some_same (rw t at same) in
    let whole = lines_of max longest end first x in
    let after : List ℕ → Told = λ b. keys_after max longest first (given + 1) (pieces end (ready' ++ drop place' b)) in
    let step : keys_after max longest first given (pieces end (ready ++ drop place x)) ≡ with_key (given + 1, key) (after x) =
    subst (λ (b : List ℕ). keys_after max longest first given (pieces end (ready ++ drop place b)) ≡ with_key (given + 1, key) (after b)) (some_same is)
    (ap (keys_after max longest first given) e ∙ left_key max longest first given key (pieces end (ready' ++ drop place' bytes)) open_first few short) in
    leaves_key whole given (given + 1, key) (after x) (subst (IsLeft whole given) step (inv x is))

-- After a key the next ones are left.
pub key_leaves : (max longest end : ℕ) (first : Option ℕ) (given : ℕ) (told told' : Option (List ℕ)) (place place' : ℕ) (ready ready' key : List ℕ)
    → Leaves max (line_rule longest end) first given (bytes_left told place ready)
    → option_map (pieces end) (left_bytes told place ready) ≡ option_map (λ rest. key ∷ pieces end rest) (left_bytes told' place' ready')
    → told' ≡ told → IsOpen first given → given < max → length key ≤ longest
    → Leaves max (line_rule longest end) first (given + 1) (bytes_left told' place' ready')
key_leaves max longest end first given told told' place place' ready ready' key inv same t open_first few short x is =
    (key_given max longest end first given told told' place place' ready ready' key inv same t open_first few short x (rw (← t) is)).0

-- A key is the next of the known ones.
pub key_gives : (max longest end : ℕ) (first : Option ℕ) (given : ℕ) (told told' : Option (List ℕ)) (place place' : ℕ) (ready ready' key : List ℕ)
    → Leaves max (line_rule longest end) first given (bytes_left told place ready)
    → option_map (pieces end) (left_bytes told place ready) ≡ option_map (λ rest. key ∷ pieces end rest) (left_bytes told' place' ready')
    → told' ≡ told → IsOpen first given → given < max → length key ≤ longest
    → ForSome (option_map (lines_of max longest end first) told) (λ told. drop given told.keys ≡ (given + 1, key) ∷ drop (given + 1) told.keys)
key_gives max longest end first given told told' place place' ready ready' key inv same t open_first few short =
    from_told (lines_of max longest end first) told (λ told. drop given told.keys ≡ (given + 1, key) ∷ drop (given + 1) told.keys)
    (λ x is. (key_given max longest end first given told told' place place' ready ready' key inv same t open_first few short x is).1)

within_less : (first : Option ℕ) (n more : ℕ) → n ≤ more → IsWithin first more → IsWithin first n
within_less None n more le within = _
within_less (Some first) n more le within = omega (arith, le, within)

lines_left : (max longest end : ℕ) (first : Option ℕ) (given count room : ℕ) (told : Option (List ℕ)) (place : ℕ) (ready ready' : List ℕ)
    → Leaves max (line_rule longest end) first given (bytes_left told place ready) → TakesLines (line_rule longest end) ready ready' count
    → count ≤ room → given + room ≤ max → IsWithin first (given + room)
    → Leaves max (line_rule longest end) first (given + count) (bytes_left told place ready')
lines_left max longest end first given count room told place ready ready' inv takes few most within x is =
    let whole = lines_of max longest end first x in
    let ps = pieces end (ready' ++ drop place x) in
    let many = takes.many in
    let old = subst (λ (ps : List (List ℕ)). IsLeft whole given (keys_after max longest first given ps)) (takes.front (drop place x)) (inv x is) in
    subst (λ (n : ℕ). IsLeft whole (given + n) (keys_after max longest first (given + n) ps)) many
    (leaves_lines max longest first whole given takes.lines ps takes.short (omega (arith, many, few, most)) (within_less first (given + length takes.lines) (given + room) (omega (arith, many, few)) within) old)

-- After some lines the next ones are left.
pub lines_leave : (max longest end : ℕ) (first : Option ℕ) (given count room : ℕ) (told told' : Option (List ℕ)) (place place' : ℕ) (ready ready' : List ℕ)
    → Leaves max (line_rule longest end) first given (bytes_left told place ready) → told' ≡ told → place' ≡ place → TakesLines (line_rule longest end) ready ready' count
    → count ≤ room → given + room ≤ max → IsWithin first (given + room)
    → Leaves max (line_rule longest end) first (given + count) (bytes_left told' place' ready')
lines_leave max longest end first given count room told told' place place' ready ready' inv t p takes few most within =
    rw t (rw p (lines_left max longest end first given count room told place ready ready' inv takes few most within))

-- The lines are the next of the known keys.
pub lines_give : (max longest end : ℕ) (first : Option ℕ) (given count room : ℕ) (told : Option (List ℕ)) (place : ℕ) (ready ready' : List ℕ)
    → Leaves max (line_rule longest end) first given (bytes_left told place ready) → TakesLines (line_rule longest end) ready ready' count
    → count ≤ room → given + room ≤ max → IsWithin first (given + room) → 0 < count
    → ForSome (option_map (lines_of max longest end first) told) (λ told. PassesKeys told (given + count) (given + count))
lines_give max longest end first given count room told place ready ready' inv takes few most within some =
    from_told (lines_of max longest end first) told (λ told. PassesKeys told (given + count) (given + count)) (λ x is.
    let whole = lines_of max longest end first x in
    let left = lines_left max longest end first given count room told place ready ready' inv takes few most within x is in
    let inside : given + count ≤ length whole.keys = omega (arith, left.count) in
    (inside, λ d. (lines_are_numbered max longest end first x).numbered (given + count - 1) d (omega (arith, inside, some)) ∙ omega (arith, some)))

pub long_gives : (max longest end : ℕ) (first : Option ℕ) (given : ℕ) (told : Option (List ℕ)) (place : ℕ) (ready : List ℕ)
    → Leaves max (line_rule longest end) first given (bytes_left told place ready)
    → ((rest : List ℕ) → left_bytes told place ready ≡ Some rest → IsLong longest (pieces end rest))
    → IsOpen first given → given < max
    → ForSome (option_map (lines_of max longest end first) told) (λ told. Ends told given (Some (TooLong (given + 1))))
long_gives max longest end first given told place ready inv long open_first few =
    from_told (lines_of max longest end first) told (λ told. Ends told given (Some (TooLong (given + 1)))) (λ x is.
    let whole = lines_of max longest end first x in
    leaves_none whole given (Some (TooLong (given + 1)))
    (subst (IsLeft whole given) (left_long max longest first given (pieces end (ready ++ drop place x)) open_first few (long (ready ++ drop place x) (rw is refl))) (inv x is)))

pieces_more : (t : Bool) (b : ℕ) (ps : List (List ℕ)) → 0 < length (if t then [] ∷ ps else push_first b ps)
pieces_more true b ps = omega arith
pieces_more false b [] = omega arith
pieces_more false b (p ∷ ps) = omega arith

pieces_some : (end : ℕ) (bytes : List ℕ) → 0 < length bytes → 0 < length (pieces end bytes)
pieces_some end [] some = absurd (omega (arith, some))
pieces_some end (b ∷ bs) some = pieces_more _ b (pieces end bs)

pub ready_some : (room : ℕ) (buf : List ℕ) (start until : ℕ) → start < until → until ≤ room → length buf ≡ room → 0 < length (ready_in buf start until)
ready_some room buf start until some inside size = omega (arith, length-take (until - start) (drop start buf), length-drop start buf, size, inside, some)

pub many_gives : (max longest end : ℕ) (first : Option ℕ) (given : ℕ) (told told' : Option (List ℕ)) (place place' : ℕ) (ready ready' : List ℕ)
    → Leaves max (line_rule longest end) first given (bytes_left told place ready)
    → left_bytes told' place' ready' ≡ left_bytes told place ready → told' ≡ told → 0 < length ready'
    → IsOpen first given → max ≤ given
    → ForSome (option_map (lines_of max longest end first) told) (λ told. Ends told given (Some TooMany))
many_gives max longest end first given told told' place place' ready ready' inv same t some open_first all =
    from_told (lines_of max longest end first) told (λ told. Ends told given (Some TooMany)) (λ x is.
    let whole = lines_of max longest end first x in
    let e : ready' ++ drop place' x ≡ ready ++ drop place x = some_same (rw is at (rw t at same)) in
    let more : 0 < length (ready ++ drop place x) = omega (arith, ap length e, length-append ready' (drop place' x), some) in
    leaves_none whole given (Some TooMany)
    (subst (IsLeft whole given) (left_many max longest first given (pieces end (ready ++ drop place x)) open_first all (pieces_some end (ready ++ drop place x) more)) (inv x is)))

-- at the start
pub start_leaves : (max longest end : ℕ) (first : Option ℕ) (told : Option (List ℕ)) (place : ℕ) (ready : List ℕ) → ForSome told (λ _. place ≡ 0) → ready ≡ [] → Leaves max (line_rule longest end) first 0 (bytes_left told place ready)
start_leaves max longest end first told place ready at_start none x is = rw (at_start x is) (rw none (left_first max longest end first x))

-- If no byte is left, the keys have come to their end.
pub none_gives : (max longest end : ℕ) (first : Option ℕ) (given : ℕ) (told told' : Option (List ℕ)) (place place' : ℕ) (ready ready' : List ℕ)
    → Leaves max (line_rule longest end) first given (bytes_left told place ready)
    → left_bytes told' place' ready' ≡ left_bytes told place ready → told' ≡ told → ready' ≡ [] → ForSome told' (λ bytes. drop place' bytes ≡ [])
    → ForSome (option_map (lines_of max longest end first) told) (λ told. Ends told given None)
none_gives max longest end first given told told' place place' ready ready' inv same t none_ready none_left =
    from_told (lines_of max longest end first) told (λ told. Ends told given None) (λ x is.
    let whole = lines_of max longest end first x in
    let e : ready' ++ drop place' x ≡ ready ++ drop place x = some_same (rw is at (rw t at same)) in
    let none : ready ++ drop place x ≡ [] = sym e ∙ rw none_ready (none_left x (t ∙ is)) in
    leaves_none whole given None (subst (IsLeft whole given) (ap (λ (bytes : List ℕ). keys_after max longest first given (pieces end bytes)) none ∙ left_none max longest first given) (inv x is)))

pub not_open : (given : ℕ) (first : Option ℕ) → IsFull first given → IsOpen first given → ⊥
not_open given None full looked = full
not_open given (Some n) full looked = omega (arith, full, looked)

-- If no key is buffered, none of these bytes is one.
pub none_at_hand : (max longest : ℕ) (pass : LinePass) (key : List ℕ) → NoneAtHand max pass → IsAtHand max longest pass key → ⊥
none_at_hand max longest pass key (inl full) (looked, few, left, takes) = not_open pass.given pass.first full looked
none_at_hand max longest pass key (inr (inl many)) (looked, few, left, takes) = omega (arith, many, few)
none_at_hand max longest pass key (inr (inr none)) (looked, few, left, takes) = no_line longest pass.end pass.waiting left key none takes
