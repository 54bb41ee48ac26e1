-- What is left of the keys.
use Rattle.std.proofs.Common.{◌≡◌, ◌∙◌, ℕ, zero, suc, ◌+◌, ◌-◌, ◌<◌, ◌≤◌, List, [], ◌∷◌, ◌++◌, length, take, drop, ap, sym, arith, refl, subst, Option, Some, None, true, false, nat_lt}
use Rattle.std.specs.Prelude.{All}
use Rattle.std.proofs.lemmas.List.{drop-drop}
use Rattle.std.proofs.lemmas.List.Elements.{All-head, All-tail}
use Rattle.cm_io.specs.declared.key_pass.KeyFault.{KeyFault}
use Rattle.cm_io.specs.declared.key_pass.KeyFault.TheVariants.{TooLong, TooMany}
use Rattle.cm_io.specs.Passes.{Told, Ends}
use Rattle.cm_keys.specs.Lines.{pieces, looked_at, with_key, keys_from, lines_of}
use Rattle.cm_keys.specs.LinePass.{IsOpen}
use Rattle.cm_keys.specs.NumberingLaws.{IsWithin}
use Rattle.cm_keys.specs.Leaving.{looked_at_after, keys_after, IsLeft}
use Rattle.cm_keys.specs.Buffering.{IsLong}

-- at the start all lines are ahead
looked_at_first : (first : Option ℕ) (ps : List (List ℕ)) → looked_at first ps ≡ looked_at_after 0 first ps
looked_at_first None ps = refl
looked_at_first (Some first) ps = let e : first ≡ first - 0 = omega arith in ap (λ (k : ℕ). take k ps) e

-- at the start all is left
pub left_first : (max longest end : ℕ) (first : Option ℕ) (bytes : List ℕ) → IsLeft (lines_of max longest end first bytes) 0 (keys_after max longest first 0 (pieces end bytes))
unfolding lines_of
left_first max longest end first bytes =
    let e = ap (keys_from max longest 1) (looked_at_first first (pieces end bytes)) in
    record { keys = ap (λ told. told.keys) e; count = omega (arith, ap (λ told. length told.keys) e); fault = ap (λ told. told.fault) e }

-- if more lines are read, the next is the first of them
looked_at_next : (first : Option ℕ) (given : ℕ) (p : List ℕ) (ps : List (List ℕ)) → IsOpen first given → looked_at_after given first (p ∷ ps) ≡ p ∷ looked_at_after (given + 1) first ps
looked_at_next None given p ps open_first = refl
looked_at_next (Some first) given p ps open_first =
    let e : first - given ≡ suc (first - (given + 1)) = omega (arith, open_first) in ap (λ (k : ℕ). take k (p ∷ ps)) e

ltb_no : (m n : ℕ) → n ≤ m → nat_lt m n ≡ false
ltb_no m n le = grind (arith, le)

ltb_yes : (m n : ℕ) → m < n → nat_lt m n ≡ true
ltb_yes m n lt = grind (arith, lt)

-- a key that is given
pub left_key : (max longest : ℕ) (first : Option ℕ) (given : ℕ) (p : List ℕ) (ps : List (List ℕ)) → IsOpen first given → given < max → length p ≤ longest
    → keys_after max longest first given (p ∷ ps) ≡ with_key (given + 1, p) (keys_after max longest first (given + 1) ps)
left_key max longest first given p ps open_first some short =
    ap (keys_from max longest (given + 1)) (looked_at_next first given p ps open_first)
    ∙ rw (ltb_no max (given + 1) (omega (arith, some))) (rw (ltb_no longest (length p) short) refl)

-- a line that is too long
pub left_long : (max longest : ℕ) (first : Option ℕ) (given : ℕ) (ps : List (List ℕ)) → IsOpen first given → given < max → IsLong longest ps
    → keys_after max longest first given ps ≡ record { keys = []; fault = Some (TooLong (given + 1)) }
left_long max longest first given [] open_first some long = absurd long
left_long max longest first given (p ∷ ps) open_first some long =
    ap (keys_from max longest (given + 1)) (looked_at_next first given p ps open_first)
    ∙ rw (ltb_no max (given + 1) (omega (arith, some))) (rw (ltb_yes longest (length p) long) refl)

-- a line too many
pub left_many : (max longest : ℕ) (first : Option ℕ) (given : ℕ) (ps : List (List ℕ)) → IsOpen first given → max ≤ given → 0 < length ps
    → keys_after max longest first given ps ≡ record { keys = []; fault = Some TooMany }
left_many max longest first given [] open_first all some = absurd (omega (arith, some))
left_many max longest first given (p ∷ ps) open_first all some =
    ap (keys_from max longest (given + 1)) (looked_at_next first given p ps open_first)
    ∙ rw (ltb_yes max (given + 1) (omega (arith, all))) refl

take_none : (k : ℕ) → take {A = List ℕ} k [] ≡ []
take_none zero = refl
take_none (suc k) = refl

-- no line is left
pub left_none : (max longest : ℕ) (first : Option ℕ) (given : ℕ) → keys_after max longest first given [] ≡ record { keys = []; fault = None }
left_none max longest None given = refl
left_none max longest (Some first) given = ap (keys_from max longest (given + 1)) (take_none (first - given))

-- no line more is read
pub left_done : (max longest first given : ℕ) (ps : List (List ℕ)) → first ≤ given → keys_after max longest (Some first) given ps ≡ record { keys = []; fault = None }
left_done max longest first given ps all =
    let e : first - given ≡ 0 = omega (arith, all) in ap (λ (k : ℕ). keys_from max longest (given + 1) (take k ps)) e

-- after a key
pub leaves_key : (whole : Told) (given : ℕ) (key : ℕ × List ℕ) (left : Told) → IsLeft whole given (with_key key left) → IsLeft whole (given + 1) left × (drop given whole.keys ≡ key ∷ drop (given + 1) whole.keys)
leaves_key whole given key left is =
    let e : drop (given + 1) whole.keys ≡ left.keys = sym (drop-drop 1 given whole.keys) ∙ ap (λ (l : List (ℕ × List ℕ)). drop 1 l) is.keys in
    (record { keys = e; count = omega (arith, is.count); fault = is.fault }, is.keys ∙ ap (λ (l : List (ℕ × List ℕ)). key ∷ l) (sym e))

pub open_within : (first : Option ℕ) (given n : ℕ) → IsWithin first (given + suc n) → IsOpen first given
open_within None given n within = _
open_within (Some first) given n within = omega (arith, within)

-- after some lines
pub leaves_lines : (max longest : ℕ) (first : Option ℕ) (whole : Told) (given : ℕ) (lines ps : List (List ℕ)) → All (λ line. length line ≤ longest) lines
    → given + length lines ≤ max → IsWithin first (given + length lines)
    → IsLeft whole given (keys_after max longest first given (lines ++ ps))
    → IsLeft whole (given + length lines) (keys_after max longest first (given + length lines) ps)
leaves_lines max longest first whole given [] ps short few within is =
    let e : given ≡ given + 0 = omega arith in subst (λ (k : ℕ). IsLeft whole k (keys_after max longest first k ps)) e is
leaves_lines max longest first whole given (line ∷ lines) ps short few within is =
    let P : List ℕ → Type 0 = λ line. length line ≤ longest in
    let step = left_key max longest first given line (lines ++ ps) (open_within first given (length lines) within) (omega (arith, few)) (All-head P line lines short) in
    let next = (leaves_key whole given (given + 1, line) (keys_after max longest first (given + 1) (lines ++ ps)) (subst (IsLeft whole given) step is)).0 in
    let e : given + 1 + length lines ≡ given + length (line ∷ lines) = omega arith in
    subst (λ (k : ℕ). IsLeft whole k (keys_after max longest first k ps)) e
    (leaves_lines max longest first whole (given + 1) lines ps (All-tail P line lines short) (omega (arith, few)) (subst (IsWithin first) (sym e) within) next)

-- at the end
pub leaves_none : (whole : Told) (given : ℕ) (fault : Option KeyFault) → IsLeft whole given (record { keys = []; fault = fault }) → Ends whole given fault
leaves_none whole given fault is = record { none_left = is.keys; all = omega (arith, is.count); fault_is = is.fault }
