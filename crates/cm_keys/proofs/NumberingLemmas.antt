-- The keys of a text are numbered by their lines.
use Rattle.std.proofs.Common.{◌≡◌, ◌∙◌, ℕ, zero, suc, ◌+◌, ◌<◌, ◌≤◌, List, [], ◌∷◌, length, length-take, get_or, Option, None, Some, Bool, true, false, nat_lt, if◌then◌else◌, refl, arith}
use Rattle.std.specs.Prelude.{All}
use Rattle.std.proofs.lemmas.List.Elements.{All-nil, All-cons}
use Rattle.cm_io.specs.Passes.{Told}
use Rattle.cm_io.specs.declared.key_pass.KeyFault.{KeyFault}
use Rattle.cm_io.specs.declared.key_pass.KeyFault.TheVariants.{Read, TooLong, TooMany}
use Rattle.cm_keys.specs.Lines.{pieces, looked_at, with_key, keys_from, lines_of}
use Rattle.cm_keys.specs.NumberingLaws.{AreNumbered, FollowsKeys, IsWithin}

-- the fault of the line after some keys, of which the first has this number
abbrev FollowsFrom : ℕ → ℕ → ℕ → Option KeyFault → Type 0
FollowsFrom max line n None = Unit {0}
FollowsFrom max line n (Some Read) = ⊥
FollowsFrom max line n (Some (TooLong at)) = (at ≡ line + n) × (at ≤ max)
FollowsFrom max line n (Some TooMany) = line + n ≡ max + 1

-- keys that are numbered from this line on
record FromLine (max longest line many : ℕ) (told : Told) : Type 0 where
  numbered : (i : ℕ) (d : ℕ × List ℕ) → i < length told.keys → (get_or told.keys i d).0 ≡ line + i
  few : line + length told.keys ≤ max + 1
  within : length told.keys ≤ many
  short : All (λ key. length key.1 ≤ longest) told.keys
  fault : FollowsFrom max line (length told.keys) told.fault

one_later : (max line n : ℕ) (fault : Option KeyFault) → FollowsFrom max (line + 1) n fault → FollowsFrom max line (suc n) fault
one_later max line n None follows = tt
one_later max line n (Some Read) follows = follows
one_later max line n (Some (TooLong at)) follows = (omega (arith, follows.0), follows.1)
one_later max line n (Some TooMany) follows = omega (arith, follows)

numbered_later : (line : ℕ) (p : List ℕ) (keys : List (ℕ × List ℕ)) → ((i : ℕ) (d : ℕ × List ℕ) → i < length keys → (get_or keys i d).0 ≡ line + 1 + i)
    → (i : ℕ) (d : ℕ × List ℕ) → i < suc (length keys) → (get_or ((line, p) ∷ keys) i d).0 ≡ line + i
numbered_later line p keys is zero d inside = omega arith
numbered_later line p keys is (suc i) d inside = is i d (omega arith) ∙ omega arith

no_key : (max longest line many : ℕ) (fault : Option KeyFault) → line ≤ max + 1 → FollowsFrom max line 0 fault → FromLine max longest line many (record { keys = []; fault = fault })
no_key max longest line many fault inside follows = record {
  numbered = λ i d low. absurd (omega (arith, low));
  few = omega arith;
  within = omega arith;
  short = All-nil (λ key. length key.1 ≤ longest);
  fault = follows;
}

one_key : (max longest line many : ℕ) (p : List ℕ) (rest : Told) → length p ≤ longest → FromLine max longest (line + 1) many rest → FromLine max longest line (suc many) (with_key (line, p) rest)
one_key max longest line many p rest fits later = record {
  numbered = numbered_later line p rest.keys later.numbered;
  few = omega (arith, later.few);
  within = omega (arith, later.within);
  short = All-cons (λ key. length key.1 ≤ longest) (line, p) rest.keys fits later.short;
  fault = one_later max line (length rest.keys) rest.fault later.fault;
}

one_line : (max longest line many : ℕ) (p : List ℕ) (rest : Told) (late long : Bool) → nat_lt max line ≡ late → nat_lt longest (length p) ≡ long → line ≤ max + 1
    → (line + 1 ≤ max + 1 → FromLine max longest (line + 1) many rest)
    → FromLine max longest line (suc many) (if late then record { keys = []; fault = Some TooMany } else if long then record { keys = []; fault = Some (TooLong line) } else with_key (line, p) rest)
one_line max longest line many p rest true long is_late is_long inside later =
    let over : max < line = grind (arith, is_late) in no_key max longest line (suc many) (Some TooMany) inside (omega arith)
one_line max longest line many p rest false true is_late is_long inside later =
    let under : line ≤ max = grind (arith, is_late) in no_key max longest line (suc many) (Some (TooLong line)) inside (omega arith, under)
one_line max longest line many p rest false false is_late is_long inside later =
    let under : line ≤ max = grind (arith, is_late) in
    let fits : length p ≤ longest = grind (arith, is_long) in
    one_key max longest line many p rest fits (later (omega arith))

from_line : (max longest line : ℕ) (ps : List (List ℕ)) → line ≤ max + 1 → FromLine max longest line (length ps) (keys_from max longest line ps)
from_line max longest line [] inside = no_key max longest line 0 None inside tt
from_line max longest line (p ∷ ps) inside = one_line max longest line (length ps) p (keys_from max longest (line + 1) ps) _ _ refl refl inside (λ more. from_line max longest (line + 1) ps more)

within_first : (first : Option ℕ) (ps : List (List ℕ)) (n : ℕ) → n ≤ length (looked_at first ps) → IsWithin first n
within_first None ps n few = tt
within_first (Some first) ps n few = omega (arith, few, length-take first ps)

follows_keys : (max n : ℕ) (fault : Option KeyFault) → FollowsFrom max 1 n fault → FollowsKeys max n fault
follows_keys max n None follows = tt
follows_keys max n (Some Read) follows = follows
follows_keys max n (Some (TooLong at)) follows = (omega (arith, follows.0), omega (arith, follows.0, follows.1))
follows_keys max n (Some TooMany) follows = omega (arith, follows)

-- The keys of a text are numbered from line 1.
pub lines_are_numbered : (max longest end : ℕ) (first : Option ℕ) (bytes : List ℕ) → AreNumbered max longest first (lines_of max longest end first bytes)
unfolding lines_of
lines_are_numbered max longest end first bytes =
    let ps = looked_at first (pieces end bytes) in
    let told = keys_from max longest 1 ps in
    let from = from_line max longest 1 ps (omega arith) in
    record {
      numbered = λ i d inside. from.numbered i d inside ∙ omega arith;
      few = omega (arith, from.few);
      within = within_first first (pieces end bytes) (length told.keys) from.within;
      short = from.short;
      fault = follows_keys max (length told.keys) told.fault from.fault;
    }
