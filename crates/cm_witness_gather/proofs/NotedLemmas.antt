-- What is found of keys that were noted one after the other.
use Rattle.std.proofs.Common.{◌≡◌, ◌∙◌, ℕ, ◌+◌, ◌<◌, ◌≤◌, List, [], ◌∷◌, ◌++◌, length, map, take, get_or, arith, Option, None, Some, Vec, BTreeMap, refl, ap, sym, append_assoc, append-nil, Bool, true, false, ⊎_elim, bytes_eq, cond, is_eq, nat_cmp}
use Rattle.std.proofs.lemmas.Bool.{cases_Bool, cond-true, cond-false}
use Rattle.std.proofs.lemmas.Cmp.{eq_by_cmp_equiv, nat_list_cmp_total}
use Rattle.std.proofs.lemmas.List.{get_or-map, length-map, take_all, take_more}
use Rattle.std.proofs.lemmas.List.Elements.{Contains-append_right, Contains-get_or}
use Rattle.std.proofs.lemmas.Map.Text.{is_eq-slice_cmp}
use Rattle.std.proofs.lemmas.Slice.Eq.{bytes_eq-Decides}
use Rattle.std.proofs.lemmas.Slice.Zip.{get_or-zip, length-zip}
use Rattle.std.specs.BTreeMap as tree
use Rattle.std.specs.Cmp.Lexicographic.{slice_cmp}
use Rattle.std.specs.List.{Contains, zip}
use Rattle.std.specs.Map.{lookup, IsKeyTest, AreApart, KeepsOthers}
use Rattle.cm_witness_gather.specs.Noted.{AreNoted, noted_in, with_lines}
use Rattle.cm_witness_gather.specs.Pairs.{first_line, pairs, pairs_after, with_pair}
use Rattle.cm_witness_gather.specs.declared.certificate.Pair.{Pair}

-- the first of two that is there
abbrev or_else : Option ℕ → Option ℕ → Option ℕ
or_else (Some line) other = Some line
or_else None other = other

or_none : (o : Option ℕ) → or_else o None ≡ o
or_none None = refl
or_none (Some line) = refl

-- of a key and others before
or_else_cond : (b : Bool) (line : ℕ) (a c : Option ℕ) → cond b (Some line) (or_else a c) ≡ or_else (cond b (Some line) a) c
or_else_cond true line a c = refl
or_else_cond false line a c = refl

-- what is found of a key in keys before others
first_line-append : (keys more : List (ℕ × List ℕ)) (key : List ℕ) → first_line (keys ++ more) key ≡ or_else (first_line keys key) (first_line more key)
first_line-append [] more key = refl
first_line-append (k ∷ keys) more key =
    ap (λ (o : Option ℕ). cond (bytes_eq k.1 key) (Some k.0) o) (first_line-append keys more key)
    ∙ or_else_cond (bytes_eq k.1 key) k.0 (first_line keys key) (first_line more key)

-- equal bytes are so in either order
bytes_eq-flip : (p q : List ℕ) → bytes_eq p q ≡ bytes_eq q p
bytes_eq-flip p q = sym (is_eq-slice_cmp p q) ∙ (eq_by_cmp_equiv nat_list_cmp_total).symm p q ∙ is_eq-slice_cmp q p

-- what a map finds by its order
pub found_in : {A : Type 0} (entries : List (Vec ℕ A × ℕ)) (key : List ℕ) → lookup (λ k. is_eq (slice_cmp nat_cmp key k.items)) entries ≡ first_line (noted_in entries) key
found_in [] key = refl
found_in (e ∷ es) key =
    ap (λ (b : Bool). cond b (Some e.1) (lookup (λ k. is_eq (slice_cmp nat_cmp key k.items)) es)) (is_eq-slice_cmp key e.0.items ∙ bytes_eq-flip key e.0.items)
    ∙ ap (λ (o : Option ℕ). cond (bytes_eq e.0.items key) (Some e.1) o) (found_in es key)

-- a key that differs from another finds what it found, after that other one was changed
others_kept : {A : Type 0} (eq : Vec ℕ A → Vec ℕ A → Bool) (test : Vec ℕ A → Bool) (old new : List (Vec ℕ A × ℕ)) → KeepsOthers eq test old new → (other : Vec ℕ A → Bool) → IsKeyTest eq other → AreApart test other → lookup other new ≡ lookup other old
unfolding KeepsOthers
others_kept eq test old new h = h

-- keys that differ have no equal in common
apart : (key other k : List ℕ) → bytes_eq key other ≡ false → is_eq (slice_cmp nat_cmp key k) ≡ true → is_eq (slice_cmp nat_cmp other k) ≡ false
apart key other k differs same =
    let is : key ≡ k = (bytes_eq-Decides key k).0 (sym (is_eq-slice_cmp key k) ∙ same) in
    is_eq-slice_cmp other k ∙ ap (λ (l : List ℕ). bytes_eq other l) (sym is) ∙ bytes_eq-flip other key ∙ differs

-- after a new key is put into a map, it is found as if it stood behind those before
pub found_after : {A : Type 0} (old new : BTreeMap (Vec ℕ A) ℕ) (key : Vec ℕ A) (line : ℕ)
    → tree.Updates (λ x y. slice_cmp nat_cmp x.items y.items) old new key (Some line)
    → first_line (noted_in old.entries) key.items ≡ None
    → (other : List ℕ) → first_line (noted_in new.entries) other ≡ first_line (noted_in old.entries ++ (line, key.items) ∷ []) other
found_after old new key line updates none other =
    let behind = first_line-append (noted_in old.entries) ((line, key.items) ∷ []) other in
    ⊎_elim
    (λ (same : bytes_eq key.items other ≡ true).
    let is : key.items ≡ other = (bytes_eq-Decides key.items other).0 same in
    let here : first_line (noted_in new.entries) other ≡ Some line =
    ap (λ (l : List ℕ). first_line (noted_in new.entries) l) (sym is) ∙ sym (found_in new.entries key.items) ∙ updates.1 in
    here ∙ sym (behind
    ∙ ap (λ (o : Option ℕ). or_else o (cond (bytes_eq key.items other) (Some line) None)) (ap (λ (l : List ℕ). first_line (noted_in old.entries) l) (sym is) ∙ none)
    ∙ cond-true (bytes_eq key.items other) (Some line) None same))
    (λ (differs : bytes_eq key.items other ≡ false).
    sym (found_in new.entries other)
    ∙ others_kept _ _ old.entries new.entries updates.3 (λ k. is_eq (slice_cmp nat_cmp other k.items)) (λ x y. (eq_by_cmp_equiv nat_list_cmp_total).congr other x.items y.items) (λ k. apart key.items other k.items differs)
    ∙ found_in old.entries other
    ∙ sym (behind
    ∙ ap (λ (o : Option ℕ). or_else (first_line (noted_in old.entries) other) o) (cond-false (bytes_eq key.items other) (Some line) None differs)
    ∙ or_none (first_line (noted_in old.entries) other)))
    (cases_Bool (bytes_eq key.items other))

-- a key that is found already is found as before, after it is noted again
pub found_again : (keys : List (ℕ × List ℕ)) (line first : ℕ) (key : List ℕ) → first_line keys key ≡ Some first → (other : List ℕ) → first_line keys other ≡ first_line (keys ++ (line, key) ∷ []) other
found_again keys line first key found other =
    let behind = first_line-append keys ((line, key) ∷ []) other in
    ⊎_elim
    (λ (same : bytes_eq key other ≡ true).
    let here : first_line keys other ≡ Some first = ap (λ (l : List ℕ). first_line keys l) (sym ((bytes_eq-Decides key other).0 same)) ∙ found in
    here ∙ sym (behind ∙ ap (λ (o : Option ℕ). or_else o (cond (bytes_eq key other) (Some line) None)) here))
    (λ (differs : bytes_eq key other ≡ false).
    sym (behind
    ∙ ap (λ (o : Option ℕ). or_else (first_line keys other) o) (cond-false (bytes_eq key other) (Some line) None differs)
    ∙ or_none (first_line keys other)))
    (cases_Bool (bytes_eq key other))

-- what is found of a key in keys before others, and behind some if it is not
pub found_before : (keys more : List (ℕ × List ℕ)) (key : List ℕ) (first : ℕ) → first_line keys key ≡ Some first → first_line (keys ++ more) key ≡ Some first
found_before keys more key first is = first_line-append keys more key ∙ ap (λ (o : Option ℕ). or_else o (first_line more key)) is

pub found_behind : (keys more : List (ℕ × List ℕ)) (key : List ℕ) → first_line keys key ≡ None → first_line (keys ++ more) key ≡ first_line more key
found_behind keys more key none = first_line-append keys more key ∙ ap (λ (o : Option ℕ). or_else o (first_line more key)) none

-- one key finds nothing of another
alone_none : (line : ℕ) (key other : List ℕ) → bytes_eq key other ≡ false → first_line ((line, key) ∷ []) other ≡ None
alone_none line key other differs = cond-false (bytes_eq key other) (Some line) None differs

-- a new key may as well stand before others that differ from it
pub noted_between : (keys more : List (ℕ × List ℕ)) (line : ℕ) (key : List ℕ) → first_line more key ≡ None → (other : List ℕ) → first_line ((keys ++ (line, key) ∷ []) ++ more) other ≡ first_line ((keys ++ more) ++ (line, key) ∷ []) other
noted_between keys more line key none other =
    let one = (line, key) ∷ [] in
    let found = first_line keys other in
    let swapped : or_else (first_line one other) (first_line more other) ≡ or_else (first_line more other) (first_line one other) = ⊎_elim
    (λ (same : bytes_eq key other ≡ true).
    let none_of : first_line more other ≡ None = ap (λ (l : List ℕ). first_line more l) (sym ((bytes_eq-Decides key other).0 same)) ∙ none in
    ap (λ (o : Option ℕ). or_else (first_line one other) o) none_of
    ∙ or_none (first_line one other)
    ∙ sym (ap (λ (o : Option ℕ). or_else o (first_line one other)) none_of))
    (λ (differs : bytes_eq key other ≡ false).
    ap (λ (o : Option ℕ). or_else o (first_line more other)) (alone_none line key other differs)
    ∙ sym (or_none (first_line more other))
    ∙ sym (ap (λ (o : Option ℕ). or_else (first_line more other) o) (alone_none line key other differs)))
    (cases_Bool (bytes_eq key other)) in
    ap (λ (l : List (ℕ × List ℕ)). first_line l other) (append_assoc keys one more)
    ∙ first_line-append keys (one ++ more) other
    ∙ ap (λ (o : Option ℕ). or_else found o) (first_line-append one more other ∙ swapped ∙ sym (first_line-append more one other))
    ∙ sym (first_line-append keys (more ++ one) other)
    ∙ ap (λ (l : List (ℕ × List ℕ)). first_line l other) (sym (append_assoc keys more one))

-- it stands behind all if it stands behind the last of them
pub noted_behind : (keys more more' : List (ℕ × List ℕ)) (k : ℕ × List ℕ) (other : List ℕ) → first_line more' other ≡ first_line (more ++ k ∷ []) other → first_line (keys ++ more') other ≡ first_line ((keys ++ more) ++ k ∷ []) other
noted_behind keys more more' k other is =
    first_line-append keys more' other
    ∙ ap (λ (o : Option ℕ). or_else (first_line keys other) o) is
    ∙ sym (first_line-append keys (more ++ k ∷ []) other)
    ∙ ap (λ (l : List (ℕ × List ℕ)). first_line l other) (sym (append_assoc keys more (k ∷ [])))

-- and if one was noted, another one still isn't found
pub still_none : (more more' : List (ℕ × List ℕ)) (line : ℕ) (key other : List ℕ) → first_line more' other ≡ first_line (more ++ (line, key) ∷ []) other → first_line more other ≡ None → (key ≡ other → ⊥) → first_line more' other ≡ None
still_none more more' line key other is none differs =
    is
    ∙ found_behind more ((line, key) ∷ []) other none
    ∙ ⊎_elim
    (λ (same : bytes_eq key other ≡ true). absurd (differs ((bytes_eq-Decides key other).0 same)))
    (λ (not : bytes_eq key other ≡ false). alone_none line key other not)
    (cases_Bool (bytes_eq key other))

-- a pair stands before all that come after it
with_pair-append : (first : Option ℕ) (line : ℕ) (found more : List Pair) → with_pair first line (found ++ more) ≡ with_pair first line found ++ more
with_pair-append None line found more = refl
with_pair-append (Some first) line found more = refl

-- the pairs of some keys and then of others
pairs_after-append : (earlier keys more : List (ℕ × List ℕ)) → pairs_after earlier (keys ++ more) ≡ pairs_after earlier keys ++ pairs_after (earlier ++ keys) more
pairs_after-append earlier [] more = ap (λ (l : List (ℕ × List ℕ)). pairs_after l more) (sym (append-nil earlier))
pairs_after-append earlier (j ∷ keys) more =
    ap (λ (l : List Pair). with_pair (first_line earlier j.1) j.0 l) (pairs_after-append (earlier ++ j ∷ []) keys more
    ∙ ap (λ (l : List (ℕ × List ℕ)). pairs_after (earlier ++ j ∷ []) keys ++ pairs_after l more) (append_assoc earlier (j ∷ []) keys))
    ∙ with_pair-append (first_line earlier j.1) j.0 (pairs_after (earlier ++ j ∷ []) keys) _

-- a later line of a key is paired with the first
pub later_paired : (before after : List (ℕ × List ℕ)) (k : ℕ × List ℕ) (first : ℕ) → first_line before k.1 ≡ Some first → Contains (pairs (before ++ k ∷ after)) (record { first = first; again = k.0 })
later_paired before after k first is =
    let pair : Pair = record { first = first; again = k.0 } in
    let more = pairs_after (before ++ k ∷ []) after in
    let whole : pairs (before ++ k ∷ after) ≡ pairs before ++ pair ∷ more =
    pairs_after-append [] before (k ∷ after) ∙ ap (λ (o : Option ℕ). pairs before ++ with_pair o k.0 more) is in
    rw whole (Contains-append_right (pairs before) (pair ∷ more) pair (Contains-get_or (pair ∷ more) 0 pair (omega arith)))

-- one key more is noted, and its pair is there if an equal one was noted before
pub noted_more : (earlier noted noted' : List (ℕ × List ℕ)) (found found' : List Pair) (line : ℕ) (key : List ℕ)
    → AreNoted earlier noted found
    → ((other : List ℕ) → first_line noted' other ≡ first_line (noted ++ (line, key) ∷ []) other)
    → found' ≡ found ++ with_pair (first_line noted key) line []
    → AreNoted (earlier ++ (line, key) ∷ []) noted' found'
noted_more earlier noted noted' found found' line key are finds paired = record {
  finds = λ other. finds other
      ∙ first_line-append noted ((line, key) ∷ []) other
      ∙ ap (λ (o : Option ℕ). or_else o (first_line ((line, key) ∷ []) other)) (are.finds other)
      ∙ sym (first_line-append earlier ((line, key) ∷ []) other);
  paired = paired
      ∙ ap (λ (l : List Pair). l ++ with_pair (first_line noted key) line []) are.paired
      ∙ ap (λ (o : Option ℕ). pairs earlier ++ with_pair o line []) (are.finds key)
      ∙ sym (pairs_after-append [] earlier ((line, key) ∷ []));
}

-- the keys before the next place
pub with_lines-more : {A : Type 0} (lines : List ℕ) (keys : List (Vec ℕ A)) (i : ℕ) (key : Vec ℕ A) → length lines ≡ length keys → i < length keys → key ≡ get_or keys i key
    → take (i + 1) (with_lines lines keys) ≡ take i (with_lines lines keys) ++ (get_or lines i 0, key.items) ∷ []
with_lines-more {A = A} lines keys i key long inside is =
    let bytes : List (List ℕ) = map (λ (k : Vec ℕ A). k.items) keys in
    let as_long : length bytes ≡ length keys = length-map keys (λ (k : Vec ℕ A). k.items) in
    let within : i < length (zip lines bytes) = omega (arith, as_long, long, inside, length-zip lines bytes) in
    let here : get_or (zip lines bytes) i (0, []) ≡ (get_or lines i 0, key.items) =
    get_or-zip lines bytes i (0, []) (omega (arith, long, inside)) (omega (arith, as_long, inside))
    ∙ ap (λ (l : List ℕ). let p : ℕ × List ℕ = (get_or lines i 0, l) in p) (get_or-map (λ (k : Vec ℕ A). k.items) keys i key [] inside ∙ ap (λ (k : Vec ℕ A). k.items) (sym is)) in
    take_more (zip lines bytes) i (0, []) within ∙ ap (λ (k : ℕ × List ℕ). take i (zip lines bytes) ++ k ∷ []) here

-- all of them
pub with_lines-all : {A : Type 0} (lines : List ℕ) (keys : List (Vec ℕ A)) (i : ℕ) → length keys ≤ i → take i (with_lines lines keys) ≡ with_lines lines keys
with_lines-all {A = A} lines keys i past =
    let bytes : List (List ℕ) = map (λ (k : Vec ℕ A). k.items) keys in
    take_all i (zip lines bytes) (omega (arith, past, length-map keys (λ (k : Vec ℕ A). k.items), length-zip lines bytes))
