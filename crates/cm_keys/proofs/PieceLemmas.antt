-- Lines of bytes that come in parts.
use Rattle.std.proofs.Common.{◌≡◌, ◌∙◌, ℕ, zero, suc, ◌+◌, ◌-◌, ◌<◌, ◌≤◌, ◌==◌, List, [], ◌∷◌, ◌++◌, length, take, drop, ap, sym, arith, append_assoc, length-append, refl, subst, length-drop, length-take, Option, Some, None, Bool, true, false}
use Rattle.std.specs.Option.{option_map, ForSome}
use Rattle.std.proofs.lemmas.List.{drop-drop, drop-take, take_all}
use Rattle.memchr.specs.Find.{Nowhere, Passes, is_byte}
use Rattle.cm_keys.specs.Lines.{push_first, pieces}
use Rattle.cm_keys.specs.Buffering.{with_front, BeginsWith, HasFewer, HasNoEnd, IsLong, TakesPart, left_bytes, ready_in, line_rule}
use Rattle.cm_keys.specs.declared.buffered.Part.TheVariants.{Whole, More, Long}

pub not_true : (b : Bool) → (b ≡ true → ⊥) → b ≡ false
not_true true f = absurd (f refl)
not_true false f = refl

pub no_end : (end : ℕ) (hay : List ℕ) → Nowhere (Passes (is_byte end) hay) 0 (length hay) → HasNoEnd end hay
no_end end [] f more = refl
no_end end (b ∷ bs) f more =
    let is : (b == end) ≡ false = not_true (b == end) (f 0 (omega arith) (omega arith)) in
    rw is (ap (push_first b) (no_end end bs (λ k low high. f (suc k) (omega arith) (omega (arith, high))) more))

pub no_end_before : (end : ℕ) (hay : List ℕ) (n : ℕ) → n < length hay → Nowhere (Passes (is_byte end) hay) 0 n → HasNoEnd end (take n hay)
no_end_before end [] n inside f more = absurd (omega (arith, inside))
no_end_before end (b ∷ bs) zero inside f more = refl
no_end_before end (b ∷ bs) (suc n) inside f more =
    let is : (b == end) ≡ false = not_true (b == end) (f 0 (omega arith) (omega arith)) in
    rw is (ap (push_first b) (no_end_before end bs n (omega (arith, inside)) (λ k low high. f (suc k) (omega arith) (omega (arith, high))) more))

pub split_there : (end : ℕ) (hay : List ℕ) (n : ℕ) → n < length hay → Passes (is_byte end) hay n → hay ≡ take n hay ++ end ∷ drop (suc n) hay
split_there end [] n inside p = absurd (omega (arith, inside))
split_there end (b ∷ bs) zero inside p =
    let is : b ≡ end = grind (arith, p) in rw is refl
split_there end (b ∷ bs) (suc n) inside p = ap (λ (l : List ℕ). b ∷ l) (split_there end bs n (omega (arith, inside)) p)

pub with_front-append : (a b : List ℕ) (ps : List (List ℕ)) → with_front (a ++ b) ps ≡ with_front a (with_front b ps)
with_front-append [] b ps = refl
with_front-append (x ∷ xs) b ps = ap (push_first x) (with_front-append xs b ps)

pub with_front-whole : (a : List ℕ) (ps : List (List ℕ)) → with_front a ([] ∷ ps) ≡ a ∷ ps
with_front-whole [] ps = refl
with_front-whole (x ∷ xs) ps = ap (push_first x) (with_front-whole xs ps)

pub with_front-last : (x : ℕ) (xs : List ℕ) → with_front (x ∷ xs) [] ≡ (x ∷ xs) ∷ []
with_front-last x [] = refl
with_front-last x (y ∷ ys) = ap (push_first x) (with_front-last y ys)

abbrev first_len : List (List ℕ) → ℕ
first_len [] = 0
first_len (p ∷ ps) = length p

first_len-push : (b : ℕ) (ps : List (List ℕ)) → first_len (push_first b ps) ≡ first_len ps + 1
first_len-push b [] = refl
first_len-push b (p ∷ ps) = omega arith

front_len : (front : List ℕ) (ps : List (List ℕ)) → length front ≤ first_len (with_front front ps)
front_len [] ps = omega arith
front_len (b ∷ bs) ps = omega (arith, front_len bs ps, first_len-push b (with_front bs ps))

is_long : (longest : ℕ) (ps : List (List ℕ)) → longest < first_len ps → IsLong longest ps
is_long longest [] lt = absurd (omega (arith, lt))
is_long longest (p ∷ ps) lt = lt

pub long_front : (longest : ℕ) (front : List ℕ) (ps : List (List ℕ)) → longest < length front → IsLong longest (with_front front ps)
long_front longest front ps lt = is_long longest (with_front front ps) (omega (arith, lt, front_len front ps))

pub same_byte : (end : ℕ) → (end == end) ≡ true
same_byte end = grind arith

-- the remainder of a line with its end
pub front_whole : (end : ℕ) (key part left more : List ℕ) → HasNoEnd end part
    → with_front key (pieces end ((part ++ end ∷ left) ++ more)) ≡ (key ++ part) ∷ pieces end (left ++ more)
front_whole end key part left more none =
    let e1 : pieces end ((part ++ end ∷ left) ++ more) ≡ with_front part (pieces end (end ∷ (left ++ more))) = ap (pieces end) (append_assoc part (end ∷ left) more) ∙ none (end ∷ (left ++ more)) in
    let e2 : pieces end (end ∷ (left ++ more)) ≡ [] ∷ pieces end (left ++ more) = rw (same_byte end) refl in
    ap (with_front key) (e1 ∙ ap (with_front part) e2)
    ∙ sym (with_front-append key part ([] ∷ pieces end (left ++ more)))
    ∙ with_front-whole (key ++ part) (pieces end (left ++ more))

-- a part of a line
pub front_more : (end : ℕ) (key part more : List ℕ) → HasNoEnd end part → with_front key (pieces end (part ++ more)) ≡ with_front (key ++ part) (pieces end more)
front_more end key part more none = ap (with_front key) (none more) ∙ sym (with_front-append key part (pieces end more))

pub none_some : {A : Type 0} (x : A) → (let o : Option A = None in o) ≡ Some x → ⊥
none_some x e = grind (arith, e)

pub some_same : {A : Type 0} {x y : A} → (let o : Option A = Some x in o) ≡ Some y → x ≡ y
some_same e = grind (arith, e)

-- The same if the bytes may be unknown.

pub told_whole : (end : ℕ) (key part left : List ℕ) (told : Option (List ℕ)) (place : ℕ) → HasNoEnd end part
    → option_map (λ rest. with_front key (pieces end rest)) (left_bytes told place (part ++ end ∷ left)) ≡ option_map (λ rest. (key ++ part) ∷ pieces end rest) (left_bytes told place left)
told_whole end key part left None place none = refl
told_whole end key part left (Some bytes) place none = ap (λ (l : List (List ℕ)). let o : Option (List (List ℕ)) = Some l in o) (front_whole end key part left (drop place bytes) none)

pub told_more : (end : ℕ) (key part : List ℕ) (told : Option (List ℕ)) (place : ℕ) → HasNoEnd end part
    → option_map (λ rest. with_front key (pieces end rest)) (left_bytes told place part) ≡ option_map (λ rest. with_front (key ++ part) (pieces end rest)) (left_bytes told place [])
told_more end key part None place none = refl
told_more end key part (Some bytes) place none = ap (λ (l : List (List ℕ)). let o : Option (List (List ℕ)) = Some l in o) (front_more end key part (drop place bytes) none)

pub told_end : (f g : List ℕ → List (List ℕ)) (told : Option (List ℕ)) (place : ℕ) (ready : List ℕ) → ready ≡ [] → ForSome told (λ bytes. drop place bytes ≡ []) → f [] ≡ g []
    → option_map f (left_bytes told place ready) ≡ option_map g (left_bytes told place ready)
told_end f g None place ready none_ready none_left same = refl
told_end f g (Some bytes) place ready none_ready none_left same =
    let e : ready ++ drop place bytes ≡ [] = rw none_ready (none_left bytes refl) in
    ap (λ (l : List (List ℕ)). let o : Option (List (List ℕ)) = Some l in o) (ap f e ∙ same ∙ sym (ap g e))

pub told_long : (longest end : ℕ) (key part rest : List ℕ) (told : Option (List ℕ)) (place : ℕ) (all : Option (List ℕ)) → HasNoEnd end part → longest < length key + length part
    → option_map (pieces end) all ≡ option_map (λ left. with_front key (pieces end left)) (left_bytes told place (part ++ rest))
    → (bytes : List ℕ) → all ≡ Some bytes → IsLong longest (pieces end bytes)
told_long longest end key part rest told place None none lt same bytes is = absurd (none_some bytes is)
told_long longest end key part rest None place (Some bytes') none lt same bytes is = absurd (none_some (pieces end bytes') (sym same))
told_long longest end key part rest (Some given) place (Some bytes') none lt same bytes is =
    let long : longest < length (key ++ part) = omega (arith, lt, length-append key part) in
    let e : pieces end bytes' ≡ with_front (key ++ part) (pieces end (rest ++ drop place given)) =
    some_same same ∙ ap (λ (l : List ℕ). with_front key (pieces end l)) (append_assoc part rest (drop place given)) ∙ front_more end key part (rest ++ drop place given) none in
    subst (λ (l : List ℕ). IsLong longest (pieces end l)) (some_same is) (subst (IsLong longest) (sym e) (long_front longest (key ++ part) (pieces end (rest ++ drop place given)) long))

-- the bytes that wait, after some
pub ready_after : (buf : List ℕ) (start until n : ℕ) → n < length (ready_in buf start until) → ready_in buf (start + (n + 1)) until ≡ drop (n + 1) (ready_in buf start until)
ready_after buf start until n inside =
    let e : until - start ≡ (n + 1) + (until - (start + (n + 1))) = omega (arith, inside, length-take (until - start) (drop start buf)) in
    sym (ap (λ (k : ℕ). drop (n + 1) (take k (drop start buf))) e ∙ drop-take (n + 1) (until - (start + (n + 1))) (drop start buf) ∙ ap (λ (l : List ℕ). take (until - (start + (n + 1))) l) (drop-drop (n + 1) start buf))

pub ready_split : (end : ℕ) (buf : List ℕ) (start until n : ℕ) → n < length (ready_in buf start until) → Passes (is_byte end) (ready_in buf start until) n
    → ready_in buf start until ≡ take n (ready_in buf start until) ++ end ∷ ready_in buf (start + (n + 1)) until
ready_split end buf start until n inside p =
    let e : suc n ≡ n + 1 = omega arith in
    split_there end (ready_in buf start until) n inside p
    ∙ ap (λ (k : ℕ). take n (ready_in buf start until) ++ end ∷ drop k (ready_in buf start until)) e ∙ ap (λ (l : List ℕ). take n (ready_in buf start until) ++ end ∷ l) (sym (ready_after buf start until n inside))

-- the first line of some bytes
pub line_taken : (end longest : ℕ) (hay : List ℕ) (n : ℕ) → n < length hay → Nowhere (Passes (is_byte end) hay) 0 n → Passes (is_byte end) hay n → length hay ≤ longest + 1
    → TakesPart (line_rule longest end) hay (ready_in hay (n + 1) (length hay)) [] (take n hay) Whole
line_taken end longest hay n inside before at room =
    let e : suc n ≡ n + 1 = omega arith in
    let left : ready_in hay (n + 1) (length hay) ≡ drop (n + 1) hay = take_all (length hay - (n + 1)) (drop (n + 1) hay) (omega (arith, length-drop (n + 1) hay)) in (
      take n hay,
      no_end_before end hay n inside before,
      refl,
      split_there end hay n inside at ∙ ap (λ (k : ℕ). take n hay ++ end ∷ drop k hay) e ∙ ap (λ (l : List ℕ). take n hay ++ end ∷ l) (sym left),
      omega (arith, inside, room, length-take n hay),
    )

-- Bytes that have no end of a line don't begin with a line and its end.
pub no_line : (longest end : ℕ) (ready left key : List ℕ) → HasNoEnd end ready → TakesPart (line_rule longest end) ready left [] key Whole → ⊥
no_line longest end ready left key none takes =
    let part = takes.0 in
    let first : with_front ready (pieces end []) ≡ part ∷ pieces end (left ++ []) =
    sym (none []) ∙ ap (λ (bytes : List ℕ). pieces end (bytes ++ [])) takes.3 ∙ front_whole end [] part left [] takes.1 in
    omega (arith, front_len ready (pieces end []), ap first_len first, ap length takes.3, length-append part (end ∷ left))

drop_front : (end : ℕ) (part left : List ℕ) → drop (suc (length part)) (part ++ end ∷ left) ≡ left
drop_front end [] left = refl
drop_front end (b ∷ bs) left = drop_front end bs left

-- A whole line in the buffer is within the buffered bytes.
pub line_inside : (longest end len : ℕ) (ready left key : List ℕ) → TakesPart (line_rule longest end) ready left [] key Whole → length key ≡ len → len < length ready
line_inside longest end len ready left key takes long =
    omega (arith, long, ap length takes.2, ap length takes.3, length-append takes.0 (end ∷ left))

-- After it comes what is left.
pub after_line : (longest end len : ℕ) (ready left key after : List ℕ) → TakesPart (line_rule longest end) ready left [] key Whole → length key ≡ len → after ≡ drop (len + 1) ready → after ≡ left
after_line longest end len ready left key after takes long is =
    let part = takes.0 in
    let many : len + 1 ≡ suc (length part) = omega (arith, long, ap length takes.2) in
    is ∙ ap (λ (k : ℕ). drop k ready) many ∙ ap (drop (suc (length part))) takes.3 ∙ drop_front end part left

pub line_passed : (longest end len : ℕ) (ready left key after : List ℕ) → TakesPart (line_rule longest end) ready left [] key Whole → length key ≡ len → after ≡ drop (len + 1) ready
    → TakesPart (line_rule longest end) ready after [] key Whole
line_passed longest end len ready left key after takes long is =
    subst (λ (rest : List ℕ). TakesPart (line_rule longest end) ready rest [] key Whole) (sym (after_line longest end len ready left key after takes long is)) takes

-- After the first of some lines come the others.
pub lines_after : (longest end len : ℕ) (ready after line : List ℕ) (lines : List (List ℕ)) → BeginsWith (line_rule longest end) ready (line ∷ lines) → length line ≡ len → after ≡ drop (len + 1) ready
    → BeginsWith (line_rule longest end) after lines
lines_after longest end len ready after line lines (left, takes, others) long is =
    subst (λ (rest : List ℕ). BeginsWith (line_rule longest end) rest lines) (sym (after_line longest end len ready left line after takes long is)) others

-- Bytes begin with one line only.
same_left_after : (longest end : ℕ) (ready left left' key key' : List ℕ) → TakesPart (line_rule longest end) ready left [] key Whole → TakesPart (line_rule longest end) ready left' [] key' Whole → left' ≡ left
same_left_after longest end ready left left' key key' takes takes' =
    let part = takes.0 in
    let part' = takes'.0 in
    let bytes : part' ++ end ∷ left' ≡ part ++ end ∷ left = sym takes'.3 ∙ takes.3 in
    let first : part' ∷ pieces end (left' ++ []) ≡ part ∷ pieces end (left ++ []) =
    sym (front_whole end [] part' left' [] takes'.1) ∙ ap (λ (l : List ℕ). pieces end (l ++ [])) bytes ∙ front_whole end [] part left [] takes.1 in
    sym (drop_front end part' left') ∙ ap (λ (l : List ℕ). drop (suc (length part')) l) bytes ∙ ap (λ (k : ℕ). drop (suc k) (part ++ end ∷ left)) (ap first_len first) ∙ drop_front end part left

-- Without an end there is no line.
pub fewer_here : (longest end count : ℕ) (ready : List ℕ) → 0 < count → HasNoEnd end ready → HasFewer (line_rule longest end) count ready
fewer_here longest end count ready some none [] many begin = absurd (omega (arith, some, many))
fewer_here longest end count ready some none (line ∷ lines) many (left, takes, others) = no_line longest end ready left line none takes

-- After a line there is one less.
pub fewer_after : (longest end count : ℕ) (ready left key : List ℕ) → TakesPart (line_rule longest end) ready left [] key Whole → HasFewer (line_rule longest end) count left → HasFewer (line_rule longest end) (suc count) ready
fewer_after longest end count ready left key takes fewer [] many begin = absurd (omega (arith, many))
fewer_after longest end count ready left key takes fewer (line ∷ lines) many (left', takes', others) =
    fewer lines (omega (arith, many)) (subst (λ (rest : List ℕ). BeginsWith (line_rule longest end) rest lines) (same_left_after longest end ready left left' key line takes takes') others)

-- A line that is read part by part.

same_left : (end : ℕ) (key : List ℕ) (all before : Option (List ℕ)) (told : Option (List ℕ)) (place : ℕ) (ready ready' : List ℕ)
    → option_map (pieces end) all ≡ option_map (λ rest. with_front key (pieces end rest)) before
    → left_bytes told place ready ≡ before → ready ≡ ready'
    → option_map (pieces end) all ≡ option_map (λ rest. with_front key (pieces end rest)) (left_bytes told place ready')
same_left end key all before told place ready ready' inv same is =
    inv ∙ ap (λ (o : Option (List ℕ)). option_map (λ rest. with_front key (pieces end rest)) o) (sym same ∙ ap (λ (l : List ℕ). left_bytes told place l) is)

pub read_whole : (longest end : ℕ) (key new : List ℕ) (all before : Option (List ℕ)) (told told' : Option (List ℕ)) (place place' : ℕ) (ready left : List ℕ)
    → option_map (pieces end) all ≡ option_map (λ rest. with_front key (pieces end rest)) before
    → left_bytes told place ready ≡ before → told' ≡ told → place' ≡ place → TakesPart (line_rule longest end) ready left key new Whole
    → option_map (pieces end) all ≡ option_map (λ rest. new ∷ pieces end rest) (left_bytes told' place' left)
read_whole longest end key new all before told told' place place' ready left inv same t p takes =
    let e = same_left end key all before told place ready (takes.0 ++ end ∷ left) inv same takes.3 ∙ told_whole end key takes.0 left told place takes.1 in
    rw t (rw p (rw takes.2 e))

pub read_more : (longest end : ℕ) (key new : List ℕ) (all before : Option (List ℕ)) (told told' : Option (List ℕ)) (place place' : ℕ) (ready left : List ℕ)
    → option_map (pieces end) all ≡ option_map (λ rest. with_front key (pieces end rest)) before
    → left_bytes told place ready ≡ before → told' ≡ told → place' ≡ place → TakesPart (line_rule longest end) ready left key new More
    → option_map (pieces end) all ≡ option_map (λ rest. with_front new (pieces end rest)) (left_bytes told' place' left)
read_more longest end key new all before told told' place place' ready left inv same t p takes =
    let e = same_left end key all before told place ready ready inv same refl ∙ told_more end key ready told place takes.0 in
    rw t (rw p (rw takes.1 (rw takes.2 e)))

pub read_long : (longest end : ℕ) (key new : List ℕ) (all before : Option (List ℕ)) (told : Option (List ℕ)) (place : ℕ) (ready left : List ℕ)
    → option_map (pieces end) all ≡ option_map (λ rest. with_front key (pieces end rest)) before
    → left_bytes told place ready ≡ before → TakesPart (line_rule longest end) ready left key new Long
    → (rest : List ℕ) → all ≡ Some rest → IsLong longest (pieces end rest)
read_long longest end key new all before told place ready left inv same takes =
    told_long longest end key takes.0 takes.1 told place all takes.2 takes.4 (same_left end key all before told place ready (takes.0 ++ takes.1) inv same takes.3)

-- the last line, which has no end
pub read_last : (end : ℕ) (key : List ℕ) (all before : Option (List ℕ)) (told : Option (List ℕ)) (place : ℕ) (ready : List ℕ) → 0 < length key
    → option_map (pieces end) all ≡ option_map (λ rest. with_front key (pieces end rest)) before
    → left_bytes told place ready ≡ before → ready ≡ [] → ForSome told (λ bytes. drop place bytes ≡ [])
    → option_map (pieces end) all ≡ option_map (λ rest. key ∷ pieces end rest) (left_bytes told place ready)
read_last end [] all before told place ready some inv same none_ready none_left = absurd (omega (arith, some))
read_last end (x ∷ xs) all before told place ready some inv same none_ready none_left =
    same_left end (x ∷ xs) all before told place ready ready inv same refl
    ∙ told_end (λ rest. with_front (x ∷ xs) (pieces end rest)) (λ rest. (x ∷ xs) ∷ pieces end rest) told place ready none_ready none_left (with_front-last x xs)
