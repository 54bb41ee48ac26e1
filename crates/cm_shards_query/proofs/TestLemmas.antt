-- The first line at fault among lines that come one by one.
use Rattle.std.proofs.Common.{◌≡◌, ◌∙◌, ℕ, ◌+◌, ◌<◌, ◌≤◌, ◌||◌, List, [], ◌∷◌, ◌++◌, length, take, drop, Option, None, Some, Bool, Ok, Err, Result, refl, ap, sym, subst, arith, append-nil, append_assoc}
use Rattle.std.specs.Option.{ForSome}
use Rattle.std.specs.Prelude.{IfSome}
use Rattle.std.proofs.Math.Bool.{or-false}
use Rattle.std.proofs.Math.Seq.{take-add}
use Rattle.std.proofs.lemmas.List.{take-append-drop, take_all}
use Rattle.std.proofs.lemmas.List.Folds.{list_any-append}
use Rattle.cm_io.specs.Passes.{Ends, Told}
use Rattle.cm_io.specs.declared.key_pass.KeyFault.{KeyFault}
use Rattle.cm_io.specs.declared.key_pass.KeyFault.TheVariants as key_fault
use Rattle.cm_keys.specs.Streams.{GivesLine}
use Rattle.cm_keys.specs.declared.lines.LineFault.{LineFault}
use Rattle.cm_keys.specs.declared.lines.LineFault.TheVariants as line_fault
use Rattle.cm_query.specs.Repeats.{is_number, is_repeated}
use Rattle.cm_query_batch.specs.Earlier.{with_earlier}
use Rattle.cm_shards_query.specs.Leaves.{EndsTest, stop_from_line}
use Rattle.cm_shards_query.specs.Marks.{is_marked}
use Rattle.cm_shards_query.specs.Verdicts.{count_verdict, fault_at, fault_by, first_fault, first_some}
use Rattle.cm_shards_query.specs.Written.{test_by, test_end}
use Rattle.cm_shards_query.specs.declared.stop.LinesStop.{LinesStop}
use Rattle.cm_shards_query.specs.declared.verdict.Verdict.{Verdict}

-- the marks are those of the numbers of these lines
abbrev pub AreMarks : (List ℕ → Option ℕ) → List (ℕ × List ℕ) → List ℕ → Type 0
AreMarks f lines words = (v : ℕ) → is_marked words (Some v) ≡ is_repeated f lines (Some v)

-- the number of a line is marked if an earlier line has it
pub marked_is : (f : List ℕ → Option ℕ) (lines : List (ℕ × List ℕ)) (words : List ℕ) (a : Option ℕ) → AreMarks f lines words → is_marked words a ≡ is_repeated f lines a
marked_is f lines words None are = refl
marked_is f lines words (Some v) are = are v

-- one line more
pub marks_more : (f : List ℕ → Option ℕ) (lines : List (ℕ × List ℕ)) (words words' : List ℕ) (k : ℕ × List ℕ) (a : Option ℕ) → f k.1 ≡ a → AreMarks f lines words
    → ((w : ℕ) → is_marked words' (Some w) ≡ (is_marked words (Some w) || is_number w a)) → AreMarks f (lines ++ k ∷ []) words'
marks_more f lines words words' k a is are marked w =
    marked w
    ∙ ap (λ (b : Bool). b || is_number w a) (are w)
    ∙ ap (λ (o : Option ℕ). is_repeated f lines (Some w) || is_number w o) (sym is)
    ∙ ap (λ (b : Bool). is_repeated f lines (Some w) || b) (sym (or-false (is_number w (f k.1))))
    ∙ sym (list_any-append (λ (k : ℕ × List ℕ). is_number w (f k.1)) lines (k ∷ []))

-- a number below the span has a mark
pub has_mark : (span room : ℕ) (a : Option ℕ) → span ≤ room → IfSome a (λ v. v < span) → ForSome a (λ v. v < room)
has_mark span room None most inside v is = absurd (cc)
has_mark span room (Some x) most inside v is =
    let same : x ≡ v = cc in
    omega (arith, same, inside, most)

taken_next : (keys : List (ℕ × List ℕ)) (place : ℕ) (k : ℕ × List ℕ) → drop place keys ≡ k ∷ drop (place + 1) keys → take (place + 1) keys ≡ take place keys ++ k ∷ []
taken_next keys place k next = take-add place 1 keys ∙ ap (λ (l : List (ℕ × List ℕ)). take place keys ++ take 1 l) next

-- the marks of one line more of some
pub marks_next : (f : List ℕ → Option ℕ) (keys : List (ℕ × List ℕ)) (place : ℕ) (words words' : List ℕ) (k : ℕ × List ℕ) (a : Option ℕ) → drop place keys ≡ k ∷ drop (place + 1) keys → f k.1 ≡ a → AreMarks f (take place keys) words
    → ((w : ℕ) → is_marked words' (Some w) ≡ (is_marked words (Some w) || is_number w a)) → AreMarks f (take (place + 1) keys) words'
marks_next f keys place words words' k a next is are marked = subst (λ (ks : List (ℕ × List ℕ)). AreMarks f ks words') (sym (taken_next keys place k next)) (marks_more f (take place keys) words words' k a is are marked)

-- the first is none, and so are the others
pub skip : {A : Type 0} (o : Option A) (rest : List (Option A)) → first_some (o ∷ rest) ≡ None → (o ≡ None) × (first_some rest ≡ None)
skip None rest none = (refl, none)
skip (Some x) rest none = absurd (cc)

-- after lines of which none is at fault
after : {A : Type 0} (give : List (ℕ × List ℕ) → ℕ × List ℕ → Option A) (earlier given rest : List (ℕ × List ℕ)) (k : ℕ × List ℕ) (o : Option A) → first_some (with_earlier give earlier given) ≡ None → give (earlier ++ given) k ≡ o
    → first_some (with_earlier give earlier (given ++ k ∷ rest)) ≡ first_some (o ∷ with_earlier give ((earlier ++ given) ++ k ∷ []) rest)
after {A = A} give earlier [] rest k o none is =
    ap (λ (e : List (ℕ × List ℕ)). first_some (give e k ∷ with_earlier give (e ++ k ∷ []) rest)) (sym (append-nil earlier)) ∙ ap (λ (x : Option A). first_some (x ∷ with_earlier give ((earlier ++ []) ++ k ∷ []) rest)) is
after {A = A} give earlier (x ∷ xs) rest k o none is =
    let here = skip (give earlier x) (with_earlier give (earlier ++ x ∷ []) xs) none in
    let same : (earlier ++ x ∷ []) ++ xs ≡ earlier ++ x ∷ xs = append_assoc earlier (x ∷ []) xs in
    ap (λ (y : Option A). first_some (y ∷ with_earlier give (earlier ++ x ∷ []) (xs ++ k ∷ rest))) here.0
    ∙ after give (earlier ++ x ∷ []) xs rest k o here.1 (ap (λ (e : List (ℕ × List ℕ)). give e k) same ∙ is)
    ∙ ap (λ (e : List (ℕ × List ℕ)). first_some (o ∷ with_earlier give (e ++ k ∷ []) rest)) same

-- what is wrong with a line, by its number and its mark
pub fault_is : (f : List ℕ → Option ℕ) (lines : List (ℕ × List ℕ)) (words : List ℕ) (line : ℕ) (key : List ℕ) (a : Option ℕ) (repeated : Bool) → f key ≡ a → AreMarks f lines words → repeated ≡ is_marked words a → fault_at f lines (line, key) ≡ fault_by line a repeated
fault_is f lines words line key a repeated is are marked =
    ap (λ (o : Option ℕ). fault_by line o (is_repeated f lines o)) is ∙ ap (fault_by line a) (sym (marked ∙ marked_is f lines words a are))

-- one line more that is not at fault
pub fine_next : (f : List ℕ → Option ℕ) (keys : List (ℕ × List ℕ)) (place : ℕ) (k : ℕ × List ℕ) → drop place keys ≡ k ∷ drop (place + 1) keys → first_fault f (take place keys) ≡ None → fault_at f (take place keys) k ≡ None
    → first_fault f (take (place + 1) keys) ≡ None
fine_next f keys place k next none fine = ap (first_fault f) (taken_next keys place k next) ∙ after (fault_at f) [] (take place keys) [] k None none fine

-- the first that is
pub fault_found : (f : List ℕ → Option ℕ) (n : ℕ) (told : Told) (place : ℕ) (k : ℕ × List ℕ) (verdict : Verdict) → drop place told.keys ≡ k ∷ drop (place + 1) told.keys → first_fault f (take place told.keys) ≡ None → fault_at f (take place told.keys) k ≡ Some verdict
    → test_end (record { number = f; keys = n }) told ≡ Ok verdict
fault_found f n told place k verdict next none fault =
    let rest = drop (place + 1) told.keys in
    let whole : told.keys ≡ take place told.keys ++ k ∷ rest = sym (take-append-drop place told.keys) ∙ ap (λ (l : List (ℕ × List ℕ)). take place told.keys ++ l) next in
    let first : first_fault f told.keys ≡ Some verdict = ap (first_fault f) whole ∙ after (fault_at f) [] (take place told.keys) rest k (Some verdict) none fault in
    ap (λ (o : Option Verdict). test_by o told.fault (count_verdict (length told.keys) n)) first

-- no line is at fault
pub none_found : (f : List ℕ → Option ℕ) (n : ℕ) (told : Told) (place : ℕ) (fault : Option KeyFault) → Ends told place fault → first_fault f (take place told.keys) ≡ None → test_end (record { number = f; keys = n }) told ≡ test_by None fault (count_verdict place n)
none_found f n told place fault ends none =
    let all : take place told.keys ≡ told.keys = take_all place told.keys (omega (arith, ends.all)) in
    let first : first_fault f told.keys ≡ None = ap (first_fault f) (sym all) ∙ none in
    ap (λ (o : Option Verdict). test_by o told.fault (count_verdict (length told.keys) n)) first
    ∙ ap (λ (e : Option KeyFault). test_by None e (count_verdict (length told.keys) n)) ends.fault_is
    ∙ ap (λ (many : ℕ). test_by None fault (count_verdict many n)) (sym ends.all)

test_failed : (f : List ℕ → Option ℕ) (n : ℕ) (told : Told) (place now : ℕ) (fault : LineFault) → GivesLine told place now [] (Err fault) → first_fault f (take place told.keys) ≡ None → EndsTest (record { number = f; keys = n }) told (Err (stop_from_line place fault))
test_failed f n told place now line_fault.Read gives none = tt
test_failed f n told place now line_fault.TooLong gives none = none_found f n told place (Some (key_fault.TooLong (place + 1))) gives none
test_failed f n told place now line_fault.TooMany gives none = none_found f n told place (Some key_fault.TooMany) gives none

-- where the lines failed
pub test_at_fault : (f : List ℕ → Option ℕ) (n : ℕ) (told : Told) (place now count : ℕ) (fault : LineFault) (stop : LinesStop) → stop ≡ stop_from_line count fault → count ≡ place → GivesLine told place now [] (Err fault) → first_fault f (take place told.keys) ≡ None
    → EndsTest (record { number = f; keys = n }) told (Err stop)
test_at_fault f n told place now count fault stop is same gives none = rw (is ∙ ap (λ (n : ℕ). stop_from_line n fault) same) (test_failed f n told place now fault gives none)

-- where they ended
pub test_at_end : (f : List ℕ → Option ℕ) (n : ℕ) (told : Told) (place count keys : ℕ) (verdict : Verdict) → verdict ≡ count_verdict count keys → count ≡ place → keys ≡ n → Ends told place None → first_fault f (take place told.keys) ≡ None
    → test_end (record { number = f; keys = n }) told ≡ Ok verdict
test_at_end f n told place count keys verdict is same all ends none =
    none_found f n told place None ends none ∙ ap (λ (v : Verdict). let r : Result Verdict KeyFault = Ok v in r) (ap (λ (m : ℕ). count_verdict m n) (sym same) ∙ ap (count_verdict count) (sym all) ∙ sym is)
