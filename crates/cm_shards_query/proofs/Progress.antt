-- What a query has written of some lines, and of one more.
use Rattle.std.proofs.Common.{◌≡◌, ◌⊎◌, ◌∙◌, ℕ, ◌+◌, ◌<◌, List, [], ◌∷◌, ◌++◌, length, take, drop, get_or, Option, None, Bool, true, false, Result, Ok, Err, inl, inr, refl, ap, sym, subst, arith}
use Rattle.std.specs.Prelude.{◌&&◌, IfSome, is_some}
use Rattle.std.proofs.Math.Bool.{and-true}
use Rattle.std.proofs.lemmas.List.{length-map, take_all}
use Rattle.std.proofs.lemmas.List.Folds.{list_all-append}
use Rattle.cm_io.specs.Passes.{Ends, Told}
use Rattle.cm_io.specs.Writing.{then_bytes}
use Rattle.cm_io.specs.declared.key_pass.KeyFault.TheVariants as key_fault
use Rattle.cm_keys.specs.Streams.{GivesLine, HasLineCause}
use Rattle.cm_keys.specs.declared.lines.LineFault.{LineFault}
use Rattle.cm_keys.specs.declared.lines.LineFault.TheVariants.{Read, TooLong, TooMany}
use Rattle.cm_query_batch.specs.BatchLaws.{IsFirst, first_of, same_first}
use Rattle.cm_query_batch.specs.Waiting.{AreAnswers, WaitingKeys}
use Rattle.cm_shards_query.specs.Leaves.{EndsQuery, IsLinesCause, stop_from_line}
use Rattle.cm_shards_query.specs.Written.{number_replies}
use Rattle.cm_shards_query.specs.declared.stop.LinesStop.{LinesStop}
use Rattle.cm_tool_asking.specs.Leaves.{wrote}
use Rattle.cm_tool_asking.specs.Meanings.{Replies, notes_of, text_of}
use Rattle.cm_tool_asking.specs.PassLaws.{SoFar, ends_at_fault}

-- the lines that wait after the first
abbrev pub later_of : WaitingKeys → WaitingKeys
later_of w = record { keys = drop 1 w.keys; answers = drop 1 w.answers }

-- the first, by its bytes and its number
pub next_of : (f : List ℕ → Option ℕ) (span : ℕ) (w : WaitingKeys) (key : List ℕ) (a : Option ℕ) → AreAnswers f span w → 0 < length w.keys → ((d : ℕ × List ℕ) → key ≡ (get_or w.keys 0 d).1) → ((d : Option ℕ) → a ≡ get_or w.answers 0 d)
    → IsFirst f span w (later_of w) ((get_or w.keys 0 (0, [])).0, key) a
next_of f span w key a are some key_is a_is =
    let none : ℕ × List ℕ = (0, []) in
    first_of f span w (later_of w) (get_or w.keys 0 none).0 key a are some (λ d. ap (λ (k : ℕ × List ℕ). k.0) (same_first w.keys some none d)) key_is a_is refl refl

-- whether all lines have a number, with one more
pub complete-more : (f : List ℕ → Option ℕ) (end : ℕ) (keys : List (ℕ × List ℕ)) (k : ℕ × List ℕ) → (number_replies f end).complete (keys ++ k ∷ []) ≡ ((number_replies f end).complete keys && is_some (f k.1))
complete-more f end keys k =
    list_all-append (λ (k : ℕ × List ℕ). is_some (f k.1)) keys (k ∷ []) ∙ ap (λ (b : Bool). (number_replies f end).complete keys && b) (and-true (is_some (f k.1)))

-- at the end of the lines
pub query_at_end : (r : Replies) (told : Told) (place : ℕ) (complete : Bool) (old new : Option (List ℕ)) → Ends told place None → SoFar r (take place told.keys) complete old new
    → EndsQuery r told (wrote old new (notes_of r (take place told.keys))) (Ok complete)
query_at_end r told place complete old new ends so_far =
    let all : take place told.keys ≡ told.keys = take_all place told.keys (omega (arith, ends.all)) in (
      record { fault_is = ends.fault_is; out = so_far.out ∙ ap (λ (ks : List (ℕ × List ℕ)). then_bytes old (text_of r ks)) all; notes_are = ap (notes_of r) all },
      so_far.complete_is ∙ ap r.complete all,
    )

query_failed : (r : Replies) (told : Told) (place now : ℕ) (complete : Bool) (old new : Option (List ℕ)) (fault : LineFault) → GivesLine told place now [] (Err fault) → SoFar r (take place told.keys) complete old new
    → EndsQuery r told (wrote old new (notes_of r (take place told.keys))) (Err (stop_from_line place fault))
query_failed r told place now complete old new Read gives so_far = ends_at_fault r told place now 0 [] complete old new key_fault.Read tt so_far
query_failed r told place now complete old new TooLong gives so_far = ends_at_fault r told place now 0 [] complete old new (key_fault.TooLong (place + 1)) gives so_far
query_failed r told place now complete old new TooMany gives so_far = ends_at_fault r told place now 0 [] complete old new key_fault.TooMany gives so_far

-- and where they failed
pub query_at_fault : (r : Replies) (told : Told) (place now count : ℕ) (complete : Bool) (old new : Option (List ℕ)) (fault : LineFault) (stop : LinesStop) → stop ≡ stop_from_line count fault → count ≡ place → GivesLine told place now [] (Err fault)
    → SoFar r (take place told.keys) complete old new → EndsQuery r told (wrote old new (notes_of r (take place told.keys))) (Err stop)
query_at_fault r told place now count complete old new fault stop is same gives so_far =
    rw (is ∙ ap (λ (n : ℕ). stop_from_line n fault) same) (query_failed r told place now complete old new fault gives so_far)

raised : (fault : LineFault) (count reads reads_now out : ℕ) → HasLineCause reads reads_now (Err fault) → IsLinesCause reads reads_now out out (stop_from_line count fault)
raised Read count reads reads_now out cause = (cause.0, cause.1, refl)
raised TooLong count reads reads_now out cause = (cause, refl)
raised TooMany count reads reads_now out cause = (cause, refl)

-- which counts lines that failed have raised
pub fault_cause : (fault : LineFault) (count : ℕ) (stop : LinesStop) (reads before reads_now out out_now : ℕ) → stop ≡ stop_from_line count fault → before ≡ reads → out_now ≡ out → HasLineCause before reads_now (Err fault) → IsLinesCause reads reads_now out out_now stop
fault_cause fault count stop reads before reads_now out out_now is same quiet cause =
    let here : HasLineCause reads reads_now (Err fault) = subst (λ (n : ℕ). HasLineCause n reads_now (Err fault)) same cause in
    subst (λ (o : ℕ). IsLinesCause reads reads_now out o stop) (sym quiet) (subst (λ (s : LinesStop). IsLinesCause reads reads_now out out s) (sym is) (raised fault count reads reads_now out here))

-- the first number is below the span
pub inside_first : (f : List ℕ → Option ℕ) (span : ℕ) (w : WaitingKeys) (a : Option ℕ) → AreAnswers f span w → 0 < length w.keys → ((d : Option ℕ) → a ≡ get_or w.answers 0 d) → IfSome a (λ v. v < span)
inside_first f span w a are some a_is =
    let unknown : Option ℕ = None in
    let there : 0 < length w.answers = omega (arith, some, ap length are.are, length-map w.keys (λ (k : ℕ × List ℕ). f k.1)) in
    subst (λ (x : Option ℕ). IfSome x (λ v. v < span)) (sym (a_is unknown)) (are.inside 0 unknown there)

-- the bytes of the first that waits
abbrev pub first_key : WaitingKeys → List ℕ
first_key w = (get_or w.keys 0 (0, [])).1

pub first_key_is : (w : WaitingKeys) (d : ℕ × List ℕ) → 0 < length w.keys → first_key w ≡ (get_or w.keys 0 d).1
first_key_is w d some = ap (λ (k : ℕ × List ℕ). k.1) (same_first w.keys some (0, []) d)

-- If no line waits and none is buffered, out was flushed.
pub sent_at : (buffered : List ℕ → Type 0) (many left : ℕ) → (0 < many) ⊎ (((key : List ℕ) × buffered key) ⊎ (left ≡ 0)) → many ≡ 0 → ((key : List ℕ) → buffered key → ⊥) → left ≡ 0
sent_at buffered many left (inl some) none not_there = absurd (omega (arith, some, none))
sent_at buffered many left (inr (inl (key, there))) none not_there = absurd (not_there key there)
sent_at buffered many left (inr (inr sent)) none not_there = sent

pub not_more : (more : Bool) → more ≡ false → (let r : Result Bool LineFault = Ok more in r ≡ Ok true) → ⊥
not_more more is e = absurd (cc)

pub not_failed : (fault : LineFault) → (let r : Result Bool LineFault = Err fault in r ≡ Ok true) → ⊥
not_failed fault e = absurd (cc)
