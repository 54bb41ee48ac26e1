-- What a filter has written of some keys, and of one more.
use Rattle.std.proofs.Common.{◌≡◌, ◌∙◌, ℕ, ◌<◌, List, [], ◌∷◌, ◌++◌, length, take, drop, get_or, Option, None, Some, Bool, true, false, Result, Ok, refl, ap, sym, subst, arith}
use Rattle.std.specs.Prelude.{◌&&◌, if◌then◌else◌, is_some}
use Rattle.std.proofs.Math.Bool.{and-true}
use Rattle.std.proofs.lemmas.List.{take_all}
use Rattle.std.proofs.lemmas.List.Folds.{list_all-append}
use Rattle.cm_filter.specs.Filters.{Filter, filter_answer, holds}
use Rattle.cm_filter_members.specs.Written.{filter_replies}
use Rattle.cm_io.specs.Passes.{Ends, Told}
use Rattle.cm_io.specs.Writing.{joined, then_bytes}
use Rattle.cm_query_batch.specs.BatchLaws.{first_of, same_first}
use Rattle.cm_query_batch.specs.Earlier.{with_earlier}
use Rattle.cm_query_batch.specs.Waiting.{AreAnswers, WaitingKeys}
use Rattle.cm_query_batch.specs.declared.fault.QueryFault.{QueryFault}
use Rattle.cm_tool_asking.specs.Leaves.{EndsPass, wrote}
use Rattle.cm_tool_asking.specs.Meanings.{notes_of, text_of}
use Rattle.cm_tool_asking.specs.PassLaws.{SoFar}

-- there is an answer exactly if a key holds
some_if : (b : Bool) → is_some (let a : Option ℕ = if b then Some 0 else None in a) ≡ b
some_if true = refl
some_if false = refl

-- The first of the keys that wait has these bytes and holds or not, and the others wait then.
pub record IsNext (f : Filter) (waiting later : WaitingKeys) (k : ℕ × List ℕ) (holding : Bool) : Type 0 where
  pub keys : waiting.keys ≡ k ∷ later.keys
  pub holding_is : holding ≡ holds f k.1
  pub rest : AreAnswers (filter_answer f) 1 later

-- the first key that waits, by its bytes
pub next_of : (f : Filter) (w later : WaitingKeys) (key : List ℕ) (a : Option ℕ) (holding : Bool) → AreAnswers (filter_answer f) 1 w → 0 < length w.keys → ((d : ℕ × List ℕ) → key ≡ (get_or w.keys 0 d).1) → ((d : Option ℕ) → a ≡ get_or w.answers 0 d)
    → holding ≡ is_some a → later.keys ≡ drop 1 w.keys → later.answers ≡ drop 1 w.answers → IsNext f w later ((get_or w.keys 0 (0, [])).0, key) holding
next_of f w later key a holding are some key_is a_is is keys answers =
    let none : ℕ × List ℕ = (0, []) in
    let first = first_of (filter_answer f) 1 w later (get_or w.keys 0 none).0 key a are some (λ d. ap (λ (k : ℕ × List ℕ). k.0) (same_first w.keys some none d)) key_is a_is keys answers in
    record { keys = first.keys; holding_is = is ∙ ap is_some (sym first.answer) ∙ some_if (holds f key); rest = first.rest }

-- whether all keys hold, with one more
pub complete-more : (f : Filter) (end : ℕ) (keys : List (ℕ × List ℕ)) (k : ℕ × List ℕ) → (filter_replies f end).complete (keys ++ k ∷ []) ≡ ((filter_replies f end).complete keys && holds f k.1)
complete-more f end keys k =
    list_all-append (λ (k : ℕ × List ℕ). holds f k.1) keys (k ∷ []) ∙ ap (λ (b : Bool). (filter_replies f end).complete keys && b) (and-true (holds f k.1))

none_noted : (f : Filter) (end : ℕ) (earlier keys : List (ℕ × List ℕ)) → joined (with_earlier (filter_replies f end).note earlier keys) ≡ []
none_noted f end earlier [] = refl
none_noted f end earlier (k ∷ keys) = none_noted f end (earlier ++ k ∷ []) keys

-- there are no notes
no_notes : (f : Filter) (end : ℕ) (keys : List (ℕ × List ℕ)) → notes_of (filter_replies f end) keys ≡ []
no_notes f end keys = none_noted f end [] keys

-- how known keys were asked for, by the notes of some
pub without_notes : (f : Filter) (end : ℕ) (told : Told) (keys : List (ℕ × List ℕ)) (old new : Option (List ℕ)) (result : Result Bool QueryFault)
    → EndsPass (filter_replies f end) told (wrote old new (notes_of (filter_replies f end) keys)) result → EndsPass (filter_replies f end) told (wrote old new []) result
without_notes f end told keys old new result ends = subst (λ (notes : List ℕ). EndsPass (filter_replies f end) told (wrote old new notes) result) (no_notes f end keys) ends

-- at the end of the keys
pub ends_at_end : (f : Filter) (end : ℕ) (told : Told) (place : ℕ) (complete : Bool) (old new : Option (List ℕ)) → Ends told place None → SoFar (filter_replies f end) (take place told.keys) complete old new
    → EndsPass (filter_replies f end) told (wrote old new []) (Ok complete)
ends_at_end f end told place complete old new ends so_far =
    let r = filter_replies f end in
    let all : take place told.keys ≡ told.keys = take_all place told.keys (omega (arith, ends.all)) in (
      record { fault_is = ends.fault_is; out = so_far.out ∙ ap (λ (ks : List (ℕ × List ℕ)). then_bytes old (text_of r ks)) all; notes_are = sym (no_notes f end told.keys) },
      so_far.complete_is ∙ ap r.complete all,
    )
