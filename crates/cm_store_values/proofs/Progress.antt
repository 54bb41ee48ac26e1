-- What a store has written of some keys, and of one more.
use Rattle.std.proofs.Common.{◌≡◌, ◌∙◌, ℕ, List, [], ◌∷◌, ◌++◌, ◌<◌, length, take, drop, get_or, Option, None, Some, Bool, Ok, refl, ap, sym, arith}
use Rattle.std.specs.Prelude.{◌&&◌, MatchOption, is_some}
use Rattle.std.specs.Option.{option_map}
use Rattle.std.proofs.Math.Bool.{and-true}
use Rattle.std.proofs.lemmas.List.{take_all}
use Rattle.std.proofs.lemmas.List.Folds.{list_all-append}
use Rattle.cm_bdz.specs.Functions.{bdz_answer}
use Rattle.cm_io.specs.Passes.{Ends, Told}
use Rattle.cm_io.specs.Writing.{then_bytes}
use Rattle.cm_query_batch.specs.BatchLaws.{IsFirst, first_of, same_first}
use Rattle.cm_query_batch.specs.Waiting.{AreAnswers, WaitingKeys}
use Rattle.cm_store.specs.Stores.{Store, look}
use Rattle.cm_store_values.specs.Written.{store_replies}
use Rattle.cm_tool_asking.specs.Leaves.{EndsPass, wrote}
use Rattle.cm_tool_asking.specs.Meanings.{Replies, notes_of, text_of}
use Rattle.cm_tool_asking.specs.PassLaws.{SoFar}

-- the keys that wait after the first
abbrev pub later_of : WaitingKeys → WaitingKeys
later_of w = record { keys = drop 1 w.keys; answers = drop 1 w.answers }

-- the first, by its bytes and its number
pub next_of : (s : Store) (w : WaitingKeys) (key : List ℕ) (a : Option ℕ) → AreAnswers (bdz_answer s.index) s.index.keys w → 0 < length w.keys → ((d : ℕ × List ℕ) → key ≡ (get_or w.keys 0 d).1) → ((d : Option ℕ) → a ≡ get_or w.answers 0 d)
    → IsFirst (bdz_answer s.index) s.index.keys w (later_of w) ((get_or w.keys 0 (0, [])).0, key) a
next_of s w key a are some key_is a_is =
    let none : ℕ × List ℕ = (0, []) in
    first_of (bdz_answer s.index) s.index.keys w (later_of w) (get_or w.keys 0 none).0 key a are some (λ d. ap (λ (k : ℕ × List ℕ). k.0) (same_first w.keys some none d)) key_is a_is refl refl

-- the bytes of what was found
pub found_is : {R : Type 0} (bytes : R → List ℕ) (found : Option R) (looked : Option (List ℕ)) → MatchOption found (looked ≡ None) (λ v. looked ≡ Some (bytes v)) → option_map bytes found ≡ looked
found_is bytes None looked is = sym is
found_is bytes (Some v) looked is = sym is

-- there are some if something was found
pub some_found : {R : Type 0} (bytes : R → List ℕ) (found : Option R) → is_some found ≡ is_some (option_map bytes found)
some_found bytes None = refl
some_found bytes (Some v) = refl

-- whether all keys have a value, with one more
pub complete-more : (s : Store) (end : ℕ) (keys : List (ℕ × List ℕ)) (k : ℕ × List ℕ) → (store_replies s end).complete (keys ++ k ∷ []) ≡ ((store_replies s end).complete keys && is_some (look s k.1))
complete-more s end keys k =
    list_all-append (λ (k : ℕ × List ℕ). is_some (look s k.1)) keys (k ∷ []) ∙ ap (λ (b : Bool). (store_replies s end).complete keys && b) (and-true (is_some (look s k.1)))

-- at the end of the keys
pub ends_at_end : (r : Replies) (told : Told) (place : ℕ) (complete : Bool) (old new : Option (List ℕ)) → Ends told place None → SoFar r (take place told.keys) complete old new
    → EndsPass r told (wrote old new (notes_of r (take place told.keys))) (Ok complete)
ends_at_end r told place complete old new ends so_far =
    let all : take place told.keys ≡ told.keys = take_all place told.keys (omega (arith, ends.all)) in (
      record { fault_is = ends.fault_is; out = so_far.out ∙ ap (λ (ks : List (ℕ × List ℕ)). then_bytes old (text_of r ks)) all; notes_are = ap (notes_of r) all },
      so_far.complete_is ∙ ap r.complete all,
    )
