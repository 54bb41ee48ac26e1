-- The answers of keys that are looked up together, as a list.
use Rattle.std.proofs.Common.{◌≡◌, ◌<◌, ◌∙◌, ℕ, List, [], ◌++◌, Option, None, ap, arith, sym, get_or, length, map, take, drop, append-nil}
use Rattle.std.proofs.lemmas.List.{drop_all, get_or-map, get_or_default, length-map, same_lists, take_all}
use Rattle.std.proofs.lemmas.List.Elements.{All-from_get_or}
use Rattle.std.specs.Prelude.{All, IfSome}
use Rattle.cm_algo_scheme.specs.Answering.{AnswersAll, ArePlaces}

-- all of a list is written again
pub all_written : {X : Type 0} (old new : List X) → length new ≡ length old → take (length old) (new ++ drop (length new) old) ≡ new
all_written old new same =
    ap (λ l. take (length old) (new ++ l)) (drop_all (length new) old (omega (arith, same)))
    ∙ ap (λ l. take (length old) l) (append-nil new)
    ∙ take_all (length old) new (omega (arith, same))

-- each of the places of some keys is that of a key
pub places_of : (place : List ℕ → List ℕ) (keys : List (ℕ × List ℕ)) (places : List (List ℕ)) → places ≡ map (λ k. place k.1) keys → ArePlaces place places
places_of place keys places all = λ i l.
    let none : ℕ × List ℕ = (0, []) in
    ((get_or keys i none).1, ap (λ (p : List (List ℕ)). get_or p i []) all ∙ get_or-map (λ (k : ℕ × List ℕ). place k.1) keys i none [] (omega (arith, l, ap length all, length-map keys (λ (k : ℕ × List ℕ). place k.1))))

-- and their answers are those of the keys
pub answers_of : (place : List ℕ → List ℕ) (answer : List ℕ → Option ℕ) (span : ℕ) (keys : List (ℕ × List ℕ)) (places : List (List ℕ)) (answers : List (Option ℕ)) → places ≡ map (λ k. place k.1) keys
    → AnswersAll place answer span places answers → answers ≡ map (λ k. answer k.1) keys
answers_of place answer span keys places answers all found =
    let none : ℕ × List ℕ = (0, []) in
    let p = λ (k : ℕ × List ℕ). place k.1 in
    let h = λ (k : ℕ × List ℕ). answer k.1 in
    let many : length places ≡ length keys = ap length all ∙ length-map keys p in
    same_lists answers (map h keys) (found.many ∙ many ∙ sym (length-map keys h)) (λ i d l.
    let inside : i < length keys = omega (arith, l, found.many, many) in
    get_or_default answers i d None l
    ∙ found.are i (omega (arith, l, found.many)) (get_or keys i none).1 (ap (λ (ps : List (List ℕ)). get_or ps i []) all ∙ get_or-map p keys i none [] inside)
    ∙ sym (get_or-map h keys i none d inside))

pub answers_inside : (place : List ℕ → List ℕ) (answer : List ℕ → Option ℕ) (span : ℕ) (places : List (List ℕ)) (answers : List (Option ℕ)) → AnswersAll place answer span places answers → All (λ a. IfSome a (λ v. v < span)) answers
answers_inside place answer span places answers found = All-from_get_or (λ (a : Option ℕ). IfSome a (λ v. v < span)) answers None (λ i l. found.inside i (omega (arith, l, found.many)))
