use Rattle.std.proofs.Common.{rules, arith, ◌≡◌, ◌∙◌, ◌+◌, ◌*◌, ◌++◌, List, ℕ, [], ◌∷◌, refl}
use Rattle.cm_keys_lent.specs.Ends.{key_in}
use Rattle.cm_lib_lent.specs.Numbers.{ArePlaces}
use Rattle.cm_lib_lent.proofs.NumberLemmas.{place_four, place_one, places_more}
use Rattle.cm_lib_lent.proofs.numbers.place_keys.Goals as goal

-- four places more
pub loop-g-preserved : goal.loop-g-preserved
loop-g-preserved g c =
    let place : List ℕ → List ℕ = g.A.Answers.place_of c.args.function.now in
    let keys = c.args.keys.now in
    let first : ℕ = c.args.from + 4 * c.loop-g.g in
    let at : ℕ → List ℕ = λ i. place (key_in keys.bytes keys.ends i) in
    let four : List (List ℕ) = at first ∷ at (first + 1) ∷ at (first + 2) ∷ at (first + 3) ∷ [] in
    let hashed : c.places_of_four-four.result ≡ four = c.places_of_four-four.ensures.places ∙ rw (c.key.ensures.key, c.key-in-loop-g.ensures.key, c.key-in-loop-g-2.ensures.key, c.key-in-loop-g-3.ensures.key) refl in
    let grown : c.try_extend_from_slice.new.self.items ≡ c.loop-g.places.items ++ c.places_of_four-four.result = search rules in
    let next : first + 4 ≡ c.args.from + 4 * (c.loop-g.g + 1) = omega arith in
    let are : ArePlaces place keys c.args.from (first + 4) (c.loop-g.places.items ++ four) =
    places_more place keys c.args.from first (first + 4) c.loop-g.places.items four (omega arith) (omega arith) c.loop-g.invariant (place_four place keys first _ _ _ _ refl refl refl refl) in
    rw (grown, hashed, ← next) are

-- one place more
pub loop-i-preserved : goal.loop-i-preserved
loop-i-preserved g c =
    let place : List ℕ → List ℕ = g.A.Answers.place_of c.args.function.now in
    let keys = c.args.keys.now in
    let one : c.place.result ≡ place (key_in keys.bytes keys.ends c.loop-i.i) = c.place.ensures.place ∙ rw c.key-in-loop-i.ensures.key refl in
    rw c.push.ensures.items
    (places_more place keys c.args.from c.loop-i.i (c.loop-i.i + 1) c.loop-i.places.items (c.place.result ∷ []) (search rules) (omega arith) c.loop-i.invariant (place_one place keys c.loop-i.i (c.loop-i.i + 1) c.place.result refl one))
