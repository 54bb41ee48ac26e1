-- The keys that a pass has yielded, with those that a call adds.
use Rattle.std.proofs.Common.{◌≡◌, ◌∙◌, ℕ, zero, suc, ◌+◌, ◌<◌, ◌≤◌, List, [], ◌∷◌, ◌++◌, length, take, drop, ap, sym, arith, refl, length-drop, length-take, Option, Some, None}
use Rattle.std.proofs.Math.Seq.{take-add}
use Rattle.std.specs.Option.{ForSome}
use Rattle.cm_io.specs.Passes.{Told, PassesKeys}
use Rattle.cm_keys.proofs.PieceLemmas.{none_some, some_same}

-- the first keys, and some more
take_more : (keys all : List (ℕ × List ℕ)) (n m : ℕ) → keys ≡ take n all → keys ++ take m (drop n all) ≡ take (n + m) all
take_more keys all n m are = ap (λ (l : List (ℕ × List ℕ)). l ++ take m (drop n all)) are ∙ sym (take-add n m all)

-- The next key is yielded.
pub key_is_given : (old new : Option Told) (given now line : ℕ) (key : List ℕ) (keys : List (ℕ × List ℕ)) → new ≡ old → now ≡ given + 1
    → ForSome old (λ told. drop given told.keys ≡ (line, key) ∷ drop now told.keys) → ForSome old (λ told. keys ≡ take given told.keys)
    → ForSome new (λ told. keys ++ (line, key) ∷ [] ≡ take now told.keys)
key_is_given old new given now line key keys same next gives gave told is =
    let there : old ≡ Some told = sym same ∙ is in
    let one : take 1 (drop given told.keys) ≡ (line, key) ∷ [] = ap (λ (l : List (ℕ × List ℕ)). take 1 l) (gives told there) in
    ap (λ (l : List (ℕ × List ℕ)). keys ++ l) (sym one) ∙ take_more keys told.keys given 1 (gave told there) ∙ ap (λ (n : ℕ). take n told.keys) (sym next)

taken : (count given : ℕ) (all : List (ℕ × List ℕ)) → (0 < count → given + count ≤ length all) → length (take count (drop given all)) ≡ count
taken zero given all inside = refl
taken (suc n) given all inside = omega (arith, length-take (suc n) (drop given all), length-drop given all, inside (omega arith))

unknown : (count : ℕ) → (more : List (ℕ × List ℕ)) × (length more ≡ count)
unknown zero = ([], refl)
unknown (suc n) = ((0, []) ∷ (unknown n).0, omega (arith, (unknown n).1))

-- Some more keys are yielded.
pub some_are_given : (old new : Option Told) (given now count : ℕ) (keys : List (ℕ × List ℕ)) → new ≡ old → now ≡ given + count
    → (0 < count → ForSome old (λ told. PassesKeys told now now)) → ForSome old (λ told. keys ≡ take given told.keys)
    → (more : List (ℕ × List ℕ)) × (length more ≡ count) × ForSome new (λ told. keys ++ more ≡ take now told.keys)
some_are_given None new given now count keys same next inside gave = ((unknown count).0, (unknown count).1, λ told is. absurd (none_some told (sym same ∙ is)))
some_are_given (Some told) new given now count keys same next inside gave = (
  take count (drop given told.keys),
  taken count given told.keys (λ some. omega (arith, (inside some told refl).0, next)),
  λ other is.
      let e : told ≡ other = some_same (sym same ∙ is) in
      take_more keys told.keys given count (gave told refl) ∙ ap (λ (n : ℕ). take n told.keys) (sym next) ∙ ap (λ (t : Told). take now t.keys) e,
)

-- Four keys, one after another, are yielded together.
pub one_by_one : (keys : List (ℕ × List ℕ)) (a b c d : ℕ × List ℕ) → (((keys ++ a ∷ []) ++ b ∷ []) ++ c ∷ []) ++ d ∷ [] ≡ keys ++ a ∷ b ∷ c ∷ d ∷ []
one_by_one [] a b c d = refl
one_by_one (k ∷ keys) a b c d = ap (λ (l : List (ℕ × List ℕ)). k ∷ l) (one_by_one keys a b c d)
