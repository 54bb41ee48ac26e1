-- Where there are notes.
use Rattle.std.proofs.Common.{◌≡◌, ◌∙◌, ◌↔◌, ℕ, ◌+◌, cond, List, [], ◌∷◌, ◌++◌, Option, None, Some, Bool, true, false, refl, ap, arith}
use Rattle.std.specs.Prelude.{is_none}
use Rattle.std.specs.List.{count_by}
use Rattle.std.proofs.lemmas.List.Sums.{sum_by-cons}
use Rattle.cm_io.specs.Writing.{joined}
use Rattle.cm_query.specs.Repeats.{is_repeated}
use Rattle.cm_query_batch.specs.Earlier.{with_earlier}
use Rattle.cm_query.specs.Tallies.{tally_of}
use Rattle.cm_query.specs.Texts.{note_of, notes_of}

both_nil : (xs ys : List ℕ) → xs ++ ys ≡ [] → (xs ≡ []) × (ys ≡ [])
both_nil [] ys none = (refl, none)
both_nil (x ∷ xs) ys none = absurd (cc)

weight_none : (line : ℕ) (a : Option ℕ) (repeated : Bool) → note_of line a repeated ≡ [] → cond {A = ℕ} repeated 1 0 + cond {A = ℕ} (is_none a) 1 0 ≡ 0
weight_none line None repeated none = absurd (cc)
weight_none line (Some v) true none = absurd (cc)
weight_none line (Some v) false none = omega arith

note_none : (line : ℕ) (a : Option ℕ) (repeated : Bool) → cond {A = ℕ} repeated 1 0 + cond {A = ℕ} (is_none a) 1 0 ≡ 0 → note_of line a repeated ≡ []
note_none line None repeated zero = absurd (omega arith)
note_none line (Some v) true zero = absurd (omega arith)
note_none line (Some v) false zero = refl

-- what is counted from some key on, and what is noted
abbrev counts : (List ℕ → Option ℕ) → List (ℕ × List ℕ) → List (ℕ × List ℕ) → ℕ
counts f earlier keys = count_by (λ (t : Bool). t) (with_earlier (λ earlier k. is_repeated f earlier (f k.1)) earlier keys) + count_by (λ (k : ℕ × List ℕ). is_none (f k.1)) keys

abbrev noted : (List ℕ → Option ℕ) → List (ℕ × List ℕ) → List (ℕ × List ℕ) → List ℕ
noted f earlier keys = joined (with_earlier (λ earlier k. note_of k.0 (f k.1) (is_repeated f earlier (f k.1))) earlier keys)

counts-cons : (f : List ℕ → Option ℕ) (earlier : List (ℕ × List ℕ)) (k : ℕ × List ℕ) (keys : List (ℕ × List ℕ))
    → counts f earlier (k ∷ keys) ≡ cond {A = ℕ} (is_repeated f earlier (f k.1)) 1 0 + cond {A = ℕ} (is_none (f k.1)) 1 0 + counts f (earlier ++ k ∷ []) keys
counts-cons f earlier k keys =
    let give = λ (earlier : List (ℕ × List ℕ)) (k : ℕ × List ℕ). is_repeated f earlier (f k.1) in
    let rest = with_earlier give (earlier ++ k ∷ []) keys in
    let repeated : count_by (λ (t : Bool). t) (with_earlier give earlier (k ∷ keys)) ≡ cond {A = ℕ} (give earlier k) 1 0 + count_by (λ (t : Bool). t) rest = sum_by-cons (λ (t : Bool). cond {A = ℕ} t 1 0) (give earlier k) rest in
    let unknown : count_by (λ (k : ℕ × List ℕ). is_none (f k.1)) (k ∷ keys) ≡ cond {A = ℕ} (is_none (f k.1)) 1 0 + count_by (λ (k : ℕ × List ℕ). is_none (f k.1)) keys = sum_by-cons (λ (k : ℕ × List ℕ). cond {A = ℕ} (is_none (f k.1)) 1 0) k keys in
    omega arith

none_counted : (f : List ℕ → Option ℕ) (earlier keys : List (ℕ × List ℕ)) → noted f earlier keys ≡ [] → counts f earlier keys ≡ 0
none_counted f earlier [] none = omega arith
none_counted f earlier (k ∷ keys) none =
    let parts = both_nil (note_of k.0 (f k.1) (is_repeated f earlier (f k.1))) (noted f (earlier ++ k ∷ []) keys) none in
    omega (arith, counts-cons f earlier k keys, weight_none k.0 (f k.1) (is_repeated f earlier (f k.1)) parts.0, none_counted f (earlier ++ k ∷ []) keys parts.1)

none_noted : (f : List ℕ → Option ℕ) (earlier keys : List (ℕ × List ℕ)) → counts f earlier keys ≡ 0 → noted f earlier keys ≡ []
none_noted f earlier [] zero = refl
none_noted f earlier (k ∷ keys) zero =
    ap (λ (l : List ℕ). l ++ noted f (earlier ++ k ∷ []) keys) (note_none k.0 (f k.1) (is_repeated f earlier (f k.1)) (omega (arith, counts-cons f earlier k keys, zero)))
    ∙ none_noted f (earlier ++ k ∷ []) keys (omega (arith, counts-cons f earlier k keys, zero))

-- There is a note exactly where a key is repeated or unknown.
pub noted_exactly : (f : List ℕ → Option ℕ) (keys : List (ℕ × List ℕ)) → (notes_of f keys ≡ []) ↔ ((tally_of f keys).repeated + (tally_of f keys).unknown ≡ 0)
noted_exactly f keys = (none_counted f [] keys, none_noted f [] keys)
