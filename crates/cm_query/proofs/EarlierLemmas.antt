-- One key more, after keys that each see those before them.
use Rattle.std.proofs.Common.{◌≡◌, ◌∙◌, ℕ, ◌+◌, cond, List, [], ◌∷◌, ◌++◌, Option, None, Some, Bool, ap, arith, append-nil}
use Rattle.std.specs.Prelude.{is_none}
use Rattle.std.specs.List.{count_by}
use Rattle.std.proofs.lemmas.List.{length-append}
use Rattle.std.proofs.lemmas.List.Sums.{sum_by-append}
use Rattle.cm_io.specs.WritingLaws.{joined-append}
use Rattle.cm_io.specs.Writing.{joined}
use Rattle.cm_query.specs.Repeats.{is_repeated, repeats_of}
use Rattle.cm_query_batch.specs.Earlier.{with_earlier}
use Rattle.cm_query_batch.specs.EarlierLaws.{with_earlier-more}
use Rattle.cm_query.specs.Tallies.{counted, tally_of}
use Rattle.cm_query.specs.Texts.{note_of, notes_of}
use Rattle.cm_query.specs.declared.tally.Tally.{Tally}

-- the notes
pub notes_of-more : (f : List ℕ → Option ℕ) (keys : List (ℕ × List ℕ)) (k : ℕ × List ℕ) → notes_of f (keys ++ k ∷ []) ≡ notes_of f keys ++ note_of k.0 (f k.1) (is_repeated f keys (f k.1))
notes_of-more f keys k =
    let give = λ (earlier : List (ℕ × List ℕ)) (k : ℕ × List ℕ). note_of k.0 (f k.1) (is_repeated f earlier (f k.1)) in
    ap joined (with_earlier-more give [] keys k) ∙ joined-append (with_earlier give [] keys) (give keys k ∷ []) ∙ ap (λ (l : List ℕ). notes_of f keys ++ l) (append-nil (give keys k))

-- a count
count_one : {A : Type 0} (p : A → Bool) (xs : List A) (x : A) → count_by p (xs ++ x ∷ []) ≡ count_by p xs + cond {A = ℕ} (p x) 1 0
count_one {A = A} p xs x = omega (arith, sum_by-append (λ (y : A). cond {A = ℕ} (p y) 1 0) xs (x ∷ []))

repeated_more : (f : List ℕ → Option ℕ) (keys : List (ℕ × List ℕ)) (k : ℕ × List ℕ)
    → (tally_of f (keys ++ k ∷ [])).repeated ≡ (tally_of f keys).repeated + cond {A = ℕ} (is_repeated f keys (f k.1)) 1 0
repeated_more f keys k =
    ap (count_by (λ (t : Bool). t)) (with_earlier-more (λ earlier k. is_repeated f earlier (f k.1)) [] keys k) ∙ count_one (λ (t : Bool). t) (repeats_of f keys) (is_repeated f keys (f k.1))

unknown_more : (f : List ℕ → Option ℕ) (keys : List (ℕ × List ℕ)) (k : ℕ × List ℕ) → (tally_of f (keys ++ k ∷ [])).unknown ≡ (tally_of f keys).unknown + cond {A = ℕ} (is_none (f k.1)) 1 0
unknown_more f keys k = count_one (λ (k : ℕ × List ℕ). is_none (f k.1)) keys k

-- a tally by its counts
abbrev make : ℕ → ℕ → ℕ → Tally
make lines repeated unknown = record { lines = lines; repeated = repeated; unknown = unknown }

same_tally : (a b c d e g : ℕ) → a ≡ d → b ≡ e → c ≡ g → make a b c ≡ make d e g
same_tally a b c d e g lines repeated unknown = ap (λ (n : ℕ). make n b c) lines ∙ ap (λ (n : ℕ). make d n c) repeated ∙ ap (λ (n : ℕ). make d e n) unknown

-- the tally
pub tally_of-more : (f : List ℕ → Option ℕ) (keys : List (ℕ × List ℕ)) (k : ℕ × List ℕ) (a : Option ℕ) → f k.1 ≡ a → counted (tally_of f keys) a (is_repeated f keys a) ≡ tally_of f (keys ++ k ∷ [])
tally_of-more f keys k None is =
    let none : cond {A = ℕ} (is_repeated f keys (f k.1)) 1 0 ≡ 0 = ap (λ (o : Option ℕ). cond {A = ℕ} (is_repeated f keys o) 1 0) is in
    let one : cond {A = ℕ} (is_none (f k.1)) 1 0 ≡ 1 = ap (λ (o : Option ℕ). cond {A = ℕ} (is_none o) 1 0) is in
    same_tally _ _ _ _ _ _ (omega (arith, length-append keys (k ∷ []))) (omega (arith, repeated_more f keys k)) (omega (arith, unknown_more f keys k))
tally_of-more f keys k (Some v) is =
    let same : cond {A = ℕ} (is_repeated f keys (f k.1)) 1 0 ≡ cond {A = ℕ} (is_repeated f keys (Some v)) 1 0 = ap (λ (o : Option ℕ). cond {A = ℕ} (is_repeated f keys o) 1 0) is in
    let none : cond {A = ℕ} (is_none (f k.1)) 1 0 ≡ 0 = ap (λ (o : Option ℕ). cond {A = ℕ} (is_none o) 1 0) is in
    same_tally _ _ _ _ _ _ (omega (arith, length-append keys (k ∷ []))) (omega (arith, repeated_more f keys k)) (omega (arith, unknown_more f keys k))
