-- The pieces of a text are its lines.
use Rattle.std.proofs.Common.{◌≡◌, ◌≢◌, ◌==◌, ℕ, suc, List, [], ◌∷◌, Bool, true, false, if◌then◌else◌, refl, ap, inl, inr, arith}
use Rattle.std.specs.Prelude.{All}
use Rattle.std.proofs.lemmas.List.Elements.{All-nil, All-cons}
use Rattle.cm_keys.specs.Lines.{push_first, pieces}
use Rattle.cm_keys.specs.SplittingLaws.{AreLines}

abbrev HasNone : ℕ → List ℕ → Type 0
HasNone end line = All (λ b. b ≢ end) line

-- an end before the lines is one empty line more
after_end : (end b : ℕ) (bs : List ℕ) (ps : List (List ℕ)) → b ≡ end → AreLines end bs ps → AreLines end (b ∷ bs) ([] ∷ ps)
after_end end b bs ps is lines = record {
  without_end = All-cons (HasNone end) [] ps (All-nil (λ b. b ≢ end)) lines.without_end;
  whole = elim lines.whole [
    | inl same ↦ inl (rw is (ap (λ (l : List ℕ). end ∷ l) same))
    | inr more ↦ inr (rw is (ap (λ (l : List ℕ). end ∷ l) more.0), (b ∷ more.1.0, more.1.1, ap (λ (l : List ℕ). b ∷ l) more.1.2, more.1.3))
  ];
}

-- a byte before the lines belongs to the first of them
after_byte : (end b : ℕ) (bs : List ℕ) (ps : List (List ℕ)) → b ≢ end → AreLines end bs ps → (ps ≡ [] → bs ≡ []) → AreLines end (b ∷ bs) (push_first b ps)
after_byte end b bs [] differs lines none =
    let empty : bs ≡ [] = none refl in
    record {
      without_end = All-cons (HasNone end) (b ∷ []) [] (All-cons (λ b. b ≢ end) b [] differs (All-nil (λ b. b ≢ end))) (All-nil (HasNone end));
      whole = inr (rw empty refl, ([], b, rw empty refl, differs));
    }
after_byte end b bs (p ∷ ps) differs lines none = record {
  without_end = All-cons (HasNone end) (b ∷ p) ps
      (All-cons (λ b. b ≢ end) b p differs (lines.without_end 0 p (omega arith)))
      (λ k d inside. lines.without_end (suc k) d (omega (arith, inside)));
  whole = elim lines.whole [
    | inl same ↦ inl (ap (λ (l : List ℕ). b ∷ l) same)
    | inr more ↦ inr (ap (λ (l : List ℕ). b ∷ l) more.0, (b ∷ more.1.0, more.1.1, ap (λ (l : List ℕ). b ∷ l) more.1.2, more.1.3))
  ];
}

one_byte : (end b : ℕ) (bs : List ℕ) (ps : List (List ℕ)) (is_end : Bool) → (b == end) ≡ is_end → AreLines end bs ps → (ps ≡ [] → bs ≡ []) → AreLines end (b ∷ bs) (if is_end then [] ∷ ps else push_first b ps)
one_byte end b bs ps true is lines none = after_end end b bs ps (grind (arith, is)) lines
one_byte end b bs ps false is lines none = after_byte end b bs ps (λ same. grind (arith, is, same)) lines none

some_piece : (b : ℕ) (ps : List (List ℕ)) (is_end : Bool) → (if is_end then [] ∷ ps else push_first b ps) ≡ [] → ⊥
some_piece b ps true none = cc
some_piece b [] false none = cc
some_piece b (p ∷ ps) false none = cc

no_pieces : (end : ℕ) (bytes : List ℕ) → pieces end bytes ≡ [] → bytes ≡ []
no_pieces end [] none = refl
no_pieces end (b ∷ bs) none = absurd (some_piece b (pieces end bs) _ none)

pub pieces_are_lines : (end : ℕ) (bytes : List ℕ) → AreLines end bytes (pieces end bytes)
pieces_are_lines end [] = record { without_end = All-nil (HasNone end); whole = inl refl }
pieces_are_lines end (b ∷ bs) = one_byte end b bs (pieces end bs) _ refl (pieces_are_lines end bs) (no_pieces end bs)
