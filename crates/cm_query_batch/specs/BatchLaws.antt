-- Lemmas about the keys of a batch that wait, for those who go through them one after another.
use Rattle.std.proofs.Common.{◌≡◌, ◌∙◌, ℕ, ◌+◌, ◌<◌, List, [], ◌∷◌, ◌++◌, length, map, drop, get_or, Option, None, refl, ap, sym, subst, arith, Bool, true, false, ◌⊎◌, inl, inr, ⊎_elim}
use Rattle.std.specs.Prelude.{IfSome}
use Rattle.std.proofs.lemmas.List.{drop-drop, drop-map, get_or-map, length-map}
use Rattle.std.proofs.lemmas.List.Elements.{All-drop, All-nil, All-same}
use Rattle.cm_query_batch.specs.Waiting.{AreAnswers, WaitingKeys}

-- what waits is the first and the rest
first_and_rest : {A : Type 0} (xs : List A) (d : A) → 0 < length xs → xs ≡ get_or xs 0 d ∷ drop 1 xs
first_and_rest [] d some = absurd (omega (arith, some))
first_and_rest (x ∷ xs) d some = refl

-- The first of the keys that wait has this answer, and the others wait then.
pub record IsFirst (f : List ℕ → Option ℕ) (span : ℕ) (waiting later : WaitingKeys) (k : ℕ × List ℕ) (a : Option ℕ) : Type 0 where
  pub keys : waiting.keys ≡ k ∷ later.keys
  pub answer : f k.1 ≡ a
  pub inside : IfSome a (λ v. v < span)
  pub rest : AreAnswers f span later

-- the first, by what is read of it
pub first_of : (f : List ℕ → Option ℕ) (span : ℕ) (w later : WaitingKeys) (line : ℕ) (key : List ℕ) (a : Option ℕ) → AreAnswers f span w → 0 < length w.keys → ((d : ℕ × List ℕ) → line ≡ (get_or w.keys 0 d).0) → ((d : ℕ × List ℕ) → key ≡ (get_or w.keys 0 d).1)
    → ((d : Option ℕ) → a ≡ get_or w.answers 0 d) → later.keys ≡ drop 1 w.keys → later.answers ≡ drop 1 w.answers → IsFirst f span w later (line, key) a
first_of f span w later line key a are some line_is key_is a_is keys answers =
    let none : ℕ × List ℕ = (0, []) in
    let unknown : Option ℕ = None in
    let g = λ (k : ℕ × List ℕ). f k.1 in
    let first = get_or w.keys 0 none in
    let there : 0 < length w.answers = omega (arith, some, ap length are.are, length-map w.keys g) in
    let pair : (let k : ℕ × List ℕ = (line, key) in k) ≡ first = ap (λ (n : ℕ). let k : ℕ × List ℕ = (n, key) in k) (line_is none) ∙ ap (λ (l : List ℕ). let k : ℕ × List ℕ = (first.0, l) in k) (key_is none) in
    record {
      keys = first_and_rest w.keys none some ∙ ap (λ (k : ℕ × List ℕ). k ∷ drop 1 w.keys) (sym pair) ∙ ap (λ (l : List (ℕ × List ℕ)). (line, key) ∷ l) (sym keys);
      answer = ap f (key_is none) ∙ sym (a_is unknown ∙ ap (λ (l : List (Option ℕ)). get_or l 0 unknown) are.are ∙ get_or-map g w.keys 0 none unknown some);
      inside = subst (λ (x : Option ℕ). IfSome x (λ v. v < span)) (sym (a_is unknown)) (are.inside 0 unknown there);
      rest = record {
        are = answers ∙ ap (λ (l : List (Option ℕ)). drop 1 l) are.are ∙ drop-map g 1 w.keys ∙ ap (map g) (sym keys);
        inside = All-same (λ (x : Option ℕ). IfSome x (λ v. v < span)) _ _ answers (All-drop (λ (x : Option ℕ). IfSome x (λ v. v < span)) 1 w.answers are.inside);
      };
    }

-- of the keys of a pass, the first that waits and those after it
pub ahead_of : (keys : List (ℕ × List ℕ)) (n before now : ℕ) (old new later : List (ℕ × List ℕ)) (k : ℕ × List ℕ) → drop n keys ≡ old ++ drop before keys → new ++ drop now keys ≡ old ++ drop before keys → new ≡ k ∷ later
    → (drop n keys ≡ k ∷ drop (n + 1) keys) × (drop (n + 1) keys ≡ later ++ drop now keys)
ahead_of keys n before now old new later k ahead takes first =
    let all : drop n keys ≡ k ∷ (later ++ drop now keys) = ahead ∙ sym takes ∙ ap (λ (l : List (ℕ × List ℕ)). l ++ drop now keys) first in
    let rest : drop (n + 1) keys ≡ later ++ drop now keys = sym (drop-drop 1 n keys) ∙ ap (λ (l : List (ℕ × List ℕ)). drop 1 l) all in
    (all ∙ ap (λ (l : List (ℕ × List ℕ)). k ∷ l) (sym rest), rest)

-- no key waits
pub none_waits : (f : List ℕ → Option ℕ) (span : ℕ) (w : WaitingKeys) → w.keys ≡ [] → w.answers ≡ [] → AreAnswers f span w
none_waits f span w keys answers = record {
  are = answers ∙ sym (ap (map (λ (k : ℕ × List ℕ). f k.1)) keys);
  inside = All-same (λ (a : Option ℕ). IfSome a (λ v. v < span)) _ _ answers (All-nil (λ (a : Option ℕ). IfSome a (λ v. v < span)));
}

-- the first, whatever is said if none waits
pub same_first : (keys : List (ℕ × List ℕ)) → 0 < length keys → (none d : ℕ × List ℕ) → get_or keys 0 none ≡ get_or keys 0 d
same_first [] some none d = absurd (omega (arith, some))
same_first (k ∷ ks) some none d = refl

-- After the line of a key, a further one waits or is buffered, or out was flushed.
pub sent_next : (sends : Bool) (now next left : ℕ) (at_hand : Type 0) → now ≡ 1 + next → (sends ≡ true → left ≡ 0) → (sends ≡ false → (1 < now) ⊎ at_hand) → (0 < next) ⊎ (at_hand ⊎ (left ≡ 0))
sent_next true now next left at_hand one sent more = inr (inr (sent refl))
sent_next false now next left at_hand one sent more = ⊎_elim (λ some. inl (omega (arith, one, some))) (λ there. inr (inl there)) (more refl)
