-- The generated keys are the lines of their text.
use Rattle.std.proofs.Common.{◌≡◌, ◌∙◌, ℕ, zero, suc, ◌+◌, ◌<◌, ◌≤◌, ◌==◌, List, [], ◌∷◌, ◌++◌, length, get_or, nat_lt, false, None, refl, sym, ap, arith, append_assoc, append-nil}
use Rattle.std.proofs.Math.Nat.{eq-or-lt_of_le}
use Rattle.std.proofs.Common.{inl, inr}
use Rattle.std.proofs.lemmas.List.{get_or_append_left, get_or_push, length_push}
use Rattle.cm_io.specs.Passes.{Told}
use Rattle.cm_keys.specs.Lines.{keys_from, lines_of, pieces, push_first, with_key}
use Rattle.cm_keys_made.specs.Numbered.{AreMade}
use Rattle.cm_keys_made.specs.Texts.{made_key, made_line, made_text}

-- No byte ends a line.
abbrev HasNoEnd : List ℕ → Type 0
HasNoEnd [] = Unit {0}
HasNoEnd (b ∷ bs) = (10 < b) × HasNoEnd bs

key_has_no_end : (i : ℕ) → HasNoEnd (made_key i)
key_has_no_end i =
    (omega arith, (omega arith, (omega arith, (omega arith, (omega arith, (omega arith, (omega arith, (omega arith, (omega arith, (omega arith, (omega arith, (omega arith, (omega arith, (omega arith, tt))))))))))))))

line_piece : (line more : List ℕ) → HasNoEnd line → pieces 10 (line ++ 10 ∷ more) ≡ line ∷ pieces 10 more
line_piece [] more none = refl
line_piece (b ∷ bs) more none =
    let is : (b == 10) ≡ false = grind (arith, none.0) in
    rw is (ap (push_first b) (line_piece bs more none.1))

-- the first keys
made_keys : ℕ → List (List ℕ)
made_keys zero = []
made_keys (suc n) = made_keys n ++ made_key n ∷ []

pieces_of_text : (n : ℕ) (more : List ℕ) → pieces 10 (made_text n ++ more) ≡ made_keys n ++ pieces 10 more
unfolding made_text made_keys
pieces_of_text zero more = refl
pieces_of_text (suc n) more =
    ap (pieces 10) (append_assoc (made_text n) (made_line n) more)
    ∙ pieces_of_text n (made_line n ++ more)
    ∙ ap (λ (l : List ℕ). made_keys n ++ pieces 10 l) (append_assoc (made_key n) (10 ∷ []) more)
    ∙ ap (λ (ps : List (List ℕ)). made_keys n ++ ps) (line_piece (made_key n) more (key_has_no_end n))
    ∙ sym (append_assoc (made_keys n) (made_key n ∷ []) (pieces 10 more))

length-made_keys : (n : ℕ) → length (made_keys n) ≡ n
unfolding made_keys
length-made_keys zero = refl
length-made_keys (suc n) = length_push (made_keys n) (made_key n) ∙ omega (arith, length-made_keys n)

get_or-made_keys : (n i : ℕ) (d : List ℕ) → i < n → get_or (made_keys n) i d ≡ made_key i
unfolding made_keys
get_or-made_keys zero i d lt = absurd (omega (arith, lt))
get_or-made_keys (suc n) i d lt =
    let within : i ≤ n = omega (arith, lt) in
    elim (eq-or-lt_of_le within) [
      | inl is ↦ get_or_push (made_keys n) (made_key n) d i (length-made_keys n ∙ sym is) ∙ ap made_key (sym is)
      | inr less ↦
          get_or_append_left (made_keys n) (made_key n ∷ []) d i (omega (arith, less, length-made_keys n))
          ∙ get_or-made_keys n i d less
    ]

-- all of the lines as keys, numbered from this line on
record AreKeys (line : ℕ) (lines : List (List ℕ)) (told : Told) : Type 0 where
  many : length told.keys ≡ length lines
  fine : told.fault ≡ None
  each : (i : ℕ) (d : ℕ × List ℕ) (e : List ℕ) → i < length lines → get_or told.keys i d ≡ (line + i, get_or lines i e)

abbrev AreShort : ℕ → List (List ℕ) → Type 0
AreShort longest lines = (i : ℕ) → i < length lines → length (get_or lines i []) ≤ longest

each_later : (line : ℕ) (p : List ℕ) (lines : List (List ℕ)) (rest : Told) → AreKeys (line + 1) lines rest
    → (i : ℕ) (d : ℕ × List ℕ) (e : List ℕ) → i < suc (length lines) → get_or ((line, p) ∷ rest.keys) i d ≡ (line + i, get_or (p ∷ lines) i e)
each_later line p lines rest later zero d e lt =
    let is : line ≡ line + 0 = omega arith in ap (λ (n : ℕ). let key : ℕ × List ℕ = (n, p) in key) is
each_later line p lines rest later (suc i) d e lt =
    let is : line + 1 + i ≡ line + suc i = omega arith in
    later.each i d e (omega (arith, lt)) ∙ ap (λ (n : ℕ). let key : ℕ × List ℕ = (n, get_or lines i e) in key) is

all_keys : (max longest line : ℕ) (lines : List (List ℕ)) → line + length lines ≤ max + 1 → AreShort longest lines
    → AreKeys line lines (keys_from max longest line lines)
all_keys max longest line [] few short = record { many = refl; fine = refl; each = λ i d e lt. absurd (omega (arith, lt)) }
all_keys max longest line (p ∷ lines) few short =
    let later = all_keys max longest (line + 1) lines (omega (arith, few)) (λ i lt. short (suc i) (omega (arith, lt))) in
    let in_time : nat_lt max line ≡ false = grind (arith, few) in
    let fits : length p ≤ longest = short 0 (omega arith) in
    let is_short : nat_lt longest (length p) ≡ false = grind (arith, fits) in
    let with_rest : AreKeys line (p ∷ lines) (with_key (line, p) (keys_from max longest (line + 1) lines)) = record {
      many = omega (arith, later.many);
      fine = later.fine;
      each = each_later line p lines (keys_from max longest (line + 1) lines) later;
    } in
    rw (in_time, is_short) with_rest

keys_are_short : (n longest : ℕ) → 14 ≤ longest → AreShort longest (made_keys n)
keys_are_short n longest room i lt =
    let inside : i < n = omega (arith, lt, length-made_keys n) in
    let size : length (get_or (made_keys n) i []) ≡ 14 = ap length (get_or-made_keys n i [] inside) in
    omega (arith, size, room)

made_of : (n : ℕ) (told : Told) → AreKeys 1 (made_keys n) told → AreMade n told
made_of n told are = record {
  many = are.many ∙ length-made_keys n;
  fine = are.fine;
  each = λ i d lt.
      let is : 1 + i ≡ i + 1 = omega arith in
      are.each i d [] (omega (arith, lt, length-made_keys n))
      ∙ ap (λ (key : List ℕ). let pair : ℕ × List ℕ = (1 + i, key) in pair) (get_or-made_keys n i [] lt)
      ∙ ap (λ (line : ℕ). let pair : ℕ × List ℕ = (line, made_key i) in pair) is;
}

lines_of_text : (n : ℕ) → pieces 10 (made_text n) ≡ made_keys n
lines_of_text n =
    ap (pieces 10) (sym (append-nil (made_text n))) ∙ pieces_of_text n [] ∙ append-nil (made_keys n)

pub keys_are_made : (max longest n : ℕ) → n ≤ max → 14 ≤ longest → AreMade n (lines_of max longest 10 None (made_text n))
unfolding lines_of
keys_are_made max longest n few room =
    rw (lines_of_text n) (made_of n _ (all_keys max longest 1 (made_keys n) (omega (arith, few, length-made_keys n)) (keys_are_short n longest room)))
