-- Four lines that are passed together.
use Rattle.std.proofs.Common.{◌≡◌, ◌∙◌, ℕ, ◌+◌, ◌-◌, ◌≤◌, List, [], ◌∷◌, length, drop, get_or, ap, sym, arith, refl, subst, length-drop}
use Rattle.std.proofs.lemmas.List.{get_or-drop}
use Rattle.cm_io.specs.Passes.{Told, GivesFour, PassesKeys}
use Rattle.cm_lookup2.specs.Four.{words_of_each}
use Rattle.cm_keys.specs.Buffering.{BeginsWith, line_rule}
use Rattle.cm_keys.specs.LinePass.{IsAtHand, LinePass}
use Rattle.cm_keys.specs.NumberingLaws.{IsWithin}
use Rattle.cm_keys.proofs.LeaveLemmas.{open_within}
use Rattle.cm_keys.proofs.PieceLemmas.{lines_after}

-- These lines are buffered, each with its end, and may be keys.
pub record AreNext (max longest : ℕ) (pass : LinePass) (lines : List (List ℕ)) : Type 0 where
  pub within : IsWithin pass.first (pass.given + length lines)
  pub few : pass.given + length lines ≤ max
  pub begin : BeginsWith (line_rule longest pass.end) pass.waiting lines

-- The first of them is the next key.
pub first_at_hand : (max longest : ℕ) (pass : LinePass) (line : List ℕ) (lines : List (List ℕ)) → AreNext max longest pass (line ∷ lines) → IsAtHand max longest pass line
first_at_hand max longest pass line lines are = (open_within pass.first pass.given (length lines) are.within, omega (arith, are.few), are.begin.0, are.begin.1)

-- After it the others are next.
pub others_next : (max longest : ℕ) (old new : LinePass) (line : List ℕ) (lines : List (List ℕ)) → AreNext max longest old (line ∷ lines)
    → new.given ≡ old.given + 1 → new.first ≡ old.first → new.end ≡ old.end → new.waiting ≡ drop (length line + 1) old.waiting → AreNext max longest new lines
others_next max longest old new line lines are one same ends passed =
    let e : old.given + length (line ∷ lines) ≡ new.given + length lines = omega (arith, one) in
    record {
      within = rw same (subst (IsWithin old.first) e are.within);
      few = omega (arith, are.few, e);
      begin = rw ends (lines_after longest old.end (length line) old.waiting new.waiting line lines are.begin refl passed);
    }

-- Four keys, one after another.
pub four_given : (told : Told) (seed a b c d e : ℕ) (p q r t : List ℕ) (four : List (List ℕ)) → drop a told.keys ≡ (b, p) ∷ drop b told.keys → drop b told.keys ≡ (c, q) ∷ drop c told.keys
    → drop c told.keys ≡ (d, r) ∷ drop d told.keys → drop d told.keys ≡ (e, t) ∷ drop e told.keys
    → four ≡ words_of_each p q r t (seed ∷ seed ∷ seed ∷ seed ∷ []) → GivesFour told a seed four
four_given told seed a b c d e p q r t four first second third fourth are =
    let three : drop b told.keys ≡ (c, q) ∷ (d, r) ∷ (e, t) ∷ drop e told.keys =
    second ∙ ap (λ (l : List (ℕ × List ℕ)). (c, q) ∷ l) (third ∙ ap (λ (l : List (ℕ × List ℕ)). (d, r) ∷ l) fourth) in
    let all : drop a told.keys ≡ (b, p) ∷ (c, q) ∷ (d, r) ∷ (e, t) ∷ drop e told.keys = first ∙ ap (λ (l : List (ℕ × List ℕ)). (b, p) ∷ l) three in
    record { enough = omega (arith, ap length all, length-drop a told.keys); words_are = rw all are }

-- Four hash values, read one by one.
pub four_read : (four : List (List ℕ)) (p q r t seeds a b c d : List ℕ) → four ≡ words_of_each p q r t seeds → a ≡ get_or four 0 [] → b ≡ get_or four 1 [] → c ≡ get_or four 2 [] → d ≡ get_or four 3 []
    → a ∷ b ∷ c ∷ d ∷ [] ≡ words_of_each p q r t seeds
four_read four p q r t seeds a b c d are first second third fourth =
    let e = first ∙ ap (λ (l : List (List ℕ)). get_or l 0 []) are in
    let f = second ∙ ap (λ (l : List (List ℕ)). get_or l 1 []) are in
    let g = third ∙ ap (λ (l : List (List ℕ)). get_or l 2 []) are in
    let h = fourth ∙ ap (λ (l : List (List ℕ)). get_or l 3 []) are in
    rw e (rw f (rw g (rw h refl)))

-- The last key that has passed.
pub last_passed : (told : Told) (before now line : ℕ) (key : List ℕ) → drop before told.keys ≡ (line, key) ∷ drop now told.keys → now ≡ before + 1 → PassesKeys told now line
last_passed told before now line key gives next =
    let there : now - 1 ≡ before + 0 = omega (arith, next) in (
      omega (arith, ap length gives, length-drop before told.keys, next),
      λ d. ap (λ (i : ℕ). (get_or told.keys i d).0) there ∙ ap (λ (k : ℕ × List ℕ). k.0) (sym (get_or-drop before told.keys 0 d) ∙ ap (λ (l : List (ℕ × List ℕ)). get_or l 0 d) gives),
    )
