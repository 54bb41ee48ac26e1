-- Lists that are filled by a loop, and pieces of lists.
use Rattle.std.proofs.Common.{◌≡◌, ◌⊎◌, ℕ, ◌+◌, ◌<◌, ◌≤◌, Bool, true, false, cond, List, [], ◌∷◌, ◌++◌, length, get_or, set, take, sym, ap, ◌∙◌, inl, inr, arith, append-nil, get_or-set_other}
use mir.Val.{bool_byte}
use Rattle.std.proofs.lemmas.Bool.{cases_eq, cond-true}
use Rattle.std.proofs.lemmas.Grind.{get_or-set_at}
use Rattle.std.proofs.lemmas.List.{take_more, take_more_set, take-set-le}
use Rattle.cm_spec.specs.Lists.{has}
use Rattle.cm_peel.proofs.Taking.{has-push_same, has-push_other}

-- an element written behind the first ones of a list, and kept or not
pub byte_small : (b : Bool) → bool_byte b ≤ 1
byte_small true = omega arith
byte_small false = omega arith

pub written_if : {X : Type 0} (b : Bool) (list : List X) (at : ℕ) (e : X) → at < length list → take (at + bool_byte b) (set list at e) ≡ take at list ++ cond b (e ∷ []) []
written_if true list at e h = take_more_set list at e h
written_if false list at e h = let z : at + 0 ≡ at = omega arith in rw z (take-set-le at list at e (omega arith) ∙ sym (append-nil (take at list)))

-- one more place of a list that gets the value of all its places
pub same_next : (levels old round : List ℕ) (i y : ℕ) → i < length round → get_or round i 0 < length levels → length levels ≡ length old → ((e : ℕ) → e < length old → get_or levels e 0 ≡ cond (has (take i round) e) y (get_or old e 0))
    → (e : ℕ) → e < length old → get_or (set levels (get_or round i 0) y) e 0 ≡ cond (has (take (i + 1) round) e) y (get_or old e 0)
same_next levels old round i y h place long was e low = go (cases_eq (get_or round i 0) e) where
  go : (get_or round i 0 ≡ e) ⊎ (get_or round i 0 ≡ e → ⊥) → get_or (set levels (get_or round i 0) y) e 0 ≡ cond (has (take (i + 1) round) e) y (get_or old e 0)
  go (inl same) = get_or-set_at levels (get_or round i 0) e y 0 (sym same) place ∙ sym (cond-true _ y (get_or old e 0) (ap (λ (xs : List ℕ). has xs e) (take_more round i 0 h) ∙ has-push_same (take i round) (get_or round i 0) e same))
  go (inr other) =
      get_or-set_other levels (get_or round i 0) e y 0 (λ s. other (sym s))
      ∙ (was e low ∙ ap (λ b. cond b y (get_or old e 0)) (sym (ap (λ (xs : List ℕ). has xs e) (take_more round i 0 h) ∙ has-push_other (take i round) (get_or round i 0) e other)))
