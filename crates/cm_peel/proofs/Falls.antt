-- The round in which an edge is removed.
use Rattle.std.proofs.Common.{◌≡◌, ◌⊎◌, ℕ, zero, suc, ◌-◌, ◌<◌, Bool, true, false, not, ◌∙◌, List, length, get_or, sym, refl, subst, inl, inr, arith}
use Rattle.std.proofs.lemmas.Bool.{both_ways, cases_Bool, and_parts, and_from, and_right, false≢true}
use Rattle.std.proofs.lemmas.List.Sums.{AllPass-from_list_all}
use Rattle.cm_spec.specs.Lists.{has}
use Rattle.cm_spec.specs.Rounds.{is_left, is_held, left_after, removed_after, level_of}
use Rattle.cm_peel.specs.SetLaws.{Contains-from_has}
use Rattle.cm_peel.specs.CoreLaws.{progress}
use Rattle.cm_peel.specs.RoundLaws.{has_left_from, has_removed, level_is}

-- an edge that is not left was removed by some round
pub fell_at : (edges : List (List ℕ)) (t e : ℕ) → is_left edges t e ≡ false → (s : ℕ) × (s < t) × (is_left edges s e ≡ true) × (is_left edges (suc s) e ≡ false)
fell_at edges zero e gone = absurd (false≢true (sym gone))
fell_at edges (suc t) e gone = go (cases_Bool (is_left edges t e)) (fell_at edges t e) where
  go : (is_left edges t e ≡ true) ⊎ (is_left edges t e ≡ false) → (is_left edges t e ≡ false → (s : ℕ) × (s < t) × (is_left edges s e ≡ true) × (is_left edges (suc s) e ≡ false)) → (s : ℕ) × (s < suc t) × (is_left edges s e ≡ true) × (is_left edges (suc s) e ≡ false)
  go (inl here) ih = (t, omega arith, here, gone)
  go (inr before) ih = let r = ih before in (r.0, omega (arith, r.1), r.2, r.3)

-- the rounds before that are fewer than the edges
pub falls_early : (edges : List (List ℕ)) (s e : ℕ) → e < length edges → is_left edges s e ≡ true → is_left edges (suc s) e ≡ false → s < length edges
falls_early edges s e h here gone =
    let m : has (left_after edges s) e ≡ true = has_left_from edges s e h here in
    let c = Contains-from_has (left_after edges s) e m in
    elim (progress edges s) [
      | inl stable ↦
          let held : is_held edges (left_after edges s) (get_or (left_after edges s) c.0 e) ≡ true = AllPass-from_list_all (is_held edges (left_after edges s)) (left_after edges s) stable c.0 e c.1 in
          let still : is_held edges (left_after edges s) e ≡ true = subst (λ x. is_held edges (left_after edges s) x ≡ true) c.2 held in
          absurd (both_ways _ gone (and_from _ _ here still))
      | inr few ↦ omega (arith, c.1, few)
    ]

pub falls_level : (edges : List (List ℕ)) (s e : ℕ) → e < length edges → is_left edges s e ≡ true → is_left edges (suc s) e ≡ false → level_of edges e - 1 ≡ s
falls_level edges s e h here gone = omega (arith, level_is edges s e h (falls_early edges s e h here gone) here gone)

-- what a round removes is not left after it
pub removed_gone : (edges : List (List ℕ)) (t e : ℕ) → has (removed_after edges t) e ≡ true → is_left edges (suc t) e ≡ false
removed_gone edges t e m =
    let both = and_parts (has (left_after edges t) e) (not (is_held edges (left_after edges t) e)) (sym (has_removed edges t e) ∙ m) in
    and_right (is_left edges t e) _ (fails (is_held edges (left_after edges t) e) both.1) where
      fails : (b : Bool) → not b ≡ true → b ≡ false
      fails true h = absurd (false≢true h)
      fails false h = refl
