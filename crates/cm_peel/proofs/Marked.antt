-- Edges that are taken and marked.
use Rattle.std.proofs.Common.{◌≡◌, ◌⊎◌, ℕ, suc, ◌+◌, ◌*◌, ◌/◌, ◌%◌, ◌^◌, ◌<◌, ◌≤◌, Bool, true, false, not, cond, eqb, ◌&&◌, ◌||◌, List, [], ◌∷◌, ◌++◌, length, get_or, set, sym, refl, ap, ◌∙◌, inl, inr, arith, length-append}
use Rattle.std.specs.Prelude.{bit_or}
use Rattle.std.specs.Int.{bit_at}
use Rattle.std.proofs.lemmas.Bool.{cases_lt, and_right}
use Rattle.std.proofs.lemmas.Nat.Bits.{bit_at-zero}
use Rattle.std.proofs.lemmas.List.{get_or_past}
use mir.Val.{bool_byte}
use Rattle.cm_spec.specs.Lists.{has, numbers_from}
use Rattle.cm_spec.specs.Rounds.{is_left}
use Rattle.cm_graph_edges.specs.Graph.{Graph, Links}
use Rattle.cm_peel.specs.AtRound.{InRound}
use Rattle.cm_peel.specs.Marks.{is_marked}
use Rattle.cm_peel.specs.Waiting.{marked_of}
use Rattle.cm_peel.specs.SetLaws.{has-filter, has-numbers, AreApart}
use Rattle.cm_peel.proofs.Marking.{marked_one}
use Rattle.cm_peel.proofs.Taking.{has-append, or_none}

-- one more mark, or none
pub marked_if : (b : Bool) (marks : List ℕ) (e x : ℕ) → e / 64 < length marks → is_marked (cond b (set marks (e / 64) (bit_or (get_or marks (e / 64) 0) (1 * 2 ^ (e % 64) % 2 ^ 64))) marks) x ≡ (is_marked marks x || has (cond b (e ∷ []) []) x)
marked_if true marks e x h = marked_one marks e x h ∙ ap (λ b. is_marked marks x || b) (sym (or_none (eqb e x)))
marked_if false marks e x h = sym (or_none (is_marked marks x))

-- one more place
pub marked_step : (b : Bool) (old marks marks' fresh : List ℕ) (e : ℕ) → e / 64 < length marks → marks' ≡ cond b (set marks (e / 64) (bit_or (get_or marks (e / 64) 0) (1 * 2 ^ (e % 64) % 2 ^ 64))) marks → ((x : ℕ) → is_marked marks x ≡ (is_marked old x || has fresh x)) → (x : ℕ) → is_marked marks' x ≡ (is_marked old x || has (fresh ++ cond b (e ∷ []) []) x)
marked_step b old marks marks' fresh e h is was x =
    ap (λ (ms : List ℕ). is_marked ms x) is ∙ (marked_if b marks e x h ∙ (ap (λ c. c || has (cond b (e ∷ []) []) x) (was x) ∙ (or_or (is_marked old x) (has fresh x) (has (cond b (e ∷ []) []) x)
    ∙ ap (λ c. is_marked old x || c) (sym (has-append fresh (cond b (e ∷ []) []) x))))) where
      or_or : (a b c : Bool) → ((a || b) || c) ≡ (a || (b || c))
      or_or true b c = refl
      or_or false b c = refl

pub counted : (b : Bool) (fresh : List ℕ) (e count : ℕ) → count ≡ length fresh → count + bool_byte b ≡ length (fresh ++ cond b (e ∷ []) [])
counted true fresh e count is = omega (arith, is, length-append fresh (e ∷ []))
counted false fresh e count is = omega (arith, is, length-append fresh [])

-- which edges are marked
pub has_marked : (marks : List ℕ) (e : ℕ) → has (marked_of marks) e ≡ is_marked marks e
has_marked marks e = has-filter (is_marked marks) (numbers_from 0 (64 * length marks)) e ∙ go (cases_lt e (64 * length marks)) where
  go : (e < 64 * length marks) ⊎ (64 * length marks ≤ e) → (has (numbers_from 0 (64 * length marks)) e && is_marked marks e) ≡ is_marked marks e
  go (inl low) = ap (λ b. b && is_marked marks e) (has-numbers 0 (64 * length marks) e (omega arith) (omega arith))
  go (inr high) =
      let none : is_marked marks e ≡ false = ap (λ w. eqb (bit_at w (e % 64)) 1) (get_or_past marks (e / 64) 0 (omega arith)) ∙ ap (λ b. eqb b 1) (bit_at-zero (e % 64)) in
      and_right (has (numbers_from 0 (64 * length marks)) e) _ none ∙ sym none

-- the round goes on from a list of the same edges
pub in_round_members : (graph : Graph) (t : ℕ) (gone : List ℕ) (l : Links) (next next' bytes : List ℕ) → InRound graph t gone l next bytes → AreApart next' → ((e : ℕ) → has next' e ≡ has next e) → InRound graph t gone l next' bytes
in_round_members graph t gone l next next' bytes r apart same = record {
  linked = r.linked;
  others = r.others;
  apart = apart;
  inside = λ e m. r.inside e (sym (same e) ∙ m);
  members = λ e h. same e ∙ r.members e h;
  bytes_long = r.bytes_long;
  byte = r.byte;
  next_byte = λ e m. r.next_byte e (sym (same e) ∙ m);
  taken = λ e h. r.taken e h ∙ ap (λ b. b || not (is_left graph.edges (suc t) e)) (sym (same e));
}
