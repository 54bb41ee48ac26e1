-- A round before its first removal.
use Rattle.std.proofs.Common.{◌≡◌, ◌⊎◌, ℕ, suc, ◌<◌, true, false, not, ◌&&◌, List, [], length, get_or, sym, ◌∙◌, inl, inr}
use Rattle.std.proofs.lemmas.Bool.{cases_Bool, and_parts, and_left, and_right, false≢true, not_from_true}
use Rattle.cm_spec.specs.Rounds.{is_left, is_held, left_after}
use Rattle.cm_graph_edges.specs.Graph.{Graph, Links}
use Rattle.cm_peel.specs.Incident.{AreLinked, is_half_left, is_picked}
use Rattle.cm_peel.specs.AtRound.{InRound, byte_of, is_half_kept}
use Rattle.cm_peel.specs.Peeling.{is_taken}
use Rattle.cm_peel.specs.RoundLaws.{has_left_from}
use Rattle.cm_peel.proofs.Incident.{AreLinked-agree}
use Rattle.cm_peel.proofs.RoundFacts.{picked_is}
use Rattle.cm_peel.proofs.Sets.{and_true}

pub round_begun : (graph : Graph) (t : ℕ) (l : Links) (bytes : List ℕ) → AreLinked graph (is_half_left graph.edges t) l → length bytes ≡ length graph.edges → ((e : ℕ) → e < length graph.edges → is_left graph.edges (suc t) e ≡ false → get_or bytes e 0 ≡ byte_of graph.edges e)
    → ((e : ℕ) → e < length graph.edges → is_taken bytes e ≡ not (is_left graph.edges (suc t) e)) → InRound graph t [] l [] bytes
round_begun graph t l bytes linked long byte taken = record {
  linked = AreLinked-agree graph (is_half_left graph.edges t) (is_half_kept graph.edges t []) l linked (λ e j h k. and_true (is_half_left graph.edges t e j));
  others = λ q m. absurd (false≢true m);
  apart = tt;
  inside = λ e m. absurd (false≢true m);
  members = λ e h. sym (none e h (cases_Bool (is_left graph.edges (suc t) e)));
  bytes_long = long;
  byte = byte;
  next_byte = λ e m. absurd (false≢true m);
  taken = taken;
} where
  none : (e : ℕ) → e < length graph.edges → (is_left graph.edges (suc t) e ≡ true) ⊎ (is_left graph.edges (suc t) e ≡ false) → (is_left graph.edges (suc t) e && is_picked l graph.edges e) ≡ false
  none e h (inl here) =
      let both = and_parts (is_left graph.edges t e) (is_held graph.edges (left_after graph.edges t) e) here in
      and_right (is_left graph.edges (suc t) e) _ (picked_is graph t l e linked (has_left_from graph.edges t e h both.0) ∙ not_from_true _ both.1)
  none e h (inr gone) = and_left _ (is_picked l graph.edges e) gone
