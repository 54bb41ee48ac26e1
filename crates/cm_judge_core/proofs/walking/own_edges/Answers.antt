use Rattle.std.proofs.Common.{◌∙◌, ◌<◌, ◌+◌, ◌++◌, ◌∷◌, [], ℕ, List, ap, arith, drop, refl, sym}
use Rattle.std.proofs.lemmas.List.{length_push, take_all}
use Rattle.cm_judge_core.proofs.Passing.{less_before, own_found, own_not_found, rises_more, rises_none, take_given}
use Rattle.cm_judge_core.proofs.walking.own_edges.Goals as goal
use Rattle.cm_judge_core.proofs.walking.own_edges.Goals.{in-Some+in_ok-keep, in_default}
use Rattle.cm_witness_gather.specs.declared.certificate.CoreEdge.{CoreEdge}

pub edge-ends-requires : goal.edge-ends-requires
edge-ends-requires g c = (omega (arith, (g.met.S.Scheme.laws c.args.scheme.now).two_or_three.1), (c.requires.size, c.divisor-divisor.ensures.divisor))

pub core_edge-requires : goal.core_edge-requires
core_edge-requires g c =
    let width = (g.met.S.Scheme.laws c.args.scheme.now).two_or_three in
    (omega (arith, width.1), width)

pub loop-count-preserved : goal.loop-count-preserved
loop-count-preserved g c =
    let P = g.P.KeyPass in
    let r = g.S.Scheme.rule c.args.scheme.now in
    let before = c.loop-count.invariant in
    let was = before.taken in
    let next = c.in_ok-next.next in
    let now = c.in_ok-next.ensures in
    let key : List ℕ = now.gives.0 in
    let edges : List CoreEdge = c.args.edges.now in
    let n : ℕ = c.args.sizes.vertices in
    let seed : ℕ = c.args.sizes.seed in
    let less : P.last c.loop-count.keys < next.line = now.line.1 in
    record {
      ready = now.usable;
      same = c.next_key.ensures.passes.told ∙ before.same;
      quiet = now.passes.cause ∙ before.quiet;
      at = now.at;
      before = less_before edges next.line (P.last c.next_key.new.keys + 1) next.place (omega (arith, now.line.0)) now.place;
      taken = record {
        keys = was.keys ++ (next.line, key) ∷ [];
        many = length_push was.keys (next.line, key) ∙ ap (λ (x : ℕ). x + 1) was.many;
        rise = rises_more (P.last c.loop-count.keys) (P.last c.next_key.new.keys) next.line was.keys key less now.line.0 was.rise;
        own_are = elim c.match-next.branch [
          | in-Some+in_ok-keep w ↦
              own_found edges r n seed was.keys next.line key w.in-Some.hashed w.edge-ends.result w.core_edge.result c.loop-count.own.items c.match-next.own.items (sym w.in-Some.is ∙ now.gives.1) w.edge-ends.ensures.edge (w.core_edge.ensures.edge key)
              was.own_are (ap (λ v. v.items) w.own-is ∙ w.in_ok-keep.ensures.kept)
          | in_default w ↦ own_not_found edges r n seed was.keys next.line key c.loop-count.own.items c.match-next.own.items (sym w.in_default.is ∙ now.gives.1) was.own_are (ap (λ v. v.items) w.own-is)
        ];
        known = λ told is. take_given told.keys _ was.keys c.loop-count.count next.line key (ap (λ (x : ℕ). drop x told.keys) (sym before.at) ∙ now.gives.2 told (before.same ∙ is)) (was.known told is);
      };
    }

pub loop-count-init : goal.loop-count-init
loop-count-init g c = record {
  ready = c.in_ok-rewind.ensures.usable;
  same = c.rewind.ensures.told;
  quiet = c.in_ok-rewind.ensures.cause;
  at = c.in_ok-rewind.ensures.start.0;
  before = record { within = omega arith; below = λ k d h. absurd (omega arith) };
  taken = record { keys = []; many = refl; rise = rises_none _; own_are = c.new-own.ensures.items; known = λ told is. refl };
}

pub returns-clause-own : goal.returns-clause-own
returns-clause-own g c =
    let was = c.loop-count.invariant.taken in
    record {
      keys = was.keys;
      many = was.many ∙ omega (arith, c.loop-count-test.false);
      rise = was.rise.rise;
      own_are = was.own_are;
      known = λ told is.
          let ends = c.in_ok-expect_end.ensures.end told (c.loop-count.invariant.same ∙ is) in
          (sym (was.known told is ∙ take_all c.loop-count.count told.keys (omega (arith, ends.all, c.loop-count.invariant.at))), ends.fault_is);
    }
