use Rattle.std.proofs.Common.{◌≡◌, ◌∙◌, ◌<◌, ◌++◌, ◌∷◌, [], ap, refl, sym, subst, arith, length, set}
use Rattle.std.proofs.lemmas.List.{length_push}
use Rattle.std.proofs.Math.ListN.{length-set}
use Rattle.cm_graph_edges.specs.Graph.{Links}
use Rattle.cm_graph.proofs.Linking.{links_eq}
use Rattle.cm_graph.specs.Next.{AreNext}
use Rattle.cm_graph.specs.Waiting.{AreSplit, times_of, waiting_in}
use Rattle.cm_graph.proofs.Splitting.{apart, count_popped, next, popped, popped_same, taken, waiting_here, waiting_other, with_in}
use Rattle.cm_graph.proofs.Degrees.{room_in}
use Rattle.cm_graph.proofs.blocks.empty_bucket.Goals as goal

pub put-requires-clause-next : goal.put-requires-clause-next
put-requires-clause-next g c =
    let within : c.args.b < length c.loop-i.buckets.items = omega (arith, c.requires.bucket, c.loop-i.invariant.many) in
    let last : waiting_in c.loop-i.buckets.items c.args.b ≡ c.pop.new.self.items ++ c.in-Some.half ∷ [] = taken c.loop-i.buckets.items c.args.b c.index_mut.result.now within c.index_mut.ensures.value ∙ c.in-Some.ensures.items in
    let each : c.with.result.each ≡ with_in (g.S.Halves.kept c.loop-i.store).slots c.in-Some.half = c.with.ensures ∙ ap (λ s. with_in s c.in-Some.half) c.slots-slots.ensures.slots in
    subst (λ s. AreNext (g.S.Halves.kept c.loop-i.store).slots s c.in-Some.half) (sym each) (next c.loop-i.invariant.split c.args.b c.pop.new.self c.in-Some.half within last)

pub put-requires-clause-apart : goal.put-requires-clause-apart
put-requires-clause-apart g c =
    let within : c.args.b < length c.loop-i.buckets.items = omega (arith, c.requires.bucket, c.loop-i.invariant.many) in
    let last : waiting_in c.loop-i.buckets.items c.args.b ≡ c.pop.new.self.items ++ c.in-Some.half ∷ [] = taken c.loop-i.buckets.items c.args.b c.index_mut.result.now within c.index_mut.ensures.value ∙ c.in-Some.ensures.items in
    apart c.loop-i.invariant.split c.args.b c.pop.new.self c.in-Some.half within last

pub loop-i-preserved : goal.loop-i-preserved
loop-i-preserved g c =
    let now : Links = g.S.Halves.kept c.loop-i.store in
    let within : c.args.b < length c.loop-i.buckets.items = omega (arith, c.requires.bucket, c.loop-i.invariant.many) in
    let last : waiting_in c.loop-i.buckets.items c.args.b ≡ c.pop.new.self.items ++ c.in-Some.half ∷ [] = taken c.loop-i.buckets.items c.args.b c.index_mut.result.now within c.index_mut.ensures.value ∙ c.in-Some.ensures.items in
    let each : c.with.result.each ≡ with_in now.slots c.in-Some.half = c.with.ensures ∙ ap (λ s. with_in s c.in-Some.half) c.slots-slots.ensures.slots in
    let put : g.S.Halves.kept c.put.new.self ≡ record { vertices = now.vertices; slots = with_in now.slots c.in-Some.half } = c.put.ensures.ok c.if-not-put.false ∙ links_eq _ _ _ _ refl each in
    let here : waiting_in (set c.loop-i.buckets.items c.args.b c.pop.new.self) c.args.b ≡ c.pop.new.self.items = waiting_here c.loop-i.buckets.items c.args.b c.pop.new.self within in
    record {
      split = subst (λ l. AreSplit g.row.K c.args._edges.now.vertices c.args._edges.now.edges l (set c.loop-i.buckets.items c.args.b c.pop.new.self)) (sym put) (popped c.loop-i.invariant.split c.args.b c.pop.new.self c.in-Some.half within last);
      same = λ q. ap (λ (l : Links). times_of q l.slots (set c.loop-i.buckets.items c.args.b c.pop.new.self)) put ∙ (popped_same c.loop-i.invariant.split c.args.b c.pop.new.self c.in-Some.half within last q ∙ c.loop-i.invariant.same q);
      left = omega (arith, c.loop-i.invariant.left, ap length here, ap length last, length_push c.pop.new.self.items c.in-Some.half);
      others = λ i ne. waiting_other c.loop-i.buckets.items c.args.b c.pop.new.self within i ne ∙ c.loop-i.invariant.others i ne;
      steps = omega (arith, c.tick.ensures, c.loop-i.invariant.steps, count_popped c.loop-i.buckets.items c.args.b c.pop.new.self c.in-Some.half within last);
      many = length-set c.loop-i.buckets.items c.args.b c.pop.new.self ∙ c.loop-i.invariant.many;
    }

pub returns-then-not-put-clause-steps : goal.returns-then-not-put-clause-steps
returns-then-not-put-clause-steps g c =
    let within : c.args.b < length c.loop-i.buckets.items = omega (arith, c.requires.bucket, c.loop-i.invariant.many) in
    let last : waiting_in c.loop-i.buckets.items c.args.b ≡ c.pop.new.self.items ++ c.in-Some.half ∷ [] = taken c.loop-i.buckets.items c.args.b c.index_mut.result.now within c.index_mut.ensures.value ∙ c.in-Some.ensures.items in
    omega (arith, c.loop-i.invariant.steps, count_popped c.loop-i.buckets.items c.args.b c.pop.new.self c.in-Some.half within last)

pub returns-then-not-put-clause-all : goal.returns-then-not-put-clause-all
returns-then-not-put-clause-all g c few =
    let within : c.args.b < length c.loop-i.buckets.items = omega (arith, c.requires.bucket, c.loop-i.invariant.many) in
    let last : waiting_in c.loop-i.buckets.items c.args.b ≡ c.pop.new.self.items ++ c.in-Some.half ∷ [] = taken c.loop-i.buckets.items c.args.b c.index_mut.result.now within c.index_mut.ensures.value ∙ c.in-Some.ensures.items in
    sym c.if-not-put.true ∙ c.put.ensures.room.1 (room_in c.loop-i.invariant.split c.args.b c.pop.new.self c.in-Some.half within last g.S.Halves.most_degree few)
