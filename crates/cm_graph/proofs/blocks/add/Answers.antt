use Rattle.std.proofs.Common.{◌≡◌, ◌∙◌, ◌<◌, ◌++◌, ◌∷◌, ◌/◌, [], ℕ, ap, sym, arith, length}
use Rattle.std.proofs.Math.ListN.{length-set}
use Rattle.cm_graph.specs.Waiting.{waiting_in}
use Rattle.cm_graph.proofs.Splitting.{count_kept, count_pushed, pushed, pushed_more, taken}
use Rattle.cm_graph.proofs.blocks.add.Goals as goal

pub returns-then-len-capacity-clause-split : goal.returns-then-len-capacity-clause-split
returns-then-len-capacity-clause-split g c _ =
    let b : ℕ = c.args.half.vertex / 65536 in
    let within : b < length c.args.buckets.now.items = omega (arith, c.requires.vertex) in
    let last : c.push.new.self.items ≡ waiting_in c.args.buckets.now.items b ++ c.args.half ∷ [] = c.in_ok-push.ensures.items ∙ ap (λ xs. xs ++ c.args.half ∷ []) (sym (taken c.args.buckets.now.items b c.index_mut.result.now within c.index_mut.ensures.value)) in
    pushed c.requires.split b c.push.new.self c.args.half within last c.requires.end c.requires.new

pub returns-then-len-capacity-clause-more : goal.returns-then-len-capacity-clause-more
returns-then-len-capacity-clause-more g c _ =
    let b : ℕ = c.args.half.vertex / 65536 in
    let within : b < length c.args.buckets.now.items = omega (arith, c.requires.vertex) in
    let last : c.push.new.self.items ≡ waiting_in c.args.buckets.now.items b ++ c.args.half ∷ [] = c.in_ok-push.ensures.items ∙ ap (λ xs. xs ++ c.args.half ∷ []) (sym (taken c.args.buckets.now.items b c.index_mut.result.now within c.index_mut.ensures.value)) in
    pushed_more c.requires.split b c.push.new.self c.args.half within last c.requires.end c.requires.new

pub empty_bucket-requires : goal.empty_bucket-requires
empty_bucket-requires g c =
    let b : ℕ = c.args.half.vertex / 65536 in
    let within : b < length c.args.buckets.now.items = omega (arith, c.requires.vertex) in
    let last : c.push.new.self.items ≡ waiting_in c.args.buckets.now.items b ++ c.args.half ∷ [] = c.in_ok-push.ensures.items ∙ ap (λ xs. xs ++ c.args.half ∷ []) (sym (taken c.args.buckets.now.items b c.index_mut.result.now within c.index_mut.ensures.value)) in
    (omega arith, (omega (arith, within, length-set c.args.buckets.now.items b c.push.new.self), pushed c.requires.split b c.push.new.self c.args.half within last c.requires.end c.requires.new))

pub returns-clause-more : goal.returns-clause-more
returns-clause-more g c all q =
    let b : ℕ = c.args.half.vertex / 65536 in
    let within : b < length c.args.buckets.now.items = omega (arith, c.requires.vertex) in
    let last : c.push.new.self.items ≡ waiting_in c.args.buckets.now.items b ++ c.args.half ∷ [] = c.in_ok-push.ensures.items ∙ ap (λ xs. xs ++ c.args.half ∷ []) (sym (taken c.args.buckets.now.items b c.index_mut.result.now within c.index_mut.ensures.value)) in
    c.empty_bucket.ensures.same all q ∙ pushed_more c.requires.split b c.push.new.self c.args.half within last c.requires.end c.requires.new q

pub returns-in_err-push-clause-steps : goal.returns-in_err-push-clause-steps
returns-in_err-push-clause-steps g c =
    let b : ℕ = c.args.half.vertex / 65536 in
    let within : b < length c.args.buckets.now.items = omega (arith, c.requires.vertex) in
    let kept : c.push.new.self.items ≡ waiting_in c.args.buckets.now.items b = c.in_err-push.ensures.items ∙ sym (taken c.args.buckets.now.items b c.index_mut.result.now within c.index_mut.ensures.value) in
    omega (arith, count_kept c.args.buckets.now.items b c.push.new.self c.args.half within kept)

pub returns-then-len-capacity-clause-steps : goal.returns-then-len-capacity-clause-steps
returns-then-len-capacity-clause-steps g c =
    let b : ℕ = c.args.half.vertex / 65536 in
    let within : b < length c.args.buckets.now.items = omega (arith, c.requires.vertex) in
    let last : c.push.new.self.items ≡ waiting_in c.args.buckets.now.items b ++ c.args.half ∷ [] = c.in_ok-push.ensures.items ∙ ap (λ xs. xs ++ c.args.half ∷ []) (sym (taken c.args.buckets.now.items b c.index_mut.result.now within c.index_mut.ensures.value)) in
    omega (arith, count_pushed c.args.buckets.now.items b c.push.new.self c.args.half within last)

pub returns-clause-steps : goal.returns-clause-steps
returns-clause-steps g c =
    let b : ℕ = c.args.half.vertex / 65536 in
    let within : b < length c.args.buckets.now.items = omega (arith, c.requires.vertex) in
    let last : c.push.new.self.items ≡ waiting_in c.args.buckets.now.items b ++ c.args.half ∷ [] = c.in_ok-push.ensures.items ∙ ap (λ xs. xs ++ c.args.half ∷ []) (sym (taken c.args.buckets.now.items b c.index_mut.result.now within c.index_mut.ensures.value)) in
    omega (arith, c.empty_bucket.ensures.steps, count_pushed c.args.buckets.now.items b c.push.new.self c.args.half within last)
