use Rattle.std.proofs.Common.{◌≡◌, ◌∙◌, ℕ, List, ◌++◌, ap, drop, map, sym, take}
use Rattle.std.proofs.lemmas.List.{drop-drop, take-append-drop}
use Rattle.cm_spec.specs.Lookup2.{words}
use Rattle.cm_brz_split.proofs.GivenLemmas.{more_counted}
use Rattle.cm_brz_split.specs.SizesLaws.{passed_by_words}
use Rattle.cm_brz_split.proofs.split.count_four.Goals as goal

pub returns-clause-each : goal.returns-clause-each
returns-clause-each g c = λ _ told is.
    let passed = c.in-Some.ensures in
    let place : ℕ = g.P.KeyPass.place c.args.keys.now in
    let left : List (ℕ × List ℕ) = drop place told.keys in
    let rest : List (ℕ × List ℕ) = drop (g.P.KeyPass.place c.hash_four.new.self) told.keys in
    let next : left ≡ take 4 left ++ rest = sym (take-append-drop 4 left) ∙ ap (λ l. take 4 left ++ l) (drop-drop 4 place told.keys ∙ ap (λ (n : ℕ). drop n told.keys) (sym passed.counts)) in
    let words_are = (passed.gives told is).words_are ∙ ap (λ (seed : ℕ). map (λ (key : ℕ × List ℕ). words key.1 seed) (take 4 left)) c.flip.ensures.flipped in
    passed_by_words c.args.sizes.now c.count_hashed.new.sizes (take 4 left) left rest c.in-Some.four c.args.split.now.buckets c.args.split.now.seed next words_are c.count_hashed.ensures.each

pub returns-clause-gave : goal.returns-clause-gave
returns-clause-gave g c = λ _ before given. more_counted (g.P.KeyPass.gave c.hash_four.new.self) before c.args.sizes.now c.count_hashed.new.sizes c.in-Some.four c.args.split.now.buckets c.args.split.now.seed c.flip.result c.flip.ensures.flipped (c.in-Some.ensures.gave before given) c.count_hashed.ensures.each
