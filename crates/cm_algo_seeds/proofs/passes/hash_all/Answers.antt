use Rattle.std.proofs.Common.{arith, ◌≡◌, ◌∙◌, ℕ, ◌+◌, [], ◌∷◌, ◌++◌, List, Option, None, Some, length, length-append, map, take, drop, true, vec_len, ap, append_assoc, refl, sym}
use Rattle.std.specs.Prelude.{IfNone}
use Rattle.std.proofs.lemmas.List.{drop-drop, length-map, map-append, take-append-drop}
use Rattle.std.proofs.lemmas.Simd.{map-map}
use Rattle.cm_graph_edges.specs.Graph.{Graph}
use Rattle.cm_io.specs.Passes.{Told, GivesFour}
use Rattle.cm_spec.specs.Lookup2.{words as words_of}
use Rattle.cm_algo_seeds.proofs.passes.hash_all.Goals as goal

if_none : {A : Type 0} (Q : Type 0) (o : Option A) → IfNone o Q → ((x : A) → o ≡ Some x → ⊥) → Q
if_none Q None holds not = holds
if_none Q (Some x) holds not = absurd (not x refl)

-- what was made of the keys so far, with some keys more
map_more : {A : Type 0} (f : ℕ × List ℕ → A) (all xs now ys : List A) (left rest keys : List (ℕ × List ℕ)) → now ≡ xs ++ ys → left ≡ keys ++ rest → ys ≡ map f keys → xs ++ map f left ≡ all → now ++ map f rest ≡ all
map_more f all xs now ys left rest keys more next are before =
    ap (λ l. l ++ map f rest) more
    ∙ (append_assoc xs ys (map f rest)
    ∙ (ap (λ l. xs ++ (l ++ map f rest)) are
    ∙ (ap (λ l. xs ++ l) (sym (map-append f keys rest))
    ∙ (ap (λ ks. xs ++ map f ks) (sym next)
    ∙ before))))

-- with one key more
one_more : {A : Type 0} (f : ℕ × List ℕ → A) (all xs now : List A) (x : A) (left rest : List (ℕ × List ℕ)) (key : ℕ × List ℕ) → now ≡ xs ++ x ∷ [] → left ≡ key ∷ rest → x ≡ f key → xs ++ map f left ≡ all → now ++ map f rest ≡ all
one_more f all xs now x left rest key more next is before = map_more f all xs now (x ∷ []) left rest (key ∷ []) more next (ap (λ y. y ∷ []) is) before

-- with four keys more
four_more : {A : Type 0} (f : List ℕ → A) (told : Told) (place now_place seed : ℕ) (all xs now : List A) (four : List (List ℕ)) → GivesFour told place seed four → now_place ≡ place + 4 → now ≡ xs ++ map f four
    → xs ++ map (λ k. f (words_of k.1 seed)) (drop place told.keys) ≡ all → now ++ map (λ k. f (words_of k.1 seed)) (drop now_place told.keys) ≡ all
four_more f told place now_place seed all xs now four gives passed more before =
    let left = drop place told.keys in
    let next : left ≡ take 4 left ++ drop now_place told.keys = sym (take-append-drop 4 left) ∙ ap (λ l. take 4 left ++ l) (drop-drop 4 place told.keys ∙ ap (λ (n : ℕ). drop n told.keys) (sym passed)) in
    map_more (λ k. f (words_of k.1 seed)) all xs now (map f four) left (drop now_place told.keys) (take 4 left) more next (ap (map f) gives.words_are ∙ map-map f (λ k. words_of k.1 seed) (take 4 left)) before

longer : {A : Type 0} (xs now ys : List A) (n k : ℕ) → now ≡ xs ++ ys → length ys ≡ k → length xs ≡ n → length now ≡ n + k
longer xs now ys n k more many long = omega (arith, ap length more, length-append xs ys, many, long)

pub more-preserved-in-Some : goal.more-preserved-in-Some
more-preserved-in-Some g c =
    let P = g.P.KeyPass in
    let r = g.S.Scheme.rule c.args.scheme.now in
    let n : ℕ = c.args.edges.now.vertices in
    let before = c.more.invariant in
    let passed = c.in-Some.ensures in
    let four = c.in-Some.four in
    let graph = c.add_keys.ensures.edges in
    let edges = ap (λ (e : Graph). e.edges) graph ∙ ap (λ (v : ℕ). c.more.edges.edges ++ map (λ hashed. r.edge hashed v) four) before.vertices in
    record {
      ready = passed.usable;
      same = passed.told ∙ before.same;
      quiet = passed.cause ∙ before.quiet;
      few = omega (arith, passed.four.1, before.few);
      at = omega (arith, passed.counts, before.at);
      vertices = ap (λ (e : Graph). e.vertices) graph ∙ before.vertices;
      divisor = before.divisor;
      room = omega (arith, ap (λ (e : Graph). e.room) graph, before.room);
      tag_room = λ kept. omega (arith, before.tag_room kept, c.add_keys.ensures.capacity);
      tag_count = λ kept. omega (arith, c.add_keys.ensures.tag_count kept, passed.four.0, before.tag_count kept);
      edges_long = longer _ _ _ _ _ edges (length-map four (λ hashed. r.edge hashed n) ∙ passed.four.0) before.edges_long;
      edges = λ told is. four_more (λ hashed. r.edge hashed n) told _ _ c.args.seed _ _ _ four (passed.gives told (before.same ∙ is)) passed.counts edges (before.edges told is);
      tags_long = λ kept. longer _ _ _ _ _ (c.add_keys.ensures.tags kept) (length-map four r.tag ∙ passed.four.0) (before.tags_long kept);
      untagged = λ none. c.add_keys.ensures.untagged none ∙ before.untagged none;
      tags = λ kept told is. four_more r.tag told _ _ c.args.seed _ _ _ four (passed.gives told (before.same ∙ is)) passed.counts (c.add_keys.ensures.tags kept) (before.tags kept told is);
    }

pub more-preserved-then-add_at_hand : goal.more-preserved-then-add_at_hand
more-preserved-then-add_at_hand g c =
    let P = g.P.KeyPass in
    let r = g.S.Scheme.rule c.args.scheme.now in
    let n : ℕ = c.args.edges.now.vertices in
    let before = c.more.invariant in
    let first = c.four_at_hand.ensures in
    let same = first.told ∙ before.same in
    let still = ap P.place (if_none (c.four_at_hand.new.keys ≡ c.more.keys) c.four_at_hand.result first.unchanged c.in_default.not-Some) in
    let added = c.add_at_hand.ensures in
    let yes' = c.if-add_at_hand.true in
    let adds = added.adds yes' in
    record {
      ready = added.usable;
      same = added.told ∙ same;
      quiet = added.cause ∙ (first.cause ∙ before.quiet);
      few = omega (arith, c.more-test.true);
      at = omega (arith, added.counts yes', still, before.at);
      vertices = ap (λ (e : Graph). e.vertices) adds.1 ∙ before.vertices;
      divisor = before.divisor;
      room = omega (arith, ap (λ (e : Graph). e.room) adds.1, before.room);
      tag_room = λ kept. omega (arith, before.tag_room kept, added.capacity);
      tag_count = λ kept. omega (arith, added.tag_count yes' kept, before.tag_count kept);
      edges_long = longer _ _ _ _ 1 (ap (λ (e : Graph). e.edges) adds.1) refl before.edges_long;
      edges = λ told is.
          (let words = adds.3 told (same ∙ is) in
          one_more _ _ _ _ _ _ _ words.0 (ap (λ (e : Graph). e.edges) adds.1) (ap (λ (p : ℕ). drop p told.keys) (sym still) ∙ words.1) (ap (λ (v : ℕ). r.edge adds.0 v) before.vertices ∙ ap (λ (ws : List ℕ). r.edge ws n) words.2) (before.edges told is));
      tags_long = λ kept. longer _ _ _ _ 1 (adds.2 kept) refl (before.tags_long kept);
      untagged = λ none. added.untagged none ∙ before.untagged none;
      tags = λ kept told is.
          (let words = adds.3 told (same ∙ is) in
          one_more _ _ _ _ _ _ _ words.0 (adds.2 kept) (ap (λ (p : ℕ). drop p told.keys) (sym still) ∙ words.1) (ap r.tag words.2) (before.tags kept told is));
    }

pub more-preserved : goal.more-preserved
more-preserved g c =
    let P = g.P.KeyPass in
    let r = g.S.Scheme.rule c.args.scheme.now in
    let n : ℕ = c.args.edges.now.vertices in
    let before = c.more.invariant in
    let first = c.four_at_hand.ensures in
    let second = c.add_at_hand.ensures in
    let same = second.told ∙ (first.told ∙ before.same) in
    let still = second.unchanged c.if-add_at_hand.false in
    let place = ap P.place still.0 ∙ ap P.place (if_none (c.four_at_hand.new.keys ≡ c.more.keys) c.four_at_hand.result first.unchanged c.in_default.not-Some) in
    let words = rw c.in-Ok-Some.field-0-is at c.in-Ok-Some.ensures.gives in
    let counts = rw c.in-Ok-Some.field-0-is at c.in-Ok-Some.ensures.counts in
    let edges = c.add_key.ensures.edges ∙ ap (λ (e : Graph). let x : Graph = record e { edges = e.edges ++ r.edge c.in-Ok-Some.hashed e.vertices ∷ [] } in x) still.1 in
    let tags = λ (kept : g.S.Scheme.KEEPS_TAGS ≡ true). c.add_key.ensures.tags kept ∙ ap (λ ts. ts.items ++ r.tag c.in-Ok-Some.hashed ∷ []) still.2 in
    record {
      ready = c.in-Ok-Some.ensures.usable;
      same = c.read_words.ensures.told ∙ same;
      quiet = c.in-Ok-Some.ensures.cause ∙ (second.cause ∙ (first.cause ∙ before.quiet));
      few = omega (arith, c.more-test.true);
      at = omega (arith, counts, place, before.at);
      vertices = ap (λ (e : Graph). e.vertices) edges ∙ before.vertices;
      divisor = before.divisor;
      room = omega (arith, ap (λ (e : Graph). e.room) edges, before.room);
      tag_room = λ kept. omega (arith, before.tag_room kept, c.add_key.ensures.capacity, second.capacity);
      tag_count = λ kept. omega (arith, c.add_key.ensures.tag_count kept, ap vec_len still.2, before.tag_count kept);
      edges_long = longer _ _ _ _ 1 (ap (λ (e : Graph). e.edges) edges) refl before.edges_long;
      edges = λ told is.
          (let given = words told (same ∙ is) in
          one_more _ _ _ _ _ _ _ given.0 (ap (λ (e : Graph). e.edges) edges) (ap (λ (p : ℕ). drop p told.keys) (sym place) ∙ given.1) (ap (λ (v : ℕ). r.edge c.in-Ok-Some.hashed v) before.vertices ∙ ap (λ (ws : List ℕ). r.edge ws n) given.2) (before.edges told is));
      tags_long = λ kept. longer _ _ _ _ 1 (tags kept) refl (before.tags_long kept);
      untagged = λ none. c.add_key.ensures.untagged none ∙ (ap (λ ts. ts.items) still.2 ∙ before.untagged none);
      tags = λ kept told is.
          (let given = words told (same ∙ is) in
          one_more _ _ _ _ _ _ _ given.0 (tags kept) (ap (λ (p : ℕ). drop p told.keys) (sym place) ∙ given.1) (ap r.tag given.2) (before.tags kept told is));
    }
