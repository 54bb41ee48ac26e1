-- A degree above a xor of 26 bits, in one number.
use Rattle.std.proofs.Common.{◌≡◌, ℕ, zero, suc, ◌∷◌, replicate, ◌+◌, ◌-◌, ◌*◌, ◌/◌, ◌%◌, ◌<◌, ◌≤◌, true, false, List, Option, length, get_or, set, map, sym, refl, ap, ◌∙◌, subst, arith, bit_xor}
use Rattle.std.proofs.lemmas.List.{length-map, map-set}
use Rattle.std.specs.Int.Bits.{xor_zero_r}
use Rattle.std.proofs.lemmas.Nat.{xor_block, xor_lt, mod_below}
use Rattle.std.proofs.Math.ListN.{get_or-map}
use Rattle.cm_graph_edges.specs.Graph.{Links, slot_touches, degree_of, sole_of, place_of, is_free}
use Rattle.cm_graph.specs.Next.{halves_at, AreNext}
use Rattle.cm_graph.specs.Kept.{AreKept, vertex_of, with_place, without_place}
use Rattle.cm_graph_edges.specs.declared.incidence.Half.{Half}
use Rattle.cm_graph.specs.declared.wide.Vertex.{Vertex}
use Rattle.cm_graph.proofs.Positions.{long, place_is}
use Rattle.cm_graph.proofs.Shares.{kept_more, kept_less, some_degree, lone_place}

vertex_eq : (a b c d : ℕ) → a ≡ c → b ≡ d → ◌≡◌ {A = Vertex} (record { degree = a; places = b }) (record { degree = c; places = d })
vertex_eq a b c d p q = λ i. record { degree = p i; places = q i }

pub xor_small : (w q : ℕ) → q < 67108864 → bit_xor (w % 67108864) q < 67108864
xor_small w q h = xor_lt 26 (w % 67108864) q (mod_below w 67108864 (omega arith)) h

-- the xor with a small number leaves the degree
pub xor_whole : (w q : ℕ) → q < 67108864 → bit_xor w q ≡ w / 67108864 * 67108864 + bit_xor (w % 67108864) q
xor_whole w q h =
    let whole : w ≡ w / 67108864 * 67108864 + w % 67108864 = omega arith in
    let low : q ≡ 0 * 67108864 + q = omega arith in
    ap (λ x. bit_xor x q) whole ∙ (ap (bit_xor (w / 67108864 * 67108864 + w % 67108864)) low ∙ (xor_block 26 (w / 67108864) 0 (w % 67108864) q (mod_below w 67108864 (omega arith)) h ∙ ap (λ x. x * 67108864 + bit_xor (w % 67108864) q) (xor_zero_r (w / 67108864))))

-- a word with a half-edge more, and one less
vertex_more : (w q : ℕ) → q < 67108864 → vertex_of (bit_xor w q + 67108864) ≡ with_place q (vertex_of w)
vertex_more w q h = vertex_eq _ _ _ _ (omega (arith, xor_whole w q h, xor_small w q h)) (omega (arith, xor_whole w q h, xor_small w q h))

vertex_less : (w q : ℕ) → q < 67108864 → 1 ≤ w / 67108864 → vertex_of (bit_xor w q - 67108864) ≡ without_place q (vertex_of w)
vertex_less w q h some = vertex_eq _ _ _ _ (omega (arith, xor_whole w q h, xor_small w q h, some)) (omega (arith, xor_whole w q h, xor_small w q h, some))

-- a place of few edges
pub small_place : {less more : List (List (Option ℕ))} {h : Half} → AreNext less more h → length less ≤ 16777216 → h.place < 67108864
small_place {less} {more} {h} n few = omega (arith, n.within, few, place_is h.place)

-- the vertex of a word, where it stands
read : (words : List ℕ) (v w : ℕ) → w ≡ get_or words v w → vertex_of w ≡ get_or (map vertex_of words) v (vertex_of w)
read words v w is = ap vertex_of is ∙ sym (get_or-map vertex_of words v w)

within_words : (words : List ℕ) (v : ℕ) → v < length words → v < length (map vertex_of words)
within_words words v h = subst (λ n. v < n) (sym (length-map words vertex_of)) h

-- with one half-edge more, and one less
pub words_more : (words : List ℕ) (less more : List (List (Option ℕ))) (h : Half) (w : ℕ) → AreKept (map vertex_of words) less → length less ≤ 16777216 → AreNext less more h → slot_touches h.vertex (halves_at less (h.place / 4)) ≡ false → h.vertex < length words → w ≡ get_or words h.vertex w
    → AreKept (map vertex_of (set words h.vertex (bit_xor w h.place + 67108864))) more × (length more ≤ 16777216)
words_more words less more h w k few n free within is = (
  subst (λ (vs : List Vertex). AreKept vs more)
      (sym (map-set vertex_of words h.vertex (bit_xor w h.place + 67108864) ∙ ap (set (map vertex_of words) h.vertex) (vertex_more w h.place (small_place n few))))
      (kept_more (map vertex_of words) less more h (vertex_of w) k n free (within_words words h.vertex within) (read words h.vertex w is)),
  omega (arith, long n, few),
)

pub word_has_degree : (words : List ℕ) (less more : List (List (Option ℕ))) (h : Half) (w : ℕ) → AreKept (map vertex_of words) more → AreNext less more h → h.vertex < length words → w ≡ get_or words h.vertex w → 1 ≤ w / 67108864
word_has_degree words less more h w k n within is = some_degree (map vertex_of words) less more h (vertex_of w) k n (within_words words h.vertex within) (read words h.vertex w is)

pub words_less : (words : List ℕ) (less more : List (List (Option ℕ))) (h : Half) (w : ℕ) → AreKept (map vertex_of words) more → length more ≤ 16777216 → AreNext less more h → h.vertex < length words → w ≡ get_or words h.vertex w
    → AreKept (map vertex_of (set words h.vertex (bit_xor w h.place - 67108864))) less × (length less ≤ 16777216)
words_less words less more h w k few n within is =
    let few' : length less ≤ 16777216 = omega (arith, long n, few) in (
      subst (λ (vs : List Vertex). AreKept vs less)
          (sym (map-set vertex_of words h.vertex (bit_xor w h.place - 67108864) ∙ ap (set (map vertex_of words) h.vertex) (vertex_less w h.place (small_place n few') (word_has_degree words less more h w k n within is))))
          (kept_less (map vertex_of words) less more h (vertex_of w) k n (within_words words h.vertex within) (read words h.vertex w is)),
      few',
    )

-- words of no half-edge
pub words_none : (n : ℕ) → map vertex_of (replicate n 0) ≡ replicate n (record { degree = 0; places = 0 })
words_none zero = refl
words_none (suc n) = ap (λ (xs : List Vertex). record { degree = 0; places = 0 } ∷ xs) (words_none n)

-- what a word says of its vertex
links_of_words : (l : Links) (words : List ℕ) (slots : List (List (Option ℕ))) → ◌≡◌ {A = Links} (record { vertices = length words; slots = slots }) l → ◌≡◌ {A = Links} (record { vertices = length (map vertex_of words); slots = slots }) l
links_of_words l words slots is = ap (λ n. record { vertices = n; slots = slots }) (length-map words vertex_of) ∙ is

pub word_degree_is : (l : Links) (words : List ℕ) (slots : List (List (Option ℕ))) (v w : ℕ) → ◌≡◌ {A = Links} (record { vertices = length words; slots = slots }) l → AreKept (map vertex_of words) slots → v < l.vertices → w ≡ get_or words v w → w / 67108864 ≡ degree_of l v
word_degree_is l words slots v w is k h at =
    let within : v < length words = subst (λ n. v < n) (sym (ap (λ (l : Links). l.vertices) is)) h in
    ap (λ (x : Vertex). x.degree) (read words v w at) ∙ (k.degree v (vertex_of w) (within_words words v within) ∙ ap (λ l. degree_of l v) is)

pub word_place_is : (l : Links) (words : List ℕ) (slots : List (List (Option ℕ))) (v w : ℕ) → ◌≡◌ {A = Links} (record { vertices = length words; slots = slots }) l → AreKept (map vertex_of words) slots → v < l.vertices → w ≡ get_or words v w → is_free l v ≡ true → (w % 67108864 ≡ place_of l v) × (w % 67108864 / 4 ≡ sole_of l v)
word_place_is l words slots v w is k h at free = lone_place l (map vertex_of words) slots v (vertex_of w) (links_of_words l words slots is) k h (read words v w at) free
