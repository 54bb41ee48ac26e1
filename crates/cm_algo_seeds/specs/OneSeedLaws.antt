-- Lemmas about one seed, and about the list of them.
use Rattle.std.proofs.Common.{◌≡◌, ◌≢◌, ◌⊎◌, ℕ, zero, suc, ◌+◌, ◌*◌, ◌<◌, ◌≤◌, Bool, true, false, List, [], ◌∷◌, length, map, get_or, sym, refl, ap, ◌∙◌, subst, inl, inr, arith, Some, None, nat_eq}
use Rattle.std.specs.Prelude.{find}
use Rattle.std.proofs.Math.Nat.{mul-add, mul-le-mul_left}
use Rattle.std.proofs.lemmas.Bool.{cases_lt, ne_eqb}
use Rattle.std.proofs.lemmas.List.{length-map}
use Rattle.cm_algo_seeds.specs.Builds.{IsGiven}
use Rattle.cm_algo_seeds.specs.TagLaws.{SameTags, cells_agree}
use Rattle.cm_spec.specs.Built.{edge_of, tag_of, graph_of, is_peeled, first_seed, IsFirst, AllCored}
use Rattle.cm_peel.specs.CoreLaws.{empty_core, empty_rest}
use Rattle.cm_spec.specs.Cells.{plan_of, cells_of}
use Rattle.cm_spec.specs.Rounds.{rest_of}
use Rattle.cm_spec.specs.Rule.{Rule}

-- the graph of one seed
pub record IsHashed (r : Rule) (keys : List (ℕ × List ℕ)) (m c seed : ℕ) (edges : List (List ℕ)) (tags : List ℕ) : Type 0 where
  pub many : m ≡ length keys
  pub edges_are : edges ≡ graph_of r keys c seed
  pub tags_are : SameTags tags (map (tag_of r seed) keys)

pub graph_from : (r : Rule) (keys : List (ℕ × List ℕ)) (m c seed n : ℕ) (edges : List (List ℕ)) → n ≡ r.size m c → edges ≡ map (edge_of r n seed) keys → length edges ≡ m → edges ≡ graph_of r keys c seed
graph_from r keys m c seed n edges size e long =
    let many : m ≡ length keys = sym long ∙ (ap length e ∙ length-map keys (edge_of r n seed)) in
    e ∙ (ap (λ k. map (edge_of r k seed) keys) size ∙ ap (λ k. map (edge_of r (r.size k c) seed) keys) many)

pub hashed_from : (r : Rule) (keys : List (ℕ × List ℕ)) (m c seed n : ℕ) (edges : List (List ℕ)) (tags : List ℕ) → n ≡ r.size m c → edges ≡ map (edge_of r n seed) keys → SameTags tags (map (tag_of r seed) keys) → length edges ≡ m → IsHashed r keys m c seed edges tags
hashed_from r keys m c seed n edges tags size e t long = record {
  many = sym long ∙ (ap length e ∙ length-map keys (edge_of r n seed));
  edges_are = graph_from r keys m c seed n edges size e long;
  tags_are = t;
}

pub given_from : (r : Rule) (keys : List (ℕ × List ℕ)) (m c seed n : ℕ) (edges : List (List ℕ)) (tags cells : List ℕ) → n ≡ r.size m c → IsHashed r keys m c seed edges tags → rest_of edges ≡ [] → cells ≡ cells_of (plan_of r n edges tags) → (m ≡ length keys) × IsGiven r keys c seed cells
given_from r keys m c seed n edges tags cells size h none is = (
  h.many,
  (
    ap rest_of (sym h.edges_are) ∙ none,
    is ∙ (ap (λ k. cells_of (plan_of r k edges tags)) (size ∙ ap (λ k. r.size k c) h.many)
        ∙ (ap (λ es. cells_of (plan_of r (r.size (length keys) c) es tags)) h.edges_are
        ∙ cells_agree r (r.size (length keys) c) (graph_of r keys c seed) tags (map (tag_of r seed) keys) h.tags_are)),
  ),
)

pub no_keys : {A : Type 0} (xs : List A) → length xs ≡ 0 → xs ≡ []
no_keys [] h = refl
no_keys (x ∷ xs) h = absurd (omega arith)

pub steps_more : (k m n s0 s t i : ℕ) → s ≤ s0 + 8 * (k * m) * i → t ≤ s + 8 * (k * m) → m ≡ n → t ≤ s0 + 8 * (k * n) * (i + 1)
steps_more k m n s0 s t i a b e =
    let more : 8 * (k * m) * (i + 1) ≡ 8 * (k * m) * i + 8 * (k * m) * 1 = mul-add (8 * (k * m)) i 1 in
    let same : 8 * (k * m) * (i + 1) ≡ 8 * (k * n) * (i + 1) = ap (λ (x : ℕ). 8 * (k * x) * (i + 1)) e in
    let whole : t ≤ s0 + 8 * (k * m) * (i + 1) = omega arith in
    subst (λ (x : ℕ). t ≤ s0 + x) same whole

pub steps_err : (k m n s0 s t i len : ℕ) → s ≤ s0 + 8 * (k * m) * i → t ≤ s + 8 * (k * m) → m ≡ n → i < len → t ≤ s0 + 8 * (k * n) * len
steps_err k m n s0 s t i len a b e l =
    let more : t ≤ s0 + 8 * (k * n) * (i + 1) = steps_more k m n s0 s t i a b e in
    let up : i + 1 ≤ len = omega arith in
    omega (arith, mul-le-mul_left (8 * (k * n)) up)

pub steps_one : (k m n s0 t len : ℕ) → t ≤ s0 + 8 * (k * m) → m ≡ n → 0 < len → t ≤ s0 + 8 * (k * n) * len
steps_one k m n s0 t len a e l = steps_err k m n s0 s0 t 0 len (omega arith) a e l

-- the steps of later seeds, which come after those of the first
pub steps_later : (x y s s0 before : ℕ) → s0 ≤ before + x → s + x ≤ s0 + y → s ≤ before + y
steps_later x y s s0 before a b = omega arith

pub steps_on : (k m s0 s t i : ℕ) → s + 8 * (k * m) ≤ s0 + 8 * (k * m) * i → t ≤ s + 8 * (k * m) → t + 8 * (k * m) ≤ s0 + 8 * (k * m) * (i + 1)
steps_on k m s0 s t i a b =
    let more : 8 * (k * m) * (i + 1) ≡ 8 * (k * m) * i + 8 * (k * m) * 1 = mul-add (8 * (k * m)) i 1 in
    omega arith

pub steps_all : (k m s s0 before i len : ℕ) → s0 ≤ before + 8 * (k * m) → s + 8 * (k * m) ≤ s0 + 8 * (k * m) * i → i ≤ len → s ≤ before + 8 * (k * m) * len
steps_all k m s s0 before i len a b up = omega (arith, mul-le-mul_left (8 * (k * m)) up)

-- the steps of the first seed and of all later ones
pub steps_both : (k m n before first last len : ℕ) → m ≡ n → first ≤ before + 8 * (k * n) → ((s : ℕ) → first ≤ s + 8 * (k * m) → last ≤ s + 8 * (k * m) * len) → last ≤ before + 8 * (k * n) * len
steps_both k m n before first last len same spent later =
    subst (λ (x : ℕ). last ≤ before + 8 * (k * x) * len) same (later before (subst (λ (x : ℕ). first ≤ before + 8 * (k * x)) (sym same) spent))

-- one more seed that leaves a nonempty residual graph
pub left_more : (P : ℕ → Type 0) (i j : ℕ) → ((j : ℕ) → j < i → P j) → P i → j < i + 1 → P j
left_more P i j h p l = go (cases_lt j i) where
  go : (j < i) ⊎ (i ≤ j) → P j
  go (inl low) = h j low
  go (inr high) = let s : i ≡ j = omega arith in subst P s p

-- the first of a list that passes a test
find_at : (p : ℕ → Bool) (xs : List ℕ) (i : ℕ) → i < length xs → p (get_or xs i 0) ≡ true → ((j : ℕ) → j < i → p (get_or xs j 0) ≡ false) → find p xs ≡ Some (get_or xs i 0)
find_at p [] i l h b = absurd (omega arith)
find_at p (x ∷ xs) zero l h b = rw h refl
find_at p (x ∷ xs) (suc i) l h b = let f : p x ≡ false = b 0 (omega arith) in rw f (find_at p xs i (omega arith) h (λ j m. b (suc j) (omega arith)))

find_none : (p : ℕ → Bool) (xs : List ℕ) → ((j : ℕ) → j < length xs → p (get_or xs j 0) ≡ false) → find p xs ≡ None
find_none p [] b = refl
find_none p (x ∷ xs) b = let f : p x ≡ false = b 0 (omega arith) in rw f (find_none p xs (λ j m. b (suc j) (omega arith)))

peeled_is : (xs : List ℕ) → xs ≡ [] → nat_eq (length xs) 0 ≡ true
peeled_is xs e = rw e refl

left_is : (xs : List ℕ) → xs ≢ [] → nat_eq (length xs) 0 ≡ false
left_is [] h = absurd (h refl)
left_is (x ∷ xs) h = ne_eqb (length (x ∷ xs)) 0 (λ z. absurd (omega arith))

-- the seed at a place is the first, for all before it leave a nonempty residual graph
pub chosen_at : (r : Rule) (keys : List (ℕ × List ℕ)) (c i : ℕ) (seeds : List ℕ) → i < length seeds → rest_of (graph_of r keys c (get_or seeds i 0)) ≡ []
    → ((j : ℕ) → j < i → rest_of (graph_of r keys c (get_or seeds j 0)) ≢ []) → first_seed r keys c seeds ≡ Some (get_or seeds i 0)
chosen_at r keys c i seeds l none left = find_at (is_peeled r keys c) seeds i l (peeled_is _ none) (λ j m. left_is _ (left j m))

pub none_chosen : (r : Rule) (keys : List (ℕ × List ℕ)) (c : ℕ) (seeds : List ℕ) → ((j : ℕ) → j < length seeds → rest_of (graph_of r keys c (get_or seeds j 0)) ≢ []) → first_seed r keys c seeds ≡ None
none_chosen r keys c seeds left = find_none (is_peeled r keys c) seeds (λ j m. left_is _ (left j m))

-- the same with the 2-core
pub first_at : (r : Rule) (keys : List (ℕ × List ℕ)) (c i : ℕ) (seeds : List ℕ) → i < length seeds → rest_of (graph_of r keys c (get_or seeds i 0)) ≡ []
    → ((j : ℕ) → j < i → rest_of (graph_of r keys c (get_or seeds j 0)) ≢ []) → IsFirst r keys c seeds i (get_or seeds i 0)
first_at r keys c i seeds l none left = record {
  within = l;
  at = refl;
  empty = empty_core _ none;
  earlier = λ j m core. left j m (empty_rest _ core);
}

pub all_cored : (r : Rule) (keys : List (ℕ × List ℕ)) (c : ℕ) (seeds : List ℕ) → ((j : ℕ) → j < length seeds → rest_of (graph_of r keys c (get_or seeds j 0)) ≢ []) → AllCored r keys c seeds
all_cored r keys c seeds left = λ j m core. left j m (empty_rest _ core)
