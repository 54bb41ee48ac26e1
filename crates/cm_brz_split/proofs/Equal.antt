-- The keys of a bucket, as they come one after another.
use Rattle.std.proofs.Common.{◌≡◌, ◌∙◌, ℕ, ◌+◌, ◌≤◌, Bool, true, false, cond, List, [], ◌∷◌, ◌++◌, length, eqb, refl, sym, ap, arith, append_assoc, length-append}
use mir.Val.{bool_byte}
use Rattle.std.specs.Prelude.{filter}
use Rattle.std.proofs.lemmas.List.{append-nil}
use Rattle.std.proofs.lemmas.List.Elements.{filter-append}
use Rattle.cm_brz_func.specs.Functions.{bucket_of}
use Rattle.cm_witness_gather.specs.Noted.{AreNoted}
use Rattle.cm_witness_gather.specs.Pairs.{pairs}
use Rattle.cm_witness_gather.specs.declared.certificate.Pair.{Pair}
use Rattle.cm_brz_split.specs.Given.{GaveCount, GaveEqual}
use Rattle.cm_brz_split.specs.Passes.{NotesNext}
use Rattle.cm_brz_func.specs.Splitting.{keys_of_bucket, size_of_bucket}

-- of all keys these are left, and n others of the bucket were noted
pub record AreNotedBut (n : ℕ) (noted : List (ℕ × List ℕ)) (found : List Pair) (left all : List (ℕ × List ℕ)) (k s j : ℕ) : Type 0 where
  pub earlier : List (ℕ × List ℕ)
  pub are : AreNoted earlier noted found
  pub many : n ≡ length earlier
  pub all_is : earlier ++ keys_of_bucket left k s j ≡ keys_of_bucket all k s j

pub filter-cons : {X : Type 0} (p : X → Bool) (x : X) (xs : List X) → filter p (x ∷ xs) ≡ cond (p x) (x ∷ []) [] ++ filter p xs
filter-cons p x xs = elim (p x) as (λ b. cond b (x ∷ filter p xs) (filter p xs) ≡ cond b (x ∷ []) [] ++ filter p xs) [ true ↦ refl | false ↦ refl ]

length_one : {X : Type 0} (b : Bool) (x : X) → length (cond b (x ∷ []) []) ≡ cond b 1 0
length_one b x = elim b as (λ v. length (cond v (x ∷ []) []) ≡ cond v 1 0) [ true ↦ refl | false ↦ refl ]

pub byte_is : (b : Bool) → bool_byte b ≡ cond b 1 0
byte_is true = refl
byte_is false = refl

pub byte_most : (b : Bool) → bool_byte b ≤ 1
byte_most true = omega arith
byte_most false = omega arith

pub none_noted : (noted all : List (ℕ × List ℕ)) (found : List Pair) (k s j : ℕ) → AreNoted [] noted found → AreNotedBut 0 noted found all all k s j
none_noted noted all found k s j h = record { earlier = []; are = h; many = refl; all_is = refl }

pub noted_more : (n n' : ℕ) (noted noted' left rest all : List (ℕ × List ℕ)) (found found' : List Pair) (k s j : ℕ) (here : Bool) → AreNotedBut n noted found left all k s j → NotesNext left rest k s j here noted found noted' found' → n' ≡ n + cond here 1 0 → AreNotedBut n' noted' found' rest all k s j
noted_more n n' noted noted' left rest all found found' k s j here before next more =
    let now : List (ℕ × List ℕ) = cond here (next.key ∷ []) [] in
    let long : length now ≡ cond here 1 0 = length_one here next.key in
    let split : keys_of_bucket left k s j ≡ now ++ keys_of_bucket rest k s j = ap (λ (xs : List (ℕ × List ℕ)). keys_of_bucket xs k s j) next.is ∙ (filter-cons (λ (x : ℕ × List ℕ). eqb (bucket_of x.1 s k) j) next.key rest ∙ ap (λ (b : Bool). cond b (next.key ∷ []) [] ++ keys_of_bucket rest k s j) (sym next.here_is)) in
    record {
      earlier = before.earlier ++ now;
      are = next.notes before.earlier before.are;
      many = omega (arith, length-append before.earlier now, before.many);
      all_is = append_assoc before.earlier now (keys_of_bucket rest k s j) ∙ (ap (λ (xs : List (ℕ × List ℕ)). before.earlier ++ xs) (sym split) ∙ before.all_is);
    }

pub all_noted : (n : ℕ) (noted left all : List (ℕ × List ℕ)) (found : List Pair) (k s j : ℕ) (h : AreNotedBut n noted found left all k s j) → left ≡ [] → h.earlier ≡ keys_of_bucket all k s j
all_noted n noted left all found k s j h e = sym (append-nil h.earlier) ∙ (ap (λ (xs : List (ℕ × List ℕ)). h.earlier ++ keys_of_bucket xs k s j) (sym e) ∙ h.all_is)

pub pairs_noted : (n : ℕ) (noted left all : List (ℕ × List ℕ)) (found found' : List Pair) (k s j : ℕ) → AreNotedBut n noted found left all k s j → left ≡ [] → ((earlier : List (ℕ × List ℕ)) → AreNoted earlier noted found → found' ≡ pairs earlier) → found' ≡ pairs (keys_of_bucket all k s j)
pairs_noted n noted left all found found' k s j h e is = is h.earlier h.are ∙ ap pairs (all_noted n noted left all found k s j h e)

pub size_noted : (n : ℕ) (noted left all : List (ℕ × List ℕ)) (found : List Pair) (k s j : ℕ) → AreNotedBut n noted found left all k s j → left ≡ [] → n ≡ size_of_bucket all k s j
size_noted n noted left all found k s j h e = h.many ∙ ap length (all_noted n noted left all found k s j h e)

-- a pass gave some keys, of which n are of the bucket and were noted
pub record GaveNoted (Gave : List (ℕ × List ℕ) → Type 0) (n : ℕ) (noted : List (ℕ × List ℕ)) (found : List Pair) (k s j : ℕ) : Type 0 where
  pub keys : List (ℕ × List ℕ)
  pub given : Gave keys
  pub are : AreNotedBut n noted found [] keys k s j

pub gave_none_noted : (Gave : List (ℕ × List ℕ) → Type 0) (noted : List (ℕ × List ℕ)) (found : List Pair) (k s j : ℕ) → Gave [] → AreNoted [] noted found → GaveNoted Gave 0 noted found k s j
gave_none_noted Gave noted found k s j given h = record { keys = []; given = given; are = none_noted noted [] found k s j h }

pub gave_one_noted : (Gave Now : List (ℕ × List ℕ) → Type 0) (n n' : ℕ) (noted noted' : List (ℕ × List ℕ)) (found found' : List Pair) (k s j : ℕ) (here : Bool) → GaveNoted Gave n noted found k s j
    → ((before : List (ℕ × List ℕ)) → Gave before → (next : ℕ × List ℕ) × Now (before ++ next ∷ []) × NotesNext (next ∷ []) [] k s j here noted found noted' found') → n' ≡ n + cond here 1 0 → GaveNoted Now n' noted' found' k s j
gave_one_noted Gave Now n n' noted noted' found found' k s j here before gives more =
    let next = gives before.keys before.given in
    let key : ℕ × List ℕ = next.0 in
    let p : ℕ × List ℕ → Bool = λ x. eqb (bucket_of x.1 s k) j in
    let was = before.are in
    let ahead : AreNotedBut n noted found (key ∷ []) (before.keys ++ key ∷ []) k s j = record {
      earlier = was.earlier;
      are = was.are;
      many = was.many;
      all_is = ap (λ (xs : List (ℕ × List ℕ)). xs ++ keys_of_bucket (key ∷ []) k s j) (sym (append-nil was.earlier) ∙ was.all_is) ∙ sym (filter-append p before.keys (key ∷ []));
    } in
    record {
      keys = before.keys ++ key ∷ [];
      given = next.1;
      are = noted_more n n' noted noted' (key ∷ []) [] (before.keys ++ key ∷ []) found found' k s j here ahead next.2 more;
    }

pub gave_found : (Gave : List (ℕ × List ℕ) → Type 0) (n : ℕ) (noted : List (ℕ × List ℕ)) (found : List Pair) (k s j : ℕ) → GaveNoted Gave n noted found k s j → GaveCount Gave k s j n
gave_found Gave n noted found k s j h = record { keys = h.keys; given = h.given; count_is = size_noted n noted [] h.keys found k s j h.are refl }

pub gave_equal : (Gave : List (ℕ × List ℕ) → Type 0) (n count : ℕ) (noted : List (ℕ × List ℕ)) (found found' : List Pair) (k s j : ℕ) → GaveNoted Gave n noted found k s j → n ≡ count → ((earlier : List (ℕ × List ℕ)) → AreNoted earlier noted found → found' ≡ pairs earlier) → GaveEqual Gave k s j count found'
gave_equal Gave n count noted found found' k s j h same is = record {
  keys = h.keys;
  given = h.given;
  count_is = sym same ∙ size_noted n noted [] h.keys found k s j h.are refl;
  equal_are = pairs_noted n noted [] h.keys found found' k s j h.are refl is;
}
