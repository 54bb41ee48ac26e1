-- When a test is true.
use Rattle.std.proofs.Common.{◌≡◌, ◌∙◌, ◌⊎◌, ◌↔◌, ℕ, zero, suc, ◌<◌, List, [], ◌∷◌, ◌++◌, length, take, get_or, Option, None, Some, Bool, true, false, inl, inr, ⊎_elim, refl, ap, sym, subst, arith, append-nil, append_assoc, length-take}
use Rattle.std.specs.Prelude.{◌==◌, if◌then◌else◌}
use Rattle.std.proofs.lemmas.Bool.{eq-eqb, eqb-true, false≢true}
use Rattle.std.proofs.lemmas.List.{get_or-take}
use Rattle.std.proofs.lemmas.List.Folds.{list_any_at, list_any_none}
use Rattle.cm_io.specs.Passes.{Told}
use Rattle.cm_io.specs.declared.key_pass.KeyFault.{KeyFault}
use Rattle.cm_query.specs.Repeats.{is_number, is_repeated}
use Rattle.cm_query_batch.specs.Earlier.{with_earlier}
use Rattle.cm_shards_query.proofs.TestLemmas.{skip}
use Rattle.cm_shards_query.specs.Verdicts.{IsNumbering, count_verdict, fault_at, fault_by, first_fault, first_some, verdict_status}
use Rattle.cm_shards_query.specs.Written.{test_by, test_reply}
use Rattle.cm_shards_query.specs.declared.verdict.Verdict.{Verdict}
use Rattle.cm_shards_query.specs.declared.verdict.Verdict.TheVariants.{Count, Holds, Repeated, Unknown}
use Rattle.cm_spec.specs.Built.{key_at}

-- the key has a number, which none of these lines has
abbrev pub IsNew : (List ℕ → Option ℕ) → List (ℕ × List ℕ) → List ℕ → Type 0
IsNew f earlier key = (v : ℕ) × (f key ≡ Some v) × (is_repeated f earlier (Some v) ≡ false)

unrepeated : (line v : ℕ) (b : Bool) → fault_by line (Some v) b ≡ None → b ≡ false
unrepeated line v true none = absurd (cc)
unrepeated line v false none = refl

new_by : (f : List ℕ → Option ℕ) (earlier : List (ℕ × List ℕ)) (line : ℕ) (key : List ℕ) (o : Option ℕ) → f key ≡ o → fault_by line o (is_repeated f earlier o) ≡ None → IsNew f earlier key
new_by f earlier line key None is none = absurd (cc)
new_by f earlier line key (Some v) is none = (v, is, unrepeated line v (is_repeated f earlier (Some v)) none)

fine_at : (f : List ℕ → Option ℕ) (earlier : List (ℕ × List ℕ)) (k : ℕ × List ℕ) → IsNew f earlier k.1 → fault_at f earlier k ≡ None
fine_at f earlier k new = ap (λ (o : Option ℕ). fault_by k.0 o (is_repeated f earlier o)) new.1 ∙ ap (fault_by k.0 (Some new.0)) new.2

-- each line is new, if none is at fault
all_new : (f : List ℕ → Option ℕ) (earlier keys : List (ℕ × List ℕ)) → first_some (with_earlier (fault_at f) earlier keys) ≡ None → (i : ℕ) → i < length keys → IsNew f (earlier ++ take i keys) (key_at keys i)
all_new f earlier [] none i inside = absurd (omega (arith, inside))
all_new f earlier (k ∷ ks) none zero inside =
    let here = skip (fault_at f earlier k) (with_earlier (fault_at f) (earlier ++ k ∷ []) ks) none in
    subst (λ (e : List (ℕ × List ℕ)). IsNew f e k.1) (sym (append-nil earlier)) (new_by f earlier k.0 k.1 (f k.1) refl here.0)
all_new f earlier (k ∷ ks) none (suc i) inside =
    let here = skip (fault_at f earlier k) (with_earlier (fault_at f) (earlier ++ k ∷ []) ks) none in
    subst (λ (e : List (ℕ × List ℕ)). IsNew f e (key_at ks i)) (append_assoc earlier (k ∷ []) (take i ks)) (all_new f (earlier ++ k ∷ []) ks here.1 i (omega (arith, inside)))

-- and none is at fault, if each is new
none_at : (f : List ℕ → Option ℕ) (earlier keys : List (ℕ × List ℕ)) → ((i : ℕ) → i < length keys → IsNew f (earlier ++ take i keys) (key_at keys i)) → first_some (with_earlier (fault_at f) earlier keys) ≡ None
none_at f earlier [] new = refl
none_at f earlier (k ∷ ks) new =
    let first : IsNew f earlier k.1 = subst (λ (e : List (ℕ × List ℕ)). IsNew f e k.1) (append-nil earlier) (new 0 (omega arith)) in
    ap (λ (o : Option Verdict). first_some (o ∷ with_earlier (fault_at f) (earlier ++ k ∷ []) ks)) (fine_at f earlier k first)
    ∙ none_at f (earlier ++ k ∷ []) ks (λ i inside. subst (λ (e : List (ℕ × List ℕ)). IsNew f e (key_at ks i)) (sym (append_assoc earlier (k ∷ []) (take i ks))) (new (suc i) (omega (arith, inside))))

compare : (i j : ℕ) → (i < j) ⊎ ((j < i) ⊎ (i ≡ j))
compare zero zero = inr (inr refl)
compare zero (suc j) = inl (omega arith)
compare (suc i) zero = inr (inl (omega arith))
compare (suc i) (suc j) = further i j (compare i j)
  where
    further : (i j : ℕ) → (i < j) ⊎ ((j < i) ⊎ (i ≡ j)) → (suc i < suc j) ⊎ ((suc j < suc i) ⊎ (suc i ≡ suc j))
    further i j (inl less) = inl (omega (arith, less))
    further i j (inr (inl more)) = inr (inl (omega (arith, more)))
    further i j (inr (inr same)) = inr (inr (ap suc same))

-- an earlier line has no number that a new one has
later_differs : (f : List ℕ → Option ℕ) (keys : List (ℕ × List ℕ)) (i j : ℕ) → i < j → j < length keys → IsNew f (take j keys) (key_at keys j) → f (key_at keys i) ≡ f (key_at keys j) → ⊥
later_differs f keys i j less inside new same =
    let d : ℕ × List ℕ = (0, []) in
    let v = new.0 in
    let number : f (get_or (take j keys) i d).1 ≡ Some v = ap (λ (k : ℕ × List ℕ). f k.1) (get_or-take j keys i d less) ∙ same ∙ new.1 in
    let passes : is_number v (f (get_or (take j keys) i d).1) ≡ true = ap (is_number v) number ∙ eq-eqb v v refl in
    false≢true (sym new.2 ∙ list_any_at (λ (k : ℕ × List ℕ). is_number v (f k.1)) (take j keys) i d (omega (arith, less, inside, length-take j keys)) passes)

apart_by : (f : List ℕ → Option ℕ) (keys : List (ℕ × List ℕ)) (i j : ℕ) → ((i : ℕ) → i < length keys → IsNew f (take i keys) (key_at keys i)) → i < length keys → j < length keys → f (key_at keys i) ≡ f (key_at keys j) → (i < j) ⊎ ((j < i) ⊎ (i ≡ j)) → i ≡ j
apart_by f keys i j new one two same (inl less) = absurd (later_differs f keys i j less two (new j two) same)
apart_by f keys i j new one two same (inr (inl more)) = absurd (later_differs f keys j i more one (new i one) (sym same))
apart_by f keys i j new one two same (inr (inr is)) = is

-- no line is at fault, and there are as many as keys
numbering_of : (f : List ℕ → Option ℕ) (n : ℕ) (keys : List (ℕ × List ℕ)) → first_fault f keys ≡ None → length keys ≡ n → IsNumbering f n keys
numbering_of f n keys none count =
    let new : (i : ℕ) → i < length keys → IsNew f (take i keys) (key_at keys i) = all_new f [] keys none in
    record {
      each = λ i inside. let it = new i inside in (it.0, it.1);
      apart = λ i j one two same. apart_by f keys i j new one two same (compare i j);
      count = count;
    }

not_true : (b : Bool) → (b ≡ true → ⊥) → b ≡ false
not_true true never = absurd (never refl)
not_true false never = refl

other_number : (v : ℕ) (o : Option ℕ) → (o ≡ Some v → ⊥) → is_number v o ≡ false
other_number v None never = refl
other_number v (Some w) never = not_true (w == v) (λ is. never (ap (λ (x : ℕ). let o : Option ℕ = Some x in o) (eqb-true w v is)))

-- and the other way round
none_of : (f : List ℕ → Option ℕ) (n : ℕ) (keys : List (ℕ × List ℕ)) → IsNumbering f n keys → first_fault f keys ≡ None
none_of f n keys good = none_at f [] keys (λ i inside.
    let it = good.each i inside in
    let v = it.0 in
    let new : is_repeated f (take i keys) (Some v) ≡ false = list_any_none (λ (k : ℕ × List ℕ). is_number v (f k.1)) (take i keys) (λ j d low.
    let less : j < i = omega (arith, low, length-take i keys) in
    let none : ℕ × List ℕ = (0, []) in
    let there : j < length keys = omega (arith, less, inside) in
    let here : get_or (take i keys) j d ≡ get_or keys j none = get_or-take i keys j d less ∙ default_of keys j d none there in
    other_number v (f (get_or (take i keys) j d).1) (λ is.
    let same : f (key_at keys j) ≡ f (key_at keys i) = sym (ap (λ (k : ℕ × List ℕ). f k.1) here) ∙ is ∙ sym it.1 in
    let equal : j ≡ i = good.apart j i there inside same in
    omega (arith, less, equal))) in
    (v, it.1, new))
  where
    default_of : {A : Type 0} (xs : List A) (i : ℕ) (d e : A) → i < length xs → get_or xs i d ≡ get_or xs i e
    default_of [] i d e inside = absurd (omega (arith, inside))
    default_of (x ∷ xs) zero d e inside = refl
    default_of (x ∷ xs) (suc i) d e inside = default_of xs i d e (omega (arith, inside))

bad_by : (line : ℕ) (o : Option ℕ) (b : Bool) (x : Verdict) → fault_by line o b ≡ Some x → verdict_status x ≡ 1
bad_by line None b x is = let same : Unknown line ≡ x = cc in ap verdict_status (sym same)
bad_by line (Some v) true x is = let same : Repeated line v ≡ x = cc in ap verdict_status (sym same)
bad_by line (Some v) false x is = absurd (cc)

pick : (o : Option Verdict) (rest : List (Option Verdict)) (x : Verdict) → first_some (o ∷ rest) ≡ Some x → (o ≡ Some x) ⊎ (first_some rest ≡ Some x)
pick None rest x is = inr is
pick (Some y) rest x is = inl is

-- what is wrong with a line is said with status 1
first_bad : (f : List ℕ → Option ℕ) (earlier keys : List (ℕ × List ℕ)) (x : Verdict) → first_some (with_earlier (fault_at f) earlier keys) ≡ Some x → verdict_status x ≡ 1
first_bad f earlier [] x is = absurd (cc)
first_bad f earlier (k ∷ ks) x is =
    ⊎_elim (bad_by k.0 (f k.1) (is_repeated f earlier (f k.1)) x) (first_bad f (earlier ++ k ∷ []) ks x) (pick (fault_at f earlier k) (with_earlier (fault_at f) (earlier ++ k ∷ []) ks) x is)

counted : (f : List ℕ → Option ℕ) (n : ℕ) (told : Told) (status : ℕ) (t : Bool) → (length told.keys == n) ≡ t → first_fault f told.keys ≡ None → told.fault ≡ None → status ≡ verdict_status (if t then Holds else Count (length told.keys) n)
    → (status ≡ 0) ↔ ((told.fault ≡ None) × IsNumbering f n told.keys)
counted f n told status true is none sound status_is = (λ zero. (sound, numbering_of f n told.keys none (eqb-true (length told.keys) n is)), λ good. status_is)
counted f n told status false is none sound status_is = (λ zero. absurd (omega (arith, zero, status_is)), λ good. absurd (false≢true (sym is ∙ eq-eqb (length told.keys) n good.1.count)))

truth_by : (f : List ℕ → Option ℕ) (n : ℕ) (told : Told) (status : ℕ) (o : Option Verdict) (e : Option KeyFault) → first_fault f told.keys ≡ o → told.fault ≡ e → status ≡ (test_reply (test_by o e (count_verdict (length told.keys) n))).status
    → (let none : Option KeyFault = None in none ≡ (test_reply (test_by o e (count_verdict (length told.keys) n))).fault) → (status ≡ 0) ↔ ((told.fault ≡ None) × IsNumbering f n told.keys)
truth_by f n told status (Some x) e first fault status_is fault_is =
    let one : verdict_status x ≡ 1 = first_bad f [] told.keys x first in
    (λ zero. absurd (omega (arith, zero, status_is, one)), λ good. let none = none_of f n told.keys good.1 in absurd (cc))
truth_by f n told status None (Some y) first fault status_is fault_is = absurd (cc)
truth_by f n told status None None first fault status_is fault_is = counted f n told status (length told.keys == n) refl first fault status_is

-- the status of a test is 0 exactly if all is well
pub test_truth : (f : List ℕ → Option ℕ) (n : ℕ) (told : Told) (status : ℕ) → status ≡ (test_reply (test_by (first_fault f told.keys) told.fault (count_verdict (length told.keys) n))).status
    → (let none : Option KeyFault = None in none ≡ (test_reply (test_by (first_fault f told.keys) told.fault (count_verdict (length told.keys) n))).fault) → (status ≡ 0) ↔ ((told.fault ≡ None) × IsNumbering f n told.keys)
test_truth f n told status status_is fault_is = truth_by f n told status (first_fault f told.keys) told.fault refl refl status_is fault_is
