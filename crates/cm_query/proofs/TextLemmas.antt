-- The text of some keys is a prefix of the text of more.
use Rattle.std.proofs.Common.{◌≡◌, ◌∙◌, ℕ, ◌+◌, ◌-◌, ◌≤◌, min, List, [], ◌∷◌, ◌++◌, length, take, drop, Option, ap, sym, arith, append-nil, take-append-drop, refl}
use Rattle.std.proofs.lemmas.Grind.{flat_map-append}
use Rattle.std.proofs.lemmas.List.{take_at, take_min, take-append-le}
use Rattle.std.proofs.Math.Seq.{take-append-add}
use Rattle.cm_io.specs.Writing.{then_bytes}
use Rattle.cm_io.specs.WritingLaws.{then_nothing}
use Rattle.cm_query_batch.specs.Stops.{TextAfter}
use Rattle.cm_query.specs.Texts.{line_of, text_of}
use Rattle.cm_query_batch.specs.declared.fault.QueryFault.{QueryFault}
use Rattle.cm_query_batch.specs.declared.fault.QueryFault.TheVariants.{Memory, Key, Write}

pub text_of-append : (end : ℕ) (f : List ℕ → Option ℕ) (xs ys : List (ℕ × List ℕ)) → text_of end f (xs ++ ys) ≡ text_of end f xs ++ text_of end f ys
text_of-append end f xs ys = flat_map-append (λ (k : ℕ × List ℕ). line_of end k.1 (f k.1)) xs ys

pub text_of-one : (end : ℕ) (f : List ℕ → Option ℕ) (k : ℕ × List ℕ) → text_of end f (k ∷ []) ≡ line_of end k.1 (f k.1)
text_of-one end f k = append-nil (line_of end k.1 (f k.1))

pub text_of-more : (end : ℕ) (f : List ℕ → Option ℕ) (keys : List (ℕ × List ℕ)) (k : ℕ × List ℕ) → text_of end f (keys ++ k ∷ []) ≡ text_of end f keys ++ line_of end k.1 (f k.1)
text_of-more end f keys k = text_of-append end f keys (k ∷ []) ∙ ap (λ (l : List ℕ). text_of end f keys ++ l) (text_of-one end f k)

pub text_split : (end : ℕ) (f : List ℕ → Option ℕ) (keys : List (ℕ × List ℕ)) (n : ℕ) → text_of end f keys ≡ text_of end f (take n keys) ++ text_of end f (drop n keys)
text_split end f keys n = ap (text_of end f) (sym (take-append-drop n keys)) ∙ text_of-append end f (take n keys) (drop n keys)

-- the text of the first keys
front_of_given : (end : ℕ) (f : List ℕ → Option ℕ) (keys : List (ℕ × List ℕ)) (given : ℕ) (old new : Option (List ℕ)) → new ≡ then_bytes old (text_of end f (take given keys)) → (n : ℕ) × (new ≡ then_bytes old (take n (text_of end f keys)))
front_of_given end f keys given old new is =
    let a = text_of end f (take given keys) in
    (length a, is ∙ ap (then_bytes old) (sym (ap (λ (l : List ℕ). take (length a) l) (text_split end f keys given) ∙ take_at a (text_of end f (drop given keys)) (length a) refl)))

-- and a prefix of that of the next key
front_of_next : (end : ℕ) (f : List ℕ → Option ℕ) (keys : List (ℕ × List ℕ)) (before i : ℕ) (old new : Option (List ℕ))
    → new ≡ then_bytes old (text_of end f (take before keys) ++ take i (text_of end f (take 1 (drop before keys)))) → (n : ℕ) × (new ≡ then_bytes old (take n (text_of end f keys)))
front_of_next end f keys before i old new is =
    let a = text_of end f (take before keys) in
    let x = text_of end f (take 1 (drop before keys)) in
    let rest = text_of end f (drop 1 (drop before keys)) in
    let m = min i (length x) in
    let in_text : m ≤ length x = omega arith in
    let whole : text_of end f keys ≡ a ++ (x ++ rest) = text_split end f keys before ∙ ap (λ (l : List ℕ). a ++ l) (text_split end f (drop before keys) 1) in (
      length a + m,
      is ∙ ap (then_bytes old) (ap (λ (l : List ℕ). a ++ l) (sym (take_min i x) ∙ sym (take-append-le m x rest in_text)) ∙ sym (take-append-add a (x ++ rest) m) ∙ ap (λ (l : List ℕ). take (length a + m) l) (sym whole)),
    )

-- After a failure out has a prefix of the text of all keys.
pub front_after : (end : ℕ) (f : List ℕ → Option ℕ) (keys : List (ℕ × List ℕ)) (given : ℕ) (old new : Option (List ℕ)) (fault : QueryFault) → TextAfter (text_of end f) keys given old new fault → (n : ℕ) × (new ≡ then_bytes old (take n (text_of end f keys)))
front_after end f keys given old new Memory is = (0, is ∙ then_nothing old)
front_after end f keys given old new (Key fault) is = front_of_given end f keys given old new is
front_after end f keys given old new Write is = front_of_next end f keys (given - 1) is.0 old new is.1
