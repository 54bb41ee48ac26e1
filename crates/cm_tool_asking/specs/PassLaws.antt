-- Lemmas about keys of a pass that were answered one after another, for those who answer them.
use Rattle.std.proofs.Common.{◌≡◌, ◌∙◌, ℕ, ◌+◌, ◌≤◌, List, [], ◌∷◌, ◌++◌, length, take, drop, Option, Bool, Err, refl, ap, sym, subst, arith, append-nil}
use Rattle.std.proofs.Math.Seq.{take-add}
use Rattle.std.proofs.lemmas.Grind.{flat_map-append}
use Rattle.std.proofs.lemmas.List.{length-drop, take_all}
use Rattle.cm_io.specs.Noting.{Noted}
use Rattle.cm_io.specs.NotingLaws.{noted_more}
use Rattle.cm_io.specs.Passes.{GivesKey, Told}
use Rattle.cm_io.specs.States.{SinkState}
use Rattle.cm_io.specs.Writing.{joined, then_bytes}
use Rattle.cm_io.specs.WritingLaws.{joined-append, then_twice}
use Rattle.cm_io.specs.declared.key_pass.KeyFault.{KeyFault}
use Rattle.cm_io.specs.declared.key_pass.KeyFault.TheVariants.{Read, TooLong, TooMany}
use Rattle.cm_query_batch.specs.Earlier.{with_earlier}
use Rattle.cm_query_batch.specs.EarlierLaws.{with_earlier-more}
use Rattle.cm_query_batch.specs.declared.fault.QueryFault.TheVariants.{Key, Write}
use Rattle.cm_tool_asking.specs.Leaves.{EndsPass, wrote}
use Rattle.cm_tool_asking.specs.Meanings.{Replies, notes_of, text_of}

pub text_of-one : (r : Replies) (k : ℕ × List ℕ) → text_of r (k ∷ []) ≡ r.line k.1
text_of-one r k = append-nil (r.line k.1)

pub text_of-more : (r : Replies) (keys : List (ℕ × List ℕ)) (k : ℕ × List ℕ) → text_of r (keys ++ k ∷ []) ≡ text_of r keys ++ r.line k.1
text_of-more r keys k = flat_map-append (λ (k : ℕ × List ℕ). r.line k.1) keys (k ∷ []) ∙ ap (λ (l : List ℕ). text_of r keys ++ l) (text_of-one r k)

pub notes_of-more : (r : Replies) (keys : List (ℕ × List ℕ)) (k : ℕ × List ℕ) → notes_of r (keys ++ k ∷ []) ≡ notes_of r keys ++ r.note keys k
notes_of-more r keys k =
    ap joined (with_earlier-more r.note [] keys k) ∙ joined-append (with_earlier r.note [] keys) (r.note keys k ∷ []) ∙ ap (λ (l : List ℕ). notes_of r keys ++ l) (append-nil (r.note keys k))

-- The keys given so far are answered: their lines are on out, and this is whether nothing is amiss with them.
pub record SoFar (r : Replies) (given : List (ℕ × List ℕ)) (complete : Bool) (old new : Option (List ℕ)) : Type 0 where
  pub out : new ≡ then_bytes old (text_of r given)
  pub complete_is : complete ≡ r.complete given

pub next_within : (keys : List (ℕ × List ℕ)) (place : ℕ) (k : ℕ × List ℕ) → drop place keys ≡ k ∷ drop (place + 1) keys → place + 1 ≤ length keys
next_within keys place k is =
    let long : length (drop place keys) ≡ 1 + length (drop (place + 1) keys) = ap length is ∙ omega arith in
    omega (arith, length-drop place keys)

taken_next : (keys : List (ℕ × List ℕ)) (place : ℕ) (k : ℕ × List ℕ) → drop place keys ≡ k ∷ drop (place + 1) keys → take (place + 1) keys ≡ take place keys ++ k ∷ []
taken_next keys place k next = take-add place 1 keys ∙ ap (λ (l : List (ℕ × List ℕ)). take place keys ++ take 1 l) next

-- one key more
pub so_far_next : (r : Replies) (keys : List (ℕ × List ℕ)) (place : ℕ) (k : ℕ × List ℕ) (complete complete' : Bool) (old mid new : Option (List ℕ)) → drop place keys ≡ k ∷ drop (place + 1) keys → complete' ≡ r.complete (take place keys ++ k ∷ [])
    → SoFar r (take place keys) complete old mid → new ≡ then_bytes mid (r.line k.1) → SoFar r (take (place + 1) keys) complete' old new
so_far_next r keys place k complete complete' old mid new next all so_far wrote =
    let line = r.line k.1 in
    let given = take place keys in
    subst (λ (ks : List (ℕ × List ℕ)). SoFar r ks complete' old new) (sym (taken_next keys place k next)) (record {
      out = wrote ∙ ap (λ (o : Option (List ℕ)). then_bytes o line) so_far.out ∙ then_twice old (text_of r given) line ∙ ap (then_bytes old) (sym (text_of-more r given k));
      complete_is = all;
    })

-- and its note
pub noted_next_key : (r : Replies) (keys : List (ℕ × List ℕ)) (place : ℕ) (k : ℕ × List ℕ) (had failed failed' : Bool) (old mid new : SinkState) → drop place keys ≡ k ∷ drop (place + 1) keys
    → Noted had failed old mid (notes_of r (take place keys)) → Noted failed failed' mid new (r.note (take place keys) k) → Noted had failed' old new (notes_of r (take (place + 1) keys))
noted_next_key r keys place k had failed failed' old mid new next so_far noted =
    let more : notes_of r (take (place + 1) keys) ≡ notes_of r (take place keys) ++ r.note (take place keys) k = ap (notes_of r) (taken_next keys place k next) ∙ notes_of-more r (take place keys) k in
    subst (Noted had failed' old new) (sym more) (noted_more so_far noted)

-- where the pass refused
pub ends_at_fault : (r : Replies) (told : Told) (place now line : ℕ) (key : List ℕ) (complete : Bool) (old new : Option (List ℕ)) (fault : KeyFault) → GivesKey told place now line key (Err fault) → SoFar r (take place told.keys) complete old new
    → EndsPass r told (wrote old new (notes_of r (take place told.keys))) (Err (Key fault))
ends_at_fault r told place now line key complete old new Read gives so_far = (place, record { out = so_far.out ∙ ap (then_bytes old) (sym (append-nil _)); notes_are = refl })
ends_at_fault r told place now line key complete old new (TooLong at) gives so_far =
    let all : take place told.keys ≡ told.keys = take_all place told.keys (omega (arith, gives.all)) in
    record { fault_is = gives.fault_is; out = so_far.out ∙ ap (λ (ks : List (ℕ × List ℕ)). then_bytes old (text_of r ks)) all; notes_are = ap (notes_of r) all }
ends_at_fault r told place now line key complete old new TooMany gives so_far =
    let all : take place told.keys ≡ told.keys = take_all place told.keys (omega (arith, gives.all)) in
    record { fault_is = gives.fault_is; out = so_far.out ∙ ap (λ (ks : List (ℕ × List ℕ)). then_bytes old (text_of r ks)) all; notes_are = ap (notes_of r) all }

-- where a write failed, at the key after some
pub ends_at_write : (r : Replies) (told : Told) (place now : ℕ) (k : ℕ × List ℕ) (complete : Bool) (old mid new : Option (List ℕ)) → drop place told.keys ≡ k ∷ drop now told.keys → SoFar r (take place told.keys) complete old mid
    → ((n : ℕ) × (new ≡ then_bytes mid (take n (r.line k.1)))) → EndsPass r told (wrote old new (notes_of r (take place told.keys))) (Err Write)
ends_at_write r told place now k complete old mid new next so_far wrote =
    let given = text_of r (take place told.keys) in
    let line : r.line k.1 ≡ text_of r (take 1 (drop place told.keys)) = sym (text_of-one r k) ∙ ap (λ (l : List (ℕ × List ℕ)). text_of r (take 1 l)) (sym next) in (
      place,
      wrote.0,
      record {
        out = wrote.1 ∙ ap (λ (o : Option (List ℕ)). then_bytes o (take wrote.0 (r.line k.1))) so_far.out ∙ then_twice old given (take wrote.0 (r.line k.1)) ∙ ap (λ (l : List ℕ). then_bytes old (given ++ take wrote.0 l)) line;
        notes_are = refl;
      },
    )
