-- Lemmas about keys that wait for their buckets in a spill.
use Rattle.std.proofs.Common.{◌≡◌, ◌∙◌, ◌∷◌, ℕ, Bool, true, cond, List, [], ◌++◌, Option, None, Some, drop, length, refl, ap, sym, subst, Result, Ok, Err}
use Rattle.std.specs.Prelude.{IfOk, OnOk, is_some}
use Rattle.std.specs.Option.{ForSome}
use Rattle.std.specs.List.Sorted.{IsPermutation}
use Rattle.std.proofs.lemmas.List.{append-nil}
use Rattle.cm_brz_split.specs.Spilled.{AreSpilled, HoldsKnown}
use Rattle.std.proofs.lemmas.Bool.{eq-eqb, false≢true}
use Rattle.cm_brz_split.specs.Puts.{records_under}
use Rattle.cm_brz_split.specs.Records.{GivesRecord, Record, records_of}
use Rattle.cm_brz_split.specs.declared.fault.BrzFault.{BrzFault}
use Rattle.cm_brz_func.specs.Functions.{Brz}
use Rattle.cm_io.specs.Passes.{Told}
use Rattle.cm_spill.specs.Stores.{GivesNext, Holds, IsOfWriting, Store, given_of, left_of, new_store}
use Rattle.cm_spill.specs.declared.fault.SpillError.{SpillError}
use Rattle.cm_spill.specs.declared.fault.SpillError.TheVariants.{Failed}

-- what two facts of a call that succeeds show
pub both_ok : {T E P Q R : Type 0} (r : Result T E) → (P → Q → R) → OnOk r P → OnOk r Q → OnOk r R
both_ok (Ok x) shows p q = shows p q
both_ok (Err e) shows p q = tt

-- known contents, as a value
some_of : {A : Type 0} (o : Option A) → is_some o ≡ true → (x : A) × (o ≡ Some x)
some_of None is = absurd (false≢true is)
some_of (Some x) is = (x, refl)

-- what holds of some contents holds if they are known
pub where_known : {A : Type 0} (o : Option A) (P : Type 0) → is_some o ≡ true → ForSome o (λ _. P) → P
where_known o P is all = let some = some_of o is in all some.0 some.1

-- what the spill's store gives, as what a store gives
pub given_record : (records : List Record) (bucket before now count : ℕ) (key : List ℕ) (line : Option ℕ) → GivesNext bucket (left_of records bucket before) (left_of records bucket now) key line → count ≡ now → GivesRecord records bucket before key line count
given_record records bucket before now count key None gives is = gives.0
given_record records bucket before now count key (Some line) gives is =
    let r : Record = record { bucket = bucket; line = line; key = key } in
    gives ∙ ap (λ (n : ℕ). r ∷ drop n (records_of bucket records)) (sym is)

-- of the bucket read last this many were read
pub given_is : (s : Store) (bucket : ℕ) → s.bucket ≡ bucket → given_of s bucket ≡ s.given
given_is s bucket is = ap (λ (b : Bool). cond b s.given 0) (eq-eqb bucket s.bucket (sym is))

-- a new store holds no record
pub new_holds : (s : Store) (known : Option (List ℕ)) (faults bytes : ℕ) → s ≡ new_store known faults bytes → Holds s [] → is_some s.known ≡ true → HoldsKnown s []
new_holds s known faults bytes state holds is = record { known = is; held = holds; written = λ sealed. ap (λ (x : Store). x.waiting) state }

-- what the store holds once all was put and written
are_spilled : (s : Store) (bytes : List ℕ) (puts : List Record) → s.known ≡ Some bytes → s.sealed ≡ true → HoldsKnown s puts → AreSpilled bytes puts
are_spilled s bytes puts known sealed holds =
    let held = holds.held bytes known in
    record {
      written = held.written;
      records = held.records;
      each_once = subst (λ (rs : List Record). IsPermutation rs puts) (ap (λ (rs : List Record). held.written ++ rs) (holds.written sealed) ∙ append-nil held.written) held.same;
    }

-- so it is after a build, if the spill's contents are known
pub spilled : (result : Result Brz BrzFault) (s : Store) (known : Option (List ℕ)) (told : Option Told) → known ≡ s.known → OnOk result (s.sealed ≡ true) → (is_some s.known ≡ true → IfOk result (λ f. ForSome told (λ t. HoldsKnown s (records_under t.keys (length f.buckets) f.split)))) → IfOk result (λ f. ForSome known (λ bytes. ForSome told (λ t. AreSpilled bytes (records_under t.keys (length f.buckets) f.split))))
spilled (Err e) s known told same sealed put = tt
spilled (Ok f) s known told same sealed put = λ bytes some t is.
    let here : s.known ≡ Some bytes = sym same ∙ some in
    are_spilled s bytes (records_under t.keys (length f.buckets) f.split) here sealed (put (ap (λ (o : Option (List ℕ)). is_some o) here) t is)

-- a failed spill is not a damaged one
pub failed_only : (error : SpillError) → error ≡ Failed → IsOfWriting error
failed_only error is = subst IsOfWriting (sym is) tt
