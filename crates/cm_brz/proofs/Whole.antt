-- From the parts of a build to the whole.
use Rattle.std.proofs.Common.{◌≡◌, ◌≢◌, ◌∙◌, ℕ, ◌<◌, List, length, get_or, sym, ap, subst, Option, None, Some, is_some, Result, Ok, Err}
use Rattle.std.specs.Prelude.{slice_index}
use Rattle.std.specs.Result.{IsErrAnd}
use Rattle.cm_brz.specs.BrzOf.{AreBuilt, IsBrzOf, bucket_from}
use Rattle.cm_brz.specs.Fails.{FailsBrz, FailsBuckets, FailsKeys, HasBrzForm, HasBuildingForm, IsCoredIn, IsDamage, IsOfOverfull, IsSplitKnown, RefusesOverfull}
use Rattle.cm_brz_split.specs.Faults.{FailsPassing, HasFailure, IfChanged, IfDamage, IfOverfull, IsOfPassing, OnNoKeys}
use Rattle.cm_brz_split.specs.Puts.{keys_in_bucket, records_under}
use Rattle.cm_brz_split.specs.Records.{Record}
use Rattle.cm_brz_func.specs.Splitting.{IsLowestOver, keys_of_bucket}
use Rattle.cm_brz_split.specs.Split.{split_of}
use Rattle.cm_brz_split.specs.declared.fault.BrzFault.{BrzFault}
use Rattle.cm_brz_split.specs.declared.fault.BrzFault.TheVariants.{Memory, NoKeys, Overfull, Cored, Key, Changed, SpillFailed, SpillDamaged}
use Rattle.cm_brz_func.specs.Functions.{Brz, bucket_count, no_bucket}
use Rattle.cm_spec.specs.declared.limits.TheConstants.{MAX_BUCKET}
use Rattle.cm_io.specs.Passes.{Told}
use Rattle.cm_io.specs.declared.key_pass.KeyFault.{KeyFault}
use Rattle.cm_spill.specs.declared.fault.SpillError.{SpillError}
use Rattle.cm_spec.specs.Bdz.{bdz_rule}
use Rattle.cm_spec.specs.Built.{IsFirst}
use Rattle.cm_witness_gather.specs.Pairs.{pairs}
use Rattle.cm_witness_gather.specs.declared.certificate.Pair.{Pair}
use Rattle.cm_witness_gather.specs.declared.certificate.InBucket.{InBucket}
use Rattle.cm_brz_split.specs.PutsLaws.{keys_of_records}

-- the records of a bucket are its keys
bucket_keys : (keys : List (ℕ × List ℕ)) (k split : ℕ) (records : List Record) → records ≡ records_under keys k split → (j : ℕ) → keys_in_bucket records j ≡ keys_of_bucket keys k split j
bucket_keys keys k split records e j = ap (λ (rs : List Record). keys_in_bucket rs j) e ∙ keys_of_records keys k split j

pub brz_of : (keys : List (ℕ × List ℕ)) (c b : ℕ) (seeds : List ℕ) (f : Brz) (records : List Record) → f.keys ≡ length keys → f.ratio ≡ c → f.width ≡ b → split_of keys (bucket_count (length keys) b) seeds ≡ Some f.split → length f.buckets ≡ bucket_count (length keys) b → AreBuilt (keys_in_bucket records) c seeds f.buckets → records ≡ records_under keys (length f.buckets) f.split → IsBrzOf keys c b seeds f
brz_of keys c b seeds f records many ratio width split count built e =
    let same : (j : ℕ) → keys_in_bucket records j ≡ keys_of_bucket keys (length f.buckets) f.split j = bucket_keys keys (length f.buckets) f.split records e in
    record {
      many = many;
      ratio = ratio;
      width = width;
      split = split;
      count = count;
      each = λ j l. ap (λ (ks : List (ℕ × List ℕ)). bucket_from ks c seeds) (sym (same j)) ∙ built.each j l;
      first = λ j l some. subst (λ (ks : List (ℕ × List ℕ)). (place : ℕ) × IsFirst bdz_rule ks c seeds place (get_or f.buckets j no_bucket).seed) (same j) (built.first j l (λ none. some (sym (same j) ∙ none)));
    }

pub fails_whole : (told : Told) (c b split : ℕ) (seeds : List ℕ) (records : List Record) (e : BrzFault) → told.fault ≡ None → split_of told.keys (bucket_count (length told.keys) b) seeds ≡ Some split → records ≡ records_under told.keys (bucket_count (length told.keys) b) split → FailsBuckets (keys_in_bucket records) (bucket_count (length told.keys) b) c split seeds e → FailsBrz told c b seeds e
fails_whole told c b split seeds records Memory whole chosen is h = tt
fails_whole told c b split seeds records NoKeys whole chosen is h = absurd h
fails_whole told c b split seeds records (Overfull seed bucket count equal) whole chosen is h = absurd h
fails_whole told c b split seeds records (Cored made) whole chosen is h =
    let k : ℕ = bucket_count (length told.keys) b in
    let same : (j : ℕ) → keys_in_bucket records j ≡ keys_of_bucket told.keys k split j = bucket_keys told.keys k split records is in
    let place : InBucket = record { split = split; bucket = h.bucket } in (
      whole,
      record {
        place = place;
        chosen = chosen;
        within = h.within;
        earlier = λ j l. ap (λ (ks : List (ℕ × List ℕ)). is_some (bucket_from ks c seeds)) (sym (same j)) ∙ h.earlier j l;
        cored = subst (λ (ks : List (ℕ × List ℕ)). IsCoredIn ks c seeds place made) (same h.bucket) h.cored;
      },
    )
fails_whole told c b split seeds records (Key fault) whole chosen is h = absurd h
fails_whole told c b split seeds records (Changed first now) whole chosen is h = absurd h
fails_whole told c b split seeds records SpillFailed whole chosen is h = tt
fails_whole told c b split seeds records (SpillDamaged offset expected found) whole chosen is h = absurd h

-- a failure that `?` returns is that of the call
pub returned : {T E : Type 0} (result : Result T E) (fault : E) → IsErrAnd result (λ e. e ≡ fault) → result ≡ Err fault
returned (Ok x) fault is = absurd is
returned {T = T} {E = E} (Err e) fault is = ap (λ (x : E). let r : Result T E = Err x in r) is

pub fails_passing : (told : Told) (c b : ℕ) (seeds : List ℕ) (e : BrzFault) → FailsPassing told e → FailsBrz told c b seeds e
fails_passing told c b seeds Memory h = tt
fails_passing told c b seeds NoKeys h = absurd h
fails_passing told c b seeds (Overfull seed bucket count equal) h = absurd h
fails_passing told c b seeds (Cored made) h = absurd h
fails_passing told c b seeds (Key fault) h = h
fails_passing told c b seeds (Changed first now) h = absurd h
fails_passing told c b seeds SpillFailed h = tt
fails_passing told c b seeds (SpillDamaged offset expected found) h = absurd h

pub passing_form : (seeds : List ℕ) (e : BrzFault) → IsOfPassing e → IfChanged e (λ first now. first ≢ now) → HasBrzForm seeds e
passing_form seeds Memory h differs = tt
passing_form seeds NoKeys h differs = absurd h
passing_form seeds (Overfull seed bucket count equal) h differs = absurd h
passing_form seeds (Cored made) h differs = absurd h
passing_form seeds (Key fault) h differs = tt
passing_form seeds (Changed first now) h differs = differs
passing_form seeds SpillFailed h differs = tt
passing_form seeds (SpillDamaged offset expected found) h differs = absurd h

pub building_form : (seeds : List ℕ) (e : BrzFault) → HasBuildingForm seeds e → HasBrzForm seeds e
building_form seeds Memory h = tt
building_form seeds NoKeys h = absurd h
building_form seeds (Overfull seed bucket count equal) h = absurd h
building_form seeds (Cored made) h = h
building_form seeds (Key fault) h = absurd h
building_form seeds (Changed first now) h = absurd h
building_form seeds SpillFailed h = tt
building_form seeds (SpillDamaged offset expected found) h = h

pub passing_undamaged : (e : BrzFault) → IsOfPassing e → IsDamage e → ⊥
passing_undamaged Memory h d = d
passing_undamaged NoKeys h d = d
passing_undamaged (Overfull seed bucket count equal) h d = d
passing_undamaged (Cored made) h d = d
passing_undamaged (Key fault) h d = d
passing_undamaged (Changed first now) h d = d
passing_undamaged SpillFailed h d = d
passing_undamaged (SpillDamaged offset expected found) h d = h

pub building_undamaged : (keys_of : ℕ → List (ℕ × List ℕ)) (k c split : ℕ) (seeds : List ℕ) (e : BrzFault) → FailsBuckets keys_of k c split seeds e → IsDamage e → ⊥
building_undamaged keys_of k c split seeds Memory h d = d
building_undamaged keys_of k c split seeds NoKeys h d = d
building_undamaged keys_of k c split seeds (Overfull seed bucket count equal) h d = d
building_undamaged keys_of k c split seeds (Cored made) h d = d
building_undamaged keys_of k c split seeds (Key fault) h d = d
building_undamaged keys_of k c split seeds (Changed first now) h d = d
building_undamaged keys_of k c split seeds SpillFailed h d = d
building_undamaged keys_of k c split seeds (SpillDamaged offset expected found) h d = h

-- the failure for an overfull bucket
pub refuses : (told : Told) (c b seed bucket count : ℕ) (seeds : List ℕ) (e : BrzFault) → told.fault ≡ None → seed ≡ slice_index seeds 0 → split_of told.keys (bucket_count (length told.keys) b) seeds ≡ None → IsLowestOver told.keys (bucket_count (length told.keys) b) seed bucket count → RefusesOverfull told (bucket_count (length told.keys) b) seed bucket count e → FailsBrz told c b seeds e
refuses told c b seed bucket count seeds Memory whole first none lowest h = tt
refuses told c b seed bucket count seeds NoKeys whole first none lowest h = absurd h
refuses told c b seed bucket count seeds (Overfull s j n equal) whole first none lowest h =
    let k : ℕ = bucket_count (length told.keys) b in (
      whole,
      record {
        none = none;
        first = h.0 ∙ first;
        lowest = subst (λ (x : ℕ). IsLowestOver told.keys k s j x) (sym h.2) (subst (λ (x : ℕ). IsLowestOver told.keys k s x count) (sym h.1) (subst (λ (x : ℕ). IsLowestOver told.keys k x bucket count) (sym h.0) lowest));
        equal_are = h.3 ∙ (ap (λ (x : ℕ). pairs (keys_of_bucket told.keys k x bucket)) (sym h.0) ∙ ap (λ (x : ℕ). pairs (keys_of_bucket told.keys k s x)) (sym h.1));
      },
    )
refuses told c b seed bucket count seeds (Cored made) whole first none lowest h = absurd h
refuses told c b seed bucket count seeds (Key fault) whole first none lowest h = h
refuses told c b seed bucket count seeds (Changed x y) whole first none lowest h = absurd h
refuses told c b seed bucket count seeds SpillFailed whole first none lowest h = absurd h
refuses told c b seed bucket count seeds (SpillDamaged offset expected found) whole first none lowest h = absurd h

pub overfull_form : (seeds : List ℕ) (e : BrzFault) → IsOfOverfull e → IfOverfull e (λ seed bucket count equal. (seed ≡ slice_index seeds 0) × (MAX_BUCKET < count)) → IfChanged e (λ first now. first ≢ now) → HasBrzForm seeds e
overfull_form seeds Memory h over differs = tt
overfull_form seeds NoKeys h over differs = absurd h
overfull_form seeds (Overfull s j n equal) h over differs = over
overfull_form seeds (Cored made) h over differs = absurd h
overfull_form seeds (Key fault) h over differs = tt
overfull_form seeds (Changed x y) h over differs = differs
overfull_form seeds SpillFailed h over differs = absurd h
overfull_form seeds (SpillDamaged offset expected found) h over differs = absurd h

pub refuses_at : (told : Told) (c b k seed bucket count : ℕ) (seeds : List ℕ) (e : BrzFault) → k ≡ bucket_count (length told.keys) b → told.fault ≡ None → seed ≡ slice_index seeds 0 → split_of told.keys k seeds ≡ None → IsLowestOver told.keys k seed bucket count → RefusesOverfull told k seed bucket count e → FailsBrz told c b seeds e
refuses_at told c b k seed bucket count seeds e is whole first none lowest h =
    refuses told c b seed bucket count seeds e whole first (subst (λ (x : ℕ). split_of told.keys x seeds ≡ None) is none) (subst (λ (x : ℕ). IsLowestOver told.keys x seed bucket count) is lowest) (subst (λ (x : ℕ). RefusesOverfull told x seed bucket count e) is h)

-- known keys that a seed splits
pub split_known : (told : Told) (b m seed : ℕ) (seeds : List ℕ) → length told.keys ≡ m → told.fault ≡ None → m ≢ 0 → split_of told.keys (bucket_count (length told.keys) b) seeds ≡ Some seed → IsSplitKnown told b seeds
split_known told b m seed seeds many whole some first = (whole, λ none. some (sym many ∙ ap (λ (ks : List (ℕ × List ℕ)). length ks) none), ap (λ (o : Option ℕ). is_some o) first)

-- the failures over known keys, whatever is known of the spill
pub splitting_known : (told : Told) (c b : ℕ) (seeds : List ℕ) (e : BrzFault) → IsOfOverfull e → FailsBrz told c b seeds e → FailsKeys told b seeds e
splitting_known told c b seeds Memory h fails = tt
splitting_known told c b seeds NoKeys h fails = absurd h
splitting_known told c b seeds (Overfull seed bucket count equal) h fails = fails
splitting_known told c b seeds (Cored made) h fails = absurd h
splitting_known told c b seeds (Key fault) h fails = fails
splitting_known told c b seeds (Changed first now) h fails = fails
splitting_known told c b seeds SpillFailed h fails = absurd h
splitting_known told c b seeds (SpillDamaged offset expected found) h fails = absurd h

pub passing_known : (told : Told) (b : ℕ) (seeds : List ℕ) (e : BrzFault) → IsSplitKnown told b seeds → FailsPassing told e → FailsKeys told b seeds e
passing_known told b seeds Memory is fails = tt
passing_known told b seeds NoKeys is fails = absurd fails
passing_known told b seeds (Overfull seed bucket count equal) is fails = absurd fails
passing_known told b seeds (Cored made) is fails = absurd fails
passing_known told b seeds (Key fault) is fails = fails
passing_known told b seeds (Changed first now) is fails = absurd fails
passing_known told b seeds SpillFailed is fails = is
passing_known told b seeds (SpillDamaged offset expected found) is fails = absurd fails

pub building_known : (told : Told) (b : ℕ) (seeds : List ℕ) (e : BrzFault) → IsSplitKnown told b seeds → HasBuildingForm seeds e → FailsKeys told b seeds e
building_known told b seeds Memory is form = tt
building_known told b seeds NoKeys is form = absurd form
building_known told b seeds (Overfull seed bucket count equal) is form = absurd form
building_known told b seeds (Cored made) is form = is
building_known told b seeds (Key fault) is form = absurd form
building_known told b seeds (Changed first now) is form = absurd form
building_known told b seeds SpillFailed is form = is
building_known told b seeds (SpillDamaged offset expected found) is form = is

-- what a build of buckets never says
pub building_other : (seeds : List ℕ) (e : BrzFault) (P : ℕ → ℕ → Type 0) (Q : ℕ → ℕ → ℕ → List Pair → Type 0) (R : Type 0) (failure : Option KeyFault) → HasBuildingForm seeds e → IfChanged e P × IfOverfull e Q × OnNoKeys e R × HasFailure failure e
building_other seeds Memory P Q R failure h = (tt, tt, tt, tt)
building_other seeds NoKeys P Q R failure h = absurd h
building_other seeds (Overfull seed bucket count equal) P Q R failure h = absurd h
building_other seeds (Cored made) P Q R failure h = (tt, tt, tt, tt)
building_other seeds (Key fault) P Q R failure h = absurd h
building_other seeds (Changed first now) P Q R failure h = absurd h
building_other seeds SpillFailed P Q R failure h = (tt, tt, tt, tt)
building_other seeds (SpillDamaged offset expected found) P Q R failure h = (tt, tt, tt, tt)

-- nor a pass that puts the keys
pub passing_other : (e : BrzFault) (P : SpillError → Type 0) (Q : ℕ → ℕ → ℕ → List Pair → Type 0) (R : Type 0) → IsOfPassing e → IfDamage e P × IfOverfull e Q × OnNoKeys e R
passing_other Memory P Q R h = (tt, tt, tt)
passing_other NoKeys P Q R h = absurd h
passing_other (Overfull seed bucket count equal) P Q R h = absurd h
passing_other (Cored made) P Q R h = absurd h
passing_other (Key fault) P Q R h = (tt, tt, tt)
passing_other (Changed first now) P Q R h = (tt, tt, tt)
passing_other SpillFailed P Q R h = (tt, tt, tt)
passing_other (SpillDamaged offset expected found) P Q R h = absurd h

-- nor the passes that split them
pub splitting_other : (e : BrzFault) (P : SpillError → Type 0) (R : Type 0) → IsOfOverfull e → IfDamage e P × OnNoKeys e R
splitting_other Memory P R h = (tt, tt)
splitting_other NoKeys P R h = absurd h
splitting_other (Overfull seed bucket count equal) P R h = (tt, tt)
splitting_other (Cored made) P R h = absurd h
splitting_other (Key fault) P R h = (tt, tt)
splitting_other (Changed first now) P R h = (tt, tt)
splitting_other SpillFailed P R h = absurd h
splitting_other (SpillDamaged offset expected found) P R h = absurd h

-- what is said of an overfull bucket, with more
pub overfull_weaker : (e : BrzFault) (P Q : ℕ → ℕ → ℕ → List Pair → Type 0) → ((seed bucket count : ℕ) (equal : List Pair) → P seed bucket count equal → Q seed bucket count equal) → IfOverfull e P → IfOverfull e Q
overfull_weaker Memory P Q more h = tt
overfull_weaker NoKeys P Q more h = tt
overfull_weaker (Overfull seed bucket count equal) P Q more h = more seed bucket count equal.items h
overfull_weaker (Cored made) P Q more h = tt
overfull_weaker (Key fault) P Q more h = tt
overfull_weaker (Changed first now) P Q more h = tt
overfull_weaker SpillFailed P Q more h = tt
overfull_weaker (SpillDamaged offset expected found) P Q more h = tt
