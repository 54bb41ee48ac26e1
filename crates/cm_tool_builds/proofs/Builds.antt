-- From a build over a pass by one algorithm to the function of the keys, or to why there is none.
use Rattle.std.proofs.Common.{◌≡◌, ◌∙◌, ℕ, ◌<◌, ◌≤◌, ◌^◌, lit<, List, length, None, Some, Result, Ok, Err, inl, inr, refl, ap, sym, subst, arith}
use Rattle.std.specs.Prelude.{slice_index}
use Rattle.std.specs.Result.{IsErrAnd}
use Rattle.cm_algo_names.specs.declared.algorithm.Algorithm.{Algorithm}
use Rattle.cm_algo_names.specs.declared.algorithm.Algorithm.TheVariants as algorithms
use Rattle.cm_bdz.specs.Functions.{Bdz, BdzPh}
use Rattle.cm_bdz.specs.Numbering.{bdz_under, bdz_ph_under}
use Rattle.cm_brz.specs.BrzOf.{IsBrzOf}
use Rattle.cm_brz.specs.Fails.{FailsBrz, HasBrzForm, IsCoredBucket, IsDamage, IsOverfull}
use Rattle.cm_brz_split.specs.Faults.{HasKeysCause, HasSpillCause}
use Rattle.cm_brz.specs.Found.{AllOverfull, brz_under, bucket_report, first_cored, overfull_report}
use Rattle.cm_brz_split.specs.Split.{split_of}
use Rattle.cm_brz_split.specs.declared.fault.BrzFault.{BrzFault}
use Rattle.cm_brz_split.specs.declared.fault.BrzFault.TheVariants as brz_fault
use Rattle.cm_brz_func.specs.Functions.{Brz, IsBrz, bucket_count}
use Rattle.cm_func.specs.declared.function.Func.{Func}
use Rattle.cm_func.specs.declared.function.Func.TheVariants as func
use Rattle.cm_io.specs.Causes.{Collects, Rose}
use Rattle.cm_io.specs.Passes.{Told}
use Rattle.cm_spec.specs.declared.limits.TheConstants.{MAX_KEYS}
use Rattle.cm_peel.specs.CoreLaws.{rest_is_core}
use Rattle.cm_algo_seeds.specs.Fails.{FailsBuild, HasBuildCause, HasForm, HasNumbers, ShowsCore}
use Rattle.cm_algo_seeds.specs.declared.fault.BuildFault.{BuildFault}
use Rattle.cm_algo_seeds.specs.declared.fault.BuildFault.TheVariants as build_fault
use Rattle.cm_spec.specs.Bdz.{bdz_rule, bdz_ph_rule}
use Rattle.cm_spec.specs.Built.{IsFirst, cells_under, chm_under}
use Rattle.cm_spec.specs.Chm.{Chm, chm_rule}
use Rattle.cm_spec.specs.Rule.{Rule}
use Rattle.cm_witness_gather.specs.declared.failure.SeedFailure.TheVariants.{NoSeed, NoSeedFor, NoSplit}
use Rattle.cm_witness_gather.specs.declared.failure.SeedFailure.{SeedFailure}
use Rattle.cm_tool_builds.specs.Faults.{FailsFunc, HasFuncCause, HasFuncForm, IsChangeBy, IsSeedFailureBy, fault_from_brz, fault_from_build, seed_failure_of, shown_core}
use Rattle.cm_tool_builds.specs.FuncOf.{IsFuncOf}
use Rattle.cm_tool_builds.specs.Seeds.{IsMadeBy, NoneWorks}
use Rattle.cm_tool_cells.specs.RecipeLaws.{core_shown}
use Rattle.cm_tool_cells.specs.Recipes.{seeded}
use Rattle.cm_tool_cells.specs.Seeds.{IsBuiltFrom, IsChange, IsCoredUnder, TakesFirst}
use Rattle.cm_tool_builds.specs.Results.{FailureReport, filled, result_by, result_under, split_into, unseeded}
use Rattle.cm_tool_builds.specs.declared.fault.FuncFault.{FuncFault}
use Rattle.cm_witness_gather.specs.Reports.{overfull_text, report_text}
use Rattle.cm_witness_gather.specs.declared.certificate.Certificate.{Certificate}
use Rattle.cm_witness_gather.specs.declared.certificate.Pair.{Pair}

-- a function is known by its parts
chm_by_parts : (f : Chm) (keys : List (ℕ × List ℕ)) (c seed : ℕ) → f.keys ≡ length keys → f.ratio ≡ c → f.seed ≡ seed → f.cells ≡ cells_under chm_rule keys c seed → f ≡ chm_under keys c seed
chm_by_parts f keys c seed m r s cells =
    ap (λ (k : ℕ). let g : Chm = record { keys = k; ratio = f.ratio; seed = f.seed; cells = f.cells } in g) m
    ∙ ap (λ (k : ℕ). let g : Chm = record { keys = length keys; ratio = k; seed = f.seed; cells = f.cells } in g) r
    ∙ ap (λ (k : ℕ). let g : Chm = record { keys = length keys; ratio = c; seed = k; cells = f.cells } in g) s
    ∙ ap (λ (xs : List ℕ). let g : Chm = record { keys = length keys; ratio = c; seed = seed; cells = xs } in g) cells

bdz_by_parts : (f : Bdz) (keys : List (ℕ × List ℕ)) (c seed shift : ℕ) → f.keys ≡ length keys → f.ratio ≡ c → f.seed ≡ seed → f.shift ≡ shift → f.cells ≡ cells_under bdz_rule keys c seed → f ≡ bdz_under keys c seed shift
bdz_by_parts f keys c seed shift m r s b cells =
    ap (λ (k : ℕ). let g : Bdz = record { keys = k; ratio = f.ratio; seed = f.seed; shift = f.shift; cells = f.cells } in g) m
    ∙ ap (λ (k : ℕ). let g : Bdz = record { keys = length keys; ratio = k; seed = f.seed; shift = f.shift; cells = f.cells } in g) r
    ∙ ap (λ (k : ℕ). let g : Bdz = record { keys = length keys; ratio = c; seed = k; shift = f.shift; cells = f.cells } in g) s
    ∙ ap (λ (k : ℕ). let g : Bdz = record { keys = length keys; ratio = c; seed = seed; shift = k; cells = f.cells } in g) b
    ∙ ap (λ (xs : List ℕ). let g : Bdz = record { keys = length keys; ratio = c; seed = seed; shift = shift; cells = xs } in g) cells

bdz_ph_by_parts : (f : BdzPh) (keys : List (ℕ × List ℕ)) (c seed : ℕ) → f.keys ≡ length keys → f.ratio ≡ c → f.seed ≡ seed → f.cells ≡ cells_under bdz_ph_rule keys c seed → f ≡ bdz_ph_under keys c seed
bdz_ph_by_parts f keys c seed m r s cells =
    ap (λ (k : ℕ). let g : BdzPh = record { keys = k; ratio = f.ratio; seed = f.seed; cells = f.cells } in g) m
    ∙ ap (λ (k : ℕ). let g : BdzPh = record { keys = length keys; ratio = k; seed = f.seed; cells = f.cells } in g) r
    ∙ ap (λ (k : ℕ). let g : BdzPh = record { keys = length keys; ratio = c; seed = k; cells = f.cells } in g) s
    ∙ ap (λ (xs : List ℕ). let g : BdzPh = record { keys = length keys; ratio = c; seed = seed; cells = xs } in g) cells

-- the result on keys that have no function
abbrev shown_is : SeedFailure → List ℕ → Result Func FailureReport
shown_is failure report = Err (record { failure = failure; report = report })

-- a build under one seed gives the function of the keys
func_from : (algorithm : Algorithm) (r : Rule) (b : ℕ) (told : Told) (c : ℕ) (seeds : List ℕ) (f : Func) (m seed : ℕ) (cells : List ℕ) → 1 ≤ m → m ≤ MAX_KEYS → IsBuiltFrom r told c seeds m seed cells
    → result_by algorithm b told.keys c seeds ≡ Ok f → IsMadeBy algorithm b told.keys c seeds f → IsFuncOf algorithm b told c seeds f
func_from algorithm r b told c seeds f m seed cells some few built result_is made = record {
  no_fault = built.no_fault;
  many = (omega (arith, some, built.many), omega (arith, few, built.many));
  result_is = result_is;
  made = made;
}

takes_first : (r : Rule) (told : Told) (c : ℕ) (seeds : List ℕ) (m seed other : ℕ) (cells : List ℕ) → other ≡ seed → IsBuiltFrom r told c seeds m seed cells → TakesFirst r told.keys c seeds other
takes_first r told c seeds m seed other cells is built = (built.place, subst (λ (s : ℕ). IsFirst r told.keys c seeds built.place s) (sym is) built.first)

pub chm_from : (told : Told) (c b : ℕ) (seeds : List ℕ) (f : Chm) (m seed : ℕ) (cells : List ℕ) → 1 ≤ m → m ≤ MAX_KEYS → IsBuiltFrom chm_rule told c seeds m seed cells
    → f.keys ≡ m → f.ratio ≡ c → f.seed ≡ seed → f.cells ≡ cells → IsFuncOf algorithms.Chm b told c seeds (func.Chm f)
chm_from told c b seeds f m seed cells some few built keys_are ratio_is seed_is cells_are =
    let is : f ≡ chm_under told.keys c seed = chm_by_parts f told.keys c seed (keys_are ∙ built.many) ratio_is seed_is (cells_are ∙ built.cells_are) in
    func_from algorithms.Chm chm_rule b told c seeds (func.Chm f) m seed cells some few built
    (ap (seeded (λ (s : ℕ). func.Chm (chm_under told.keys c s)) (unseeded algorithms.Chm chm_rule told.keys c seeds)) built.chosen ∙ ap (λ (g : Chm). let v : Result Func FailureReport = Ok (func.Chm g) in v) (sym is))
    (is ∙ ap (chm_under told.keys c) (sym seed_is), takes_first chm_rule told c seeds m seed f.seed cells seed_is built)

pub bdz_from : (told : Told) (c b : ℕ) (seeds : List ℕ) (f : Bdz) (m seed : ℕ) (cells : List ℕ) → 1 ≤ m → m ≤ MAX_KEYS → IsBuiltFrom bdz_rule told c seeds m seed cells
    → f.keys ≡ m → f.ratio ≡ c → f.seed ≡ seed → f.shift ≡ b → f.cells ≡ cells → IsFuncOf algorithms.Bdz b told c seeds (func.Bdz f)
bdz_from told c b seeds f m seed cells some few built keys_are ratio_is seed_is shift_is cells_are =
    let is : f ≡ bdz_under told.keys c seed b = bdz_by_parts f told.keys c seed b (keys_are ∙ built.many) ratio_is seed_is shift_is (cells_are ∙ built.cells_are) in
    func_from algorithms.Bdz bdz_rule b told c seeds (func.Bdz f) m seed cells some few built
    (ap (seeded (λ (s : ℕ). func.Bdz (bdz_under told.keys c s b)) (unseeded algorithms.Bdz bdz_rule told.keys c seeds)) built.chosen ∙ ap (λ (g : Bdz). let v : Result Func FailureReport = Ok (func.Bdz g) in v) (sym is))
    (is ∙ ap (λ (s : ℕ). bdz_under told.keys c s b) (sym seed_is), takes_first bdz_rule told c seeds m seed f.seed cells seed_is built)

pub bdz_ph_from : (told : Told) (c b : ℕ) (seeds : List ℕ) (f : BdzPh) (m seed : ℕ) (cells : List ℕ) → 1 ≤ m → m ≤ MAX_KEYS → IsBuiltFrom bdz_ph_rule told c seeds m seed cells
    → f.keys ≡ m → f.ratio ≡ c → f.seed ≡ seed → f.cells ≡ cells → IsFuncOf algorithms.BdzPh b told c seeds (func.BdzPh f)
bdz_ph_from told c b seeds f m seed cells some few built keys_are ratio_is seed_is cells_are =
    let is : f ≡ bdz_ph_under told.keys c seed = bdz_ph_by_parts f told.keys c seed (keys_are ∙ built.many) ratio_is seed_is (cells_are ∙ built.cells_are) in
    func_from algorithms.BdzPh bdz_ph_rule b told c seeds (func.BdzPh f) m seed cells some few built
    (ap (seeded (λ (s : ℕ). func.BdzPh (bdz_ph_under told.keys c s)) (unseeded algorithms.BdzPh bdz_ph_rule told.keys c seeds)) built.chosen ∙ ap (λ (g : BdzPh). let v : Result Func FailureReport = Ok (func.BdzPh g) in v) (sym is))
    (is ∙ ap (bdz_ph_under told.keys c) (sym seed_is), takes_first bdz_ph_rule told c seeds m seed f.seed cells seed_is built)

-- the certificate of a build under one seed shows what the keys have
shown_none : (algorithm : Algorithm) (r : Rule) (keys : List (ℕ × List ℕ)) (c : ℕ) (seeds : List ℕ) (made : Certificate) → HasForm algorithm (slice_index seeds 0) (build_fault.Cored made) → ShowsCore r keys c (slice_index seeds 0) made
    → shown_core made ≡ unseeded algorithm r keys c seeds
shown_none algorithm r keys c seeds made form shows = rw (core_shown algorithm r keys c seeds made form shows, form.2) refl

-- why there is no function under one seed
fails_by : (algorithm : Algorithm) (r : Rule) (function : ℕ → Func) (b : ℕ) (told : Told) (c : ℕ) (seeds : List ℕ) (fault : BuildFault)
    → result_by algorithm b told.keys c seeds ≡ result_under algorithm r function told.keys c seeds → (IsCoredUnder r told.keys c seeds → NoneWorks algorithm b told.keys c seeds)
    → FailsBuild r told c seeds fault → HasForm algorithm (slice_index seeds 0) fault → FailsFunc algorithm b told c seeds (fault_from_build fault)
fails_by algorithm r function b told c seeds build_fault.Memory result_is none fails form = tt
fails_by algorithm r function b told c seeds build_fault.NoKeys result_is none fails form = (fails.1, fails.0)
fails_by algorithm r function b told c seeds (build_fault.Cored made) result_is none fails form = record {
  no_fault = fails.1;
  some = fails.0;
  result_is = result_is ∙ (ap (seeded function (unseeded algorithm r told.keys c seeds)) fails.2 ∙ ap (λ (s : FailureReport). let v : Result Func FailureReport = Err s in v) (sym (shown_none algorithm r told.keys c seeds made form fails.4)));
  none = none (record { cored = fails.3; core = rest_is_core _ });
}
fails_by algorithm r function b told c seeds (build_fault.Key fault) result_is none fails form = fails
fails_by algorithm r function b told c seeds (build_fault.Changed first again) result_is none fails form = absurd fails

pub chm_fails : (b : ℕ) (told : Told) (c : ℕ) (seeds : List ℕ) (fault : BuildFault) → FailsBuild chm_rule told c seeds fault → HasForm algorithms.Chm (slice_index seeds 0) fault → FailsFunc algorithms.Chm b told c seeds (fault_from_build fault)
chm_fails b told c seeds fault fails form = fails_by algorithms.Chm chm_rule (λ (s : ℕ). func.Chm (chm_under told.keys c s)) b told c seeds fault refl (λ under. under) fails form

pub bdz_fails : (b : ℕ) (told : Told) (c : ℕ) (seeds : List ℕ) (fault : BuildFault) → FailsBuild bdz_rule told c seeds fault → HasForm algorithms.Bdz (slice_index seeds 0) fault → FailsFunc algorithms.Bdz b told c seeds (fault_from_build fault)
bdz_fails b told c seeds fault fails form = fails_by algorithms.Bdz bdz_rule (λ (s : ℕ). func.Bdz (bdz_under told.keys c s b)) b told c seeds fault refl (λ under. under) fails form

pub bdz_ph_fails : (b : ℕ) (told : Told) (c : ℕ) (seeds : List ℕ) (fault : BuildFault) → FailsBuild bdz_ph_rule told c seeds fault → HasForm algorithms.BdzPh (slice_index seeds 0) fault → FailsFunc algorithms.BdzPh b told c seeds (fault_from_build fault)
bdz_ph_fails b told c seeds fault fails form = fails_by algorithms.BdzPh bdz_ph_rule (λ (s : ℕ). func.BdzPh (bdz_ph_under told.keys c s)) b told c seeds fault refl (λ under. under) fails form

-- what the laws of BRZ say of keys
pub record BrzLaws (keys : List (ℕ × List ℕ)) (k c : ℕ) (seeds : List ℕ) : Type 0 where
  pub some : (j : ℕ) → j < k → 1 ≤ length keys
  pub cored : (made : Certificate) → (cored : IsCoredBucket keys k c seeds made) → first_cored keys k c cored.place.split seeds ≡ Some cored.place.bucket
  pub cored_shown : (made : Certificate) → made.algorithm ≡ algorithms.Brz → made.seed ≡ slice_index seeds 0 → (cored : IsCoredBucket keys k c seeds made)
      → report_text made.algorithm made.place made.seed made.edges.items made.equal.items ≡ bucket_report keys k c cored.place.split cored.place.bucket seeds
  pub overfull_shown : (seed bucket count : ℕ) (equal : List Pair) → IsOverfull keys k seeds seed bucket count equal → overfull_text seed bucket count equal ≡ overfull_report keys k seeds
  pub all : split_of keys k seeds ≡ None → AllOverfull keys k seeds

-- a build by BRZ gives the function of the keys
pub brz_from : (told : Told) (c b : ℕ) (seeds : List ℕ) (f : Brz) → told.fault ≡ None → IsBrz f → IsBrzOf told.keys c b seeds f → f ≡ brz_under told.keys c b f.split seeds → first_cored told.keys (bucket_count (length told.keys) b) c f.split seeds ≡ None
    → IsFuncOf algorithms.Brz b told c seeds (func.Brz f)
brz_from told c b seeds f fine valid of is none = record {
  no_fault = fine;
  many = (omega (arith, valid.keys.0, of.many), omega (arith, valid.keys.1, of.many));
  result_is = ap (split_into told.keys c b seeds) of.split ∙ (ap (filled told.keys c b seeds f.split) none ∙ ap (λ (g : Brz). let v : Result Func FailureReport = Ok (func.Brz g) in v) (sym is));
  made = of;
}

-- the certificate of a bucket shows what the keys have
core_of_bucket : (told : Told) (c b : ℕ) (seeds : List ℕ) (made : Certificate) → BrzLaws told.keys (bucket_count (length told.keys) b) c seeds → made.algorithm ≡ algorithms.Brz → made.seed ≡ slice_index seeds 0
    → IsCoredBucket told.keys (bucket_count (length told.keys) b) c seeds made → result_by algorithms.Brz b told.keys c seeds ≡ Err (shown_core made)
core_of_bucket told c b seeds made laws by seed cored =
    let split : ℕ = cored.place.split in
    let bucket : ℕ = cored.place.bucket in
    let text : List ℕ = report_text made.algorithm made.place made.seed made.edges.items made.equal.items in
    let shown : text ≡ bucket_report told.keys (bucket_count (length told.keys) b) c split bucket seeds = laws.cored_shown made by seed cored in
    let failure : seed_failure_of made.place ≡ NoSeedFor bucket = ap seed_failure_of cored.cored.shown in
    ap (split_into told.keys c b seeds) cored.chosen
    ∙ (ap (filled told.keys c b seeds split) (laws.cored made cored)
    ∙ (ap (shown_is (NoSeedFor bucket)) (sym shown) ∙ ap (λ (q : SeedFailure). shown_is q text) (sym failure)))

-- why there is no function by BRZ
pub brz_fails : (told : Told) (c b : ℕ) (seeds : List ℕ) (fault : BrzFault) → BrzLaws told.keys (bucket_count (length told.keys) b) c seeds → FailsBrz told c b seeds fault → HasBrzForm seeds fault → (IsDamage fault → ⊥)
    → FailsFunc algorithms.Brz b told c seeds (fault_from_brz fault)
brz_fails told c b seeds brz_fault.Memory laws fails form undamaged = tt
brz_fails told c b seeds brz_fault.NoKeys laws fails form undamaged = (fails.1, fails.0)
brz_fails told c b seeds (brz_fault.Overfull seed bucket count equal) laws fails form undamaged = record {
  no_fault = fails.0;
  some = laws.some bucket fails.1.lowest.within;
  result_is = ap (split_into told.keys c b seeds) fails.1.none ∙ ap (shown_is NoSplit) (sym (laws.overfull_shown seed bucket count equal.items fails.1));
  none = inl (laws.all fails.1.none);
}
brz_fails told c b seeds (brz_fault.Cored made) laws fails form undamaged = record {
  no_fault = fails.0;
  some = laws.some fails.1.place.bucket fails.1.within;
  result_is = core_of_bucket told c b seeds made laws form.0 form.1 fails.1;
  none = inr (record {
    split = fails.1.place.split;
    bucket = fails.1.place.bucket;
    chosen = fails.1.chosen;
    lowest = laws.cored made fails.1;
    under = record { cored = fails.1.cored.cored; core = rest_is_core _ };
  });
}
brz_fails told c b seeds (brz_fault.Key fault) laws fails form undamaged = fails
brz_fails told c b seeds (brz_fault.Changed first again) laws fails form undamaged = absurd fails
brz_fails told c b seeds brz_fault.SpillFailed laws fails form undamaged = tt
brz_fails told c b seeds (brz_fault.SpillDamaged offset expected found) laws fails form undamaged = absurd (undamaged tt)

-- which counts a failed build under one seed has raised
fault_cause : (T : Type 0) (fault : BuildFault) (k k_now w : ℕ) → HasBuildCause {T = Func} k k_now (Err fault) → HasFuncCause {T = T} k k_now w w (Err (fault_from_build fault))
fault_cause T build_fault.Memory k k_now w cause = (cause, refl)
fault_cause T build_fault.NoKeys k k_now w cause = (cause, refl)
fault_cause T (build_fault.Cored made) k k_now w cause = (cause, refl)
fault_cause T (build_fault.Key fault) k k_now w cause = (cause, refl)
fault_cause T (build_fault.Changed first again) k k_now w cause = (cause, refl)

-- the same of a fault that was converted as it was returned
pub build_cause : (T : Type 0) (result : Result T FuncFault) (fault : BuildFault) (k k_now w : ℕ) → IsErrAnd result (λ e. e ≡ fault_from_build fault) → HasBuildCause {T = Func} k k_now (Err fault) → HasFuncCause {T = T} k k_now w w result
build_cause T (Ok x) fault k k_now w is cause = absurd is
build_cause T (Err e) fault k k_now w is cause = subst (λ (f : FuncFault). HasFuncCause {T = T} k k_now w w (Err f)) (sym is) (fault_cause T fault k k_now w cause)

-- what a failed build under one seed shows, by an algorithm with one seed
pub build_form : (algorithm : Algorithm) (fault : BuildFault) (place seed : ℕ) → IsSeedFailureBy algorithm NoSeed → ((first again : ℕ) → IsChange first again → IsChangeBy algorithm first again) → HasNumbers place fault → HasForm algorithm seed fault
    → HasFuncForm algorithm (fault_from_build fault)
build_form algorithm build_fault.Memory place seed failure change numbers form = tt
build_form algorithm build_fault.NoKeys place seed failure change numbers form = tt
build_form algorithm (build_fault.Cored made) place seed failure change numbers form = rw form.2 failure
build_form algorithm (build_fault.Key fault) place seed failure change numbers form = tt
build_form algorithm (build_fault.Changed first again) place seed failure change numbers form = change first again (record { some = numbers.0; differs = numbers.1.differs; stops = numbers.1.stops })

-- a disk's count rose, if what it took back has failed
collected : (count count_now before middle now : ℕ) → (count ≤ count_now) × Rose count count_now → count ≡ 0 → Collects count_now middle now → middle ≡ before → Rose before now
collected count count_now before middle now failed fresh back same =
    let low : count < 2 ^ 63 = rw fresh (lit< tt) in
    rw same at (back.some (omega (arith, failed.1 low)))

-- which counts a failed build by BRZ has raised, once the spill was handed back
pub brz_cause : (fault : BrzFault) (k k_now count count_now before middle now : ℕ) → HasKeysCause {T = Func} k k_now (Err fault) → HasSpillCause {T = Func} count count_now (Err fault) → count ≡ 0 → Collects count_now middle now → middle ≡ before
    → HasFuncCause {T = Func} k k_now before now (Err (fault_from_brz fault))
brz_cause brz_fault.Memory k k_now count count_now before middle now keys spill fresh back same = (keys, back.none (spill ∙ fresh) ∙ same)
brz_cause brz_fault.NoKeys k k_now count count_now before middle now keys spill fresh back same = (keys, back.none (spill ∙ fresh) ∙ same)
brz_cause (brz_fault.Overfull seed bucket many equal) k k_now count count_now before middle now keys spill fresh back same = (keys, back.none (spill ∙ fresh) ∙ same)
brz_cause (brz_fault.Cored made) k k_now count count_now before middle now keys spill fresh back same = (keys, back.none (spill ∙ fresh) ∙ same)
brz_cause (brz_fault.Key fault) k k_now count count_now before middle now keys spill fresh back same = (keys, back.none (spill ∙ fresh) ∙ same)
brz_cause (brz_fault.Changed first again) k k_now count count_now before middle now keys spill fresh back same = (keys, back.none (spill ∙ fresh) ∙ same)
brz_cause brz_fault.SpillFailed k k_now count count_now before middle now keys spill fresh back same = (keys, omega (arith, back.later, same), collected count count_now before middle now spill fresh back same)
brz_cause (brz_fault.SpillDamaged offset expected found) k k_now count count_now before middle now keys spill fresh back same = (keys, back.none (spill ∙ fresh) ∙ same)
