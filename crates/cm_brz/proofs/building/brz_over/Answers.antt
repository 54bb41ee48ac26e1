use Rattle.std.proofs.Common.{arith, ◌≡◌, ◌∙◌, ◌+◌, ◌*◌, ◌≤◌, ℕ, List, ap, get_or, length, sym, subst, Some, Option}
use Rattle.cm_brz.specs.BrzOf.{AreBuilt}
use Rattle.cm_brz.specs.Fails.{FailsBuckets}
use Rattle.cm_brz_split.specs.Puts.{keys_in_bucket, records_under}
use Rattle.cm_brz_split.specs.Records.{Record}
use Rattle.cm_brz_func.specs.Functions.{Brz, Bucket, bucket_count}
use Rattle.cm_brz.proofs.Pushes.{no_keys}
use Rattle.cm_brz.proofs.Changes.{put_changed}
use Rattle.cm_brz.proofs.Whole.{brz_of, building_known, building_undamaged, fails_whole, returned, split_known, splitting_known}
use Rattle.cm_brz.proofs.building.brz_over.Goals as goal

pub returns-then-m-eq0-clause-fault : goal.returns-then-m-eq0-clause-fault
returns-then-m-eq0-clause-fault g c = λ none told is.
    let all = c.in_ok-m.ensures.all told is in
    (no_keys told.keys (all.0 ∙ c.if-m-eq0.true), all.1)

pub split_keys-requires-clause-counted : goal.split_keys-requires-clause-counted
split_keys-requires-clause-counted g c = λ told is.
    let all = c.in_ok-m.ensures.all told (sym c.count_all.ensures.told ∙ is) in
    record { many = all.0; whole = all.1 }

pub put_all-requires-clause-counted : goal.put_all-requires-clause-counted
put_all-requires-clause-counted g c = λ told is.
    let all = c.in_ok-m.ensures.all told (sym c.count_all.ensures.told ∙ (sym c.split_keys.ensures.told ∙ is)) in
    record { many = all.0; whole = all.1 }

pub returns-in_err-splitting-clause-spill_cause : goal.returns-in_err-splitting-clause-spill_cause
returns-in_err-splitting-clause-spill_cause g c = rw (returned c.from_residual-in_err-splitting.result _ c.from_residual-in_err-splitting.ensures.1) (c.in_err-splitting.ensures.spill (g.B.Store.faults c.args.store.now))

pub returns-in_err-splitting-clause-fault : goal.returns-in_err-splitting-clause-fault
returns-in_err-splitting-clause-fault g c = λ none. rw (returned c.from_residual-in_err-splitting.result _ c.from_residual-in_err-splitting.ensures.1) (λ told is. c.in_err-splitting.ensures.fault told (c.count_all.ensures.told ∙ is) c.args.c)

pub returns-clause-made : goal.returns-clause-made
returns-clause-made g c = λ none told is.
    let f : Brz = c.finish.result in
    let seed = c.in_ok-splitting.splitting.split.seed in
    let whole : f ≡ c.build_buckets.new.parts = c.finish.ensures.whole in
    let same = whole ∙ c.in_ok-build_buckets.ensures.same in
    let parts = c.expect_all.ensures.same ∙ c.new-parts.ensures.parts in
    let all = c.in_ok-m.ensures.all told is in
    let again = c.count_all.ensures.told ∙ is in
    let put = c.in_ok-put_all.ensures.put none in
    let ratio : c.expect_all.new.self.ratio ≡ c.args.c = ap (λ (x : Brz). x.ratio) parts in
    let built = subst (λ (bs : List Bucket). AreBuilt (keys_in_bucket put.records) c.args.c c.args.seeds.now bs) (sym (ap (λ (x : Brz). x.buckets) whole)) (subst (λ (r : ℕ). AreBuilt (keys_in_bucket put.records) r c.args.seeds.now c.build_buckets.new.parts.buckets) ratio (c.in_ok-build_buckets.ensures.built put.records put.held).1) in
    let count : length f.buckets ≡ bucket_count c.in_ok-m.m c.args.b = ap (λ (x : Brz). length x.buckets) whole ∙ c.in_ok-build_buckets.ensures.count ∙ ap length c.deref-sizes.ensures.value ∙ c.in_ok-splitting.ensures.buckets.1 in
    let many : f.keys ≡ c.in_ok-m.m = ap (λ (x : Brz). x.keys) same ∙ ap (λ (x : Brz). x.keys) parts in
    let split : f.split ≡ seed = ap (λ (x : Brz). x.split) same ∙ ap (λ (x : Brz). x.split) parts in
    let buckets : c.in_ok-splitting.splitting.split.buckets ≡ length f.buckets = c.in_ok-splitting.ensures.buckets.0 ∙ sym count in
    let made = brz_of told.keys c.args.c c.args.b c.args.seeds.now f put.records (many ∙ sym all.0) (ap (λ (x : Brz). x.ratio) same ∙ ratio) (ap (λ (x : Brz). x.width) same ∙ ap (λ (x : Brz). x.width) parts)
    (c.in_ok-splitting.ensures.first told again ∙ ap (λ (x : ℕ). let o : Option ℕ = Some x in o) (sym split)) (count ∙ ap (λ (n : ℕ). bucket_count n c.args.b) (sym all.0)) built
    (put.all_are told (c.split_keys.ensures.told ∙ again) ∙ (ap (λ (k : ℕ). records_under told.keys k seed) buckets ∙ ap (λ (s : ℕ). records_under told.keys (length f.buckets) s) (sym split))) in
    (all.1, made)

pub returns-in_err-build_buckets-clause-fault : goal.returns-in_err-build_buckets-clause-fault
returns-in_err-build_buckets-clause-fault g c = λ none. rw (returned c.from_residual-in_err-build_buckets.result _ c.from_residual-in_err-build_buckets.ensures.1) λ told is.
    let seed = c.in_ok-splitting.splitting.split.seed in
    let fault = c.in_err-build_buckets.field-0.0 in
    let all = c.in_ok-m.ensures.all told is in
    let again = c.count_all.ensures.told ∙ is in
    let put = c.in_ok-put_all.ensures.put none in
    let sizes = c.deref-sizes.ensures.value in
    let k : length c.deref-sizes.result.now ≡ bucket_count (length told.keys) c.args.b = ap length sizes ∙ c.in_ok-splitting.ensures.buckets.1 ∙ ap (λ (n : ℕ). bucket_count n c.args.b) (sym all.0) in
    let long : length c.deref-sizes.result.now ≡ c.in_ok-splitting.splitting.split.buckets = ap length sizes ∙ c.in_ok-splitting.ensures.buckets.1 ∙ sym c.in_ok-splitting.ensures.buckets.0 in
    let parts = c.expect_all.ensures.same ∙ c.new-parts.ensures.parts in
    let fails = c.in_err-build_buckets.ensures.fault put.records put.held (λ j low. put.sizes_are j (omega (arith, low, long)) ∙ ap (λ (xs : List ℕ). get_or xs j 0) (sym sizes)) in
    fails_whole told c.args.c c.args.b seed c.args.seeds.now put.records fault all.1 (c.in_ok-splitting.ensures.first told again)
    (put.all_are told (c.split_keys.ensures.told ∙ again) ∙ ap (λ (n : ℕ). records_under told.keys n seed) (sym long ∙ k))
    (subst (λ (n : ℕ). FailsBuckets (keys_in_bucket put.records) n c.args.c seed c.args.seeds.now fault) k (subst (λ (f : Brz). FailsBuckets (keys_in_bucket put.records) (length c.deref-sizes.result.now) f.ratio f.split c.args.seeds.now fault) parts fails))

pub returns-then-m-eq0-clause-over_known : goal.returns-then-m-eq0-clause-over_known
returns-then-m-eq0-clause-over_known g c = λ told is.
    let all = c.in_ok-m.ensures.all told is in
    (no_keys told.keys (all.0 ∙ c.if-m-eq0.true), all.1)

pub returns-in_err-splitting-clause-over_known : goal.returns-in_err-splitting-clause-over_known
returns-in_err-splitting-clause-over_known g c = rw (returned c.from_residual-in_err-splitting.result _ c.from_residual-in_err-splitting.ensures.1) λ told is.
    splitting_known told c.args.c c.args.b c.args.seeds.now c.in_err-splitting.field-0.0 c.in_err-splitting.ensures.kind (c.in_err-splitting.ensures.fault told (c.count_all.ensures.told ∙ is) c.args.c)

pub returns-in_err-put_all-clause-changed : goal.returns-in_err-put_all-clause-changed
returns-in_err-put_all-clause-changed g c = rw (returned c.from_residual-in_err-put_all.result _ c.from_residual-in_err-put_all.ensures.1)
    let P = g.P.KeyPass in
    let chosen = c.in_ok-splitting.ensures in
    let splitting = c.in_ok-splitting.splitting in
    put_changed P.at_end P.gave P.place c.count_all.new.keys c.split_keys.new.keys c.put_all.new.keys splitting.sizes.items splitting.split.buckets c.args.b c.in_ok-m.m splitting.split.seed c.args.seeds.now c.in_err-put_all.field-0.0 c.in_ok-m.ensures.at_end c.in_ok-m.ensures.given chosen.buckets.0 chosen.seed chosen.ended chosen.gave c.in_err-put_all.ensures.changed

pub returns-in_err-build_buckets-clause-undamaged : goal.returns-in_err-build_buckets-clause-undamaged
returns-in_err-build_buckets-clause-undamaged g c = λ none. rw (returned c.from_residual-in_err-build_buckets.result _ c.from_residual-in_err-build_buckets.ensures.1)
    let put = c.in_ok-put_all.ensures.put none in
    let sizes = c.deref-sizes.ensures.value in
    let long : length c.deref-sizes.result.now ≡ c.in_ok-splitting.splitting.split.buckets = ap length sizes ∙ c.in_ok-splitting.ensures.buckets.1 ∙ sym c.in_ok-splitting.ensures.buckets.0 in
    building_undamaged (keys_in_bucket put.records) _ _ _ c.args.seeds.now c.in_err-build_buckets.field-0.0 (c.in_err-build_buckets.ensures.fault put.records put.held (λ j low. put.sizes_are j (omega (arith, low, long)) ∙ ap (λ (xs : List ℕ). get_or xs j 0) (sym sizes)))

pub returns-in_err-build_buckets-clause-over_known : goal.returns-in_err-build_buckets-clause-over_known
returns-in_err-build_buckets-clause-over_known g c = rw (returned c.from_residual-in_err-build_buckets.result _ c.from_residual-in_err-build_buckets.ensures.1) λ told is.
    let all = c.in_ok-m.ensures.all told is in
    let first = c.in_ok-splitting.ensures.first told (c.count_all.ensures.told ∙ is) in
    building_known told c.args.b c.args.seeds.now c.in_err-build_buckets.field-0.0 (split_known told c.args.b c.in_ok-m.m c.in_ok-splitting.splitting.split.seed c.args.seeds.now all.0 all.1 c.if-m-eq0.false first) c.in_err-build_buckets.ensures.form

pub returns-clause-put : goal.returns-clause-put
returns-clause-put g c = λ none told is.
    let f : Brz = c.finish.result in
    let seed = c.in_ok-splitting.splitting.split.seed in
    let whole : f ≡ c.build_buckets.new.parts = c.finish.ensures.whole in
    let same = whole ∙ c.in_ok-build_buckets.ensures.same in
    let parts = c.expect_all.ensures.same ∙ c.new-parts.ensures.parts in
    let again = c.count_all.ensures.told ∙ is in
    let put = c.in_ok-put_all.ensures.put none in
    let count : length f.buckets ≡ bucket_count c.in_ok-m.m c.args.b = ap (λ (x : Brz). length x.buckets) whole ∙ c.in_ok-build_buckets.ensures.count ∙ ap length c.deref-sizes.ensures.value ∙ c.in_ok-splitting.ensures.buckets.1 in
    let split : f.split ≡ seed = ap (λ (x : Brz). x.split) same ∙ ap (λ (x : Brz). x.split) parts in
    let buckets : c.in_ok-splitting.splitting.split.buckets ≡ length f.buckets = c.in_ok-splitting.ensures.buckets.0 ∙ sym count in
    let records = put.all_are told (c.split_keys.ensures.told ∙ again) ∙ (ap (λ (k : ℕ). records_under told.keys k seed) buckets ∙ ap (λ (s : ℕ). records_under told.keys (length f.buckets) s) (sym split)) in
    subst (λ (rs : List Record). g.B.Store.holds c.build_buckets.new.store rs) records (c.in_ok-build_buckets.ensures.built put.records put.held).0

pub returns-clause-split_known : goal.returns-clause-split_known
returns-clause-split_known g c = λ told is.
    let f : Brz = c.finish.result in
    let same = c.finish.ensures.whole ∙ c.in_ok-build_buckets.ensures.same in
    let parts = c.expect_all.ensures.same ∙ c.new-parts.ensures.parts in
    let all = c.in_ok-m.ensures.all told is in
    let many : f.keys ≡ c.in_ok-m.m = ap (λ (x : Brz). x.keys) same ∙ ap (λ (x : Brz). x.keys) parts in
    let split : f.split ≡ c.in_ok-splitting.splitting.split.seed = ap (λ (x : Brz). x.split) same ∙ ap (λ (x : Brz). x.split) parts in
    (all.1, many ∙ sym all.0, c.in_ok-splitting.ensures.first told (c.count_all.ensures.told ∙ is) ∙ ap (λ (x : ℕ). let o : Option ℕ = Some x in o) (sym split))

pub returns-clause-steps : goal.returns-clause-steps
returns-clause-steps g c = λ told is.
    let parts = c.expect_all.ensures.same ∙ c.new-parts.ensures.parts in
    let many = ap (λ (x : Brz). x.keys) parts ∙ sym (c.in_ok-m.ensures.all told is).0 in
    subst (λ (n : ℕ). c.build_buckets.new.steps ≤ c.args.steps.now + 24 * n * length c.args.seeds.now) many c.build_buckets.ensures.steps
