use Rattle.std.proofs.Common.{◌≡◌, ◌∙◌, Result, Ok, Err, sym, subst, rules, lit<, lit≤}
use Rattle.std.specs.Prelude.{IfErr}
use Rattle.std.specs.Option.{ForSome}
use Rattle.std.specs.Result.{IsErrAnd}
use Rattle.cm_algo_names.specs.declared.algorithm.Algorithm.TheVariants.{Bdz, BdzPh, Chm}
use Rattle.cm_bits.specs.PackedLaws.{AllBelow-packed_cells}
use Rattle.cm_tool_builds.proofs.Builds.{bdz_fails, bdz_from, bdz_ph_fails, bdz_ph_from, build_cause, build_form, chm_fails, chm_from}
use Rattle.cm_tool_builds.specs.Faults.{FailsFunc, HasFuncForm}
use Rattle.cm_tool_builds.specs.declared.fault.FuncFault.{FuncFault}
use Rattle.cm_tool_builds.proofs.functions.func_by.Goals as goal

pub returns-in_ok-built-in-Chm-clause-made : goal.returns-in_ok-built-in-Chm-clause-made
returns-in_ok-built-in-Chm-clause-made g c = rw c.in-Chm.is (λ _ _ told is.
    let built = c.in_ok-built-in-Chm.ensures in
    let f = c.from_built.ensures in
    chm_from told c.args.plan.now.c c.args.plan.now.b c.args.seeds.now c.from_built.result _ _ _ built.many.0 built.many.1 (built.first told is) f.keys (f.ratio ∙ built.many.2) f.seed f.cells)

pub returns-in-Ok-clause-made : goal.returns-in-Ok-clause-made
returns-in-Ok-clause-made g c = rw c.in-Bdz.is (λ _ _ told is.
    let built = c.in_ok-built-in-Bdz.ensures in
    let f = c.in-Ok.ensures in
    bdz_from told c.args.plan.now.c c.args.plan.now.b c.args.seeds.now c.in-Ok.function _ _ _ built.many.0 built.many.1 (built.first told is) f.keys (f.ratio ∙ built.many.2) f.seed f.shift f.cells)

pub returns-in-Ok-clause-valid : goal.returns-in-Ok-clause-valid
returns-in-Ok-clause-valid g c =
    let built = c.in_ok-built-in-Bdz.ensures in
    let t = c.in_ok-built-in-Bdz.built.cells in
    let f = c.in-Ok.ensures in
    record {
      keys = rw f.keys (built.many.0, built.many.1);
      ratio = rw (f.ratio, built.many.2) c.requires.plan.ratio;
      seed = search rules;
      shift = rw f.shift (c.requires.plan.sampling c.in-Bdz.is);
      size = rw (f.cells, f.keys, f.ratio, built.many.2) built.cells.1;
      below = rw f.cells (AllBelow-packed_cells 4 4 t.n t.bytes.items (lit< tt));
      busy = rw (f.cells, f.keys) (built.busy (lit≤ tt));
    }

pub returns-in_ok-built-in-BdzPh-clause-made : goal.returns-in_ok-built-in-BdzPh-clause-made
returns-in_ok-built-in-BdzPh-clause-made g c = rw c.in-BdzPh.is (λ _ _ told is.
    let built = c.in_ok-built-in-BdzPh.ensures in
    let f = c.from_built-in-BdzPh.ensures in
    bdz_ph_from told c.args.plan.now.c c.args.plan.now.b c.args.seeds.now c.from_built-in-BdzPh.result _ _ _ built.many.0 built.many.1 (built.first told is) f.keys (f.ratio ∙ built.many.2) f.seed f.cells)

pub returns-in_ok-built-in-BdzPh-clause-valid : goal.returns-in_ok-built-in-BdzPh-clause-valid
returns-in_ok-built-in-BdzPh-clause-valid g c =
    let built = c.in_ok-built-in-BdzPh.ensures in
    let t = c.in_ok-built-in-BdzPh.built.cells in
    let f = c.from_built-in-BdzPh.ensures in
    record {
      keys = rw f.keys (built.many.0, built.many.1);
      ratio = rw (f.ratio, built.many.2) c.requires.plan.ratio;
      seed = search rules;
      size = rw (f.cells, f.keys, f.ratio, built.many.2) built.cells.1;
      below = rw f.cells (AllBelow-packed_cells 3 5 t.n t.bytes.items (lit< tt));
    }

-- a fault that was converted as it was returned
same_fault : {T : Type 0} (result : Result T FuncFault) (fault : FuncFault) (P : FuncFault → Type 0) → IsErrAnd result (λ e. e ≡ fault) → P fault → IfErr result P
same_fault (Ok x) fault P is holds = tt
same_fault (Err e) fault P is holds = subst P (sym is) holds

pub returns-in_err-built-in-Chm-clause-fault : goal.returns-in_err-built-in-Chm-clause-fault
returns-in_err-built-in-Chm-clause-fault g c =
    rw c.in-Chm.is (same_fault _ _ (λ e. ForSome (g.D.Disk.state c.args.disk.now).files (λ _. ForSome (g.P.KeyPass.told c.args.keys.now) (λ told. FailsFunc Chm c.args.plan.now.b told c.args.plan.now.c c.args.seeds.now e))) c.from_residual.ensures.1
    (λ _ _ told is. chm_fails c.args.plan.now.b told c.args.plan.now.c c.args.seeds.now _ (c.in_err-built-in-Chm.ensures.fault told is) c.in_err-built-in-Chm.ensures.certificate))

pub returns-in_err-built-in-Bdz-clause-fault : goal.returns-in_err-built-in-Bdz-clause-fault
returns-in_err-built-in-Bdz-clause-fault g c =
    rw c.in-Bdz.is (same_fault _ _ (λ e. ForSome (g.D.Disk.state c.args.disk.now).files (λ _. ForSome (g.P.KeyPass.told c.args.keys.now) (λ told. FailsFunc Bdz c.args.plan.now.b told c.args.plan.now.c c.args.seeds.now e))) c.from_residual-in_err-built-in-Bdz.ensures.1
    (λ _ _ told is. bdz_fails c.args.plan.now.b told c.args.plan.now.c c.args.seeds.now _ (c.in_err-built-in-Bdz.ensures.fault told is) c.in_err-built-in-Bdz.ensures.certificate))

pub returns-in_err-built-in-BdzPh-clause-fault : goal.returns-in_err-built-in-BdzPh-clause-fault
returns-in_err-built-in-BdzPh-clause-fault g c =
    rw c.in-BdzPh.is (same_fault _ _ (λ e. ForSome (g.D.Disk.state c.args.disk.now).files (λ _. ForSome (g.P.KeyPass.told c.args.keys.now) (λ told. FailsFunc BdzPh c.args.plan.now.b told c.args.plan.now.c c.args.seeds.now e))) c.from_residual-in_err-built-in-BdzPh.ensures.1
    (λ _ _ told is. bdz_ph_fails c.args.plan.now.b told c.args.plan.now.c c.args.seeds.now _ (c.in_err-built-in-BdzPh.ensures.fault told is) c.in_err-built-in-BdzPh.ensures.certificate))

pub returns-in-Ok-brz_by-clause-made : goal.returns-in-Ok-brz_by-clause-made
returns-in-Ok-brz_by-clause-made g c = rw c.in-Brz.is c.in-Ok-brz_by.ensures.made

pub returns-in_err-built-in-Chm-clause-cause : goal.returns-in_err-built-in-Chm-clause-cause
returns-in_err-built-in-Chm-clause-cause g c = build_cause _ _ _ _ _ _ c.from_residual.ensures.1 c.in_err-built-in-Chm.ensures.cause

pub returns-in_err-built-in-Chm-clause-form : goal.returns-in_err-built-in-Chm-clause-form
returns-in_err-built-in-Chm-clause-form g c =
    rw c.in-Chm.is (same_fault _ _ (λ e. HasFuncForm Chm e) c.from_residual.ensures.1 (build_form Chm _ _ _ tt (λ first again change. change) c.in_err-built-in-Chm.ensures.numbers c.in_err-built-in-Chm.ensures.certificate))

pub returns-in_err-built-in-Bdz-clause-cause : goal.returns-in_err-built-in-Bdz-clause-cause
returns-in_err-built-in-Bdz-clause-cause g c = build_cause _ _ _ _ _ _ c.from_residual-in_err-built-in-Bdz.ensures.1 c.in_err-built-in-Bdz.ensures.cause

pub returns-in_err-built-in-Bdz-clause-form : goal.returns-in_err-built-in-Bdz-clause-form
returns-in_err-built-in-Bdz-clause-form g c =
    rw c.in-Bdz.is (same_fault _ _ (λ e. HasFuncForm Bdz e) c.from_residual-in_err-built-in-Bdz.ensures.1 (build_form Bdz _ _ _ tt (λ first again change. change) c.in_err-built-in-Bdz.ensures.numbers c.in_err-built-in-Bdz.ensures.certificate))

pub returns-in_err-built-in-BdzPh-clause-cause : goal.returns-in_err-built-in-BdzPh-clause-cause
returns-in_err-built-in-BdzPh-clause-cause g c = build_cause _ _ _ _ _ _ c.from_residual-in_err-built-in-BdzPh.ensures.1 c.in_err-built-in-BdzPh.ensures.cause

pub returns-in_err-built-in-BdzPh-clause-form : goal.returns-in_err-built-in-BdzPh-clause-form
returns-in_err-built-in-BdzPh-clause-form g c =
    rw c.in-BdzPh.is (same_fault _ _ (λ e. HasFuncForm BdzPh e) c.from_residual-in_err-built-in-BdzPh.ensures.1 (build_form BdzPh _ _ _ tt (λ first again change. change) c.in_err-built-in-BdzPh.ensures.numbers c.in_err-built-in-BdzPh.ensures.certificate))
