use Rattle.std.proofs.Common.{◌≡◌, ◌∙◌, ◌+◌, ◌≤◌, ℕ, List, length, ap, arith, refl, subst, sym, Err, Ok}
use Rattle.cm_brz_func.specs.Functions.{Brz, bucket_count}
use Rattle.cm_dump_items.specs.declared.piece.TheConstants.{ENOUGH}
use Rattle.cm_dump_items.specs.Reading.{Fails, HasLoadCause, IsPart}
use Rattle.cm_dump_items.specs.Unreads.{IsNext}
use Rattle.cm_dump_items.specs.PieceLaws.{next_after, next_none, next_part}
use Rattle.cm_dump_items.specs.StepLaws.{cause_then}
use Rattle.cm_dump.specs.Forms.{form_of}
use Rattle.cm_dump.specs.Spelling.{left_of}
use Rattle.cm_dump.specs.RestLaws.{brz_begun, rest_ended, rest_trails}
use Rattle.cm_dump.proofs.rest.load_brz.Goals as goal

pub buckets-init : goal.buckets-init
buckets-init g c =
    let none = c.in-Ok.ensures.none in
    let parts = c.new-parts.ensures.parts in
    record {
      same = refl;
      quiet = refl;
      keys = ap (λ (p : Brz). p.keys) parts;
      ratio = ap (λ (p : Brz). p.ratio) parts;
      width = ap (λ (p : Brz). p.width) parts;
      split = ap (λ (p : Brz). p.split) parts;
      few = omega (arith, ap (λ (p : Brz). length p.buckets) parts);
      near = omega arith;
      next = λ x is. let at = c.requires.at x is in next_none x _ 24 c.in-Ok.piece none.0 none.1 at.0 at.1;
      right = λ x is. brz_begun (form_of c.args.version) x c.args.header c.new-parts.result parts;
    }

pub buckets-preserved : goal.buckets-preserved
buckets-preserved g c =
    let inv = c.buckets.invariant in
    let next = c.in-Ok-next_bucket.ensures in
    let more = c.in-Ok-refill.ensures in
    let count : bucket_count c.buckets.parts.keys c.buckets.parts.width ≡ bucket_count c.args.header.keys c.args.header.b = rw (inv.keys, inv.width) refl in
    record {
      same = more.told ∙ inv.same;
      quiet = more.cause.fine ∙ inv.quiet;
      keys = ap (λ (p : Brz). p.keys) next.same ∙ inv.keys;
      ratio = ap (λ (p : Brz). p.ratio) next.same ∙ inv.ratio;
      width = ap (λ (p : Brz). p.width) next.same ∙ inv.width;
      split = ap (λ (p : Brz). p.split) next.same ∙ inv.split;
      few = omega (arith, next.one, c.left.ensures.left, c.buckets-test.true, count);
      near = omega (arith, inv.near, next.near, next.one);
      next = λ x is.
          let here = more.next x (sym more.told ∙ is) in
          let inside : c.in-Ok-next_bucket.len ≤ length c.refill.new.self.rest = omega (arith, next.inside, ap length c.rest.ensures.rest) in
          subst (IsNext x (g.S.Source.place c.refill.new.source) (c.buckets.at + c.in-Ok-next_bucket.len)) (sym c.skip.ensures.rest) (next_after x _ c.buckets.at c.in-Ok-next_bucket.len c.refill.new.self here inside);
      right = λ x is.
          let before = sym more.told ∙ is in
          let part = next_part x _ c.buckets.at ENOUGH c.refill.new.self (more.next x before) more.enough in
          inv.right x before ∙ next.right x (subst (λ (l : List ℕ). IsPart x c.buckets.at ENOUGH l) (sym c.rest.ensures.rest) part);
    }

pub returns-in-Err-next_bucket-clause-exact : goal.returns-in-Err-next_bucket-clause-exact
returns-in-Err-next_bucket-clause-exact g c = λ x is.
    let inv = c.buckets.invariant in
    let more = c.in-Ok-refill.ensures in
    let before = inv.same ∙ is in
    let part = next_part x _ c.buckets.at ENOUGH c.refill.new.self (more.next x before) more.enough in
    subst (Fails c.in-Err-next_bucket.fault) (sym (inv.right x before)) (c.in-Err-next_bucket.ensures.fault x (subst (λ (l : List ℕ). IsPart x c.buckets.at ENOUGH l) (sym c.rest.ensures.rest) part))

pub returns-in-Err-next_bucket-clause-cause : goal.returns-in-Err-next_bucket-clause-cause
returns-in-Err-next_bucket-clause-cause g c =
    let faults = g.S.Source.faults in
    let now = c.in-Ok-refill.ensures.cause.fine ∙ c.buckets.invariant.quiet in
    let known = cause_then ℕ Brz (faults c.args.source.now) (faults c.args.source.now) c.in-Err-next_bucket.fault (c.in-Err-next_bucket.ensures.cause (faults c.args.source.now)) in
    subst (λ (n : ℕ). HasLoadCause {T = Brz} (faults c.args.source.now) n (Err c.in-Err-next_bucket.fault)) (sym now) known

pub returns-in-Ok-end-clause-exact : goal.returns-in-Ok-end-clause-exact
returns-in-Ok-end-clause-exact g c = λ x is.
    let inv = c.buckets.invariant in
    let before = inv.same ∙ is in
    let none : left_of c.buckets.parts ≡ 0 = omega (arith, c.left.ensures.left, c.buckets-test.false) in
    inv.right x before ∙ (rest_ended (form_of c.args.version) x c.buckets.at (left_of c.buckets.parts) c.in-Ok-end.field-0 c.buckets.parts none (c.in-Ok-end.ensures.exact x before) ∙ ap Ok (sym c.finish.ensures.whole))

pub returns-clause-exact : goal.returns-clause-exact
returns-clause-exact g c = λ x is.
    let inv = c.buckets.invariant in
    let before = inv.same ∙ is in
    let none : left_of c.buckets.parts ≡ 0 = omega (arith, c.left.ensures.left, c.buckets-test.false) in
    subst (Fails c.in-Err-end.fault) (sym (inv.right x before)) (rest_trails (form_of c.args.version) x c.buckets.at (left_of c.buckets.parts) c.buckets.parts c.in-Err-end.fault none (c.in-Err-end.ensures.exact x before))
