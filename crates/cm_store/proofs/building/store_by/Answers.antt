use Rattle.std.proofs.Common.{rules, ◌≡◌, ◌∙◌, ℕ, List, length, None, ap, refl, subst, arith}
use Rattle.cm_algo_seeds.specs.Fails.{FailsBuild}
use Rattle.cm_bdz.specs.Functions.{Bdz}
use Rattle.cm_bdz.specs.Numbering.{bdz_under}
use Rattle.cm_bits.specs.PackedLaws.{AllBelow-packed_cells}
use Rattle.cm_peel.specs.CoreLaws.{empty_rest}
use Rattle.cm_spec.specs.Bdz.{bdz_rule}
use Rattle.cm_store.proofs.Built.{by_parts, fails_keys, index_is}
use Rattle.cm_store.proofs.building.store_by.Goals as goal
use Rattle.cm_store.specs.Builds.{keys_in}
use Rattle.cm_store.specs.Stores.{places_of}
use Rattle.cm_store_records.specs.PassLaws.{keyed_long}
use Rattle.cm_store_records.specs.RecordPass.{AreRecords, RecordPass}
use Rattle.cm_store_records.specs.Records.{records_in}
use Rattle.cm_store_records.specs.Reads.{RecordBytes}

pub returns-in-Err-clause-refused : goal.returns-in-Err-clause-refused
returns-in-Err-clause-refused g c =
    let keys = keys_in c.args.records in
    let fails : FailsBuild bdz_rule (record { keys = keys; fault = None }) c.args.plan.c c.args.seeds.now c.in-Err.fault =
    subst (λ (keys : List (ℕ × List ℕ)). FailsBuild bdz_rule (record { keys = keys; fault = None }) c.args.plan.c c.args.seeds.now c.in-Err.fault) (ap (λ (p : RecordPass). p.keys) c.keys-keys.ensures.pass) (c.in-Err.ensures.fault _ refl) in
    rw c.fault_of.ensures.fault (fails_keys keys c.args.plan.c c.args.seeds.now c.in-Err.fault fails c.in-Err.ensures.form.failed)

-- there is a record for each line
are : (r seen : RecordBytes) → r ≡ seen → AreRecords r.lines r.bytes → AreRecords seen.lines seen.bytes
are r seen same is = subst (λ (x : RecordBytes). AreRecords x.lines x.bytes) same is

pub from_records-requires-clause-count : goal.from_records-requires-clause-count
from_records-requires-clause-count g c =
    let records = c.args.records in
    let built = (rw (ap (λ (p : RecordPass). p.keys) c.keys-keys.ensures.pass) at (c.in-Ok.ensures.first _ refl)).1 in
    omega (arith, built.many, keyed_long records.lines records.bytes (are _ records c.records.view_is c.records.invariant.records))

pub from_records-requires-clause-apart : goal.from_records-requires-clause-apart
from_records-requires-clause-apart g c =
    let keys = keys_in c.args.records in
    let plan = c.args.plan in
    let made = c.in-Ok.ensures.made in
    let built = (rw (ap (λ (p : RecordPass). p.keys) c.keys-keys.ensures.pass) at (c.in-Ok.ensures.first _ refl)).1 in
    let seed = c.in-Ok.built.seed in
    let apart = c.answers_apart.ensures.bdz keys plan.c seed plan.b (omega (arith, made.many.0, built.many), omega (arith, made.many.1, built.many)) c.requires.plan.ratio (empty_rest _ built.first.empty) in
    rw (index_is keys c.in-Ok.built.m c.in-Ok.built.c plan.c seed plan.b _ built.many made.many.2 built.cells_are, built.many) apart

pub returns-in-Ok-from_records-clause-made : goal.returns-in-Ok-from_records-clause-made
returns-in-Ok-from_records-clause-made g c =
    let records = c.args.records in
    let keys = keys_in records in
    let plan = c.args.plan in
    let made = c.in-Ok.ensures.made in
    let built = (rw (ap (λ (p : RecordPass). p.keys) c.keys-keys.ensures.pass) at (c.in-Ok.ensures.first _ refl)).1 in
    let seed = c.in-Ok.built.seed in
    let s = c.in-Ok-from_records in
    let index : s.store.index ≡ bdz_under keys plan.c seed plan.b = s.ensures.index ∙ index_is keys c.in-Ok.built.m c.in-Ok.built.c plan.c seed plan.b _ built.many made.many.2 built.cells_are in
    let rs = records_in (length records.lines) records.bytes in
    let places = s.ensures.places ∙ ap (λ (f : Bdz). places_of f rs) index in
    record {
      many = (omega (arith, made.many.0, built.many), omega (arith, made.many.1, built.many));
      seed = seed;
      chosen = built.chosen;
      place = built.place;
      first = built.first;
      is = by_parts s.store _ _ _ index places s.ensures.bytes;
    }

pub returns-in-Ok-from_records-clause-index : goal.returns-in-Ok-from_records-clause-index
returns-in-Ok-from_records-clause-index g c =
    let made = c.in-Ok.ensures.made in
    let s = c.in-Ok-from_records.ensures in
    record {
      keys = rw s.index (made.many.0, made.many.1);
      ratio = rw (s.index, made.many.2) c.requires.plan.ratio;
      seed = rw s.index (search rules);
      shift = rw s.index c.requires.plan.sampling;
      size = rw (s.index, made.many.2) made.sizes.1;
      below = rw s.index (AllBelow-packed_cells 4 4 c.in-Ok.built.cells.n c.in-Ok.built.cells.bytes.items (omega arith));
      busy = rw s.index (made.busy (omega arith));
    }
