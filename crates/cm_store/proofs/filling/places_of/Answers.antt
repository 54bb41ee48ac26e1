use Rattle.std.proofs.Common.{◌≡◌, ◌∙◌, ℕ, ◌+◌, ◌<◌, ◌++◌, ◌∷◌, [], List, length, length-set, take, Option, Some, ap, sym, subst, refl, arith}
use Rattle.std.specs.Prelude.{IfSome}
use Rattle.std.proofs.lemmas.List.{length-replicate, take_all}
use Rattle.cm_bdz.specs.Functions.{bdz_answer}
use Rattle.cm_bdz.specs.Numbering.{AnswersApart}
use Rattle.cm_store.specs.Stores.{places_of}
use Rattle.cm_store.proofs.FillLemmas.{IsFilled, apart_before, fill_all, fill_next, fill_none, fill_sound, has_answer}
use Rattle.cm_store.proofs.filling.places_of.Goals as goal
use Rattle.cm_store_records.specs.PassLaws.{has_record, next_record, pass_start, some_bytes, take_next}
use Rattle.cm_store_records.specs.RecordPass.{HoldsRecords, IsRecordPass, keyed}
use Rattle.cm_store_records.specs.Records.{Record, record_size, records_in}

-- the bytes hold the records
holds : (lines bytes seen : List ℕ) → HoldsRecords lines bytes → seen ≡ bytes → HoldsRecords lines seen
holds lines bytes seen is same = subst (HoldsRecords lines) (sym same) is

pub zeroed-requires-clause-fit : goal.zeroed-requires-clause-fit
zeroed-requires-clause-fit c =
    let lines = c.args.records.now.lines in
    let is = holds lines c.args.records.now.bytes c.bytes-bytes.result.now c.bytes-bytes.ensures.holds c.bytes-bytes.ensures.bytes in
    (some_bytes lines c.bytes-bytes.result.now is.records (omega (arith, c.requires.some, c.requires.count)), omega (arith, is.size))

pub records-init : goal.records-init
records-init c =
    let lines = c.args.records.now.lines in
    let is = holds lines c.args.records.now.bytes c.bytes-bytes.result.now c.bytes-bytes.ensures.holds c.bytes-bytes.ensures.bytes in
    record {
      bytes_are = c.bytes-bytes.ensures.bytes;
      count_is = c.count-count.ensures.count;
      bound_is = c.in_ok-places.ensures.bound;
      long = omega (arith, ap length c.in_ok-places.ensures.cells, length-replicate {A = ℕ} c.count-count.result 0, c.count-count.ensures.count);
      pass = pass_start lines c.bytes-bytes.result.now is.records;
      filled = fill_none (bdz_answer c.args.index.now) c.in_ok-places.places.items.items (take 0 (records_in (length lines) c.bytes-bytes.result.now)) refl;
    }

pub unreachable-requires : goal.unreachable-requires
unreachable-requires c =
    let l = c.records in
    has_record c.args.records.now.lines c.bytes-bytes.result.now l.i l.at l.invariant.pass (omega (arith, c.records-test.true, l.invariant.count_is)) c.in_default.ensures.none

pub unreachable-requires-in_default-number : goal.unreachable-requires-in_default-number
unreachable-requires-in_default-number c =
    let l = c.records in
    let lines = c.args.records.now.lines in
    let bytes = c.bytes-bytes.result.now in
    let r = c.in-Some.ensures.some in
    let low : l.i < length lines = omega (arith, c.records-test.true, l.invariant.count_is) in
    let next = next_record lines bytes l.i l.at r.record_is l.invariant.pass low r.begins in
    let apart = subst (λ (b : List ℕ). AnswersApart (keyed lines b) (bdz_answer c.args.index.now) c.args.index.now.keys) (sym l.invariant.bytes_are) c.requires.apart in
    has_answer (bdz_answer c.args.index.now) lines bytes c.args.index.now.keys l.i r.record_is l.invariant.pass.records apart low next.record_is (sym r.number_is ∙ c.in_default-number.is)

pub records-preserved : goal.records-preserved
records-preserved c =
    let l = c.records in
    let lines = c.args.records.now.lines in
    let bytes = c.bytes-bytes.result.now in
    let r = c.in-Some.ensures.some in
    let low : l.i < length lines = omega (arith, c.records-test.true, l.invariant.count_is) in
    let next = next_record lines bytes l.i l.at r.record_is l.invariant.pass low r.begins in
    let answer = bdz_answer c.args.index.now in
    let rs = records_in (length lines) bytes in
    let is : answer r.record_is.key ≡ Some c.in-Some-number.number = sym r.number_is ∙ c.in-Some-number.is in
    let small : c.in-Some-number.number < c.args.index.now.keys = subst (λ (o : Option ℕ). IfSome o (λ v. v < c.args.index.now.keys)) c.in-Some-number.is r.below in
    let below : c.in-Some-number.number < length l.places.items.items = omega (arith, small, l.invariant.long, c.requires.count) in
    let apart = subst (λ (b : List ℕ). AnswersApart (keyed lines b) answer c.args.index.now.keys) (sym l.invariant.bytes_are) c.requires.apart in
    record {
      bytes_are = l.invariant.bytes_are;
      count_is = l.invariant.count_is;
      bound_is = c.set.ensures.bound ∙ l.invariant.bound_is;
      long = ap length c.set.ensures.cells ∙ length-set l.places.items.items c.in-Some-number.number l.at ∙ l.invariant.long;
      pass = subst (IsRecordPass lines bytes (l.i + 1)) (sym r.next_is) next.later;
      filled =
          subst (λ (rs : List Record). IsFilled answer c.set.new.self.items.items rs c.in-Some.numbered.next) (take_next rs l.i r.record_is next.record_is) (
          subst (λ (n : ℕ). IsFilled answer c.set.new.self.items.items (take l.i rs ++ r.record_is ∷ []) n) (sym r.next_is) (
          subst (λ (places : List ℕ). IsFilled answer places (take l.i rs ++ r.record_is ∷ []) (l.at + record_size r.record_is)) (sym c.set.ensures.cells) (
          fill_next answer l.places.items.items (take l.i rs) r.record_is l.at c.in-Some-number.number l.invariant.filled is below (apart_before answer lines bytes c.args.index.now.keys l.i c.in-Some-number.number r.record_is l.invariant.pass.records apart low next.record_is is))));
    }

-- all records are passed
filled : (c : goal.After-records) → IsFilled (bdz_answer c.args.index.now) c.records.places.items.items (records_in (length c.args.records.now.lines) c.bytes-bytes.result.now) c.records.at
filled c =
    let l = c.records in
    let rs = records_in (length c.args.records.now.lines) c.bytes-bytes.result.now in
    let all : take l.i rs ≡ rs = take_all l.i rs (omega (arith, l.invariant.pass.records.whole, c.records-test.false, l.invariant.count_is)) in
    subst (λ (xs : List Record). IsFilled (bdz_answer c.args.index.now) l.places.items.items xs l.at) all l.invariant.filled

pub returns-clause-places : goal.returns-clause-places
returns-clause-places c =
    let l = c.records in
    let lines = c.args.records.now.lines in
    fill_all c.args.index.now l.places.items.items (records_in (length lines) c.bytes-bytes.result.now) l.at (filled c) (l.invariant.pass.records.whole ∙ sym l.invariant.long)
    ∙ ap (λ (b : List ℕ). places_of c.args.index.now (records_in (length lines) b)) l.invariant.bytes_are

pub returns-clause-sound : goal.returns-clause-sound
returns-clause-sound c =
    let l = c.records in
    let lines = c.args.records.now.lines in
    let bytes = c.args.records.now.bytes in
    let known = subst (λ (b : List ℕ). IsFilled (bdz_answer c.args.index.now) l.places.items.items (records_in (length lines) b) l.at) l.invariant.bytes_are (filled c) in
    fill_sound c.args.index.now l.places.items.items lines bytes l.at c.bytes-bytes.ensures.holds known c.requires.count
