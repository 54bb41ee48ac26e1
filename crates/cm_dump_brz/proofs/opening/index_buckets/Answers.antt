use Rattle.std.proofs.Common.{◌≡◌, ◌∙◌, ℕ, ◌+◌, ◌-◌, ◌<◌, ◌≤◌, List, suc, ap, arith, length, refl, subst, sym, take, Result, Ok}
use Rattle.std.proofs.lemmas.List.{length-set, take_all}
use Rattle.cm_brz_func.specs.Functions.{Brz, bucket_count}
use Rattle.cm_dump.specs.Forms.{form_of}
use Rattle.cm_dump.specs.RestLaws.{rest_ended, rest_fault, rest_trails}
use Rattle.cm_dump.specs.Spelling.{bucket_len}
use Rattle.cm_dump_items.specs.Reading.{Fails}
use Rattle.cm_dump_items.specs.declared.fault.LoadFault.{LoadFault}
use Rattle.cm_dump_brz.specs.Indexed.{function_of}
use Rattle.cm_dump_brz.specs.Opened.{indexed}
use Rattle.cm_dump_brz.proofs.IndexLemmas.{first_of, index_begun, index_more}
use Rattle.cm_dump_brz.proofs.OpenLemmas.{off_not}
use Rattle.cm_dump_brz.proofs.opening.index_buckets.Goals as goal

pub loop-j-init : goal.loop-j-init
loop-j-init c = record { len = refl; is = index_begun c.args.version c.args.header c.args.dump.now c.args.index.now c.requires.start (omega (arith, c.requires.some, c.requires.room)) }

pub returns-in-Err-clause-exact : goal.returns-in-Err-clause-exact
returns-in-Err-clause-exact c =
    let v = form_of c.args.version in
    let h = c.args.header in
    let inv = c.loop-j.invariant in
    let f : Brz = first_of c.args.version h c.args.dump.now c.loop-j.index c.loop-j.j in
    let left : ℕ = length c.args.index.now - 1 - c.loop-j.j in
    let k : ℕ = bucket_count h.keys h.b - c.loop-j.j in
    let more : k ≡ suc left = omega (arith, c.requires.room, c.loop-j-test.true) in
    subst (Fails c.in-Err.fault) (sym inv.is.right) (rest_fault v c.args.dump.now c.loop-j.at left k f c.in-Err.fault more (c.in-Err.ensures.exact f refl refl inv.is.held_is))

pub loop-j-preserved : goal.loop-j-preserved
loop-j-preserved c =
    let h = c.args.header in
    let inv = c.loop-j.invariant in
    let f : Brz = first_of c.args.version h c.args.dump.now c.loop-j.index c.loop-j.j in
    let left : ℕ = length c.args.index.now - 1 - c.loop-j.j in
    let b = c.in-Ok.bucket in
    let e = c.in-Ok.ensures in
    let off = off_not h.keys (c.loop-j.held + b.size) left e.fits in
    let len : c.front_len.result + c.image_len.result ≡ bucket_len (form_of c.args.version) b = omega (arith, c.front_len.ensures, c.image_len.ensures.len) in
    record {
      len = length-set c.loop-j.index c.loop-j.j _ ∙ inv.len;
      is = rw c.size.ensures.size
          (index_more c.args.version h c.args.dump.now c.loop-j.index c.loop-j.j c.loop-j.at c.loop-j.held (c.front_len.result + c.image_len.result) left b c.requires.ratio (omega (arith, inv.len, c.loop-j-test.true)) (inv.len ∙ c.requires.room) (omega (arith, c.requires.room))
          (omega (arith, inv.is.within, c.requires.keys.1)) inv.is (record { there = e.bucket; read = e.exact f refl refl inv.is.held_is; valid = e.valid; within = off.0; all = off.1; inside = e.inside }) len);
    }

pub returns-in-Ok-lent_end-clause-exact : goal.returns-in-Ok-lent_end-clause-exact
returns-in-Ok-lent_end-clause-exact c =
    let h = c.args.header in
    let inv = c.loop-j.invariant in
    let f : Brz = first_of c.args.version h c.args.dump.now c.loop-j.index c.loop-j.j in
    let k : ℕ = bucket_count h.keys h.b - c.loop-j.j in
    let none : k ≡ 0 = omega (arith, c.requires.room, c.loop-j-test.false) in
    let whole : take c.loop-j.j c.loop-j.index ≡ c.loop-j.index = take_all c.loop-j.j c.loop-j.index (omega (arith, inv.len, c.loop-j-test.false)) in
    inv.is.right
    ∙ (rest_ended (form_of c.args.version) c.args.dump.now c.loop-j.at k c.in-Ok-lent_end.field-0 f none c.in-Ok-lent_end.ensures.exact
    ∙ ap (λ (words : List ℕ). let r : Result Brz LoadFault = Ok (function_of (indexed c.args.version h c.args.dump.now words)) in r) whole)

pub returns-in-Err-lent_end-clause-exact : goal.returns-in-Err-lent_end-clause-exact
returns-in-Err-lent_end-clause-exact c =
    let h = c.args.header in
    let inv = c.loop-j.invariant in
    let f : Brz = first_of c.args.version h c.args.dump.now c.loop-j.index c.loop-j.j in
    let k : ℕ = bucket_count h.keys h.b - c.loop-j.j in
    let none : k ≡ 0 = omega (arith, c.requires.room, c.loop-j-test.false) in
    subst (Fails c.in-Err-lent_end.fault) (sym inv.is.right) (rest_trails (form_of c.args.version) c.args.dump.now c.loop-j.at k f c.in-Err-lent_end.fault none c.in-Err-lent_end.ensures.exact)
