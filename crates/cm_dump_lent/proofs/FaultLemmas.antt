-- Why a dump by BRZ is not opened.
use Rattle.std.proofs.Common.{◌≡◌, ◌∙◌, ℕ, List, ap, arith, refl, sym, Result, Ok, Err}
use Rattle.cm_brz_func.specs.Functions.{Brz}
use Rattle.cm_dump.specs.Forms.{Form, form_of, version_of}
use Rattle.cm_dump.specs.Headings.{heading_at}
use Rattle.cm_dump.specs.Spelling.{body_at, brz_at, spelling_by}
use Rattle.cm_dump.specs.declared.front.Algorithm.TheVariants as algorithm
use Rattle.cm_dump.specs.declared.front.Header.{Header}
use Rattle.cm_dump_brz.specs.Opened.{IsBrzFault}
use Rattle.cm_dump_brz.specs.declared.fault.OpenFault.{OpenFault}
use Rattle.cm_dump_brz.specs.declared.fault.OpenFault.TheVariants as fault
use Rattle.cm_dump_items.specs.Reading.{◌>>=◌}
use Rattle.cm_dump_items.specs.StepLaws.{ok_same}
use Rattle.cm_dump_items.specs.declared.fault.LoadFault.{LoadFault}
use Rattle.cm_func.specs.declared.function.Func.TheVariants as func
use Rattle.cm_dump_lent.specs.Opened.{IsOpenFault}

failed : (r : Result Brz LoadFault) (e : LoadFault) → r ≡ Err e → (r >>= (λ f. Ok (func.Brz f))) ≡ Err e
failed r e is = rw is refl

spelled : (v : Form) (bytes : List ℕ) (h : Header) (e : LoadFault) → heading_at v bytes ≡ Ok h → h.algorithm ≡ algorithm.Brz → brz_at v bytes h ≡ Err e → spelling_by v bytes ≡ Err e
unfolding spelling_by
spelled v bytes h e heading brz is = rw heading (ap (body_at v bytes h) brz ∙ failed (brz_at v bytes h) e is)

-- the fault of the buckets is that of the dump
pub brz_fault : (bytes : List ℕ) (h : Header) (room : ℕ) (e : OpenFault) → heading_at (form_of (version_of bytes)) bytes ≡ Ok h → h.algorithm ≡ algorithm.Brz → IsBrzFault (version_of bytes) h bytes room e → IsOpenFault bytes room e
brz_fault bytes h room (fault.Dump e) heading brz is = (
  spelled (form_of (version_of bytes)) bytes h e heading brz is.1,
  is.2,
  λ lacks.
      let same : lacks.header ≡ h = sym (ok_same (sym heading ∙ lacks.heading)) in
      let few = rw same at lacks.few in
      omega (arith, few, is.0),
)
brz_fault bytes h room (fault.Room needed) heading brz is = (record { header = h; heading = heading; brz = brz; few = omega (arith, is.0, is.1) }, is.0)
