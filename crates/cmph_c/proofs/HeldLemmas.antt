-- The function that a struct holds, and its number of a key.
use Rattle.std.specs.Prelude.{Option, None, Some, IfNone, IfSome}
use Rattle.std.proofs.Common.{◌≡◌, ◌≢◌, ◌∙◌, ℕ, List, ap, arith, refl, sym}
use Rattle.cm_dump.specs.declared.versions.Version.{Version}
use Rattle.cm_dump.specs.declared.versions.Version.TheVariants as version
use Rattle.cm_dump_brz.specs.Indexed.{IndexedBrz, brz_held, indexed_answer}
use Rattle.cm_dump_lent.specs.Opened.{lent_answer}
use Rattle.cm_dump_lent.specs.declared.lent.Lent.{Lent}
use Rattle.cm_dump_lent.specs.declared.lent.Lent.TheVariants as lent
use Rattle.cm_lib_lent.specs.Numbers.{number_or_none}
use Rattle.cm_lib_lent.specs.declared.numbers.TheConstants.{NONE}
use Rattle.cmph_c.specs.Functions.{Holds, HoldsBrz, IsHeld, brz_parts, number_of}
use Rattle.cmph_c.specs.declared.function.Function.{Function}
use Rattle.cmph_c.specs.declared.function.TheConstants.{BRZ}

-- a struct of another algorithm holds none by BRZ, and the other way round
pub none_held : (c : Function) → c.kind ≡ BRZ → ((f : IndexedBrz) → HoldsBrz c f → c.span ≢ f.keys) → IsHeld c → ⊥
none_held c kind none (lent.Chm f, is) = omega (arith, kind, is.0.0)
none_held c kind none (lent.Bdz f, is) = omega (arith, kind, is.0.0)
none_held c kind none (lent.BdzPh f, is) = omega (arith, kind, is.0.0)
none_held c kind none (lent.Brz f, is) = none f is.0.1 is.1

-- a struct that holds no function has no number
pub no_number : {T : Type 0} (c : Function) (by : T → Lent) (o : Option T) (r : ℕ) → IfSome o (λ f. Holds c (by f)) → IfNone o (r ≡ NONE) → (IsHeld c → ⊥) → r ≡ NONE
no_number c by (Some f) r held none not = absurd (not (by f, held))
no_number c by None r held none not = none

pub no_brz_number : (c : Function) (o : Option IndexedBrz) (r : ℕ) → c.kind ≡ BRZ → IfSome o (λ f. HoldsBrz c f × (c.span ≡ f.keys)) → IfNone o (r ≡ NONE) → (IsHeld c → ⊥) → r ≡ NONE
no_brz_number c (Some f) r kind held none not = absurd (not (lent.Brz f, ((kind, held.0), held.1)))
no_brz_number c None r kind held none not = none

-- a number names one version
same_version : (v w : Version) → number_of v ≡ number_of w → v ≡ w
same_version version.One version.One is = refl
same_version version.One version.Two is = absurd (omega (arith, is))
same_version version.Two version.One is = absurd (omega (arith, is))
same_version version.Two version.Two is = refl

-- so a struct holds one function by BRZ at most
same_brz : (c : Function) (f g : IndexedBrz) → HoldsBrz c f → HoldsBrz c g → f ≡ g
same_brz c f g one other = one.is ∙ ap (λ (v : Version). brz_held (brz_parts c v)) (same_version one.version other.version (sym one.named ∙ other.named)) ∙ sym other.is

-- and none if its span is not that of this one
pub no_brz : (c : Function) (o r : Option IndexedBrz) → IfSome o (HoldsBrz c) → IfNone o ((f : IndexedBrz) → HoldsBrz c f → ⊥) → IfNone r (IfSome o (λ f. c.span ≢ f.keys)) → IfNone r ((f : IndexedBrz) → HoldsBrz c f → c.span ≢ f.keys)
no_brz c o (Some g) held none other = tt
no_brz c (Some g) None held none other = λ f is same. other (same ∙ ap (λ (x : IndexedBrz). x.keys) (same_brz c f g is held))
no_brz c None None held none other = λ f is same. none f is

-- the number by this one
pub brz_number : (c : Function) (key : List ℕ) (o : Option IndexedBrz) (r : ℕ) → c.kind ≡ BRZ → IfSome o (λ f. HoldsBrz c f × (c.span ≡ f.keys)) → IfNone o ((f : IndexedBrz) → HoldsBrz c f → c.span ≢ f.keys) → IfSome o (λ f. r ≡ number_or_none (indexed_answer f key))
    → (f : Lent) → Holds c f → r ≡ number_or_none (lent_answer f key)
brz_number c key o r kind held none number (lent.Chm f) is = absurd (omega (arith, kind, is.0.0))
brz_number c key o r kind held none number (lent.Bdz f) is = absurd (omega (arith, kind, is.0.0))
brz_number c key o r kind held none number (lent.BdzPh f) is = absurd (omega (arith, kind, is.0.0))
brz_number c key (Some g) r kind held none number (lent.Brz f) is = number ∙ ap (λ (h : IndexedBrz). number_or_none (indexed_answer h key)) (same_brz c g f held.0 is.0.1)
brz_number c key None r kind held none number (lent.Brz f) is = absurd (none f is.0.1 is.1)
