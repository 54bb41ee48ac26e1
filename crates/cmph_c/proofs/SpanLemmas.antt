-- The number of a key is below the span of the struct, whatever the bytes are.
use Rattle.std.specs.Prelude.{Option, None, Some, IfNone, IfSome, Bool, true, false, if◌then◌else◌, slice_index, nat_lt}
use Rattle.std.specs.List.{sum_by}
use Rattle.std.proofs.Common.{◌≡◌, ◌≢◌, ◌∙◌, ◌⊎◌, inl, inr, ℕ, ◌*◌, ◌/◌, ◌%◌, ◌+◌, ◌<◌, ◌≤◌, List, ap, arith, length, subst, sym}
use Rattle.std.proofs.Math.Nat.{mul-div_cancel_left}
use Rattle.std.proofs.lemmas.Bool.{cases_lt}
use Rattle.std.proofs.lemmas.Nat.{mod_below}
use Rattle.cm_bdz.specs.BdzLaws.{HasThirds, bdz_ends}
use Rattle.cm_bdz.specs.Functions.{BdzPh, chosen_of}
use Rattle.cm_bdz.specs.Lent.{if_below}
use Rattle.cm_bits.specs.PackedLaws.{length-packed_cells}
use Rattle.cm_dump_brz.specs.Indexed.{IndexedBrz, number_after}
use Rattle.cm_dump_lent.specs.Opened.{func_by, lent_answer}
use Rattle.cm_dump_lent.specs.declared.lent.Lent.{Lent}
use Rattle.cm_dump_lent.specs.declared.lent.Lent.TheVariants as lent
use Rattle.cm_func.specs.Functions.{span_by}
use Rattle.cm_keys_lent.specs.Ends.{key_in}
use Rattle.cm_keys_lent.specs.Pass.{IsLentPass, LentPass}
use Rattle.cm_lib_lent.specs.Numbers.{ArePut, number_or_none}
use Rattle.cm_lib_lent.specs.declared.numbers.TheConstants.{NONE}
use Rattle.cm_spec.specs.Bdz.{bdz_edge}
use Rattle.cm_spec.specs.Chm.{Chm}
use Rattle.cm_spec.specs.Lookup2.{words}
use Rattle.cmph_c.specs.Answering.{ArePutBy, pass_of}
use Rattle.cmph_c.specs.Functions.{Holds, HoldsBrz}
use Rattle.cmph_c.specs.declared.function.Function.{Function}

-- a number that is put only if it is below a bound
if_inside : (bound n : ℕ) → IfSome (if_below bound n) (λ m. m < bound)
if_inside bound n = go (cases_lt n bound) where
  go : (n < bound) ⊎ (bound ≤ n) → IfSome (if_below bound n) (λ m. m < bound)
  go (inl l) = let test : nat_lt n bound ≡ true = grind (arith, l) in rw test l
  go (inr m) = let test : nat_lt n bound ≡ false = grind (arith, m) in rw test tt

unless_inside : (b : Bool) (bound n : ℕ) → IfSome (if b then None else if_below bound n) (λ m. m < bound)
unless_inside true bound n = tt
unless_inside false bound n = if_inside bound n

after_inside : (bound before : ℕ) (o : Option ℕ) → IfSome (number_after bound before o) (λ m. m < bound)
after_inside bound before None = tt
after_inside bound before (Some r) = if_inside bound (before + r)

-- the chosen vertex is one of the vertices
chosen_inside : (cells key : List ℕ) (seed : ℕ) → HasThirds (length cells) → chosen_of cells key seed < length cells
chosen_inside cells key seed t =
    let ends = bdz_edge (words key seed) (length cells) in
    let is = bdz_ends (words key seed) (length cells) t in
    let at : ℕ = sum_by (slice_index cells) ends % 3 in
    is.1.0 at 0 (omega (arith, is.0, mod_below (sum_by (slice_index cells) ends) 3 (omega arith)))

-- an answer to any key is below the span
pub answer_below : (c : Function) (f : Lent) → Holds c f → (key : List ℕ) → IfSome (lent_answer f key) (λ n. n < span_by (func_by f))
answer_below c (lent.Chm f) holds key =
    let same : f.keys ≡ c.keys = ap (λ (x : Chm). x.keys) holds.0.2 in
    mod_below _ f.keys (omega (arith, same, holds.0.1.keys.0))
answer_below c (lent.Bdz f) holds key = unless_inside _ f.function.keys _
answer_below c (lent.BdzPh f) holds key =
    let many : length f.cells ≡ 3 * c.size = ap (λ (x : BdzPh). length x.cells) holds.0.2 ∙ length-packed_cells 3 5 (3 * c.size) c.cells.now in
    let third : length f.cells / 3 ≡ c.size = ap (λ (x : ℕ). x / 3) many ∙ mul-div_cancel_left c.size (omega arith) in
    chosen_inside f.cells key f.seed (record {
      is = many ∙ ap (λ (x : ℕ). 3 * x) (sym third);
      some = omega (arith, third, holds.0.1.third.0);
      few = omega (arith, third, holds.0.1.third.1);
    })
answer_below c (lent.Brz f) holds key = after_inside f.keys _ _

-- so is what is put for it
number_below : (o : Option ℕ) (span bound r : ℕ) → span ≡ bound → IfSome o (λ n. n < bound) → r ≡ number_or_none o → r ≢ NONE → r < span
number_below None span bound r same inside is some = absurd (some is)
number_below (Some n) span bound r same inside is some = omega (arith, same, inside, is)

pub put_below : (c : Function) (f : Lent) (keys : LentPass) (n : ℕ) (old new : List ℕ) → Holds c f → ArePut (lent_answer f) keys 0 n old new → (i : ℕ) → i < n → slice_index new i ≢ NONE → slice_index new i < c.span
put_below c f keys n old new holds put i l some =
    let key = key_in keys.bytes keys.ends i in
    number_below (lent_answer f key) c.span (span_by (func_by f)) (slice_index new i) holds.1 (answer_below c f holds key) (put.put i (omega arith) l) some

-- the numbers of keys
pub put_by : (c : Function) (f : Lent) (bytes ends old new : List ℕ) (pass : LentPass) (count : ℕ) → Holds c f → pass ≡ pass_of bytes ends → IsLentPass pass → count ≡ length pass.ends → count ≤ length old → ArePut (lent_answer f) pass 0 (length pass.ends) old new → ArePutBy c bytes ends old new
put_by c f bytes ends old new pass count holds same valid counted room put =
    let keys_put : ArePut (lent_answer f) (pass_of bytes ends) 0 (length ends) old new = subst (λ (p : LentPass). ArePut (lent_answer f) p 0 (length p.ends) old new) same put in
    record {
      lent = f;
      holds = holds;
      keys_are = subst IsLentPass same valid;
      room = omega (arith, counted, room, ap (λ (p : LentPass). length p.ends) same);
      put = keys_put;
      below = put_below c f (pass_of bytes ends) (length ends) old new holds keys_put;
    }

-- the number by a function that a struct may hold
pub held_below : {T : Type 0} (c : Function) (by : T → Lent) (o : Option T) (r : ℕ) → IfSome o (λ f. Holds c (by f)) → IfSome o (λ f. r ≢ NONE → r < span_by (func_by (by f))) → IfNone o (r ≡ NONE) → r ≢ NONE → r < c.span
held_below c by (Some f) r held below none some = omega (arith, held.1, below some)
held_below c by None r held below none some = absurd (some none)

pub brz_below : (c : Function) (o : Option IndexedBrz) (r : ℕ) → IfSome o (λ f. HoldsBrz c f × (c.span ≡ f.keys)) → IfSome o (λ f. r ≢ NONE → r < f.keys) → IfNone o (r ≡ NONE) → r ≢ NONE → r < c.span
brz_below c (Some f) r held below none some = omega (arith, held.1, below some)
brz_below c None r held below none some = absurd (some none)
