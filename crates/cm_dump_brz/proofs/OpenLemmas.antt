-- The next bucket of a dump, which is checked.
use Rattle.std.specs.Int.{byte_len}
use Rattle.std.proofs.Common.{◌≡◌, ◌∙◌, ◌⊎◌, ℕ, ◌+◌, ◌/◌, ◌<◌, ◌≤◌, List, ap, arith, inl, inr, refl, subst, sym, count_by, nat_lt, true, false, Option, None, Some, Ok, Err}
use Rattle.std.proofs.lemmas.Bool.{cases_lt, eq-eqb, false≢true, ne_eqb}
use Rattle.cm_bits.specs.Fault.{packed_fault}
use Rattle.cm_bits.specs.Held.{packed_cells}
use Rattle.cm_bits.specs.declared.fault.ImageFault.{ImageFault}
use Rattle.cm_brz_func.specs.Functions.{Brz, keys_in}
use Rattle.cm_dump.specs.Forms.{Form}
use Rattle.cm_dump.specs.Spelling.{crumbs_at, is_off, size_at}
use Rattle.cm_dump_images.specs.Images.{fault_at, image_at, packed_at, unless_bad}
use Rattle.cm_dump_items.specs.ItemLaws.{ltb_no, ltb_yes}
use Rattle.cm_dump_items.specs.Reading.{field_at, item_at}
use Rattle.cm_dump_items.specs.StepLaws.{ok_err, ok_same, step}
use Rattle.cm_dump_items.specs.declared.fault.LoadFault.TheVariants as faults
use Rattle.cm_spec.specs.Cells.{is_busy}
use Rattle.cm_spec.specs.Image.{packed_len}

whole : (at : ℕ) (place : ℕ → ℕ) (o : Option ImageFault) (item image : List ℕ) → unless_bad at place o item ≡ Ok image → item ≡ image
whole at place None item image is = ok_same is
whole at place (Some f) item image is = absurd (ok_err image (fault_at at place f) (sym is))

-- an image that has no fault is the item at its offset
pub item_of_image : (bytes : List ℕ) (at n : ℕ) (image : List ℕ) → packed_at bytes at 4 4 n ≡ Ok image → item_at bytes at (packed_len 4 n) ≡ Ok image
unfolding image_at
item_of_image bytes at n image is =
    let s = step (item_at bytes at (packed_len 4 n)) (λ item. unless_bad at (λ i. i / 4) (packed_fault 4 4 n item) item) image is in
    s.was ∙ ap Ok (whole at (λ i. i / 4) (packed_fault 4 4 n s.value) s.value image s.next)

-- the cells of an image, of which as many are not 3 as there are keys, or of which there are others
pub crumbs_counted : (bytes : List ℕ) (at size n : ℕ) (image : List ℕ) → packed_at bytes at 4 4 n ≡ Ok image → count_by (is_busy 3) (packed_cells 4 4 n image) ≡ size → crumbs_at bytes at size n ≡ Ok (packed_cells 4 4 n image)
unfolding crumbs_at
crumbs_counted bytes at size n image there busy = rw (there, eq-eqb _ _ busy) refl

pub crumbs_miscounted : (bytes : List ℕ) (at size n : ℕ) (image : List ℕ) → packed_at bytes at 4 4 n ≡ Ok image → (count_by (is_busy 3) (packed_cells 4 4 n image) ≡ size → ⊥) → crumbs_at bytes at size n ≡ Err (faults.BadCount at)
unfolding crumbs_at
crumbs_miscounted bytes at size n image there other = rw (there, ne_eqb _ _ other) refl

-- a number of keys that fits, and one that does not
pub size_fits : (v : Form) (dump : List ℕ) (at left size keys held : ℕ) (f : Brz) → f.keys ≡ keys → keys_in f.buckets ≡ held → field_at v.size dump at 0 v.most_size ≡ Ok size → is_off keys (held + size) left ≡ false → size_at v dump at f left ≡ Ok size
unfolding size_at
size_fits v dump at left size keys held f is so sized fits = rw (sized, is, so, fits) refl

pub size_off : (v : Form) (dump : List ℕ) (at left size keys held : ℕ) (f : Brz) → f.keys ≡ keys → keys_in f.buckets ≡ held → field_at v.size dump at 0 v.most_size ≡ Ok size → is_off keys (held + size) left ≡ true → size_at v dump at f left ≡ Err (faults.BadCount at)
unfolding size_at
size_off v dump at left size keys held f is so sized off = rw (sized, is, so, off) refl

-- a number of keys that fits is not too great, and is not too small with the last bucket
pub off_not : (keys n left : ℕ) → is_off keys n left ≡ false → (n ≤ keys) × (left ≡ 0 → keys ≤ n)
off_not keys n left fits = (within (cases_lt keys n), λ none. all none (cases_lt n keys)) where
  within : (keys < n) ⊎ (n ≤ keys) → n ≤ keys
  within (inl more) =
      let test : nat_lt keys n ≡ true = ltb_yes keys n more in
      absurd (false≢true (sym (rw test at fits)))
  within (inr le) = le

  all : left ≡ 0 → (n < keys) ⊎ (keys ≤ n) → keys ≤ n
  all none (inl fewer) =
      let test : nat_lt keys n ≡ false = ltb_no keys n (omega (arith, fewer)) in
      let less : nat_lt n keys ≡ true = ltb_yes n keys fewer in
      let off = subst (λ (k : ℕ). is_off keys n k ≡ false) none fits in
      absurd (false≢true (sym (rw (test, less) at off)))
  all none (inr le) = le
