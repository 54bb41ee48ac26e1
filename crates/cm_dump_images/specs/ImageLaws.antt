-- Lemmas about the cells of an image, and about its faults, which the proofs of readers cite. No contract needs them.
use Rattle.std.proofs.Common.{◌≡◌, ◌∙◌, ℕ, ◌+◌, ◌-◌, ◌*◌, ◌/◌, ◌%◌, ◌<◌, ◌≤◌, ◌^◌, List, ◌++◌, length, get_or, sym, ap, arith, refl, Option, Some, None, Ok, Bool, true, false, subst, if◌then◌else◌}
use Rattle.std.proofs.Math.Nat.{div-add-mod, mul-le-mul_left, div-le_self}
use Rattle.std.proofs.lemmas.List.FromFn.{length-map-range_with_len, get_or-map-range_with_len}
use Rattle.cm_bits.specs.PackedLaws.{held}
use Rattle.cm_bits.specs.Bound.{AllBelow}
use Rattle.cm_bits.specs.Fault.{bytes_number, field_cells, fields_fault, packed_fault}
use Rattle.cm_bits.specs.FieldsLaws.{width-fits, bytes_number-image, field_cells-fields_number, fields_fault-image}
use Rattle.cm_bits.specs.Held.{packed_cells}
use Rattle.cm_bits.specs.declared.TheConstants.{MAX_CELLS}
use Rattle.cm_bits.specs.declared.fault.ImageFault.{ImageFault}
use Rattle.cm_bits.specs.declared.fault.ImageFault.TheVariants as image
use Rattle.cm_dump_items.specs.Reading.{IsByteFault, item_at}
use Rattle.cm_dump_items.specs.ItemLaws.{item_there, lt_of}
use Rattle.cm_spec.specs.declared.limits.TheConstants.{MAX_EDGES, MAX_KEYS, MAX_VERTICES}
use Rattle.cm_spec.specs.Dump.{fields_image}
use Rattle.cm_spec.specs.Image.{width_of, fields_len, fields_byte, packed_len, packed_byte}
use Rattle.cm_spec.specs.Lists.{list_of}
use Rattle.cm_dump_images.specs.Places.{AreNear, IsPlace}
use Rattle.cm_dump_images.specs.Images.{fault_at, image_at}

-- an image of cells is short enough to be counted
pub cells_near : (m n : ℕ) → m ≤ MAX_EDGES → n ≤ MAX_VERTICES → fields_len (width_of m) n < 2 ^ 33
cells_near m n small few =
    let w = width-fits m small in
    let le : n * width_of m ≤ n * 26 = mul-le-mul_left n w.1 in
    omega (arith, le, few)

-- the cells of an image are those that it is the image of
pub cells_of_image : (m n : ℕ) (xs bytes : List ℕ) → m ≤ MAX_KEYS → length xs ≡ n → AllBelow m xs → bytes ≡ list_of (fields_byte (width_of m) xs) (fields_len (width_of m) n) → field_cells (width_of m) n (bytes_number bytes) ≡ xs
cells_of_image m n xs bytes small size below is =
    let fit = width-fits m (omega (arith, small)) in
    let all : AllBelow (2 ^ width_of m) xs = λ k l. omega (arith, below k l, fit.2) in
    let whole : bytes ≡ list_of (fields_byte (width_of m) xs) (fields_len (width_of m) (length xs)) = is ∙ ap (λ (k : ℕ). list_of (fields_byte (width_of m) xs) (fields_len (width_of m) k)) (sym size) in
    ap (λ (b : List ℕ). field_cells (width_of m) n (bytes_number b)) whole
    ∙ ap (field_cells (width_of m) n) (bytes_number-image (width_of m) xs all)
    ∙ field_cells-fields_number (width_of m) n xs size all

-- the same of cells that are digits in base d, p of them a byte
pub packed_of_image : (d p n : ℕ) (xs bytes : List ℕ) → 0 < d → 0 < p → length xs ≡ n → AllBelow d xs → bytes ≡ list_of (packed_byte d p xs) (packed_len p n) → packed_cells d p n bytes ≡ xs
packed_of_image d p n xs bytes some many size below is =
    let long : length bytes ≡ packed_len p n = ap length is ∙ length-map-range_with_len (packed_byte d p xs) 0 (packed_len p n) in
    held d p n xs bytes some many size below (record {
      len = long ∙ ap (packed_len p) (sym size);
      image = λ q l. ap (λ (l : List ℕ). get_or l q 0) is ∙ get_or-map-range_with_len (packed_byte d p xs) 0 (packed_len p n) q q 0 (omega (arith, l, long)) (omega arith);
    })

-- an image that is whole and has no fault
pub image_read : (x : List ℕ) (at size : ℕ) (place : ℕ → ℕ) (fault : List ℕ → Option ImageFault) (bytes : List ℕ) → item_at x at size ≡ Ok bytes → fault bytes ≡ None → image_at x at size place fault ≡ Ok bytes
unfolding image_at
image_read x at size place fault bytes whole none = rw (whole, none) refl

-- an image that stands at an offset, and has no fault
pub image_there : (bytes xs ys zs : List ℕ) (at size : ℕ) (place : ℕ → ℕ) (fault : List ℕ → Option ImageFault) → bytes ≡ xs ++ (ys ++ zs) → length xs ≡ at → length ys ≡ size → fault ys ≡ None → image_at bytes at size place fault ≡ Ok ys
image_there bytes xs ys zs at size place fault is first long none = image_read bytes at size place fault ys (item_there bytes xs ys zs at size is first long) none

-- the image of n cells
pub length-fields_image : (m : ℕ) (cells : List ℕ) → length (fields_image m cells) ≡ fields_len (width_of m) (length cells)
unfolding fields_image
length-fields_image m cells = length-map-range_with_len _ 0 _

pub fields_same : (m n : ℕ) (cells : List ℕ) → length cells ≡ n → fields_image m cells ≡ list_of (fields_byte (width_of m) cells) (fields_len (width_of m) n)
unfolding fields_image
fields_same m n cells size = ap (λ (k : ℕ). list_of (fields_byte (width_of m) cells) (fields_len (width_of m) k)) size

pub fields_sound : (m n : ℕ) (cells : List ℕ) → m ≤ MAX_KEYS → length cells ≡ n → AllBelow m cells → fields_fault (width_of m) n m (fields_image m cells) ≡ None
fields_sound m n cells small size below =
    subst (λ (l : List ℕ). fields_fault (width_of m) n m l ≡ None) (sym (fields_same m n cells size)) (rw size at (fields_fault-image m cells (omega (arith, small)) below))

pub none_some : {A : Type 0} (x : A) → (let o : Option A = None in o) ≡ Some x → ⊥
none_some x e = grind (arith, e)

pub some_same : {A : Type 0} {x y : A} → (let o : Option A = Some x in o) ≡ Some y → x ≡ y
some_same e = grind (arith, e)

place_or : (place : ℕ → ℕ) (t u : Bool) (lowest last : ℕ) (f : ImageFault) → (t ≡ true → (lowest < MAX_CELLS) × (place lowest < 2 ^ 62)) → last < 2 ^ 62 → (if t then Some (image.BadCell lowest) else if u then Some (image.BadPadding last) else None) ≡ Some f → IsPlace place f
place_or place true u lowest last f few small is = subst (IsPlace place) (some_same is) (few refl)
place_or place false true lowest last f few small is = subst (IsPlace place) (some_same is) small
place_or place false false lowest last f few small is = absurd (none_some f is)

-- the faults of an image of fields are near enough to be counted
pub fields_near : (m n : ℕ) → m ≤ MAX_KEYS → n ≤ MAX_VERTICES → AreNear (fields_len (width_of m) n) (λ i. i * width_of m / 8) (fields_fault (width_of m) n m)
unfolding fields_fault
fields_near m n small few bytes f long is =
    let w = width-fits m (omega (arith, small)) in
    let short = cells_near m n (omega (arith, small)) few in
    let near : (i : ℕ) → i < n → i * width_of m / 8 < 2 ^ 62 = λ i l. let le : i * width_of m ≤ i * 26 = mul-le-mul_left i w.1 in omega (arith, le, few, l) in
    place_or _ _ _ _ (length bytes - 1) f (λ t. (omega (arith, lt_of _ _ t, few), near _ (lt_of _ _ t))) (omega (arith, short, long)) is

-- an image of digits has no more bytes than cells
pub packed_short : (p n : ℕ) → 0 < p → packed_len p n ≤ n
packed_short p n some =
    let parts : p * (n / p) + n % p ≡ n = div-add-mod n p in
    let more : n / p * 1 ≤ n / p * p = mul-le-mul_left (n / p) some in
    omega (arith, parts, more)

-- and so are those of cells that are digits
pub packed_near : (d p n : ℕ) → n ≤ MAX_VERTICES → packed_len p n < 2 ^ 33 → AreNear (packed_len p n) (λ i. i / p) (packed_fault d p n)
unfolding packed_fault
packed_near d p n few short bytes f long is =
    let near : (i : ℕ) → i < n → i / p < 2 ^ 62 = λ i l. omega (arith, div-le_self i p, few, l) in
    place_or _ _ _ _ (length bytes - 1) f (λ t. (omega (arith, lt_of _ _ t, few), near _ (lt_of _ _ t))) (omega (arith, short, long)) is

-- a fault of an image is one of its bytes
refused_or : (t u : Bool) (lowest last at : ℕ) (place : ℕ → ℕ) (f : ImageFault) → (if t then Some (image.BadCell lowest) else if u then Some (image.BadPadding last) else None) ≡ Some f → IsByteFault (fault_at at place f)
refused_or true u lowest last at place f is = subst (λ (x : ImageFault). IsByteFault (fault_at at place x)) (some_same is) tt
refused_or false true lowest last at place f is = subst (λ (x : ImageFault). IsByteFault (fault_at at place x)) (some_same is) tt
refused_or false false lowest last at place f is = absurd (none_some f is)

pub fields_refused : (w n bound at : ℕ) (place : ℕ → ℕ) (bytes : List ℕ) (f : ImageFault) → fields_fault w n bound bytes ≡ Some f → IsByteFault (fault_at at place f)
unfolding fields_fault
fields_refused w n bound at place bytes f is = refused_or _ _ _ _ at place f is

pub packed_refused : (d p n at : ℕ) (place : ℕ → ℕ) (bytes : List ℕ) (f : ImageFault) → packed_fault d p n bytes ≡ Some f → IsByteFault (fault_at at place f)
unfolding packed_fault
packed_refused d p n at place bytes f is = refused_or _ _ _ _ at place f is
