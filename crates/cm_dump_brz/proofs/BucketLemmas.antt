-- A bucket in a dump.
use Rattle.std.specs.Int.{byte_len, w32}
use Rattle.std.proofs.Common.{◌≡◌, ◌≢◌, ◌∙◌, ℕ, ◌+◌, ◌*◌, ◌<◌, List, [], ◌∷◌, length, refl, subst, sym, arith, Ok}
use Rattle.std.specs.Prelude.{slice_index_or}
use Rattle.std.proofs.lemmas.Bool.{ne_eqb}
use Rattle.cm_bdz.specs.Functions.{IsThirds}
use Rattle.cm_bdz.specs.Places.{bdz_place}
use Rattle.cm_bits.specs.Held.{packed_cells}
use Rattle.cm_bits.specs.PackedLaws.{length-packed_cells}
use Rattle.cm_brz_func.specs.Functions.{bucket_cells, no_bucket}
use Rattle.cm_brz_func.specs.Places.{ends_in}
use Rattle.cm_dump.specs.Forms.{Form}
use Rattle.cm_dump.specs.Spelling.{most_seed}
use Rattle.cm_dump_brz.specs.Indexed.{bucket_in, bucket_of_image, bucket_or_none}
use Rattle.cm_dump_items.specs.ItemLaws.{ltb_yes}
use Rattle.cm_dump_items.specs.Reading.{Fails, IsByteFault, field_at, item_at}
use Rattle.cm_dump_items.specs.StepLaws.{byte_fault}
use Rattle.cm_dump_items.specs.declared.fault.LoadFault.{LoadFault}
use Rattle.cm_spec.specs.Image.{packed_len}
use Rattle.cm_spec.specs.Lookup2.{words}

-- the cells of an image are as many as there are said to be
pub cells_thirds : (n : ℕ) (image : List ℕ) → IsThirds n → IsThirds (length (packed_cells 4 4 n image))
cells_thirds n image is = subst IsThirds (sym (length-packed_cells 4 4 n image)) is

-- the vertices of a key in a bucket that has keys
pub ends_are : (size seed n third : ℕ) (image place hashed key : List ℕ) → size ≢ 0 → n ≡ 3 * third → place ≡ bdz_place hashed (3 * third) → hashed ≡ words key seed → slice_index_or place 0 0 ∷ slice_index_or place 1 0 ∷ slice_index_or place 2 0 ∷ [] ≡ ends_in (bucket_of_image size seed n image) key
ends_are size seed n third image place hashed key any thirds is same =
    let test = ne_eqb size 0 any in
    let long : length (packed_cells 4 4 n image) ≡ 3 * third = length-packed_cells 4 4 n image ∙ thirds in
    rw (is, test, long, same) refl

-- a bucket of which each item lies in the dump
pub bucket_known : (v : Form) (dump : List ℕ) (ratio at size seed : ℕ) (image : List ℕ) → field_at v.size dump at 0 v.most_size ≡ Ok size → field_at w32 dump (at + byte_len v.size) 0 (most_seed size) ≡ Ok seed → item_at dump (at + (byte_len v.size + 4)) (packed_len 4 (bucket_cells size ratio)) ≡ Ok image
    → bucket_in v dump ratio at ≡ Ok (bucket_of_image size seed (bucket_cells size ratio) image)
unfolding bucket_in
bucket_known v dump ratio at size seed image sized seeded there = rw (sized, seeded, there) refl

-- one of whose items there is a fault
pub bucket_unsized : (v : Form) (dump : List ℕ) (ratio at : ℕ) (e : LoadFault) → IsByteFault e → Fails e (field_at v.size dump at 0 v.most_size) → bucket_or_none (bucket_in v dump ratio at) ≡ no_bucket
unfolding bucket_in
bucket_unsized v dump ratio at e kind fails = rw (byte_fault e _ kind fails) refl

pub bucket_unseeded : (v : Form) (dump : List ℕ) (ratio at size : ℕ) (e : LoadFault) → IsByteFault e → field_at v.size dump at 0 v.most_size ≡ Ok size → Fails e (field_at w32 dump (at + byte_len v.size) 0 (most_seed size)) → bucket_or_none (bucket_in v dump ratio at) ≡ no_bucket
unfolding bucket_in
bucket_unseeded v dump ratio at size e kind sized fails = rw (sized, byte_fault e _ kind fails) refl

pub bucket_uncelled : (v : Form) (dump : List ℕ) (ratio at size seed : ℕ) (e : LoadFault) → IsByteFault e → field_at v.size dump at 0 v.most_size ≡ Ok size → field_at w32 dump (at + byte_len v.size) 0 (most_seed size) ≡ Ok seed
    → Fails e (item_at dump (at + (byte_len v.size + 4)) (packed_len 4 (bucket_cells size ratio))) → bucket_or_none (bucket_in v dump ratio at) ≡ no_bucket
unfolding bucket_in
bucket_uncelled v dump ratio at size seed e kind sized seeded fails = rw (sized, seeded, byte_fault e _ kind fails) refl

-- one that begins past the end
pub bucket_past : (v : Form) (dump : List ℕ) (ratio at : ℕ) → length dump < at → bucket_or_none (bucket_in v dump ratio at) ≡ no_bucket
unfolding bucket_in field_at item_at
bucket_past v dump ratio at past =
    let cut = ltb_yes (length dump) (at + byte_len v.size) (omega (arith, past)) in
    rw cut refl
