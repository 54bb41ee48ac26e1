-- The functions that the files of the worked examples spell.
use Rattle.std.proofs.Common.{◌≡◌, Ok, Err, refl}
use Rattle.std.specs.Prelude.{codes}
use Rattle.cm_bits.specs.Fault.{bytes_number, field_cells, fields_fault, packed_fault}
use Rattle.cm_bits.specs.Held.{packed_cells}
use Rattle.cm_dump.specs.Examples.{bdz_ph_of_two, one_key, two_keys}
use Rattle.cm_dump.specs.Headings.{algorithm_at, header_at, heading_at, magic_at, parameter_at}
use Rattle.cm_dump.specs.Spelling.{bdz_ph_at, chm_at, spelling_by, spelling_of}
use Rattle.cm_dump_images.specs.Images.{image_at}
use Rattle.cm_dump_items.specs.Reading.{end_at, field_at, item_at, zeros_at}
use Rattle.cm_dump_items.specs.declared.fault.LoadFault.TheVariants.{Truncated}
use Rattle.cm_func.specs.declared.function.Func.TheVariants.{BdzPh, Chm}
use Rattle.cm_shards_join.specs.Examples.{file_by_vertices, file_of_one, file_of_two}
use Rattle.cm_spec.specs.Image.{digits_sum, width_of}

pub spelled_two : spelling_of file_of_two ≡ Ok (Chm two_keys)
unfolding spelling_by chm_at image_at heading_at header_at parameter_at algorithm_at magic_at item_at field_at zeros_at end_at fields_fault field_cells bytes_number digits_sum width_of
spelled_two = refl

pub spelled_one : spelling_of file_of_one ≡ Ok (Chm one_key)
unfolding spelling_by chm_at image_at heading_at header_at parameter_at algorithm_at magic_at item_at field_at zeros_at end_at fields_fault field_cells bytes_number digits_sum width_of
spelled_one = refl

pub spelled_vertices : spelling_of file_by_vertices ≡ Ok (BdzPh bdz_ph_of_two)
unfolding spelling_by bdz_ph_at image_at heading_at header_at parameter_at algorithm_at magic_at item_at field_at zeros_at end_at packed_fault packed_cells
spelled_vertices = refl

pub spelled_cut : spelling_of (codes "CMPHDMP1") ≡ Err (Truncated 8)
unfolding spelling_by heading_at header_at parameter_at algorithm_at magic_at item_at field_at zeros_at
spelled_cut = refl
