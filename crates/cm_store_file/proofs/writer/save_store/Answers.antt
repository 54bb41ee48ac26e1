use Rattle.std.proofs.Common.{ℕ, List, ◌++◌, length}
use Rattle.cm_io.specs.WritingLaws.{writes_then, front_of_first, writes_front}
use Rattle.cm_store.specs.Stores.{Store}
use Rattle.cm_store_file.specs.Headers.{header_bytes}
use Rattle.cm_store_file.specs.StoreFiles.{index_bytes, places_bytes, store_bytes}
use Rattle.cm_store_file.proofs.writer.save_store.Goals as goal

-- the parts of a file, and what follows the header, and the index
abbrev first : Store → List ℕ
first s = header_bytes (length (index_bytes s.index)) (length s.bytes)

abbrev last : Store → List ℕ
last s = places_bytes s.places ++ s.bytes

abbrev rest : Store → List ℕ
rest s = index_bytes s.index ++ last s

pub returns-in_err-save_header-clause-bytes : goal.returns-in_err-save_header-clause-bytes
unfolding store_bytes
returns-in_err-save_header-clause-bytes g c =
    let s = c.args.store.now in
    let part = c.in_err-save_header.ensures.bytes in
    writes_front _ _ _ _ c.from_residual.ensures.0 (front_of_first _ _ (first s) (rest s) part.0 part.1)

pub returns-in_err-save_bdz-clause-bytes : goal.returns-in_err-save_bdz-clause-bytes
unfolding store_bytes
returns-in_err-save_bdz-clause-bytes g c =
    let s = c.args.store.now in
    let part = rw c.index.ensures.index at c.in_err-save_bdz.ensures.bytes in
    writes_then _ _ _ (first s) (rest s) _ c.in_ok-save_header.ensures.bytes
    (writes_front _ _ _ _ c.from_residual-in_err-save_bdz.ensures.0 (front_of_first _ _ (index_bytes s.index) (last s) part.0 part.1))

pub returns-in_err-save_image-clause-bytes : goal.returns-in_err-save_image-clause-bytes
unfolding store_bytes
returns-in_err-save_image-clause-bytes g c =
    let s = c.args.store.now in
    let index = rw c.index.ensures.index at c.in_ok-save_bdz.ensures.bytes in
    let part = rw c.places.ensures.places at c.in_err-save_image.ensures.bytes in
    writes_then _ _ _ (first s) (rest s) _ c.in_ok-save_header.ensures.bytes
    (writes_then _ _ _ (index_bytes s.index) (last s) _ index
    (writes_front _ _ _ _ c.from_residual-in_err-save_image.ensures.0 (front_of_first _ _ (places_bytes s.places) s.bytes part.0 part.1)))

pub returns-clause-bytes : goal.returns-clause-bytes
unfolding store_bytes
returns-clause-bytes g c =
    let s = c.args.store.now in
    let index = rw c.index.ensures.index at c.in_ok-save_bdz.ensures.bytes in
    let places = rw c.places.ensures.places at c.in_ok-save_image.ensures.bytes in
    let records = rw c.bytes.ensures.bytes at c.write.ensures.bytes in
    writes_then _ _ _ (first s) (rest s) _ c.in_ok-save_header.ensures.bytes
    (writes_then _ _ _ (index_bytes s.index) (last s) _ index
    (writes_then _ _ _ (places_bytes s.places) s.bytes _ places records))
