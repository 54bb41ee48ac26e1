-- The dump of a function, version 1: a header of 24 bytes, and the image of the cells. Numbers are little-endian.
use Rattle.std.specs.Prelude.{ℕ, List, [], ◌∷◌, ◌++◌, length, codes}
use Rattle.std.specs.Int.{to_le_bytes, w32}
use Rattle.std.specs.List.{concat}
use Rattle.cm_spec.specs.Lists.{list_of}
use Rattle.cm_spec.specs.Image.{width_of, fields_len, fields_byte}
use Rattle.cm_spec.specs.Chm.{Chm}

-- the first bytes of every dump
abbrev pub magic : List ℕ
magic = codes "CMPHDMP1"

-- the header: the magic, the algorithm's number, its parameter b, two zeros, the number of keys, the ratio in millionths and the seed
unfoldable pub header : ℕ → ℕ → ℕ → ℕ → ℕ → List ℕ
header algorithm b keys ratio seed = concat (magic ∷ (algorithm ∷ b ∷ 0 ∷ 0 ∷ []) ∷ to_le_bytes w32 keys ∷ to_le_bytes w32 ratio ∷ to_le_bytes w32 seed ∷ [])

-- the image of cells in as many bits as the bound needs
unfoldable pub fields_image : ℕ → List ℕ → List ℕ
fields_image bound cells = list_of (fields_byte (width_of bound) cells) (fields_len (width_of bound) (length cells))

-- the dump of a CHM function: algorithm 1, no parameter, and cells below the number of keys
unfoldable pub chm_dump : Chm → List ℕ
chm_dump f = header 1 0 f.keys f.ratio f.seed ++ fields_image f.keys f.cells
