-- Store files that the worked examples are about.
use Rattle.std.specs.Prelude.{ℕ, List, [], ◌∷◌, ◌++◌, codes}
use Rattle.cm_bdz.specs.Functions.{Bdz}
use Rattle.cm_dump.specs.Examples.{front_of_2}
use Rattle.cm_store.specs.Stores.{Store}

-- the header of a file whose index has 31 bytes, and whose records have fewer than 256
abbrev pub header : ℕ → List ℕ
header records = codes "CMPHREC1" ++ 31 ∷ 0 ∷ 0 ∷ 0 ∷ records ∷ 0 ∷ 0 ∷ 0 ∷ []

-- an index of two keys, the empty one and "a", with the ratio 1.23, the seed 0 and ranks of every 128th cell
abbrev pub index_of_two : Bdz
index_of_two = record { keys = 2; ratio = 1230000; seed = 0; shift = 7; cells = 3 ∷ 0 ∷ 0 ∷ 3 ∷ 3 ∷ 3 ∷ 3 ∷ 3 ∷ 3 ∷ [] }

-- its dump
abbrev pub dump_of_two : List ℕ
dump_of_two = front_of_2 2 0 7 0 2 ++ 0xc3 ∷ 0xff ∷ 3 ∷ 0 ∷ 0 ∷ 0 ∷ 0 ∷ []

-- the records of these keys, with the values "x" and "yz"
abbrev pub two_records : List ℕ
two_records = 0 ∷ 0 ∷ 1 ∷ 0 ∷ 120 ∷ 1 ∷ 0 ∷ 2 ∷ 0 ∷ 97 ∷ 121 ∷ 122 ∷ []

-- the store of these records
abbrev pub store_of_two : Store
store_of_two = record { index = index_of_two; places = 0 ∷ 5 ∷ []; bytes = two_records }

-- its file, with the place of the second record
abbrev pub file_of_two : ℕ → List ℕ
file_of_two place = header 12 ++ (dump_of_two ++ (0 ∷ 0 ∷ 0 ∷ 0 ∷ place ∷ 0 ∷ 0 ∷ 0 ∷ two_records))
