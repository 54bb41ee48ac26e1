-- Dumps that the worked examples are about.
use Rattle.std.specs.Prelude.{ℕ, List, [], ◌∷◌, ◌++◌, codes}
use Rattle.cm_bdz.specs.Functions.{Bdz, BdzPh}
use Rattle.cm_brz_func.specs.Functions.{Brz}
use Rattle.cm_spec.specs.Chm.{Chm}

-- the header of version 1 of a CHM function of some keys, with the ratio 2.09 and the seed 0
abbrev pub front : ℕ → List ℕ
front keys = codes "CMPHDMP1" ++ 1 ∷ 0 ∷ 0 ∷ 0 ∷ keys ∷ 0 ∷ 0 ∷ 0 ∷ 0x10 ∷ 0xe4 ∷ 0x1f ∷ 0 ∷ 0 ∷ 0 ∷ 0 ∷ 0 ∷ []

-- the same of version 2
abbrev pub front_2 : ℕ → List ℕ
front_2 keys = codes "CMPHDMP2" ++ 1 ∷ 0 ∷ 0 ∷ 0 ∷ keys ∷ 0 ∷ 0 ∷ 0 ∷ 0x10 ∷ 0xe4 ∷ 0x1f ∷ 0 ∷ 0 ∷ 0 ∷ 0 ∷ 0 ∷ []

-- a function of one key
abbrev pub one_key : Chm
one_key = record { keys = 1; ratio = 2090000; seed = 0; cells = 0 ∷ 0 ∷ 0 ∷ [] }

-- a function of two keys
abbrev pub two_keys : Chm
two_keys = record { keys = 2; ratio = 2090000; seed = 0; cells = 0 ∷ 0 ∷ 1 ∷ 0 ∷ 0 ∷ [] }

-- the header of version 1 of a function by an algorithm of this number, with its parameter, of some keys, with the ratio 1.23 and the
-- seed 0
abbrev pub front_of : ℕ → ℕ → ℕ → List ℕ
front_of algorithm b keys = codes "CMPHDMP1" ++ algorithm ∷ b ∷ 0 ∷ 0 ∷ keys ∷ 0 ∷ 0 ∷ 0 ∷ 0xb0 ∷ 0xc4 ∷ 0x12 ∷ 0 ∷ 0 ∷ 0 ∷ 0 ∷ 0 ∷ []

-- the same of version 2, with a byte that is to be zero and the two bytes of the parameter
abbrev pub front_of_2 : ℕ → ℕ → ℕ → ℕ → ℕ → List ℕ
front_of_2 algorithm none low high keys = codes "CMPHDMP2" ++ algorithm ∷ none ∷ low ∷ high ∷ keys ∷ 0 ∷ 0 ∷ 0 ∷ 0xb0 ∷ 0xc4 ∷ 0x12 ∷ 0 ∷ 0 ∷ 0 ∷ 0 ∷ 0 ∷ []

-- a BDZ function of one key
abbrev pub bdz_of_one : Bdz
bdz_of_one = record { keys = 1; ratio = 1230000; seed = 0; shift = 7; cells = 3 ∷ 0 ∷ 3 ∷ 3 ∷ 3 ∷ 3 ∷ 3 ∷ 3 ∷ 3 ∷ [] }

-- a BDZ_PH function of two keys
abbrev pub bdz_ph_of_two : BdzPh
bdz_ph_of_two = record { keys = 2; ratio = 1230000; seed = 0; cells = 0 ∷ 0 ∷ 0 ∷ 0 ∷ 0 ∷ 0 ∷ 0 ∷ 0 ∷ 0 ∷ [] }

-- a BRZ function of two keys, which are in one bucket
abbrev pub brz_of_two : Brz
brz_of_two = record { keys = 2; ratio = 1230000; width = 128; split = 0; buckets = record { size = 2; seed = 0; cells = 3 ∷ 0 ∷ 0 ∷ 3 ∷ 3 ∷ 3 ∷ 3 ∷ 3 ∷ 3 ∷ [] } ∷ [] }

-- its bucket's bytes in version 1
abbrev pub bucket_of_two : List ℕ
bucket_of_two = 2 ∷ 0 ∷ 0 ∷ 0 ∷ 0 ∷ 0xc3 ∷ 0xff ∷ 3 ∷ []

-- and in version 2
abbrev pub bucket_of_two_2 : List ℕ
bucket_of_two_2 = 2 ∷ 0 ∷ 0 ∷ 0 ∷ 0 ∷ 0 ∷ 0xc3 ∷ 0xff ∷ 3 ∷ []
