-- BDZ and BDZ_PH (Botelho, Pagh, Ziviani 2007): hypergraphs with three ends an edge, one in each third of the vertices.
use Rattle.std.specs.Prelude.{ℕ, ◌+◌, ◌*◌, ◌/◌, ◌%◌, ◌==◌, if◌then◌else◌, List, [], ◌∷◌, slice_index}
use Rattle.cm_spec.specs.Rule.{Rule}

-- a number made odd
abbrev pub made_odd : ℕ → ℕ
made_odd q = if q % 2 == 0 then q + 1 else q

-- a third of the vertices: the number made odd, and 3 in place of 1
abbrev pub third_of : ℕ → ℕ
third_of q = if made_odd q == 1 then 3 else made_odd q

-- the number of vertices for m keys and the ratio c in millionths: three thirds, each from ceil(c * m / (3 * 10^6))
abbrev pub bdz_size : ℕ → ℕ → ℕ
bdz_size m c = 3 * third_of ((c * m + 2999999) / 3000000)

-- the ends for the hash values of a key over n vertices
abbrev pub bdz_edge : List ℕ → ℕ → List ℕ
bdz_edge w n = slice_index w 0 % (n / 3) ∷ (n / 3 + slice_index w 1 % (n / 3)) ∷ (2 * (n / 3) + slice_index w 2 % (n / 3)) ∷ []

-- the cells of a key's ends add up to its pivot's position, modulo 3; an untouched cell of BDZ is 3, which no other cell is
abbrev pub bdz_rule : Rule
bdz_rule = record { size = bdz_size; edge = bdz_edge; tag = λ _. 0; modulus = λ _. 3; bound = λ _. 4; idle = 3; target = λ i p t. p }

-- BDZ_PH keeps no ranks, so its untouched cells are 0
abbrev pub bdz_ph_rule : Rule
bdz_ph_rule = record { size = bdz_size; edge = bdz_edge; tag = λ _. 0; modulus = λ _. 3; bound = λ _. 3; idle = 0; target = λ i p t. p }
