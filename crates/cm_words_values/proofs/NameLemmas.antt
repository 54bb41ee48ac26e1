-- The algorithm with a name, by what is known of each name.
use Rattle.std.specs.Prelude.{◌≡◌, ℕ, List, Bool, true, false, None, Some, Option, IfSome, Decides, refl}
use Rattle.std.proofs.Common.{arith}
use Rattle.std.specs.Str.{bytes_eq}
use Rattle.std.proofs.lemmas.Slice.Eq.{bytes_eq-Decides}
use Rattle.cm_algo_names.specs.Names.{name_of}
use Rattle.cm_algo_names.specs.declared.algorithm.Algorithm.{Algorithm}
use Rattle.cm_algo_names.specs.declared.algorithm.Algorithm.TheVariants.{Chm, Bdz, BdzPh, Brz}
use Rattle.cm_words_values.specs.Options.{named}

not_same : (b : Bool) (P : Type 0) → Decides b P → ¬ P → b ≡ false
not_same true P d never = absurd (never (d.0 refl))
not_same false P d never = refl

other_name : (name : List ℕ) (a : Algorithm) → (name ≡ name_of a → let none : Option Algorithm = None in none ≡ Some a)
    → bytes_eq name (name_of a) ≡ false
other_name name a never = not_same (bytes_eq name (name_of a)) _ (bytes_eq-Decides name (name_of a)) (λ is. let bad = never is in grind (arith, bad))

named_none : (name : List ℕ) → ((a : Algorithm) → name ≡ name_of a → let none : Option Algorithm = None in none ≡ Some a)
    → None ≡ named name
named_none name never = grind (arith, other_name name Chm (never Chm), other_name name Bdz (never Bdz), other_name name BdzPh (never BdzPh), other_name name Brz (never Brz))

named_some : (name : List ℕ) (a : Algorithm) → name ≡ name_of a → Some a ≡ named name
named_some name Chm is = rw is refl
named_some name Bdz is = rw is refl
named_some name BdzPh is = rw is refl
named_some name Brz is = rw is refl

-- what is found is the algorithm with this name
pub named_found : (name : List ℕ) (found : Option Algorithm) → IfSome found (λ a. name ≡ name_of a)
    → ((a : Algorithm) → name ≡ name_of a → found ≡ Some a)
    → found ≡ named name
named_found name None known each = named_none name each
named_found name (Some a) known each = named_some name a known
