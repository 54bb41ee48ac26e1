-- What is known of the record at an offset.
use Rattle.std.specs.Prelude.{◌≡◌, ◌<◌, ◌≤◌, ◌+◌, ℕ, List, [], ◌∷◌, length, drop, nat_eq, Option, None, Some, IfSome, if◌then◌else◌}
use Rattle.std.specs.Option.{option_and_then, option_eq}
use Rattle.cm_bdz.specs.Functions.{Bdz, bdz_answer}
use Rattle.cm_store.specs.Stores.{place_at}
use Rattle.cm_store.specs.declared.numbering.Numbered.{Numbered}
use Rattle.cm_store_records.specs.Records.{Record, first_record, record_size}

-- a whole record begins at an offset, its key has this number, and it ends here
pub record IsNumbered (index : Bdz) (bytes : List ℕ) (at : ℕ) (n : Numbered) : Type 0 where
  pub record_is : Record
  pub begins : first_record (drop at bytes) ≡ Some record_is
  pub number_is : n.number ≡ bdz_answer index record_is.key
  pub below : IfSome n.number (λ v. v < index.keys)
  pub next_is : n.next ≡ at + record_size record_is
  pub inside : n.next ≤ length bytes

-- this is known of records that stand one after another, from an offset to another
unfoldable pub AreNumbered : Bdz → List ℕ → ℕ → List Numbered → ℕ → Type 0
AreNumbered index bytes at [] next = next ≡ at
AreNumbered index bytes at (n ∷ ns) next = IsNumbered index bytes at n × AreNumbered index bytes n.next ns next

-- the offset of the first of them that is looked up elsewhere
unfoldable pub astray_of : List ℕ → ℕ → List Numbered → Option ℕ
astray_of places at [] = None
astray_of places at (n ∷ ns) = if option_eq nat_eq (option_and_then (place_at places) n.number) (Some at) then astray_of places n.next ns else Some at
