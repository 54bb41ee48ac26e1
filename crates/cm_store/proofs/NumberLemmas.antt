-- Records that are numbered together.
use Rattle.std.proofs.Common.{◌≡◌, ◌∙◌, ℕ, suc, ◌+◌, ◌-◌, ◌<◌, ◌≤◌, Bool, true, false, List, [], ◌∷◌, ◌++◌, length, drop, Option, None, Some, refl, ap, sym, arith, nat_eq, if◌then◌else◌}
use Rattle.std.specs.Prelude.{All, IfSome}
use Rattle.std.specs.Option.{option_and_then, option_eq}
use Rattle.std.proofs.lemmas.List.{drop-drop}
use Rattle.std.proofs.lemmas.List.Elements.{All-cons, All-nil}
use Rattle.std.proofs.lemmas.Option.{none-some, same_Some}
use Rattle.cm_bdz.specs.Functions.{Bdz}
use Rattle.cm_store.proofs.Standing.{bad_here, bad_next}
use Rattle.cm_store.specs.Numbers.{AreNumbered, IsNumbered, astray_of}
use Rattle.cm_store.specs.Stores.{Store, first_bad, offset_of, place_at}
use Rattle.cm_store.specs.declared.numbering.Numbered.{Numbered}
use Rattle.cm_store_records.specs.Records.{record_size}

-- one more
pub numbered_more : (index : Bdz) (bytes : List ℕ) (at next : ℕ) (ns : List Numbered) (n : Numbered) → AreNumbered index bytes at ns next → IsNumbered index bytes next n → AreNumbered index bytes at (ns ++ n ∷ []) n.next
unfolding AreNumbered
numbered_more index bytes at next [] n are is = (rw (sym are) is, refl)
numbered_more index bytes at next (x ∷ ns) n are is = (are.0, numbered_more index bytes x.next next ns n are.1 is)

-- no record is numbered
pub numbered_none : (index : Bdz) (bytes : List ℕ) (at : ℕ) → AreNumbered index bytes at [] at
unfolding AreNumbered
numbered_none index bytes at = refl

-- the numbers are below the number of keys
pub numbered_below : (index : Bdz) (bytes : List ℕ) (at next : ℕ) (ns : List Numbered) → AreNumbered index bytes at ns next → All (λ n. IfSome n.number (λ v. v < index.keys)) ns
unfolding AreNumbered
numbered_below index bytes at next [] are = All-nil (λ n. IfSome n.number (λ v. v < index.keys))
numbered_below index bytes at next (n ∷ ns) are = All-cons (λ n. IfSome n.number (λ v. v < index.keys)) n ns are.0.below (numbered_below index bytes n.next next ns are.1)

-- one of them after another is looked up where it stands, or elsewhere
pub astray_next : (places : List ℕ) (at : ℕ) (n : Numbered) (ns : List Numbered) → option_eq nat_eq (option_and_then (place_at places) n.number) (Some at) ≡ true → astray_of places at (n ∷ ns) ≡ astray_of places n.next ns
unfolding astray_of
astray_next places at n ns stands = rw stands refl

pub astray_here : (places : List ℕ) (at : ℕ) (n : Numbered) (ns : List Numbered) → option_eq nat_eq (option_and_then (place_at places) n.number) (Some at) ≡ false → astray_of places at (n ∷ ns) ≡ Some at
unfolding astray_of
astray_here places at n ns elsewhere = rw elsewhere refl

pub astray_none : (places : List ℕ) (at : ℕ) → astray_of places at [] ≡ None
unfolding astray_of
astray_none places at = refl

-- What is wrong with bytes, by the first of the records that are numbered, of which some may be looked up elsewhere.
pub record IsChecked (s : Store) (at count next : ℕ) (ns : List Numbered) (found : Option ℕ) : Type 0 where
  pub astray : (bad : ℕ) → found ≡ Some bad → (first_bad (offset_of s) at count (drop at s.bytes) ≡ Some bad) × (bad ≤ length s.bytes)
  pub none : found ≡ None → first_bad (offset_of s) at count (drop at s.bytes) ≡ first_bad (offset_of s) next (count - length ns) (drop next s.bytes)

pub checked : (s : Store) (at count next : ℕ) (ns : List Numbered) → AreNumbered s.index s.bytes at ns next → length ns ≤ count → at ≤ length s.bytes → IsChecked s at count next ns (astray_of s.places at ns)
unfolding AreNumbered astray_of
checked s at count next [] are few inside = record {
  astray = λ bad is. absurd (none-some bad is);
  none = λ _. let all : count - 0 ≡ count = omega arith in rw (are, all) refl;
}
checked s at count next (n ∷ ns) are few inside = go (option_eq nat_eq (option_and_then (place_at s.places) n.number) (Some at)) refl (checked s n.next (count - 1) next ns are.1 (omega (arith, few)) are.0.inside) where
  r : IsNumbered s.index s.bytes at n
  r = are.0

  more : count ≡ suc (count - 1)
  more = omega (arith, few)

  looked : (b : Bool) → option_eq nat_eq (option_and_then (place_at s.places) n.number) (Some at) ≡ b → option_eq nat_eq (offset_of s r.record_is.key) (Some at) ≡ b
  looked b is = ap (λ (o : Option ℕ). option_eq nat_eq (option_and_then (place_at s.places) o) (Some at)) (sym r.number_is) ∙ is

  go : (b : Bool) → option_eq nat_eq (option_and_then (place_at s.places) n.number) (Some at) ≡ b → IsChecked s n.next (count - 1) next ns (astray_of s.places n.next ns) → IsChecked s at count next (n ∷ ns) (if b then astray_of s.places n.next ns else Some at)
  go true is later =
      let step : first_bad (offset_of s) at count (drop at s.bytes) ≡ first_bad (offset_of s) n.next (count - 1) (drop n.next s.bytes) =
      ap (λ (k : ℕ). first_bad (offset_of s) at k (drop at s.bytes)) more
      ∙ bad_next (offset_of s) at (count - 1) (drop at s.bytes) r.record_is r.begins (looked true is)
      ∙ ap (first_bad (offset_of s) (at + record_size r.record_is) (count - 1)) (drop-drop (record_size r.record_is) at s.bytes)
      ∙ ap (λ (k : ℕ). first_bad (offset_of s) k (count - 1) (drop k s.bytes)) (sym r.next_is) in
      let left : count - 1 - length ns ≡ count - length (n ∷ ns) = omega arith in
      record {
        astray = λ bad is. (step ∙ (later.astray bad is).0, (later.astray bad is).1);
        none = λ is. step ∙ later.none is ∙ ap (λ (k : ℕ). first_bad (offset_of s) next k (drop next s.bytes)) left;
      }
  go false is later = record {
    astray = λ bad same.
        let here : at ≡ bad = same_Some at bad same in (
          ap (λ (k : ℕ). first_bad (offset_of s) at k (drop at s.bytes)) more ∙ bad_here (offset_of s) at (count - 1) (drop at s.bytes) r.record_is r.begins (looked false is) ∙ ap Some here,
          omega (arith, here, inside),
        );
    none = λ same. absurd (none-some at (sym same));
  }
