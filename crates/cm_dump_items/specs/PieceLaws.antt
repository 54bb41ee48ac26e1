-- Lemmas about the bytes of a source that were read and not used yet, which the proofs of readers cite. No contract needs them.
use Rattle.std.proofs.Common.{◌≡◌, ◌∙◌, ℕ, ◌+◌, ◌-◌, ◌<◌, ◌≤◌, List, [], length, take, drop, ap, sym, arith, refl, length-drop, Bool, true, false}
use Rattle.std.proofs.lemmas.Bool.{false≢true}
use Rattle.cm_dump_items.specs.PartLaws.{part_after}
use Rattle.cm_dump_items.specs.Reading.{IsPart}
use Rattle.cm_dump_items.specs.Unreads.{IsNext, Unread}

true_or_false : (b : Bool) (n k : ℕ) → (b ≡ true → k ≤ n) → n < k → b ≡ false
true_or_false true n k enough short = absurd (omega (arith, enough refl, short))
true_or_false false n k enough short = refl

-- bytes that come next are a part of the file
pub next_part : (bytes : List ℕ) (place at room : ℕ) (u : Unread) → IsNext bytes place at u → (u.more ≡ true → room ≤ length u.rest) → IsPart bytes at room u.rest
next_part bytes place at room u next enough = record {
  given = next.given;
  inside = omega (arith, next.inside, next.moved);
  end = λ short. next.end (true_or_false u.more (length u.rest) room enough short) ∙ next.moved;
}

-- and so are those after some of them
pub next_after : (bytes : List ℕ) (place at n : ℕ) (u : Unread) → IsNext bytes place at u → n ≤ length u.rest → IsNext bytes place (at + n) (record u { rest = drop n u.rest })
next_after bytes place at n u next inside =
    let whole : IsPart bytes at 0 u.rest = record { given = next.given; inside = omega (arith, next.inside, next.moved); end = λ short. absurd (omega (arith, short)) } in
    let after = part_after bytes u.rest at 0 n whole inside in
    let long : length (drop n u.rest) ≡ length u.rest - n = length-drop n u.rest in
    record {
      given = after.given;
      moved = omega (arith, next.moved, long, inside);
      inside = next.inside;
      end = next.end;
    }

-- no byte was read yet
pub next_none : (bytes : List ℕ) (place at : ℕ) (u : Unread) → u.rest ≡ [] → u.more ≡ true → place ≡ at → at ≤ length bytes → IsNext bytes place at u
next_none bytes place at u none more here inside =
    let size : length u.rest ≡ 0 = ap length none in
    record {
      given = none ∙ ap (λ (n : ℕ). take n (drop at bytes)) (sym size);
      moved = omega (arith, here, size);
      inside = omega (arith, here, inside);
      end = λ ended. absurd (false≢true (sym ended ∙ more));
    }
