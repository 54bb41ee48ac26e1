use Rattle.std.proofs.Common.{◌≡◌, ◌∙◌, ℕ, ◌<◌, List, ◌∷◌, ◌++◌, length, take, drop, ap, arith, codes, length-append, length-drop}
use Rattle.std.proofs.lemmas.List.{drop_at, set_split, take_at}
use Rattle.cm_keys_made.specs.Texts.{made_value, ten_digits}
use Rattle.cm_keys_made.proofs.DigitLemmas.{drop_later}
use Rattle.cm_keys_made.proofs.lines.write_whole.Goals as goal

pub returns : goal.returns
returns c =
    let old = c.args.buf.now in
    let name = c.copy_from_slice.new.self in
    let before = name ++ drop 4 old in
    let buf = c.write_digits.new.buf in
    let value = made_value c.args.key in
    let is : name ≡ codes "key-" = c.copy_from_slice.ensures.after in
    let four : length name ≡ 4 = ap length is in
    let digits : take 14 buf ≡ codes "key-" ++ ten_digits value =
    c.write_digits.ensures.written
    ∙ ap (λ (l : List ℕ). l ++ ten_digits c.value_of.result) (take_at name (drop 4 old) 4 four ∙ is)
    ∙ ap (λ (v : ℕ). codes "key-" ++ ten_digits v) c.value_of.ensures in
    let after : drop 15 buf ≡ drop 15 old =
    drop_later buf before 14 15 (omega arith) c.write_digits.ensures.after
    ∙ drop_later before old 4 15 (omega arith) (drop_at name (drop 4 old) 4 four) in
    let room : 14 < length buf = omega (arith, c.requires, c.write_digits.auto.buf, length-append name (drop 4 old), length-drop 4 old, four) in
    set_split buf 14 10 room
    ∙ ap (λ (l : List ℕ). l ++ 10 ∷ drop 15 buf) digits
    ∙ ap (λ (l : List ℕ). codes "key-" ++ ten_digits value ++ 10 ∷ l) after
