-- Pieces that are appended, one after another.
use Rattle.std.proofs.Common.{◌≡◌, ◌∙◌, ℕ, List, ◌++◌, ap, append_assoc}

-- a piece before others
one_more : (start before now first rest : List ℕ) → before ≡ start ++ first → now ≡ before ++ rest → now ≡ start ++ (first ++ rest)
one_more start before now first rest was is = is ∙ ap (λ (l : List ℕ). l ++ rest) was ∙ append_assoc start first rest

pub five_pieces : (start a b c d e p q r s t : List ℕ) → a ≡ start ++ p → b ≡ a ++ q → c ≡ b ++ r → d ≡ c ++ s → e ≡ d ++ t → e ≡ start ++ (p ++ (q ++ (r ++ (s ++ t))))
five_pieces start a b c d e p q r s t first second third fourth fifth =
    one_more start a e p (q ++ (r ++ (s ++ t))) first (one_more a b e q (r ++ (s ++ t)) second (one_more b c e r (s ++ t) third (one_more c d e s t fourth fifth)))
