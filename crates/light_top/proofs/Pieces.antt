-- Pieces of a text.
use Rattle.std.proofs.Common.{◌≡◌, ℕ, List, ◌++◌, append_assoc}

pub pieces : (old a b c d e : List ℕ) → old ++ a ++ b ++ (c ++ d ++ e) ≡ old ++ (a ++ b ++ c ++ d ++ e)
pieces old a b c d e = simp append_assoc
