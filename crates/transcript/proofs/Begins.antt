-- Texts that begin with others.
use Rattle.std.proofs.Common.{◌≡◌, ℕ, ◌≤◌, List, ◌++◌, length, take, drop, sym, ◌∙◌, ap, arith}
use Rattle.std.proofs.lemmas.List.{take-append-drop, take-append-le, length-take}
use Rattle.std.proofs.Math.Seq.{take-length}
use Rattle.transcript.specs.Transcripts.{BeginsWith}

pub begins-same : (a : List ℕ) → BeginsWith a a
begins-same a = take-length a

begins-length : (b a : List ℕ) → BeginsWith b a → length a ≤ length b
begins-length b a is = let n = ap length is in omega (arith, n, length-take (length a) b)

pub begins-more : (b x a : List ℕ) → BeginsWith b a → BeginsWith (b ++ x) a
begins-more b x a is = take-append-le (length a) b x (begins-length b a is) ∙ is

pub begins-trans : (c b a : List ℕ) → BeginsWith c b → BeginsWith b a → BeginsWith c a
begins-trans c b a first then =
    let whole : b ++ drop (length b) c ≡ c = ap (λ (front : List ℕ). front ++ drop (length b) c) (sym first) ∙ take-append-drop (length b) c in
    ap (take (length a)) (sym whole) ∙ begins-more b (drop (length b) c) a then
