-- Two prints are the same where their parts are.
use Rattle.std.proofs.Common.{◌≡◌, true, ◌&&◌, ◌==◌}
use Rattle.std.specs.Str.{bytes_eq}
use Rattle.std.proofs.lemmas.Bool.{and_parts, and_from, eqb-true, eq-eqb}
use Rattle.std.proofs.lemmas.Slice.Eq.{bytes_eq-Decides}
use Rattle.batch.specs.Prints.{same_print}
use Rattle.batch.specs.declared.print.Print.{Print}

pub same-is : (a b : Print) → same_print a b ≡ true → a ≡ b
same-is a b same =
    let (d, sizes) = and_parts (bytes_eq a.digest b.digest) (a.words == b.words && a.threads == b.threads) same in
    let (w, t) = and_parts (a.words == b.words) (a.threads == b.threads) sizes in
    let digest : a.digest ≡ b.digest = (bytes_eq-Decides a.digest b.digest).0 d in
    let words = eqb-true a.words b.words w in
    let threads = eqb-true a.threads b.threads t in
    λ j. record { digest = digest j; words = words j; threads = threads j }

pub is-same : (a b : Print) → a.digest ≡ b.digest → a.words ≡ b.words → a.threads ≡ b.threads → same_print a b ≡ true
is-same a b digest words threads =
    and_from (bytes_eq a.digest b.digest) (a.words == b.words && a.threads == b.threads) ((bytes_eq-Decides a.digest b.digest).1 digest)
    (and_from (a.words == b.words) (a.threads == b.threads) (eq-eqb a.words b.words words) (eq-eqb a.threads b.threads threads))
