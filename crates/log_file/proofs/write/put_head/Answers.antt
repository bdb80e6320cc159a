use Rattle.std.proofs.Common.{◌≡◌, OnOk, length, ℕ, List, [], ◌∷◌, ◌++◌, Result, Ok, Err, ap, ◌∙◌, append_assoc}
use Rattle.std.specs.Int.{w16, to_be_bytes}
use Rattle.light_base.specs.declared.tag.Tag.{Tag}
use Rattle.replay_model.specs.Logs.{Limits, ThreadLog}
use Rattle.log_file.specs.Versions.{magic_of}
use Rattle.log_file.specs.declared.version.Version.TheVariants.{Two}
use Rattle.log_file.specs.Spelling.{head_bytes, limits_bytes}
use Rattle.log_file.proofs.write.put_head.Goals as goal

-- five pieces, appended one after the other
appended : (old one two three four new a b c d e : List ℕ) → one ≡ old ++ a → two ≡ one ++ b → three ≡ two ++ c → four ≡ three ++ d → new ≡ four ++ e →
    new ≡ old ++ ((((a ++ b) ++ c) ++ d) ++ e)
appended old one two three four new a b c d e p q r s t =
    t ∙ ap (λ (xs : List ℕ). xs ++ e) (s ∙ ap (λ (xs : List ℕ). xs ++ d) (r ∙ ap (λ (xs : List ℕ). xs ++ c) (q ∙ ap (λ (xs : List ℕ). xs ++ b) p))) ∙ simp append_assoc

OnOk-then : {T E : Type 0} (r : Result T E) {P Q : Type 0} → (P → Q) → OnOk r P → OnOk r Q
OnOk-then (Ok x) f p = f p
OnOk-then (Err e) f p = p

pub returns-clause-written : goal.returns-clause-written
unfolding head_bytes
returns-clause-written c =
    let log = c.args.log.now in
    let threads = ap (λ (ts : List ThreadLog). c.extend_from_slice.new.self.items ++ length ts ∷ []) c.threads.ensures.value in
    let words = ap (λ (tags : List Tag). c.push.new.self.items ++ to_be_bytes w16 (length tags)) c.finals.ensures.value in
    let digest = ap (λ (bytes : List ℕ). c.put_u16.new.out.items ++ bytes) c.digest.ensures in
    let limits = ap (λ (l : Limits). c.put_digest.new.out.items ++ limits_bytes l) c.limits.ensures in
    OnOk-then c.put_limits.result
    (λ e. appended c.args.out.now.items _ _ _ _ _ (magic_of Two) (length log.threads ∷ []) (to_be_bytes w16 (length log.last_tags)) log.digest (limits_bytes log.limits)
    (c.in_ok-extend_from_slice.ensures.items ∙ ap (λ (bytes : List ℕ). c.args.out.now.items ++ bytes) c.magic.ensures) (c.in_ok-push.ensures.items ∙ threads) (c.in_ok-put_u16.ensures.ok ∙ words) (c.in_ok-put_digest.ensures.written ∙ digest) (e ∙ limits))
    c.put_limits.ensures
