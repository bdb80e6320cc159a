use Rattle.std.proofs.Common.{ℕ, ◌<◌, ◌≤◌, List, Err, length, sym, ap, subst, ◌∙◌}
use Rattle.std.proofs.lemmas.Result.{err_from_is_err_and}
use Rattle.log_file.specs.LogFaults.{fault}
use Rattle.log_file.specs.declared.log_fault.LogKind.TheVariants.{Long}
use Rattle.log_file.specs.LogReading.{reaches, last_tags_in, threads_in, last_tags_place, taken_place}
use Rattle.log_file.proofs.Bodies.{body_short, body_last_tags, body_threads, body_long, body_is}
use Rattle.log_file.proofs.log_reading.body_of.Goals as goal

pub returns-in_err-reaches : goal.returns-in_err-reaches
returns-in_err-reaches c =
    let p = err_from_is_err_and c.from_residual.result c.from_residual.ensures.1 in
    rw (p.1, p.2)
    (λ _. body_short c.args.version c.args.head.now c.args.headers.now c.args.bytes.now c.in_err-reaches.field-0.0 (ap (reaches c.args.bytes.now) (sym c.log_end-end.ensures.value) ∙ sym c.in_err-reaches.ensures.value))

pub returns-in_err-last_tags : goal.returns-in_err-last_tags
returns-in_err-last_tags c =
    let v = c.args.version in
    let head = c.args.head.now in
    let headers = c.args.headers.now in
    let bytes = c.args.bytes.now in
    let p = err_from_is_err_and c.from_residual-in_err-last_tags.result c.from_residual-in_err-last_tags.ensures.1 in
    let there = ap (reaches bytes) (sym c.log_end-end.ensures.value) ∙ sym c.in_ok-reaches.ensures.value in
    rw (p.1, p.2)
    (λ h. body_last_tags v head headers bytes _ there c.in_err-last_tags.field-0.0
    (ap (λ (xs : List ℕ). last_tags_in xs bytes (last_tags_place v head) head.words) (sym (c.deref.ensures.value ∙ c.in_ok-steps.ensures)) ∙
    ap (λ (k : ℕ). last_tags_in c.deref.result.now bytes k head.words) (sym c.last_tags_place.ensures.value) ∙ c.in_err-last_tags.ensures h))

pub returns-in_err-threads : goal.returns-in_err-threads
returns-in_err-threads c =
    let v = c.args.version in
    let head = c.args.head.now in
    let headers = c.args.headers.now in
    let bytes = c.args.bytes.now in
    let p = err_from_is_err_and c.from_residual-in_err-threads.result c.from_residual-in_err-threads.ensures.1 in
    let there = ap (reaches bytes) (sym c.log_end-end.ensures.value) ∙ sym c.in_ok-reaches.ensures.value in
    let last_tags = ap (λ (xs : List ℕ). last_tags_in xs bytes (last_tags_place v head) head.words) (sym (c.deref.ensures.value ∙ c.in_ok-steps.ensures)) ∙
    ap (λ (k : ℕ). last_tags_in c.deref.result.now bytes k head.words) (sym c.last_tags_place.ensures.value) ∙ c.in_ok-last_tags.ensures in
    rw (p.1, p.2)
    (λ h. body_threads v head headers bytes _ there c.in_ok-last_tags.last_tags.items last_tags c.in_err-threads.field-0.0
    (ap (λ (k : ℕ). threads_in head.words headers bytes k (taken_place v head headers)) (sym c.entries_place.ensures.value) ∙
    ap (threads_in head.words headers bytes c.entries_place.result) (sym c.taken_place.ensures.value) ∙ c.in_err-threads.ensures h))

pub returns-then-end-bytes : goal.returns-then-end-bytes
returns-then-end-bytes c =
    let v = c.args.version in
    let head = c.args.head.now in
    let headers = c.args.headers.now in
    let bytes = c.args.bytes.now in
    let there = ap (reaches bytes) (sym c.log_end-end.ensures.value) ∙ sym c.in_ok-reaches.ensures.value in
    let last_tags = ap (λ (xs : List ℕ). last_tags_in xs bytes (last_tags_place v head) head.words) (sym (c.deref.ensures.value ∙ c.in_ok-steps.ensures)) ∙
    ap (λ (k : ℕ). last_tags_in c.deref.result.now bytes k head.words) (sym c.last_tags_place.ensures.value) ∙ c.in_ok-last_tags.ensures in
    let threads = ap (λ (k : ℕ). threads_in head.words headers bytes k (taken_place v head headers)) (sym c.entries_place.ensures.value) ∙
    ap (threads_in head.words headers bytes c.entries_place.result) (sym c.taken_place.ensures.value) ∙ c.in_ok-threads.ensures in
    let long = subst (λ (k : ℕ). k < length bytes) c.log_end-end.ensures.value c.if-end-bytes.true in
    λ _. body_long v head headers bytes _ there c.in_ok-last_tags.last_tags.items last_tags c.in_ok-threads.threads.items threads long ∙ ap (λ (k : ℕ). Err (fault Long k)) (sym c.log_end-end.ensures.value) ∙ ap Err (sym c.new.ensures)

pub returns : goal.returns
returns c =
    let v = c.args.version in
    let head = c.args.head.now in
    let headers = c.args.headers.now in
    let bytes = c.args.bytes.now in
    let there = ap (reaches bytes) (sym c.log_end-end.ensures.value) ∙ sym c.in_ok-reaches.ensures.value in
    let last_tags = ap (λ (xs : List ℕ). last_tags_in xs bytes (last_tags_place v head) head.words) (sym (c.deref.ensures.value ∙ c.in_ok-steps.ensures)) ∙
    ap (λ (k : ℕ). last_tags_in c.deref.result.now bytes k head.words) (sym c.last_tags_place.ensures.value) ∙ c.in_ok-last_tags.ensures in
    let threads = ap (λ (k : ℕ). threads_in head.words headers bytes k (taken_place v head headers)) (sym c.entries_place.ensures.value) ∙
    ap (threads_in head.words headers bytes c.entries_place.result) (sym c.taken_place.ensures.value) ∙ c.in_ok-threads.ensures in
    let all = subst (λ (k : ℕ). length bytes ≤ k) c.log_end-end.ensures.value c.if-end-bytes.false in
    body_is v head headers bytes _ there c.in_ok-last_tags.last_tags.items last_tags c.in_ok-threads.threads.items threads all
