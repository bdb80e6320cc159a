use Rattle.std.proofs.Common.{◌≡◌, ℕ, ◌+◌, ◌-◌, ◌*◌, List, length, take, drop, sum, sym, ◌∙◌, ap, arith}
use Rattle.std.specs.List.{list_all}
use Rattle.std.specs.Int.{w32}
use Rattle.std.proofs.lemmas.Result.{err_from_is_err_and}
use Rattle.std.proofs.lemmas.List.{take_rest}
use Rattle.machine.specs.Programs.{code_lists}
use Rattle.machine.specs.Reading.{numbers_at}
use Rattle.machine.specs.ImageReading.{codes_at}
use Rattle.machine.specs.Faults.{is_short_length}
use Rattle.machine.proofs.ImageHead.{HasCodes, counts_refused, head_is, has_lengths, total_none, total_some, image_short, image_counts, image_cut, image_fault, image_long, image_is}
use Rattle.machine.proofs.image.parts_of.Goals as goal

pub returns-in_err-threads : goal.returns-in_err-threads
returns-in_err-threads c =
    let p = err_from_is_err_and c.from_residual.result c.from_residual.ensures.1 in
    rw (p.1, p.2) (λ _. counts_refused c.args.bytes.now c.in_err-threads.field-0.0 c.in_err-threads.ensures.value)

pub returns-then-bytes-words_place : goal.returns-then-bytes-words_place
returns-then-bytes-words_place c =
    λ _. rw c.whole.ensures (image_short c.args.bytes.now c.in_ok-threads.threads c.in_ok-threads.words (head_is c.args.bytes.now c.in_ok-threads.threads c.in_ok-threads.words c.in_ok-threads.ensures.value) c.if-bytes-words_place.true)

pub returns-in_default : goal.returns-in_default
returns-in_default c =
    let has = has_lengths c.args.bytes.now c.in_ok-threads.threads c.in_ok-threads.words c.deref.result.now c.in_ok-threads.ensures.value c.if-bytes-words_place.false (c.deref.ensures.value ∙ c.in_ok-lengths.ensures.value) in
    let long = total_none (list_all is_short_length c.deref.result.now) (sum c.deref.result.now) c.in_default.ensures.value in
    λ _. rw c.whole-in_default.ensures (image_counts c.args.bytes.now c.in_ok-threads.threads c.in_ok-threads.words c.deref.result.now has long)

pub returns-then-bytes-end : goal.returns-then-bytes-end
returns-then-bytes-end c =
    let has = has_lengths c.args.bytes.now c.in_ok-threads.threads c.in_ok-threads.words c.deref.result.now c.in_ok-threads.ensures.value c.if-bytes-words_place.false (c.deref.ensures.value ∙ c.in_ok-lengths.ensures.value) in
    let total = total_some (list_all is_short_length c.deref.result.now) (sum c.deref.result.now) c.in-Some.total c.in-Some.ensures.short c.in-Some.ensures.value in
    λ _. rw c.whole-then-bytes-end.ensures (image_cut c.args.bytes.now c.in_ok-threads.threads c.in_ok-threads.words c.deref.result.now has c.in-Some.ensures.short (omega (arith, total, c.if-bytes-end.true)))

pub returns-in_err-codes : goal.returns-in_err-codes
returns-in_err-codes c =
    let bytes = c.args.bytes.now in
    let t = c.in_ok-threads.threads in
    let w = c.in_ok-threads.words in
    let lens = c.deref.result.now in
    let place = 7 + 2 * t + 4 * w in
    let lengths = has_lengths bytes t w lens c.in_ok-threads.ensures.value c.if-bytes-words_place.false (c.deref.ensures.value ∙ c.in_ok-lengths.ensures.value) in
    let total = total_some (list_all is_short_length lens) (sum lens) c.in-Some.total c.in-Some.ensures.short c.in-Some.ensures.value in
    let has : HasCodes bytes t w lens = record { lengths = lengths; short = c.in-Some.ensures.short; codes_there = omega (arith, total, c.if-bytes-end.false) } in
    let same : codes_at 0 lens (drop place bytes) ≡ codes_at 0 c.deref-2.result.now (take (length bytes - place) (drop place bytes)) =
    ap (λ (ls : List ℕ). codes_at 0 ls (drop place bytes)) (c.deref.ensures.value ∙ sym c.deref-2.ensures.value) ∙ ap (codes_at 0 c.deref-2.result.now) (sym (take_rest bytes place)) in
    let p = err_from_is_err_and c.from_residual-in_err-codes.result c.from_residual-in_err-codes.ensures.1 in
    rw (p.1, p.2) (λ h. image_fault bytes t w lens c.in_err-codes.field-0.0 has (same ∙ c.in_err-codes.ensures h))

pub returns-then-end-bytes : goal.returns-then-end-bytes
returns-then-end-bytes c =
    let bytes = c.args.bytes.now in
    let t = c.in_ok-threads.threads in
    let w = c.in_ok-threads.words in
    let lens = c.deref.result.now in
    let place = 7 + 2 * t + 4 * w in
    let lengths = has_lengths bytes t w lens c.in_ok-threads.ensures.value c.if-bytes-words_place.false (c.deref.ensures.value ∙ c.in_ok-lengths.ensures.value) in
    let total = total_some (list_all is_short_length lens) (sum lens) c.in-Some.total c.in-Some.ensures.short c.in-Some.ensures.value in
    let has : HasCodes bytes t w lens = record { lengths = lengths; short = c.in-Some.ensures.short; codes_there = omega (arith, total, c.if-bytes-end.false) } in
    let same : codes_at 0 lens (drop place bytes) ≡ codes_at 0 c.deref-2.result.now (take (length bytes - place) (drop place bytes)) =
    ap (λ (ls : List ℕ). codes_at 0 ls (drop place bytes)) (c.deref.ensures.value ∙ sym c.deref-2.ensures.value) ∙ ap (codes_at 0 c.deref-2.result.now) (sym (take_rest bytes place)) in
    λ _. rw c.whole-then-end-bytes.ensures (image_long bytes t w lens (code_lists c.in_ok-codes.codes.items) has (same ∙ c.in_ok-codes.ensures) (omega (arith, total, c.if-end-bytes.true)))

pub returns : goal.returns
returns c =
    let bytes = c.args.bytes.now in
    let t = c.in_ok-threads.threads in
    let w = c.in_ok-threads.words in
    let lens = c.deref.result.now in
    let place = 7 + 2 * t + 4 * w in
    let lengths = has_lengths bytes t w lens c.in_ok-threads.ensures.value c.if-bytes-words_place.false (c.deref.ensures.value ∙ c.in_ok-lengths.ensures.value) in
    let total = total_some (list_all is_short_length lens) (sum lens) c.in-Some.total c.in-Some.ensures.short c.in-Some.ensures.value in
    let has : HasCodes bytes t w lens = record { lengths = lengths; short = c.in-Some.ensures.short; codes_there = omega (arith, total, c.if-bytes-end.false) } in
    let same : codes_at 0 lens (drop place bytes) ≡ codes_at 0 c.deref-2.result.now (take (length bytes - place) (drop place bytes)) =
    ap (λ (ls : List ℕ). codes_at 0 ls (drop place bytes)) (c.deref.ensures.value ∙ sym c.deref-2.ensures.value) ∙ ap (codes_at 0 c.deref-2.result.now) (sym (take_rest bytes place)) in
    let values : c.in_ok-words.words.items ≡ numbers_at w32 w (drop (7 + 2 * t) bytes) = c.in_ok-words.ensures ∙ ap (numbers_at w32 w) (take_rest bytes (7 + 2 * t)) in
    image_is bytes t w lens (code_lists c.in_ok-codes.codes.items) c.in_ok-words.words.items has (same ∙ c.in_ok-codes.ensures) (omega (arith, total, c.if-end-bytes.false)) values
