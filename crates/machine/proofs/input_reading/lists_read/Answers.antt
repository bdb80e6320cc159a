use Rattle.std.proofs.Common.{◌≡◌, ℕ, ◌+◌, ◌-◌, ◌*◌, List, length, take, drop, sum, sym, ◌∙◌, ap, arith}
use Rattle.std.specs.List.{list_all}
use Rattle.std.specs.Int.{w32}
use Rattle.std.proofs.lemmas.Result.{err_from_is_err_and}
use Rattle.std.proofs.lemmas.List.{take_rest}
use Rattle.machine.specs.Inputs.{input_lists, is_short_count}
use Rattle.machine.specs.InputTexts.{lists_at}
use Rattle.machine.proofs.ImageHead.{total_none, total_some}
use Rattle.machine.proofs.InputHead.{length-numbers_at, head_refused, head_is, has_counts, text_short, text_counts, text_cut, text_long, text_is}
use Rattle.machine.proofs.input_reading.lists_read.Goals as goal

pub returns-in_err-count : goal.returns-in_err-count
returns-in_err-count c =
    let p = err_from_is_err_and c.from_residual.result c.from_residual.ensures.1 in
    rw (p.1, p.2) (λ _. head_refused c.args.bytes.now c.in_err-count.field-0.0 c.in_err-count.ensures.value)

pub returns-then-bytes-place : goal.returns-then-bytes-place
returns-then-bytes-place c =
    λ _. rw c.of.ensures (text_short c.args.bytes.now c.in_ok-count.count (head_is c.args.bytes.now c.in_ok-count.count c.in_ok-count.ensures.value) c.if-bytes-place.true)

pub total_of-requires : goal.total_of-requires
total_of-requires c =
    let counts = ap length (c.deref.ensures.value ∙ c.in_ok-counts.ensures) in
    let len = length-numbers_at w32 c.in_ok-count.count (take (length c.args.bytes.now - 5) (drop 5 c.args.bytes.now)) in
    omega (arith, counts, len, c.in_ok-count.ensures.most)

pub returns-in_default : goal.returns-in_default
returns-in_default c =
    let bytes = c.args.bytes.now in
    let counts = c.deref.result.now in
    let has = has_counts bytes c.in_ok-count.count counts c.in_ok-count.ensures.value c.if-bytes-place.false (c.deref.ensures.value ∙ c.in_ok-counts.ensures) in
    let long = total_none (list_all is_short_count counts) (sum counts) c.in_default.ensures.value in
    λ _. rw c.of-in_default.ensures (text_counts bytes c.in_ok-count.count counts has long)

pub returns-then-bytes-end : goal.returns-then-bytes-end
returns-then-bytes-end c =
    let bytes = c.args.bytes.now in
    let counts = c.deref.result.now in
    let has = has_counts bytes c.in_ok-count.count counts c.in_ok-count.ensures.value c.if-bytes-place.false (c.deref.ensures.value ∙ c.in_ok-counts.ensures) in
    let total = total_some (list_all is_short_count counts) (sum counts) c.in-Some.total c.in-Some.ensures.short c.in-Some.ensures.value in
    λ _. rw c.of-then-bytes-end.ensures (text_cut bytes c.in_ok-count.count counts has c.in-Some.ensures.short (omega (arith, total, c.if-bytes-end.true)))

pub returns-then-end-bytes : goal.returns-then-end-bytes
returns-then-end-bytes c =
    let bytes = c.args.bytes.now in
    let counts = c.deref.result.now in
    let has = has_counts bytes c.in_ok-count.count counts c.in_ok-count.ensures.value c.if-bytes-place.false (c.deref.ensures.value ∙ c.in_ok-counts.ensures) in
    let total = total_some (list_all is_short_count counts) (sum counts) c.in-Some.total c.in-Some.ensures.short c.in-Some.ensures.value in
    λ _. rw c.of-then-end-bytes.ensures (text_long bytes c.in_ok-count.count counts has c.in-Some.ensures.short (omega (arith, total, c.if-end-bytes.true)))

pub returns : goal.returns
returns c =
    let bytes = c.args.bytes.now in
    let count = c.in_ok-count.count in
    let counts = c.deref.result.now in
    let place = 5 + 4 * count in
    let has = has_counts bytes count counts c.in_ok-count.ensures.value c.if-bytes-place.false (c.deref.ensures.value ∙ c.in_ok-counts.ensures) in
    let total = total_some (list_all is_short_count counts) (sum counts) c.in-Some.total c.in-Some.ensures.short c.in-Some.ensures.value in
    let lists = input_lists c.in_ok-lists_of.field-0.items in
    let read : lists ≡ lists_at counts (drop place bytes) =
    c.in_ok-lists_of.ensures ∙ ap (lists_at c.deref-2.result.now) (take_rest bytes place) ∙ ap (λ (ns : List ℕ). lists_at ns (drop place bytes)) (c.deref-2.ensures.value ∙ sym c.deref.ensures.value) in
    text_is bytes count counts has c.in-Some.ensures.short (omega (arith, total, c.if-bytes-end.false, c.if-end-bytes.false)) lists read
