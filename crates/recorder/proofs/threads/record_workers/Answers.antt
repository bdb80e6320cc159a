use Rattle.std.proofs.Common.{◌≡◌, ℕ, map, length, sym, ◌∙◌, ap}
use Rattle.std.specs.Prelude.{All}
use Rattle.std.specs.List.{range_with_len}
use Rattle.tagged_words.specs.Hands.{new_hand}
use Rattle.recorder.specs.Grouped.{AreReady}
use Rattle.recorder.proofs.Gathering.{opened-ready, opened-threads}
use Rattle.recorder.proofs.Dealing.{groups-ready, groups-threads}
use Rattle.recorder.proofs.threads.record_workers.Goals as goal

pub run_groups-requires-clause-ready : goal.run_groups-requires-clause-ready
run_groups-requires-clause-ready g c κs within =
    let opened : c.in_ok-words.hands.items ≡ map (new_hand c.in_ok-words.words) (range_with_len 0 (length c.args.program.now.threads)) =
    c.in_ok-words.ensures.hands ∙ ap (λ (n : ℕ). map (new_hand c.in_ok-words.words) (range_with_len 0 n)) c.threads_count-threads.ensures.value in
    let ready : All (AreReady c.in_ok-words.words c.args.program.now) c.in_ok-groups.groups.items =
    groups-ready c.args.workers c.in_ok-groups.groups.items c.in_ok-words.hands.items c.in_ok-groups.ensures c.in_ok-words.words c.args.program.now (opened-ready c.in_ok-words.words c.args.program.now c.in_ok-words.hands.items opened) in
    λ k d l. ready k d l

pub collected-requires-clause-shared : goal.collected-requires-clause-shared
collected-requires-clause-shared g c =
    let opened : c.in_ok-words.hands.items ≡ map (new_hand c.in_ok-words.words) (range_with_len 0 (length c.args.program.now.threads)) =
    c.in_ok-words.ensures.hands ∙ ap (λ (n : ℕ). map (new_hand c.in_ok-words.words) (range_with_len 0 n)) c.threads_count-threads.ensures.value in
    let numbered = opened-threads c.in_ok-words.words c.args.program.now c.in_ok-words.hands.items opened ∙ ap (range_with_len 0) (sym c.threads_count-threads.ensures.value) in
    c.in_ok-groups-2.ensures.threads ∙ groups-threads c.args.workers c.in_ok-groups.groups.items c.in_ok-words.hands.items c.in_ok-groups.ensures c.threads_count-threads.result numbered

pub gather-requires-clause-each : goal.gather-requires-clause-each
gather-requires-clause-each g c = c.in_ok-all.ensures.each c.in_ok-words.words c.args.program.now c.args.limits.now c.args.inputs.now c.in_ok-groups-2.ensures.each
