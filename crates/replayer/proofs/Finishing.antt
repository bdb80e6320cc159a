-- What a replay answers once each thread has run to its end.
use Rattle.std.proofs.Common.{◌≡◌, ℕ, ◌+◌, ◌<◌, true, List, [], ◌∷◌, ◌++◌, length, take, drop, map, sym, ◌∙◌, ap, subst, arith}
use Rattle.std.specs.Prelude.{All, option_and_then, slice_index_or}
use Rattle.std.specs.List.{range_with_len}
use Rattle.std.proofs.lemmas.List.{get_or-map, length-map, length-take-le, take_all, same_lists, append_cancel_left}
use Rattle.std.proofs.Math.ListN as lists
use Rattle.replay_model.specs.Steps.{Tag, Cell, has_ended}
use Rattle.replay_model.specs.Histories.{World, steps_of, wanted}
use Rattle.replay_model.specs.Events.{keeps}
use Rattle.replay_model.specs.Logs.{Log, ThreadLog, no_thread}
use Rattle.replay_model.specs.RunLogs as run_logs
use Rattle.replay_model.specs.RunLogs.{last_tags, run_log}
use Rattle.replay_model.proofs.RunLogs.{run_logs_from-length, run_logs-at}
use Rattle.replay_laws.proofs.Endings.{finish_ends}
use Rattle.machine.specs.Programs.{ProgramValue}
use Rattle.machine.specs.Inputs.{inputs_of}
use Rattle.machine.specs.Cores.{State, end_of, end_or_halted, report_of}
use Rattle.machine.specs.Laws.{taken_in}
use Rattle.machine.specs.Runs.{state_after, reports_of}
use Rattle.machine.proofs.Runs.{ends_within}
use Rattle.replayer.specs.declared.difference.Difference.{Difference}
use Rattle.replayer.specs.declared.replay.Replayed.{Replayed}
use Rattle.replayer.specs.declared.replay.Replayed.TheVariants.{Same, Differs}
use Rattle.running_thread.specs.declared.thread.RunningThread.{RunningThread}
use Rattle.running_thread.proofs.Ends.{same-end, at-end}
use Rattle.running_thread.proofs.Lists.{map-range, written_back}
use Rattle.replayer.specs.declared.words.ReplayWords.{ReplayWords}
use Rattle.replayer.specs.Differences.{Part, Item, part_of, items, items_of, DifferFirst}
use Rattle.replayer.specs.Replays.{Replaying, threads_by, world_of, ended}
use Rattle.replayer.specs.Verdicts.{tallies_by, ShowsLog, log_found, IsVerdict}
use Rattle.replayer.specs.Seats.{IsShown, IsReplaying, HasEnded, AreSettled, IsAnswer, seat_part, run_out}
use Rattle.replayer.proofs.TakenNumbers.{taken_within}

-- ---- one thread

-- two parts with the same fields
same-part : (a b : Part) → a.entries ≡ b.entries → a.steps ≡ b.steps → a.instr ≡ b.instr → a.end ≡ b.end → a.taken ≡ b.taken → a ≡ b
same-part a b entries steps instr end taken = λ j. record { entries = entries j; steps = steps j; instr = instr j; end = end j; taken = taken j }

-- two logs of a thread with the same part and the same numbers
same-log : (a b : ThreadLog) → part_of a ≡ part_of b → a.taken ≡ b.taken → a ≡ b
same-log a b part taken = λ j. record { entries = (part j).entries; steps = (part j).steps; instr = (part j).instr; end = (part j).end; taken = taken j }

-- the place at which two lists differ is one of both
first-place : (before xs ys : List Item) (a b : Item) → before ++ a ∷ xs ≡ before ++ b ∷ ys → a ≡ b
first-place before xs ys a b h = let e : a ∷ xs ≡ b ∷ ys = append_cancel_left before (a ∷ xs) (b ∷ ys) h in cc e

never-same : (xs ys : List Item) (d : Difference) → DifferFirst xs ys d → xs ≡ ys → ⊥
never-same xs ys d h e =
    let same = first-place h.before h.rest_logged h.rest_found _ _ (sym h.logged_is ∙ e ∙ h.found_is) in
    h.unequal (ap (λ (item : Item). item.kept) same)

-- some element
some-of : {X : Type 0} (xs : List X) → 0 < length xs → X
some-of [] l = absurd (omega arith)
some-of (x ∷ xs) l = x

-- ---- all threads

module _ (p : ProgramValue) (log : Log) (world : World) (shared : ReplayWords) (seats : List RunningThread) (shown : IsShown p log world shared seats) (settled : AreSettled p log world seats)
    (counted : length p.threads ≡ length log.threads) where
  abbrev state : ℕ → State
  state t = state_after p log.limits (taken_in log) t (steps_of world.threads t)

  abbrev logs : List ThreadLog
  logs = run_logs.run_logs (threads_by p log) (tallies_by p log) world.threads

  logs-length : length logs ≡ length seats
  logs-length = run_logs_from-length (threads_by p log) (tallies_by p log) 0 world.threads ∙ shown.are.counted ∙ sym shown.seated

  log-at : (t : ℕ) (d : ThreadLog) → t < length seats → slice_index_or logs t d ≡ run_log (threads_by p log) (tallies_by p log) t (steps_of world.threads t)
  log-at t d l = run_logs-at (threads_by p log) (tallies_by p log) world.threads t d (let n = shown.are.counted in let m = shown.seated in omega (arith, n, m, l))

  -- the threads have come to their ends
  pub all-ended : ((t : ℕ) → t < length p.threads → has_ended (wanted (threads_by p log) t world) ≡ true) → All HasEnded seats
  all-ended over t seat l =
      at-end p log.limits (inputs_of (taken_in log) t) t (steps_of world.threads t) (slice_index_or seats t seat).core (settled t seat l) (over t (let n = shown.seated in omega (arith, n, l)))

  -- what is compared of a thread is what its log says
  part-is : (t : ℕ) (seat : RunningThread) → t < length seats → part_of (run_log (threads_by p log) (tallies_by p log) t (steps_of world.threads t)) ≡ seat_part (slice_index_or seats t seat)
  part-is t seat l =
      let core = settled t seat l in
      let kept = shown.each t seat l in
      same-part _ _ (sym kept.logged) (sym kept.counted) (sym (ap (λ (s : State). s.instr) core))
      (same-end (state t).pending ∙ sym (ap (λ (s : State). end_or_halted (option_and_then end_of s.pending)) core))
      (length-take-le (state t).taken (inputs_of (taken_in log) t) (taken_within p log.limits (taken_in log) t (steps_of world.threads t)) ∙ sym (ap (λ (s : State). s.taken) core))

  parts-found : map part_of logs ≡ map seat_part seats
  parts-found = same_lists (map part_of logs) (map seat_part seats) (length-map logs part_of ∙ logs-length ∙ sym (length-map seats seat_part)) each
    where
      each : (t : ℕ) (d : Part) → t < length (map part_of logs) → slice_index_or (map part_of logs) t d ≡ slice_index_or (map seat_part seats) t d
      each t d l =
          let n : t < length logs = (let k = length-map logs part_of in omega (arith, k, l)) in
          let m : t < length seats = (let k = logs-length in omega (arith, k, n)) in
          let seat = some-of seats (omega (arith, m)) in
          get_or-map part_of logs t no_thread d n ∙ ap part_of (log-at t no_thread m) ∙ part-is t seat m ∙ sym (get_or-map seat_part seats t seat d m)

  -- where the threads and the last tags are as logged, the state has the log
  shows-log : map part_of log.threads ≡ map seat_part seats → log.last_tags ≡ last_tags shared.cells.items → ShowsLog p log world
  shows-log parts tags = record {
    logs = same_lists logs log.threads (logs-length ∙ shown.seated ∙ counted) each;
    last_tags = ap last_tags (sym shown.are.memory) ∙ sym tags;
  }
    where
      same : map part_of logs ≡ map part_of log.threads
      same = parts-found ∙ sym parts

      each : (t : ℕ) (d : ThreadLog) → t < length logs → slice_index_or logs t d ≡ slice_index_or log.threads t d
      each t d l = same-log (slice_index_or logs t d) (slice_index_or log.threads t d) part numbers
        where
          m : t < length seats
          m = let k = logs-length in omega (arith, k, l)

          part : part_of (slice_index_or logs t d) ≡ part_of (slice_index_or log.threads t d)
          part = sym (lists.get_or-map part_of logs t d) ∙ ap (λ (l : List Part). slice_index_or l t (part_of d)) same ∙ lists.get_or-map part_of log.threads t d

          list : inputs_of (taken_in log) t ≡ (slice_index_or log.threads t d).taken
          list = get_or-map (λ (thread : ThreadLog). thread.taken) log.threads t d [] (let k = shown.seated in omega (arith, k, m, counted))

          took : (slice_index_or logs t d).taken ≡ take (state t).taken (inputs_of (taken_in log) t)
          took = ap (λ (thread : ThreadLog). thread.taken) (log-at t d m)

          as_many : length (take (state t).taken (inputs_of (taken_in log) t)) ≡ length (inputs_of (taken_in log) t)
          as_many = ap length (sym took) ∙ ap (λ (q : Part). q.taken) part ∙ ap length (sym list)

          numbers : (slice_index_or logs t d).taken ≡ (slice_index_or log.threads t d).taken
          numbers =
              let within = taken_within p log.limits (taken_in log) t (steps_of world.threads t) in
              let k = length-take-le (state t).taken (inputs_of (taken_in log) t) within in
              took ∙ take_all (state t).taken (inputs_of (taken_in log) t) (omega (arith, k, as_many)) ∙ list

  -- what is found is what is compared
  items-found : items (log_found p log world) ≡ items_of (map seat_part seats) (last_tags shared.cells.items)
  items-found = ap (λ (parts : List Part). items_of parts (last_tags world.memory)) parts-found ∙ ap (λ (m : List Cell). items_of (map seat_part seats) (last_tags m)) (sym shown.are.memory)

  -- a state that has the log is found with what is logged
  items-same : ShowsLog p log world → items log ≡ items (log_found p log world)
  items-same has =
      ap (λ (threads : List ThreadLog). items_of (map part_of threads) log.last_tags) (sym has.logs) ∙ ap (λ (tags : List Tag). items_of (map part_of logs) tags) (sym has.last_tags)

  reports-are : map (λ (seat : RunningThread). report_of seat.core) seats ≡ reports_of p log.limits (taken_in log) world
  reports-are =
      map-range (λ (seat : RunningThread). report_of seat.core) (λ (t : ℕ). report_of (state t)) seats 0
      (λ k d l. ap report_of (settled k d l) ∙ ap (λ (t : ℕ). report_of (state t)) (let e : k ≡ 0 + k = omega arith in e)) ∙
      ap (λ (n : ℕ). map (λ (t : ℕ). report_of (state t)) (range_with_len 0 n)) shown.seated

  -- what is answered is the verdict
  pub verdict-is : (replayed : Replayed) → IsAnswer log shared.cells.items seats replayed → IsVerdict p log world replayed
  verdict-is (Same reports values) (parts, tags, r, v) = (shows-log parts tags, r ∙ reports-are, v ∙ ap (λ (m : List Cell). map (λ (cell : Cell). cell.value) m) shown.are.memory)
  verdict-is (Differs d) h =
      let found : DifferFirst (items log) (items (log_found p log world)) d = subst (λ (l : List Item). DifferFirst (items log) l d) (sym items-found) h in
      (λ has. never-same (items log) (items (log_found p log world)) d found (items-same has), found)

-- ---- a replay

module _ (r : Replaying) (shared : ReplayWords) (seats taken : List RunningThread) (after : ReplayWords) (done : List RunningThread) (is : IsReplaying r shared seats) (s : taken ≡ seats)
    (shown : (world : World) → IsShown r.program r.log world shared taken → IsShown r.program r.log (run_out r.program r.log (length taken) world) after done)
    (settled : (world : World) → IsShown r.program r.log world shared taken → AreSettled r.program r.log (run_out r.program r.log (length taken) world) done) where
  there : IsShown r.program r.log (world_of r) shared taken
  there =
      let Q : List RunningThread → Type 0 = λ l. IsShown r.program r.log (world_of r) shared l in
      subst Q (sym s) is.shown

  all-threads : length taken ≡ length r.log.threads
  all-threads = there.seated ∙ is.threads

  ended-is : run_out r.program r.log (length taken) (world_of r) ≡ ended r
  ended-is = ap (λ (n : ℕ). run_out r.program r.log n (world_of r)) all-threads

  pub end-shown : IsShown r.program r.log (ended r) after done
  end-shown = subst (λ (w : World). IsShown r.program r.log w after done) ended-is (shown (world_of r) there)

  end-settled : AreSettled r.program r.log (ended r) done
  end-settled = subst (λ (w : World). AreSettled r.program r.log w done) ended-is (settled (world_of r) there)

  over : (t : ℕ) → t < length r.program.threads → has_ended (wanted (threads_by r.program r.log) t (ended r)) ≡ true
  over t l =
      let n = is.threads in
      finish_ends (threads_by r.program r.log) (keeps r.log) r.log.limits.steps (length r.log.threads) (world_of r) (ends_within r.program r.log.limits (taken_in r.log)) (let k = there.are.counted in omega (arith, k, n)) t (omega (arith, l, n))

  -- what was written back
  pub seats-back : (n : ℕ) → length taken ≡ n → take n (done ++ drop (length done) seats) ≡ done
  seats-back n l = written_back n done seats (ap length (sym s) ∙ l) (end-shown.seated ∙ sym there.seated ∙ l)

  pub ends-all : All HasEnded done
  ends-all = all-ended r.program r.log (ended r) after done end-shown end-settled is.threads over

  -- the verdict
  pub verdict-of : (seen : Replaying) (replayed : Replayed) → r ≡ seen → IsAnswer r.log after.cells.items done replayed → IsVerdict seen.program seen.log (ended seen) replayed
  verdict-of seen replayed view h =
      subst (λ (x : Replaying). IsVerdict x.program x.log (ended x) replayed) view (verdict-is r.program r.log (ended r) after done end-shown end-settled is.threads replayed h)
