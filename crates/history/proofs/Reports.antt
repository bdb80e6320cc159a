-- What the threads report once all have ended.
use Rattle.std.proofs.Common.{◌≡◌, ℕ, ◌+◌, ◌<◌, List, length, map, ◌∙◌, ap, arith}
use Rattle.std.specs.Prelude.{nat_le, slice_index_or}
use Rattle.std.specs.List.{range_with_len}
use Rattle.machine.specs.Cores.{settled, report_of}
use Rattle.machine.specs.Inputs.{inputs_of}
use Rattle.machine.specs.Runs.{state_after, reports_of}
use Rattle.running_thread.proofs.Ends.{at-end}
use Rattle.running_thread.proofs.Lists.{map-range}
use Rattle.running_thread.proofs.Stepping.{ran-core}
use Rattle.history.specs.declared.seat.Seat.{Seat}
use Rattle.history.specs.declared.words.PlainWords.{PlainWords}
use Rattle.history.specs.Played.{Played, world_of, thread_steps, IsOver}
use Rattle.history.specs.Playing.{run_core, IsSeat, IsPlaying, MayReport, seat_report}
use Rattle.history.proofs.Playing.{threads_count}

module _ (played : Played) (words : PlainWords) (seats : List Seat) (is : IsPlaying played words seats) where
  -- each comes to what its steps made of it
  settled-core : (k : ℕ) (d : Seat) → k < length seats → run_core played.program played.limits played.inputs (slice_index_or seats k d) ≡ state_after played.program played.limits played.inputs k (thread_steps played k)
  settled-core k d l =
      let seat : IsSeat played.program played.limits (inputs_of played.inputs k) k (thread_steps played k) (slice_index_or seats k d) = is.each k d l in
      let thread = (slice_index_or seats k d).thread in
      let full = nat_le thread.log.limit (length thread.log.entries) in
      ap (λ (t : ℕ). settled played.program played.limits (inputs_of played.inputs t) full thread.core) seat.runs.own ∙
      ran-core played.program played.limits (inputs_of played.inputs k) k (thread_steps played k) thread seat.runs full (λ j. full) (settled played.program played.limits (inputs_of played.inputs k) full thread.core) (λ j. settled played.program played.limits (inputs_of played.inputs k) full thread.core)

  pub may-report : IsOver played → (k : ℕ) (d : Seat) → k < length seats → MayReport played.program played.limits played.inputs (slice_index_or seats k d)
  may-report over k d l =
      let c = is.counted in
      let t = (is.each k d l).runs.own in
      record {
        thread = omega (arith, c, t, l);
        ended = at-end played.program played.limits (inputs_of played.inputs k) k (thread_steps played k) (run_core played.program played.limits played.inputs (slice_index_or seats k d)) (settled-core k d l)
            (over k (let n = threads_count played in omega (arith, n, c, l)));
      }

  pub reports-are : map (seat_report played.program played.limits played.inputs) seats ≡ reports_of played.program played.limits played.inputs (world_of played)
  reports-are =
      map-range (seat_report played.program played.limits played.inputs) (λ (t : ℕ). report_of (state_after played.program played.limits played.inputs t (thread_steps played t))) seats 0
      (λ k d l. ap report_of (settled-core k d l) ∙ ap (λ (t : ℕ). report_of (state_after played.program played.limits played.inputs t (thread_steps played t))) (let e : k ≡ 0 + k = omega arith in e)) ∙
      ap (λ (n : ℕ). map (λ (t : ℕ). report_of (state_after played.program played.limits played.inputs t (thread_steps played t))) (range_with_len 0 n)) is.counted
