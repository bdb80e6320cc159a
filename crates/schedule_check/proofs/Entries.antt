-- The entries of a log in one list.
use Rattle.std.proofs.Common.{ℕ, List, length, map, subst, arith}
use Rattle.std.specs.Prelude.{Contains}
use Rattle.replay_model.specs.declared.Entry.{Entry}
use Rattle.replay_model.specs.Logs.{Log, thread_of, HasEntry}
use Rattle.replay_laws.proofs.Places.{entry_thread}
use Rattle.constraints.specs.Positions.{thread_numbers}
use Rattle.constraints.proofs.Members.{of_map, in_map, of_flat_map, in_flat_map, in_range}
use Rattle.schedule_check.specs.Faults.{entries_of}

abbrev pub of_thread : Log → ℕ → List (ℕ × Entry)
of_thread log t = map (λ (entry : Entry). (t, entry)) (thread_of log t).entries

pub in_entries : (log : Log) (t : ℕ) (a : Entry) → HasEntry log t a → Contains (entries_of log) (t, a)
in_entries log t a c =
    in_flat_map (of_thread log) (thread_numbers log) t (t, a) (in_range 0 (length log.threads) t (omega arith) (let l = entry_thread log t a c in omega (arith, l)))
    (in_map (λ (entry : Entry). (t, entry)) (thread_of log t).entries a c)

pub of_entries : (log : Log) (x : ℕ × Entry) → Contains (entries_of log) x → HasEntry log x.0 x.1
of_entries log x c =
    let (t, m, d) = of_flat_map (of_thread log) (thread_numbers log) x c in
    let (a, h, e) = of_map (λ (entry : Entry). (t, entry)) (thread_of log t).entries x d in
    let P : ℕ × Entry → Type 0 = λ y. HasEntry log y.0 y.1 in
    subst P e h
