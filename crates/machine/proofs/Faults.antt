-- The first fault of a program, found instruction after instruction.
use Rattle.std.proofs.Common.{◌≡◌, ℕ, ◌+◌, ◌<◌, ◌≤◌, List, length, get_or, drop, Some, None, refl, ap, ◌∙◌}
use Rattle.std.proofs.lemmas.List.{drop_more, drop_all}
use Rattle.machine.specs.Programs.{Instr}
use Rattle.machine.specs.Faults.{ImageKind, ImageFault, instr_fault, code_fault, codes_fault}

-- a code whose instruction at this place has a fault
pub code_fault_stops : (len thread at : ℕ) (code : List Instr) (d : Instr) (k : ImageKind) → at < length code → instr_fault len (get_or code at d) ≡ Some k
    → code_fault len thread at (drop at code) ≡ Some (record { kind = k; thread = thread; at = at })
unfolding code_fault
code_fault_stops len thread at code d k lt is = rw (drop_more code at d lt, is) refl

-- a code whose instruction at this place has none
pub code_fault_goes_on : (len thread at : ℕ) (code : List Instr) (d : Instr) → at < length code → instr_fault len (get_or code at d) ≡ None
    → code_fault len thread at (drop at code) ≡ code_fault len thread (at + 1) (drop (at + 1) code)
unfolding code_fault
code_fault_goes_on len thread at code d lt is = ap (code_fault len thread at) (drop_more code at d lt) ∙ rw is refl

pub code_fault_ends : (len thread at : ℕ) (code : List Instr) → length code ≤ at → code_fault len thread at (drop at code) ≡ None
unfolding code_fault
code_fault_ends len thread at code le = rw (drop_all at code le) refl

-- the same for the threads of a program, one code after the other
pub codes_fault_stops : (thread : ℕ) (codes : List (List Instr)) (d : List Instr) (fault : ImageFault) → thread < length codes → code_fault (length (get_or codes thread d)) thread 0 (get_or codes thread d) ≡ Some fault
    → codes_fault thread (drop thread codes) ≡ Some fault
unfolding codes_fault
codes_fault_stops thread codes d fault lt is = rw (drop_more codes thread d lt, is) refl

pub codes_fault_goes_on : (thread : ℕ) (codes : List (List Instr)) (d : List Instr) → thread < length codes → code_fault (length (get_or codes thread d)) thread 0 (get_or codes thread d) ≡ None
    → codes_fault thread (drop thread codes) ≡ codes_fault (thread + 1) (drop (thread + 1) codes)
unfolding codes_fault
codes_fault_goes_on thread codes d lt is = ap (codes_fault thread) (drop_more codes thread d lt) ∙ rw is refl

pub codes_fault_ends : (thread : ℕ) (codes : List (List Instr)) → length codes ≤ thread → codes_fault thread (drop thread codes) ≡ None
unfolding codes_fault
codes_fault_ends thread codes le = rw (drop_all thread codes le) refl
