-- The arena programs: players in rooms move points under the lock of their room.
use Rattle.std.specs.Prelude.{ℕ, ◌+◌, ◌*◌, ◌%◌, List, [], ◌∷◌, ◌++◌, map}
use Rattle.std.specs.List.{flat_map, range_with_len}
use Rattle.machine.specs.declared.program.Instr.{Instr}
use Rattle.machine.specs.declared.program.Op.{Op}
use Rattle.machine.specs.declared.program.Op.TheVariants as op
use Rattle.machine.specs.Programs.{ProgramValue}
use Rattle.arena_samples.specs.declared.arenas.Move.{Move}
use Rattle.arena_samples.specs.Draws.{state_after, drawn}

-- a room's words: its lock, which is free, and 20 points of each of its five players
abbrev pub room_words : List ℕ
room_words = 0 ∷ 20 ∷ 20 ∷ 20 ∷ 20 ∷ 20 ∷ []

-- four rooms
abbrev pub arena_words : List ℕ
arena_words = room_words ++ room_words ++ room_words ++ room_words

-- the move in a room from its first player, or a later one, to the one so many places further on, round the room
abbrev pub move_in : ℕ → ℕ → ℕ → Move
move_in room player further = record { lock = 6 * room; from = 6 * room + 1 + player; to = 6 * room + 1 + (player + further) % 5 }

-- the move that three draws choose
abbrev pub move_from : ℕ → Move
move_from x = move_in (drawn x 1 % 4) (drawn x 2 % 5) (drawn x 3 % 4 + 1)

-- an instruction with two registers and a number
abbrev pub instr : Op → ℕ → ℕ → ℕ → Instr
instr o a b imm = record { op = o; a = a; b = b; c = 0; imm = imm }

-- register a is compared with the word at a place, and becomes register c
abbrev pub cas : ℕ → ℕ → ℕ → ℕ → Instr
cas a b c imm = record { op = op.Cas; a = a; b = b; c = c; imm = imm }

-- The code of a move, whose first instruction has this place. At most 1,000 times the lock is looked at, and taken where it
-- is free; then a player who has points gives one to another, and the lock becomes free. A move that does not get its
-- lock is left out.
unfoldable pub move_code : ℕ → Move → List Instr
move_code place m =
    instr op.Const 1 0 1000 ∷
    instr op.Jeq 1 0 (place + 16) ∷
    instr op.Addi 1 1 4294967295 ∷
    instr op.Load 3 0 m.lock ∷
    instr op.Jne 3 0 (place + 1) ∷
    cas 3 0 2 m.lock ∷
    instr op.Jne 15 2 (place + 1) ∷
    instr op.Load 4 0 m.from ∷
    instr op.Out 4 0 0 ∷
    instr op.Jeq 4 0 (place + 15) ∷
    instr op.Addi 4 4 4294967295 ∷
    instr op.Store 4 0 m.from ∷
    instr op.Load 5 0 m.to ∷
    instr op.Addi 5 5 1 ∷
    instr op.Store 5 0 m.to ∷
    instr op.Store 0 0 m.lock ∷ []

-- the moves from this state on, each at its place
abbrev pub moves_code : ℕ → ℕ → List Instr
moves_code x count = flat_map (λ i. move_code (1 + 16 * i) (move_from (state_after x (3 * i)))) (range_with_len 0 count)

-- a thread: register 2 becomes 1, which is what a taken lock holds, and then there are 16 moves
abbrev pub thread_code : ℕ → List Instr
thread_code x = instr op.Const 2 0 1 ∷ moves_code x 16

-- the first threads
abbrev pub thread_codes : ℕ → ℕ → List (List Instr)
thread_codes number count = map (λ t. thread_code (state_after number (48 * t))) (range_with_len 0 count)

-- the arena program of a number
unfoldable pub arena_of : ℕ → ProgramValue
arena_of number = record { words = arena_words; threads = thread_codes number 8 }
