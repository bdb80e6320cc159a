-- The bytes of a log. Numbers stand with their highest byte first.
use Rattle.std.specs.Prelude.{◌≡◌, ℕ, ◌+◌, ◌*◌, ◌<◌, ◌^◌, List, [], ◌∷◌, ◌++◌, length, All}
use Rattle.std.specs.List.{flat_map, sum_by}
use Rattle.std.specs.Int.{w16, w32, to_be_bytes}
use Rattle.light_base.specs.Tags.{bits_of}
use Rattle.replay_model.specs.Steps.{Tag}
use Rattle.replay_model.specs.declared.End.{End}
use Rattle.replay_model.specs.declared.End.TheVariants.{Halted, InstrSpent, BadAddress, StepsSpent, EntriesFull, OutputFull, InputEmpty}
use Rattle.replay_model.specs.declared.Entry.{Entry}
use Rattle.replay_model.specs.Logs.{Limits, ThreadLog, Log}
use Rattle.replay_model.specs.WellFormed.{IsWellFormed}
use Rattle.log_file.specs.Versions.{Version, magic_of, head_len, header_len, CanTell}
use Rattle.log_file.specs.declared.version.Version.TheVariants.{One, Two}

-- the number of an end
abbrev pub code_of_end : End → ℕ
code_of_end Halted = 0
code_of_end InstrSpent = 1
code_of_end (BadAddress address) = 2
code_of_end StepsSpent = 3
code_of_end EntriesFull = 4
code_of_end OutputFull = 5
code_of_end InputEmpty = 6

-- the address that no word has, and 0 at another end
abbrev pub address_of_end : End → ℕ
address_of_end Halted = 0
address_of_end InstrSpent = 0
address_of_end (BadAddress address) = address
address_of_end StepsSpent = 0
address_of_end EntriesFull = 0
address_of_end OutputFull = 0
address_of_end InputEmpty = 0

unfoldable pub limits_bytes : Limits → List ℕ
limits_bytes l = to_be_bytes w32 l.steps ++ to_be_bytes w32 l.instr ++ to_be_bytes w32 l.entries

-- how many input numbers a thread took; version 1 does not say
abbrev pub count_bytes : Version → ThreadLog → List ℕ
count_bytes One t = []
count_bytes Two t = to_be_bytes w32 (length t.taken)

-- how a thread ended, how far it came, how many entries it has, and how many input numbers it took
abbrev pub header_bytes : Version → ThreadLog → List ℕ
header_bytes version t =
    code_of_end t.end ∷ [] ++ to_be_bytes w32 (address_of_end t.end) ++ to_be_bytes w32 t.steps ++ to_be_bytes w32 t.instr ++
    to_be_bytes w32 (length t.entries) ++ count_bytes version t

abbrev pub tag_bytes : Tag → List ℕ
tag_bytes writer = to_be_bytes w32 (bits_of writer)

abbrev pub entry_bytes : Entry → List ℕ
entry_bytes e = to_be_bytes w16 e.word ++ tag_bytes e.source ++ to_be_bytes w32 e.first ++ to_be_bytes w32 e.last

abbrev pub entries_bytes : ThreadLog → List ℕ
entries_bytes t = flat_map entry_bytes t.entries

abbrev pub taken_bytes : ThreadLog → List ℕ
taken_bytes t = flat_map (to_be_bytes w32) t.taken

-- the numbers of threads and of words, the digest and the limits, behind the first four bytes
unfoldable pub head_bytes : Version → Log → List ℕ
head_bytes version log = magic_of version ++ length log.threads ∷ [] ++ to_be_bytes w16 (length log.last_tags) ++ log.digest ++ limits_bytes log.limits

-- the head, a header for each thread, the last tag of each word, the entries, thread after thread, and so the input numbers
unfoldable pub spelling_in : Version → Log → List ℕ
spelling_in version log =
    head_bytes version log ++ flat_map (header_bytes version) log.threads ++ flat_map tag_bytes log.last_tags ++
    flat_map entries_bytes log.threads ++ flat_map taken_bytes log.threads

-- the bytes of a log today
abbrev pub spelling : Log → List ℕ
spelling log = spelling_in Two log

-- how many entries all threads have
abbrev pub entry_count : List ThreadLog → ℕ
entry_count threads = sum_by (λ (t : ThreadLog). length t.entries) threads

-- how many input numbers all threads took
abbrev pub taken_count : List ThreadLog → ℕ
taken_count threads = sum_by (λ (t : ThreadLog). length t.taken) threads

-- how many bytes a log has today
abbrev pub text_len : Log → ℕ
text_len log = head_len + header_len Two * length log.threads + 4 * length log.last_tags + 14 * entry_count log.threads + 4 * taken_count log.threads

-- the numbers of a log fit the bytes that stand for them
pub record HasNumbers (log : Log) : Type 0 where
  pub digest : length log.digest ≡ 32
  pub digest_bytes : All (λ byte. byte < 256) log.digest
  pub addresses : All (λ (t : ThreadLog). address_of_end t.end < 2 ^ 32) log.threads
  pub taken : All (λ (t : ThreadLog). All (λ n. n < 2 ^ 32) t.taken) log.threads

-- these bytes tell this well-formed log
pub record IsText (version : Version) (bytes : List ℕ) (log : Log) : Type 0 where
  pub formed : IsWellFormed log
  pub numbers : HasNumbers log
  pub told : CanTell version log
  pub spelled : bytes ≡ spelling_in version log
