-- The tags that a log names are those of its events, and the tag of nobody.
use Rattle.std.proofs.Common.{◌≡◌, ℕ, ◌+◌, ◌^◌, ◌<◌, List, [], ◌∷◌, ◌++◌, length, get_or, map, sym, ◌∙◌, ap, subst, arith}
use Rattle.std.specs.Prelude.{All}
use Rattle.std.specs.List.{flat_map, range_with_len}
use Rattle.std.proofs.lemmas.List.{map-id, get_or_default}
use Rattle.std.proofs.lemmas.List.FromFn.{map-range_with_len_more}
use Rattle.std.proofs.lemmas.List.Concat.{flat_map-append}
use Rattle.std.proofs.lemmas.List.{append-nil}
use Rattle.std.proofs.lemmas.List.Elements.{Contains-get_or}
use Rattle.light_base.specs.Tags.{HasTag}
use Rattle.light_base.specs.declared.tag.Tag.{Tag}
use Rattle.replay_model.specs.declared.Entry.{Entry}
use Rattle.replay_model.specs.Logs.{ThreadLog, Log, no_thread, thread_of, first_event, last_event}
use Rattle.replay_model.specs.WellFormed.{IsWellFormed}
use Rattle.constraints.specs.Building.{mentioned_by}

pub range_more : (n : ℕ) → range_with_len 0 (n + 1) ≡ range_with_len 0 n ++ n ∷ []
range_more n = sym (map-id (range_with_len 0 (n + 1))) ∙ map-range_with_len_more (λ (k : ℕ). k) 0 n n (omega arith) ∙ ap (λ (xs : List ℕ). xs ++ n ∷ []) (map-id (range_with_len 0 n))

-- one more number adds what is made of it
pub flat_map_range_more : {X : Type 0} (f : ℕ → List X) (n : ℕ) → flat_map f (range_with_len 0 (n + 1)) ≡ flat_map f (range_with_len 0 n) ++ f n
flat_map_range_more f n = ap (flat_map f) (range_more n) ∙ flat_map-append f (range_with_len 0 n) (n ∷ []) ∙ ap (λ xs. flat_map f (range_with_len 0 n) ++ xs) (append-nil (f n))

-- each first and each last of a well-formed log has a tag
pub steps_small : (log : Log) → IsWellFormed log → (t : ℕ) → t < length log.threads → (thread_of log t).steps < 2 ^ 28
steps_small log formed t l = let s = (formed.threads t l).steps in let m = formed.range.steps in omega (arith, s, m)

pub firsts_tagged : (log : Log) → IsWellFormed log → (t : ℕ) → t < length log.threads → All (λ (entry : Entry). HasTag (first_event t entry)) (thread_of log t).entries
firsts_tagged log formed t l k d m =
    let h = (formed.threads t l).each (get_or (thread_of log t).entries k d) (Contains-get_or (thread_of log t).entries k d m) in
    let n = formed.range.threads in
    let s = steps_small log formed t l in
    let a = h.low in let b = h.between in let c = h.high in
    record { thread = omega (arith, l, n); first = a; last = omega (arith, b, c, s) }

pub last_reads_tagged : (log : Log) → IsWellFormed log → (t : ℕ) → t < length log.threads → All (λ (entry : Entry). HasTag (last_event t entry)) (thread_of log t).entries
last_reads_tagged log formed t l k d m =
    let h = (formed.threads t l).each (get_or (thread_of log t).entries k d) (Contains-get_or (thread_of log t).entries k d m) in
    let n = formed.range.threads in
    let s = steps_small log formed t l in
    let a = h.low in let b = h.between in let c = h.high in
    record { thread = omega (arith, l, n); first = omega (arith, a, b); last = omega (arith, c, s) }

-- the thread that a loop over the threads has come to
pub item_thread : (log : Log) (items : List ThreadLog) (t : ℕ) (x : ThreadLog) → items ≡ log.threads → t < length items → x ≡ get_or items t x → (t < length log.threads) × (x ≡ thread_of log t)
item_thread log items t x e l h =
    let n : length items ≡ length log.threads = ap length e in
    let m : t < length log.threads = omega (arith, l, n) in
    (m, h ∙ ap (λ (xs : List ThreadLog). get_or xs t x) e ∙ get_or_default log.threads t x no_thread m)

-- what is said of the entries of a thread, said of the list that a call gave
pub of_thread_entries : (P : List Entry → Type 0) (log : Log) (t : ℕ) (x : ThreadLog) (entries : List Entry) → x ≡ thread_of log t → entries ≡ x.entries → P (thread_of log t).entries → P entries
of_thread_entries P log t x entries e q h = subst P (sym (q ∙ ap (λ (y : ThreadLog). y.entries) e)) h

-- the tags named by the threads so far, and by one thread more
pub mention_more : (log : Log) (t : ℕ) (x : ThreadLog) (entries : List Entry) (old new : List Tag) → x ≡ thread_of log t → entries ≡ x.entries →
    old ≡ flat_map (λ t. flat_map (mentioned_by t) (thread_of log t).entries) (range_with_len 0 t) → new ≡ old ++ flat_map (mentioned_by t) entries →
    new ≡ flat_map (λ t. flat_map (mentioned_by t) (thread_of log t).entries) (range_with_len 0 (t + 1))
mention_more log t x entries old new e q o n =
    let s : entries ≡ (thread_of log t).entries = q ∙ ap (λ (y : ThreadLog). y.entries) e in
    n ∙ ap (λ (xs : List Tag). xs ++ flat_map (mentioned_by t) entries) o ∙ ap (λ (xs : List Entry). flat_map (λ t. flat_map (mentioned_by t) (thread_of log t).entries) (range_with_len 0 t) ++ flat_map (mentioned_by t) xs) s ∙
    sym (flat_map_range_more (λ t. flat_map (mentioned_by t) (thread_of log t).entries) t)

-- one number more in a list of what is made of each
pub map_range_more : {X : Type 0} (f : ℕ → X) (n : ℕ) → map f (range_with_len 0 (n + 1)) ≡ map f (range_with_len 0 n) ++ f n ∷ []
map_range_more f n = map-range_with_len_more f 0 n n (omega arith)
