-- The labels and the length of a whole thread, which targets are tested against.
use Rattle.std.specs.Prelude.{ℕ, ◌+◌, Bool, false, ◌==◌, not, List, [], ◌∷◌, ◌++◌, bytes_eq, if◌then◌else◌, Option, None, Some, is_some}
use Rattle.std.specs.Option.{option_map_or}
use Rattle.std.specs.Map.{lookup}
pub use Rattle.assembler.specs.declared.scope.Label.{Label}
use Rattle.assembler.specs.Words.{begins_thread, instructions_of}
use Rattle.assembler.specs.Parts.{Parts, parts_of}

-- names, each with the line of its first label, and the place of the instruction that follows
abbrev pub Labels : Type 0
Labels = List (List ℕ × Label)

abbrev pub find_label : List ℕ → Labels → Option Label
find_label name labels = lookup (bytes_eq name) labels

-- with one more label, if the name has none yet
abbrev pub with_label : Labels → ℕ → ℕ → Option (List ℕ) → Labels
with_label labels line place None = labels
with_label labels line place (Some name) = if is_some (find_label name labels) then labels else labels ++ (name, record { line = line; place = place }) ∷ []

-- a thread's labels, and how many instructions it has
pub record Scope : Type 0 where
  pub labels : Labels
  pub len : ℕ

-- the scope with the label and the instruction of one more line, which has this number
abbrev pub with_line : Scope → ℕ → Parts → Scope
with_line scope line parts = record { labels = with_label scope.labels line scope.len parts.label; len = scope.len + instructions_of parts.head }

-- the scope with the lines up to the next that begins a thread
unfoldable pub scope_from : Scope → ℕ → List (List ℕ) → Scope
scope_from scope line [] = scope
scope_from scope line (l ∷ lines) = if begins_thread (parts_of l).head then scope else scope_from (with_line scope line (parts_of l)) (line + 1) lines

abbrev pub no_scope : Scope
no_scope = record { labels = []; len = 0 }

-- an earlier line of the thread has this line's label
abbrev pub is_twice : Labels → ℕ → Option (List ℕ) → Bool
is_twice labels line None = false
is_twice labels line (Some name) = option_map_or (λ (l : Label). not (l.line == line)) (find_label name labels) false
