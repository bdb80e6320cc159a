-- The lines of a text, and the tokens of a line.
use Rattle.std.specs.Prelude.{ℕ, Bool, true, false, ◌||◌, ◌==◌, List, [], ◌∷◌, if◌then◌else◌, filter}
use Rattle.std.specs.List.{onto_first, before_first}

-- the pieces of a list, each of which ends with an element that passes, or with the list; after the last such element there is no further piece
abbrev pub pieces : (ℕ → Bool) → List ℕ → List (List ℕ)
pieces is_end [] = []
pieces is_end (b ∷ bs) = if is_end b then [] ∷ pieces is_end bs else onto_first b (pieces is_end bs)

-- a line ends with byte 10, or with the text
abbrev pub is_line_end : ℕ → Bool
is_line_end b = b == 10

abbrev pub lines_of : List ℕ → List (List ℕ)
lines_of text = pieces is_line_end text

-- a comment begins with a semicolon
abbrev pub is_comment_start : ℕ → Bool
is_comment_start b = b == 59

-- a line up to its comment
abbrev pub before_comment : List ℕ → List ℕ
before_comment line = before_first is_comment_start line

-- space, tab, byte 13 and comma separate tokens
abbrev pub is_blank : ℕ → Bool
is_blank b = (b == 32) || (b == 9) || (b == 13) || (b == 44)

abbrev pub is_some_bytes : List ℕ → Bool
is_some_bytes [] = false
is_some_bytes (b ∷ bs) = true

-- the tokens: the pieces between blanks that have a byte
abbrev pub tokens_of : List ℕ → List (List ℕ)
tokens_of bytes = filter is_some_bytes (pieces is_blank bytes)
