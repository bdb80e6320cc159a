-- The parts of a line: an optional label, and an optional item.
use Rattle.std.specs.Prelude.{ℕ, ◌-◌, Bool, ◌||◌, ◌==◌, List, [], ◌∷◌, length, take, slice_index, if◌then◌else◌, Option, None, Some, is_some}
use Rattle.std.specs.List.{list_all}
use Rattle.assembler.specs.Lines.{before_comment, tokens_of}
use Rattle.assembler.specs.Words.{Head, head_of, is_between}
use Rattle.assembler.specs.declared.head.Head.TheVariants as head

-- the name before the colon of a token that ends with one
abbrev pub label_in : List ℕ → Option (List ℕ)
label_in token = if slice_index token (length token - 1) == 58 then Some (take (length token - 1) token) else None

-- a first token that ends with a colon is a label
abbrev pub label_of : List (List ℕ) → Option (List ℕ)
label_of [] = None
label_of (token ∷ tokens) = label_in token

-- the tokens without a label
abbrev pub item_of : List (List ℕ) → List (List ℕ)
item_of [] = []
item_of (token ∷ tokens) = if is_some (label_in token) then tokens else token ∷ tokens

-- what a line says: its label, what its item begins with, and the tokens after that
pub record Parts : Type 0 where
  pub label : Option (List ℕ)
  pub head : Head
  pub operands : List (List ℕ)

abbrev pub first_of : List (List ℕ) → Head
first_of [] = head.Nothing
first_of (word ∷ words) = head_of word

abbrev pub after_first_of : List (List ℕ) → List (List ℕ)
after_first_of [] = []
after_first_of (word ∷ words) = words

abbrev pub parts_in : List (List ℕ) → Parts
parts_in tokens = record { label = label_of tokens; head = first_of (item_of tokens); operands = after_first_of (item_of tokens) }

abbrev pub parts_of : List ℕ → Parts
parts_of line = parts_in (tokens_of (before_comment line))

-- a byte that a line may have, in a comment too: tab, byte 13, and 32 to 126
abbrev pub is_plain_byte : ℕ → Bool
is_plain_byte b = (b == 9) || (b == 13) || is_between 32 126 b

abbrev pub is_plain : List ℕ → Bool
is_plain line = list_all is_plain_byte line
