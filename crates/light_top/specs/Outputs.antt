-- What a command gives: a text that is printed, and a file that is saved.
use Rattle.std.specs.Prelude.{ℕ, List, [], None, Some}
pub use Rattle.light_top.specs.declared.output.Saved.{Saved}
pub use Rattle.light_top.specs.declared.output.Output.{Output}

-- a text, and no file
abbrev pub printed : List ℕ → Output
printed text = record { text = text; saved = None }

-- a text, and a file of this name with these bytes
abbrev pub printed_and_saved : List ℕ → List ℕ → List ℕ → Output
printed_and_saved text name bytes = record { text = text; saved = Some (record { name = name; bytes = bytes }) }

-- no text, and such a file
abbrev pub saved : List ℕ → List ℕ → Output
saved name bytes = printed_and_saved [] name bytes
