-- What the program's values stand for.
use Rattle.std.specs.Prelude.{ℕ, List, map, option_copied}
use Rattle.std.specs.HashMap.{HashMap}
use Rattle.std.specs.Borrow.{Bor}
use Rattle.assembler.specs.declared.parts.LineParts.{LineParts}
use Rattle.assembler.specs.declared.scope.Scope.{Scope as ScopeFields}
use Rattle.assembler.specs.Lines.{tokens_of}
use Rattle.assembler.specs.Parts.{Parts}
use Rattle.assembler.specs.Labels.{Label, Labels, Scope}

-- a line's parts
abbrev pub parts_seen : LineParts → Parts
parts_seen p = record { label = option_copied p.label; head = p.head; operands = tokens_of p.operands.now }

-- labels in the order of their first lines
abbrev pub labels_seen : {S : Type 0} → HashMap (Bor (List ℕ)) Label S → Labels
labels_seen m = map (λ e. (e.0.now, e.1)) m.entries

abbrev pub scope_seen : ScopeFields → Scope
scope_seen s = record { labels = labels_seen s.labels; len = s.len }
