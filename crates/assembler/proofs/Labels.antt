-- Labels that are kept in a map.
use Rattle.std.proofs.Common.{◌≡◌, ℕ, Bool, cond, List, [], ◌∷◌, ◌++◌, map, Option, None, Some, is_some, nat_eq, refl, ap, ◌∙◌}
use Rattle.std.specs.HashMap.{HashMap}
use Rattle.std.specs.Map.{lookup}
use Rattle.std.specs.Borrow.{Bor}
use Rattle.std.specs.Cmp.Lexicographic.{pointwise}
use Rattle.std.proofs.lemmas.List.{map-append}
use Rattle.indexmap.specs.IndexMap.{insert_entry}
use Rattle.indexmap.proofs.CallerLemmas.{insert_entry-new}
use Rattle.assembler.specs.Labels.{Label, Labels, find_label}
use Rattle.assembler.specs.Seen.{labels_seen}

abbrev Name : Type 0
Name = Bor (List ℕ)

abbrev same_name : Name → Name → Bool
same_name x y = pointwise nat_eq x.now y.now

abbrev entry_seen : Name × Label → List ℕ × Label
entry_seen e = (e.0.now, e.1)

-- a look-up in the map finds what the labels have
pub find_seen : (name : List ℕ) (es : List (Name × Label)) → lookup (λ (k : Name). pointwise nat_eq name k.now) es ≡ find_label name (map entry_seen es)
find_seen name [] = refl
find_seen name (e ∷ es) = ap (λ r. cond (pointwise nat_eq name e.0.now) (Some e.1) r) (find_seen name es)

-- a name that has no label yet goes last
pub labels_push : {S : Type 0} (m n : HashMap Name Label S) (k : Name) (v : Label) → n.entries ≡ insert_entry same_name m.entries k v → find_label k.now (labels_seen m) ≡ None
    → labels_seen n ≡ labels_seen m ++ (k.now, v) ∷ []
labels_push m n k v e none =
    ap (map entry_seen) (e ∙ insert_entry-new same_name m k v (find_seen k.now m.entries ∙ none)) ∙ map-append entry_seen m.entries ((k, v) ∷ [])

-- and is the name's label then
pub with_new : (o : Option Label) (a b : Labels) → o ≡ None → b ≡ cond (is_some o) a b
with_new None a b e = refl
with_new (Some l) a b e = absurd (cc)
