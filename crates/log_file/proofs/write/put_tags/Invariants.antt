use Rattle.std.proofs.Common.{◌≡◌, ◌++◌, take}
use Rattle.std.specs.List.{flat_map}
use Rattle.log_file.specs.Spelling.{tag_bytes}
use Rattle.log_file.proofs.write.put_tags.Given as goal

abbrev pub invariant-loop-tag : goal.invariant-loop-tag
invariant-loop-tag l = l.out.items ≡ l.fn.out.items ++ flat_map tag_bytes (take l.tag-index l.tags)
