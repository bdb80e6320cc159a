use Rattle.std.proofs.Common.{List, ℕ, length, ◌<◌, ◌^◌, ◌++◌, ◌∙◌, ap, subst}
use Rattle.std.specs.Prelude.{All}
use Rattle.std.specs.List.{flat_map}
use Rattle.light_base.specs.declared.tag.Tag.{Tag}
use Rattle.replay_model.specs.Logs.{ThreadLog}
use Rattle.log_file.specs.declared.version.Version.TheVariants.{Two}
use Rattle.log_file.specs.Spelling.{head_bytes, header_bytes, tag_bytes, entries_bytes, taken_bytes, address_of_end}
use Rattle.log_file.proofs.Pieces.{written, length-spelling}
use Rattle.log_file.proofs.write.write_log.Goals as goal

pub returns-clause-value : goal.returns-clause-value
returns-clause-value c =
    let headers = ap (λ (ts : List ThreadLog). c.put_head.new.out.items ++ flat_map (header_bytes Two) ts) c.threads.ensures.value in
    let tags = ap (λ (ts : List Tag). c.put_headers.new.out.items ++ flat_map tag_bytes ts) c.finals.ensures.value in
    let entries = ap (λ (ts : List ThreadLog). c.put_tags.new.out.items ++ flat_map entries_bytes ts) c.threads-2.ensures.value in
    let taken = ap (λ (ts : List ThreadLog). c.put_all_entries.new.out.items ++ flat_map taken_bytes ts) c.threads-3.ensures.value in
    let head = ap (λ (bytes : List ℕ). bytes ++ head_bytes Two c.args.log.now) c.in_ok-out.ensures.items in
    written c.args.log.now c.put_head.new.out.items c.put_headers.new.out.items c.put_tags.new.out.items c.put_all_entries.new.out.items c.put_all_taken.new.out.items
    (c.in_ok-put_head.ensures.written ∙ head) (c.in_ok-put_headers.ensures.written ∙ headers) (c.in_ok-put_tags.ensures ∙ tags) (c.in_ok-put_all_entries.ensures ∙ entries) (c.in_ok-put_all_taken.ensures.written ∙ taken)

pub returns-clause-len : goal.returns-clause-len
returns-clause-len c = ap length (returns-clause-value c) ∙ length-spelling c.args.log.now c.in_ok-put_head.ensures.digest

pub returns-clause-text : goal.returns-clause-text
returns-clause-text c = record {
  formed = c.threads.ensures.rules;
  numbers = record {
    digest = c.in_ok-put_head.ensures.digest;
    digest_bytes = c.in_ok-put_head.ensures.digest_bytes;
    addresses = subst (All (λ (t : ThreadLog). address_of_end t.end < 2 ^ 32)) c.threads.ensures.value c.in_ok-put_headers.ensures.addresses;
    taken = subst (All (λ (t : ThreadLog). All (λ n. n < 2 ^ 32) t.taken)) c.threads-3.ensures.value c.in_ok-put_all_taken.ensures.numbers;
  };
  told = tt;
  spelled = returns-clause-value c;
}
