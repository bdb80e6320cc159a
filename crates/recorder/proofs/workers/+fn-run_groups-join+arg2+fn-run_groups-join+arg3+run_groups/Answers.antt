use Rattle.std.proofs.Common.{◌≡◌, ℕ, ◌/◌, List, ◌++◌, map, sym, ◌∙◌, ap}
use Rattle.std.proofs.lemmas.List.{map-append, take-append-drop}
use Rattle.std.proofs.lemmas.Result.{IfOk-at_ok}
use Rattle.recorder.specs.Grouped.{threads_in, threads_of}
use Rattle.recorder.proofs.workers.+fn-run_groups-join+arg2+fn-run_groups-join+arg3+run_groups.Goals as goal

pub returns-clause-threads : goal.returns-clause-threads
returns-clause-threads g t c =
    let first : map threads_in c.in_ok-all.all.items ≡ map threads_of c.split_off.new.self.items = IfOk-at_ok (λ all. map threads_in all.items ≡ map threads_of c.split_off.new.self.items) c.in_ok-all.was c.join-front.ensures.first.1 in
    let second : map threads_in c.in_ok-more.more.items ≡ map threads_of c.in_ok-others.others.items = IfOk-at_ok (λ all. map threads_in all.items ≡ map threads_of c.in_ok-others.others.items) c.in_ok-more.was c.join-front.ensures.second.1 in
    let hands : c.split_off.new.self.items ++ c.in_ok-others.others.items ≡ c.args.groups.items = (λ i. c.in_ok-others.ensures.items i ++ c.in_ok-others.ensures.tail i) ∙ take-append-drop (c.len-half.result / 2) c.args.groups.items in
    ap (map threads_in) c.in_ok-append.ensures.items ∙ map-append threads_in c.in_ok-all.all.items c.in_ok-more.more.items ∙
    ap (λ (l : List (List ℕ)). l ++ map threads_in c.in_ok-more.more.items) first ∙ ap (λ (l : List (List ℕ)). map threads_of c.split_off.new.self.items ++ l) second ∙
    sym (map-append threads_of c.split_off.new.self.items c.in_ok-others.others.items) ∙ ap (map threads_of) hands
