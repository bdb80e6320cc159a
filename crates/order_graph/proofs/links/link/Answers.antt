use Rattle.std.proofs.Common.{ℕ, ◌+◌, List, [], ◌∷◌, ◌++◌, length, set, sym, ◌∙◌, ap, subst}
use Rattle.std.proofs.lemmas.List.{get_or_read}
use Rattle.plain_search.specs.declared.Edge.{Edge}
use Rattle.order_graph.specs.Links.{AreLinked}
use Rattle.order_graph.proofs.Linking.{link-one}
use Rattle.order_graph.proofs.links.link.Goals as goal

pub returns-clause-linked : goal.returns-clause-linked
returns-clause-linked c =
    let edges = c.push_reserved-2.ensures.items in
    let older = c.push_reserved.ensures.items in
    let last = c.len.ensures ∙ c.push_reserved-2.ensures.len ∙ ap (λ (n : ℕ). n + 1) c.args.edges.now.ok.0 in
    let one = link-one (length c.args.heads.now.items) c.args.edges.now.items c.args.heads.now.items c.args.older.now.items c.args.edge c.index.result.now c.len.result c.requires.linked c.requires.to
    (get_or_read c.args.heads.now.items c.args.edge.to c.index.result.now c.requires.to c.index.ensures 0) last in
    subst (λ (z : List ℕ). AreLinked (length c.args.heads.now.items) c.push_reserved-2.new.self.items (set c.args.heads.now.items c.args.edge.to c.len.result) z) (sym older)
    (subst (λ (z : List Edge). AreLinked (length c.args.heads.now.items) z (set c.args.heads.now.items c.args.edge.to c.len.result) (c.args.older.now.items ++ c.index.result.now ∷ [])) (sym edges) one)
