use Rattle.std.proofs.Common.{◌≡◌, ◌+◌, ◌-◌, ◌++◌, ◌∙◌, List, sym, ap, arith, get_or, length, length-append}
use Rattle.shard_columns.specs.Roots.{each_root, root_at}
use Rattle.shard_columns.specs.declared.layout.Entry.{Entry}
use Rattle.shard_columns.proofs.EachRoot.{entry-at, entry-behind, length-each-root}
use Rattle.shard_columns.proofs.entries.Entries.at.Goals as goal

pub returns-then-row-self : goal.returns-then-row-self
returns-then-row-self c =
    let d : Entry = root_at c.args.row in
    let here : 0 + c.args.row ≡ c.args.row = omega arith in
    sym (ap root_at here) ∙ sym (ap (λ (es : List Entry). get_or es c.args.row d) (sym c.self.view_is) ∙ entry-at 0 c.self.inside.roots c.self.inside.others.items c.args.row d c.if-row-self.true)

pub index-requires : goal.index-requires
index-requires c =
    let roots = c.self.inside.roots in
    let others = c.self.inside.others.items in
    let all : length c.args.self.now ≡ length (each_root roots ++ others) = sym (ap (λ (es : List Entry). length es) c.self.view_is) in
    omega (arith, all, length-append (each_root roots) others, length-each-root 0 roots, c.requires, c.if-row-self.false, c.self.inside.others.ok.0)

pub returns : goal.returns
returns c =
    let roots = c.self.inside.roots in
    let others = c.self.inside.others.items in
    let d = c.index.result.now in
    let there : roots + (c.args.row - roots) ≡ c.args.row = omega (arith, c.if-row-self.false) in
    c.index.ensures ∙ sym (entry-behind 0 roots others (c.args.row - roots) d) ∙ ap (λ k. get_or (each_root roots ++ others) k d) there ∙ ap (λ (es : List Entry). get_or es c.args.row d) c.self.view_is
