use Rattle.std.proofs.Common.{◌≡◌, ◌++◌, List, sym, ap, arith, length, length-append}
use Rattle.shard_columns.specs.Roots.{each_root}
use Rattle.shard_columns.specs.declared.layout.Entry.{Entry}
use Rattle.shard_columns.proofs.EachRoot.{length-each-root}
use Rattle.shard_columns.proofs.entries.Entries.len.Goals as goal

pub returns : goal.returns
returns c =
    let roots = c.self.inside.roots in
    let others = c.self.inside.others.items in
    let all : length c.args.self.now ≡ length (each_root roots ++ others) = sym (ap (λ (es : List Entry). length es) c.self.view_is) in
    omega (arith, all, length-append (each_root roots) others, length-each-root 0 roots, c.len.ensures, c.self.inside.others.ok.0)
