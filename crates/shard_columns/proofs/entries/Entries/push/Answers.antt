use Rattle.std.proofs.Common.{◌≡◌, ◌+◌, ◌∙◌, [], ◌∷◌, ◌++◌, List, T, refl, sym, ap, arith, subst}
use Rattle.std.proofs.Math.Facts.{eqb_yes}
use Rattle.std.specs.Vec.{vec_len}
use Rattle.list_laws.proofs.Lists.{append-nil}
use Rattle.shard_columns.specs.Roots.{each_root, root_at}
use Rattle.shard_columns.specs.declared.layout.Entry.{Entry}
use Rattle.shard_columns.proofs.EachRoot.{each-root-more}
use Rattle.shard_columns.proofs.OneEach.{no-items}
use Rattle.shard_columns.proofs.entries.Entries.push.Goals as goal

pub returns-then-is_root_at : goal.returns-then-is_root_at
returns-then-is_root_at c =
    let count = c.self.inside.roots in
    let others = c.self.inside.others.items in
    let entry = c.args.entry in
    let entry_is : entry ≡ root_at count = c.if-is_root_at.ensures.root refl in
    let long : vec_len c.self.inside.others ≡ 0 = eqb_yes (subst T c.if-is_empty.ensures tt) in
    let none : others ≡ [] = no-items others (omega (arith, long, c.self.inside.others.ok.0)) in
    let now_is = sym (append-nil (each_root count)) ∙ sym (ap (λ (es : List Entry). each_root count ++ es) none) ∙ c.self.view_is in
    ap (λ (es : List Entry). each_root (count + 1) ++ es) none ∙ append-nil (each_root (count + 1)) ∙ sym (each-root-more count)
    ∙ ap (λ (e : Entry). each_root count ++ e ∷ []) (sym entry_is) ∙ ap (λ (es : List Entry). es ++ entry ∷ []) now_is
