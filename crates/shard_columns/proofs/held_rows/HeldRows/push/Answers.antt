use Rattle.std.proofs.Common.{◌≡◌, ◌+◌, ◌∙◌, [], ◌∷◌, ◌++◌, List, T, refl, sym, ap, arith, subst}
use Rattle.std.proofs.Math.Facts.{eqb_yes}
use Rattle.std.specs.Vec.{vec_len}
use Rattle.list_laws.proofs.Lists.{append-nil}
use Rattle.shard_columns.specs.Ones.{one_at, one_each}
use Rattle.shard_columns.specs.declared.values.Held.{Held}
use Rattle.shard_columns.proofs.OneEach.{no-items, one-each-more}
use Rattle.shard_columns.proofs.held_rows.HeldRows.push.Goals as goal

pub returns-then-is_one_at : goal.returns-then-is_one_at
returns-then-is_one_at c =
    let count = c.self.inside.ones in
    let others = c.self.inside.others.items in
    let held = c.args.held in
    let held_is : held ≡ one_at count = c.if-is_one_at.ensures refl in
    let long : vec_len c.self.inside.others ≡ 0 = eqb_yes (subst T c.if-is_empty.ensures tt) in
    let none : others ≡ [] = no-items others (omega (arith, long, c.self.inside.others.ok.0)) in
    let now_is = sym (append-nil (one_each count)) ∙ sym (ap (λ (hs : List Held). one_each count ++ hs) none) ∙ c.self.view_is in
    ap (λ (h : Held). one_each h.span.end ++ others) held_is ∙ ap (λ (hs : List Held). one_each (count + 1) ++ hs) none ∙ append-nil (one_each (count + 1)) ∙ sym (one-each-more count)
    ∙ ap (λ (h : Held). one_each count ++ h ∷ []) (sym held_is) ∙ ap (λ (hs : List Held). hs ++ held ∷ []) now_is
