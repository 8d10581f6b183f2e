use Rattle.std.proofs.Common.{◌∙◌, sym, ap, subst, arith, rules, ◌≡◌, ◌<◌, ◌++◌, ◌∷◌, [], length, w64, to_z, of_z}
use Rattle.std.proofs.Math.ListN.{set}
use Rattle.std.proofs.lemmas.Int.{to_z-of_z}
use Rattle.growing_tree.specs.Grouped.{AreGroups}
use Rattle.growing_tree.proofs.Grouping.{group-found, group-added}
use Rattle.growing_tree.proofs.groups.add.Goals as goal

pub returns-in_ok-push-in-Found : goal.returns-in_ok-push-in-Found
returns-in_ok-push-in-Found c = record {
  groups = λ key_of own pairs was.
      let code = c.args.code in
      let same : to_z w64 (of_z w64 code) ≡ code = to_z-of_z w64 code (search rules) in
      let l : c.in-Found.place < length c.args.groups.now.items = omega (arith, c.if-place-len.false, c.len.ensures, c.args.groups.now.ok) in
      subst (λ rows. AreGroups key_of (pairs ++ (key_of code, c.args.row) ∷ []) c.find_or_add.new.self (set c.args.groups.now.items c.in-Found.place rows)) (sym c.in_ok-push-in-Found.ensures.ok)
      (group-found key_of own pairs code (to_z w64 (of_z w64 code)) c.args.row same c.args.places.now c.find_or_add.new.self c.args.groups.now.items c.in_ok-found.found c.in_ok-found.ensures.place c.in_ok-found.ensures.distinct was c.in-Found.place c.index_mut.result.now c.in-Found.is l c.index_mut.ensures.value);
}

pub returns-in_ok-push-in-Added-2 : goal.returns-in_ok-push-in-Added-2
returns-in_ok-push-in-Added-2 c = record {
  groups = λ key_of own pairs was.
      let code = c.args.code in
      let same : to_z w64 (of_z w64 code) ≡ code = to_z-of_z w64 code (search rules) in
      let rows_are : c.push-in-Added-2.new.self.items ≡ c.args.groups.now.items ++ (c.args.row ∷ []) ∷ [] = c.in_ok-push-in-Added-2.ensures.items ∙ ap (λ rows. c.args.groups.now.items ++ rows ∷ []) (c.in_ok-push-in-Added.ensures.ok ∙ ap (λ rows. rows ++ c.args.row ∷ []) c.new-rows.ensures) in
      subst (AreGroups key_of (pairs ++ (key_of code, c.args.row) ∷ []) c.find_or_add.new.self) (sym rows_are)
      (group-added key_of own pairs code (to_z w64 (of_z w64 code)) c.args.row same c.args.places.now c.find_or_add.new.self c.args.groups.now.items c.in_ok-found.found c.in_ok-found.ensures.place c.in_ok-found.ensures.distinct was c.in-Added._place c.in-Added.is);
}
