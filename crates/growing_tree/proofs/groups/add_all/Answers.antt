use Rattle.std.proofs.Common.{◌≡◌, ◌++◌, ◌∷◌, [], ◌<◌, ◌∙◌, ap, subst, arith, rules, length, get_or, pos, ℤ, take, map, w64, to_z, of_z}
use Rattle.std.proofs.lemmas.Int.{to_z-of_z}
use Rattle.std.proofs.lemmas.Option.{slice_get-get_or}
use Rattle.growing_tree.specs.Grouped.{AreGroups}
use Rattle.growing_tree.proofs.Children.{take-full}
use Rattle.growing_tree.proofs.Grouping.{pairs-more}
use Rattle.growing_tree.proofs.groups.add_all.Goals as goal

pub loop-place-preserved : goal.loop-place-preserved
loop-place-preserved c key_of own pairs was =
    let codes = c.args.codes.now in
    let i = c.loop-place.place in
    let code = get_or codes i (pos 0) in
    let same : to_z w64 (of_z w64 code) ≡ code = to_z-of_z w64 code (search rules) in
    let l : i < length codes = omega (arith, c.loop-place-test.true) in
    let now = c.in_ok-add.ensures.groups key_of own _ (c.loop-place.invariant key_of own pairs was) in
    subst (λ ps. AreGroups key_of ps c.add.new.places c.add.new.groups.items)
    (ap (λ (x : ℤ). (pairs ++ map (λ k. (k, c.args.row)) (map key_of (take i codes))) ++ (key_of x, c.args.row) ∷ []) same ∙ pairs-more key_of pairs codes i code c.args.row (slice_get-get_or codes i (pos 0) l)) now

pub returns : goal.returns
returns c = record {
  groups = λ key_of own pairs was.
      let codes = c.args.codes.now in
      let a = c.loop-place.invariant key_of own pairs was in
      subst (λ cs. AreGroups key_of (pairs ++ map (λ k. (k, c.args.row)) (map key_of cs)) c.loop-place.places c.loop-place.groups.items) (take-full codes c.loop-place.place (omega (arith, c.loop-place-test.false))) a;
}
