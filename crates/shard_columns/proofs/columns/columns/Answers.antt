use Rattle.std.proofs.Common.{◌≡◌, ◌++◌, ◌∷◌, [], List, length, sym, ◌∙◌, ap, subst, append_assoc}
use Rattle.std.specs.Prelude.{slice_get}
use Rattle.std.specs.Vec.Iter.{into_iter_items}
use Rattle.shard_columns.specs.declared.values.Draft.{Draft}
use Rattle.shard_columns.specs.Columnar.{AreFinished}
use Rattle.shard_columns.proofs.Finishing.{AreFinished-push, slice_get-between}
use Rattle.shard_columns.proofs.columns.columns.Goals as goal

pub finished-requires-clause-shaped : goal.finished-requires-clause-shaped
finished-requires-clause-shaped c =
    let steps : into_iter_items c.loop-draft.draft-iterator ≡ c.in-Some.draft ∷ into_iter_items c.next.new.self = c.in-Some.ensures.steps.0 in
    let all = sym (ap (λ (xs : List Draft). c.loop-draft.yielded ++ xs) steps) ∙ c.loop-draft.invariant.left in
    c.requires.shaped (length c.loop-draft.yielded) c.in-Some.draft (ap (λ (xs : List Draft). slice_get xs (length c.loop-draft.yielded)) (sym all) ∙ slice_get-between c.loop-draft.yielded (into_iter_items c.next.new.self) c.in-Some.draft)

pub loop-draft-preserved : goal.loop-draft-preserved
loop-draft-preserved c =
    let steps : into_iter_items c.loop-draft.draft-iterator ≡ c.in-Some.draft ∷ into_iter_items c.next.new.self = c.in-Some.ensures.steps.0 in
    record {
      left = append_assoc c.loop-draft.yielded (c.in-Some.draft ∷ []) (into_iter_items c.next.new.self) ∙ (sym (ap (λ (xs : List Draft). c.loop-draft.yielded ++ xs) steps) ∙ c.loop-draft.invariant.left);
      finished =
          subst (AreFinished c.args.homes.now c.args.ranks.now (c.loop-draft.yielded ++ c.in-Some.draft ∷ [])) (sym c.in_ok-push.ensures.items)
          (AreFinished-push c.args.homes.now c.args.ranks.now c.loop-draft.yielded c.loop-draft.columns.items c.in-Some.draft c.in_ok-finished.field-0 c.loop-draft.invariant.finished c.in_ok-finished.ensures);
    }
