use Rattle.std.proofs.Common.{◌≡◌, ◌++◌, ◌∷◌, ℕ, refl, arith, List, [], length, get_or, sym, ◌∙◌, ap, append_assoc}
use Rattle.std.specs.Prelude.{slice_get}
use Rattle.std.specs.Vec.Iter.{into_iter_items}
use Rattle.std.proofs.lemmas.List.{append-nil}
use Rattle.shard_columns.specs.declared.draft.ShardDraft.{ShardDraft}
use Rattle.shard_columns.proofs.Finishing.{slice_get-between}
use Rattle.column_loading.proofs.Finished.{finished-next, finished-all}
use Rattle.column_loading.proofs.drafts.finished.Goals as goal

no_items : (drafts : List ShardDraft) (n : ℕ) → n ≡ length drafts → n ≡ 0 → drafts ≡ []
no_items [] n is none = refl
no_items (d ∷ ds) n is none = absurd (omega (arith, is, none))

pub loop-draft-init : goal.loop-draft-init
loop-draft-init c = record { left = c.into_iter-draft-iterator.ensures.into_iter_gives.0; finished = λ lists are. c.new-shards.ensures }

pub finish-requires : goal.finish-requires
finish-requires c =
    let steps : into_iter_items c.loop-draft.draft-iterator ≡ c.in-Some.draft ∷ into_iter_items c.next.new.self = c.in-Some.ensures.steps.0 in
    let all = sym (ap (λ (xs : List ShardDraft). c.loop-draft.yielded ++ xs) steps) ∙ c.loop-draft.invariant.left in
    let at = ap (λ (xs : List ShardDraft). slice_get xs (length c.loop-draft.yielded)) (sym all) ∙ slice_get-between c.loop-draft.yielded (into_iter_items c.next.new.self) c.in-Some.draft in
    (get_or c.requires.0 (length c.loop-draft.yielded) [], c.requires.1.each (length c.loop-draft.yielded) c.in-Some.draft at)

pub loop-draft-preserved : goal.loop-draft-preserved
loop-draft-preserved c =
    let steps : into_iter_items c.loop-draft.draft-iterator ≡ c.in-Some.draft ∷ into_iter_items c.next.new.self = c.in-Some.ensures.steps.0 in
    let all = sym (ap (λ (xs : List ShardDraft). c.loop-draft.yielded ++ xs) steps) ∙ c.loop-draft.invariant.left in
    let at = ap (λ (xs : List ShardDraft). slice_get xs (length c.loop-draft.yielded)) (sym all) ∙ slice_get-between c.loop-draft.yielded (into_iter_items c.next.new.self) c.in-Some.draft in
    record {
      left = append_assoc c.loop-draft.yielded (c.in-Some.draft ∷ []) (into_iter_items c.next.new.self) ∙ all;
      finished = λ lists are. c.in_ok-push.ensures.ok
          ∙ finished-next c.args.mapping.now lists c.args.drafts.items c.loop-draft.yielded c.in-Some.draft c.loop-draft.shards c.in_ok-finish.field-0 are at c.in_ok-finish.ensures (c.loop-draft.invariant.finished lists are);
    }

pub returns : goal.returns
returns c = λ lists are.
    let none : into_iter_items c.loop-draft.draft-iterator ≡ [] = no_items c.loop-draft.draft-iterator.rest.items c.loop-draft.draft-iterator.rest.len c.loop-draft.draft-iterator.rest.ok.0 c.in-None.ensures.steps.0 in
    let whole : c.loop-draft.yielded ≡ c.args.drafts.items = sym (append-nil c.loop-draft.yielded) ∙ (ap (λ (xs : List ShardDraft). c.loop-draft.yielded ++ xs) (sym none) ∙ c.loop-draft.invariant.left) in
    finished-all c.args.mapping.now lists c.args.drafts.items c.loop-draft.yielded c.loop-draft.shards are whole (c.loop-draft.invariant.finished lists are)
