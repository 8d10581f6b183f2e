use Rattle.std.proofs.Common.{◌≡◌, ◌<◌, ◌++◌, ◌∷◌, ◌+◌, [], List, true, take, ◌∙◌, sym, subst}
use Rattle.std.proofs.lemmas.Result.{IfOk-weaker}
use Rattle.agg_model.specs.declared.limits.TheConstants.{WEIGHT_LIMIT}
use Rattle.agg_model.specs.declared.row.Document.{Document}
use Rattle.agg_evaluation.specs.DocumentFits.{all_fit}
use Rattle.agg_evaluation.specs.Rows.{rows_of_documents}
use Rattle.agg_evaluation.specs.RowsWeight.{rows_weight}
use Rattle.shard_columns.specs.Built.{columns_from}
use Rattle.shard_columns.specs.Drafted.{IsDraftOf, IsFinishedFrom}
use Rattle.shard_columns.proofs.Laying.{take-next, all-taken}
use Rattle.shard_columns.proofs.Pushing.{admitted}
use Rattle.shard_columns.proofs.shard.Shard.build.Goals as goal

pub push-requires : goal.push-requires
push-requires c =
    let m = c.args.mapping.now in
    let items = c.as_slice-document-items.result.now in
    let k = c.loop-document.document-index in
    let d = c.document-item.result in
    let next : take (k + 1) items ≡ take k items ++ d ∷ [] = take-next items k d c.loop-document-test.true c.document-item.is in
    let same = sym c.as_slice-document-items.ensures in
    let fit = subst (λ (ds : List Document). all_fit m ds ≡ true) same c.requires.fit in
    let light = subst (λ (ds : List Document). rows_weight (rows_of_documents ds) < WEIGHT_LIMIT) same c.requires.light in
    (m, (take k items, (c.loop-document.invariant, admitted m items k d fit light next)))

pub loop-document-preserved : goal.loop-document-preserved
loop-document-preserved c =
    let m = c.args.mapping.now in
    let items = c.as_slice-document-items.result.now in
    let k = c.loop-document.document-index in
    let d = c.document-item.result in
    let next : take (k + 1) items ≡ take k items ++ d ∷ [] = take-next items k d c.loop-document-test.true c.document-item.is in
    let same = sym c.as_slice-document-items.ensures in
    let fit = subst (λ (ds : List Document). all_fit m ds ≡ true) same c.requires.fit in
    let light = subst (λ (ds : List Document). rows_weight (rows_of_documents ds) < WEIGHT_LIMIT) same c.requires.light in
    subst (λ (ds : List Document). IsDraftOf m ds c.push.new.self) (sym next) (c.in_ok-push.ensures m (take k items) c.loop-document.invariant (admitted m items k d fit light next))

pub finish-requires : goal.finish-requires
finish-requires c = (take c.loop-document.document-index c.as_slice-document-items.result.now, c.loop-document.invariant)

pub returns : goal.returns
returns c =
    let all = all-taken c.as_slice-document-items.result.now c.loop-document.document-index c.loop-document-test.false ∙ c.as_slice-document-items.ensures in
    let m = c.args.mapping.now in
    let documents = c.args.documents.now in
    IfOk-weaker c.finish.result (IsFinishedFrom m c.loop-document.draft) (λ s. s ≡ columns_from m documents)
    (λ s finished. finished documents (subst (λ (ds : List Document). IsDraftOf m ds c.loop-document.draft) all c.loop-document.invariant)) c.finish.ensures
