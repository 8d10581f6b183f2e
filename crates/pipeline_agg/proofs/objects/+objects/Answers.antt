use Rattle.std.proofs.Common.{◌≡◌, ◌∙◌, ℕ, ◌+◌, ◌<◌, List, [], ◌∷◌, ◌++◌, refl, sym, ap, subst, map, arith, rules, SFits, w64}
use Rattle.std.specs.Prelude.{flat_map, slice_get, option_copied, Some, None, Result, Ok, Err, Vec}
use Rattle.std.specs.declared.alloc.Global.{Global}
use Rattle.std.specs.Vec.Iter.{into_iter_items}
use Rattle.std.proofs.lemmas.Int.{to_z-of_z}
use Rattle.std.proofs.lemmas.Result.{err_from_is_err_and}
use Rattle.agg_model.specs.declared.aggregation.Agg.{Agg, out-Agg}
use Rattle.agg_model.specs.declared.answer.BucketAnswer.{BucketAnswer, out-BucketAnswer}
use Rattle.agg_model.specs.declared.answer.NodeAnswer.{NodeAnswer, out-NodeAnswer}
use Rattle.agg_model.specs.declared.pipeline.Pipe.{Pipe}
use Rattle.agg_spec.specs.Notes.{pipes_within}
use Rattle.agg_spec.specs.RangeCheck.{check_bucket, checker}
use Rattle.pipeline_agg.specs.Bounds.{AreInRange}
use Rattle.pipeline_agg.specs.Entries.{AreFit, View, entry_cmp, said_notes, view_of}
use Rattle.list_laws.specs.Sorting.{sorted}
use Rattle.pipeline_agg.specs.Objects.{AreBuckets, IsKept, IsNode, items_of, object_entries, remarked_buckets, wide_bucket}
use Rattle.pipeline_agg.specs.Placed.{IsLevel, pipes_of}
use Rattle.pipeline_agg.specs.Told.{IsCause, unsorted}
use Rattle.pipeline_agg.specs.declared.fault.PipeFault.{PipeFault}
use Rattle.pipeline_agg.specs.declared.objects.RemarkedNode.{RemarkedNode}
use Rattle.pipeline_agg.specs.declared.objects.RemarkedNodes.{RemarkedNodes}
use Rattle.pipeline_agg.specs.declared.placed.Placed.{Placed}
use Rattle.pipeline_agg.specs.declared.remarked.RemarkedBucket.{RemarkedBucket}
use Rattle.pipeline_agg.proofs.InRange.{bucket-here, buckets-later, buckets-of-answer, children-of-bucket}
use Rattle.pipeline_agg.proofs.BucketLaws.{Stands, fault-stands, next-stands, nodes-fit, own-fit}
use Rattle.pipeline_agg.proofs.MadeLaws.{no-pipes, node-again, node-fault, node-made}
use Rattle.pipeline_agg.proofs.NodesLaws.{Listed, bare-listed, children_less, end-listed, get-within, in-range-here, next-listed, no-items, part-here, size-at}
use Rattle.pipeline_agg.proofs.PlainNodes.{plain-node}
use Rattle.pipeline_agg.proofs.objects.+objects.Goals as goal

here-in-range : (children : List Agg) (b : BucketAnswer) (bs left : List BucketAnswer) → bs ≡ b ∷ left → flat_map (check_bucket (map checker children)) bs ≡ [] → AreInRange children (out-BucketAnswer b).children
here-in-range children b bs left e h = children-of-bucket children b (bucket-here children b left (sym (ap (flat_map (check_bucket (map checker children))) e) ∙ h))

left-in-range : (children : List Agg) (b : BucketAnswer) (bs left : List BucketAnswer) → bs ≡ b ∷ left → flat_map (check_bucket (map checker children)) bs ≡ [] → flat_map (check_bucket (map checker children)) left ≡ []
left-in-range children b bs left e h = buckets-later children b left (sym (ap (flat_map (check_bucket (map checker children))) e) ∙ h)

-- the same place, by the iterator's count
listed-from : (aggs : List Agg) (pipes : List Pipe) (nodes : List NodeAnswer) (place count : ℕ) (before left : List NodeAnswer) (told : RemarkedNodes) → place ≡ count → before ≡ left
    → Listed aggs pipes nodes count before told → Listed aggs pipes nodes place left told
listed-from aggs pipes nodes place count before left told same items h =
    subst (λ (ns : List NodeAnswer). Listed aggs pipes nodes place ns told) items (subst (λ (n : ℕ). Listed aggs pipes nodes n before told) (sym same) h)

listed-at : (aggs : List Agg) (pipes : List Pipe) (nodes : List NodeAnswer) (place count next : ℕ) (left : List NodeAnswer) (told : RemarkedNodes) → place ≡ count → next ≡ count + 1
    → Listed aggs pipes nodes (place + 1) left told → Listed aggs pipes nodes next left told
listed-at aggs pipes nodes place count next left told same more h =
    let is : place + 1 ≡ next = omega arith in subst (λ (n : ℕ). Listed aggs pipes nodes n left told) is h

-- an error is handed on
refused : (children : List Agg) (pipes : List Pipe) (bs : List BucketAnswer) (r : Result (Vec RemarkedBucket Global) PipeFault) (f g : PipeFault) → r ≡ Err g → g ≡ f
    → IsCause (wide_bucket (remarked_buckets children (unsorted pipes) bs)) f → AreBuckets children pipes bs (items_of r)
refused children pipes bs r f g e same h = subst (λ (s : Result (Vec RemarkedBucket Global) PipeFault). AreBuckets children pipes bs (items_of s)) (sym (e ∙ ap Err same)) h

refused-node : (a : Agg) (pipes : List Pipe) (n : NodeAnswer) (r : Result RemarkedNode PipeFault) (f g : PipeFault) → r ≡ Err g → g ≡ f → IsNode a pipes n (Err f) → IsNode a pipes n r
refused-node a pipes n r f g e same h = subst (λ (s : Result RemarkedNode PipeFault). IsNode a pipes n s) (sym (e ∙ ap Err same)) h

pub piped_buckets-bucket_entries-requires-clause-in_range : goal.piped_buckets-bucket_entries-requires-clause-in_range
piped_buckets-bucket_entries-requires-clause-in_range t c =
    here-in-range c.args.children.now c.in-Some.bucket (into_iter_items c.loop-bucket.bucket-iterator) (into_iter_items c.next.new.self) c.in-Some.ensures.steps.0 c.loop-bucket.invariant.in_range

pub piped_buckets-piped_bucket-requires : goal.piped_buckets-piped_bucket-requires
piped_buckets-piped_bucket-requires t c = (
  omega (arith, c.decreases),
  (c.requires.level, here-in-range c.args.children.now c.in-Some.bucket (into_iter_items c.loop-bucket.bucket-iterator) (into_iter_items c.next.new.self) c.in-Some.ensures.steps.0 c.loop-bucket.invariant.in_range),
)

pub piped_buckets-returns-in_err-piped_bucket : goal.piped_buckets-returns-in_err-piped_bucket
piped_buckets-returns-in_err-piped_bucket t c =
    let children = c.args.children.now in
    let pipes = pipes_of c.args.level.now.pipes.now in
    let left = into_iter_items c.next.new.self in
    let p = err_from_is_err_and c.from_residual-in_err-piped_bucket.result c.from_residual-in_err-piped_bucket.ensures.1 in
    let stands : Stands children pipes c.args.buckets c.loop-bucket.tellers.items (c.in-Some.bucket ∷ left) c.loop-bucket.remarked.items =
    subst (λ (bs : List BucketAnswer). Stands children pipes c.args.buckets c.loop-bucket.tellers.items bs c.loop-bucket.remarked.items) c.in-Some.ensures.steps.0 c.loop-bucket.invariant.stands in
    refused children pipes c.args.buckets c.from_residual-in_err-piped_bucket.result c.in_err-piped_bucket.field-0.0 p.0 p.1 p.2
    (fault-stands children pipes c.args.buckets c.loop-bucket.tellers.items c.in-Some.bucket left c.loop-bucket.remarked.items stands (map view_of c.in_ok-own.own.items) c.in_ok-own.ensures.told c.in_err-piped_bucket.field-0.0 c.in_err-piped_bucket.ensures)

pub piped_buckets-loop-bucket-preserved : goal.piped_buckets-loop-bucket-preserved
piped_buckets-loop-bucket-preserved t c =
    let children = c.args.children.now in
    let pipes = pipes_of c.args.level.now.pipes.now in
    let left = into_iter_items c.next.new.self in
    let own = map view_of c.in_ok-own.own.items in
    let stands : Stands children pipes c.args.buckets c.loop-bucket.tellers.items (c.in-Some.bucket ∷ left) c.loop-bucket.remarked.items =
    subst (λ (bs : List BucketAnswer). Stands children pipes c.args.buckets c.loop-bucket.tellers.items bs c.loop-bucket.remarked.items) c.in-Some.ensures.steps.0 c.loop-bucket.invariant.stands in
    record {
      next = tt;
      finite = tt;
      small = c.in_ok-own.ensures.small (own-fit children pipes own c.in-Some.bucket c.in_ok-piped_bucket.ensures.1.0);
      in_range = left-in-range children c.in-Some.bucket (into_iter_items c.loop-bucket.bucket-iterator) left c.in-Some.ensures.steps.0 c.loop-bucket.invariant.in_range;
      stands =
          subst (λ (rs : List RemarkedBucket). Stands children pipes c.args.buckets c.bucket_entries.new.tellers.items left rs) (sym c.in_ok-push.ensures.items)
          (next-stands children pipes c.args.buckets c.loop-bucket.tellers.items c.in-Some.bucket left c.loop-bucket.remarked.items stands own c.in_ok-own.ensures.told
          c.bucket_entries.new.tellers.items c.in_ok-piped_bucket.field-0 c.in_ok-own.ensures.kept c.in_ok-piped_bucket.ensures);
    }

pub piped_node-returns-then-is_empty : goal.piped_node-returns-then-is_empty
piped_node-returns-then-is_empty t c =
    plain-node c.args.agg.now c.args.node (pipes_of c.args.pipes.now) (record { node = c.args.node; notes = c.new.result }) (no-pipes c.args.pipes.now (sym c.is_empty.ensures ∙ c.if-is_empty.true)) refl c.new.ensures

pub piped_node-piped_buckets-requires : goal.piped_node-piped_buckets-requires
piped_node-piped_buckets-requires t c = (
  omega (arith, c.decreases, children_less c.args.agg.now),
  (subst (λ (n : ℕ). IsLevel n c.in_ok-level.level) c.len.ensures c.in_ok-level.ensures.level, buckets-of-answer c.args.agg.now c.args.node c.requires.in_range),
)

pub piped_node-returns-in_err-remarked : goal.piped_node-returns-in_err-remarked
piped_node-returns-in_err-remarked t c =
    let a = c.args.agg.now in
    let n = c.args.node in
    let p = err_from_is_err_and c.from_residual-in_err-remarked.result c.from_residual-in_err-remarked.ensures.1 in
    let cause = subst (λ (ps : List Placed). IsCause (wide_bucket (remarked_buckets (out-Agg a).children (unsorted (pipes_of ps)) (out-NodeAnswer n).buckets)) c.in_err-remarked.field-0.0) c.in_ok-level.ensures.pipes c.in_err-remarked.ensures in
    refused-node a (pipes_of c.args.pipes.now) n c.from_residual-in_err-remarked.result c.in_err-remarked.field-0.0 p.0 p.1 p.2 (node-fault a (pipes_of c.args.pipes.now) n c.in_err-remarked.field-0.0 cause)

pub piped_node-returns : goal.piped_node-returns
piped_node-returns t c =
    let a = c.args.agg.now in
    let n = c.args.node in
    let told = subst (λ (ps : List Placed). AreBuckets (out-Agg a).children (pipes_of ps) (out-NodeAnswer n).buckets (Ok c.in_ok-remarked.remarked.items)) c.in_ok-level.ensures.pipes c.in_ok-remarked.ensures in
    let fits : SFits w64 (out-NodeAnswer n).error = search rules in
    node-made a (pipes_of c.args.pipes.now) n c.in_ok-remarked.remarked.items c.arrange.new.buckets.items c.in_ok-buckets.buckets c.in_ok-buckets.notes _ told c.in_ok-arrange.ensures c.in_ok-buckets.ensures.buckets c.in_ok-buckets.ensures.notes
    (node-again n c.in_ok-buckets.buckets _ (to_z-of_z w64 (out-NodeAnswer n).error fits)) refl

pub piped_nodes-piped_node-piped-requires : goal.piped_nodes-piped_node-piped-requires
piped_nodes-piped_node-piped-requires t c =
    let aggs = c.args.aggs.now in
    let pipes = pipes_of c.args.level.now.pipes.now in
    let left = into_iter_items c.next.new.self.iter in
    let is : slice_get aggs c.in-Some.place ≡ Some c.in-Some-get.agg.now = sym c.get.ensures ∙ ap option_copied c.in-Some-get.is in
    let listed : Listed aggs pipes c.args.nodes c.in-Some.place (c.in-Some.node ∷ left) c.loop-place.told =
    listed-from aggs pipes c.args.nodes c.in-Some.place c.loop-place.place-iterator.count (into_iter_items c.loop-place.place-iterator.iter) (c.in-Some.node ∷ left) c.loop-place.told c.in-Some.ensures.steps.1 c.in-Some.ensures.steps.0.0 c.loop-place.invariant.listed in (
      omega (arith, c.decreases, size-at aggs c.in-Some.place c.in-Some-get.agg.now is),
      in-range-here aggs pipes c.args.nodes c.in-Some.place c.in-Some.node left c.loop-place.told listed c.in-Some-get.agg.now is,
    )

pub piped_nodes-loop-place-preserved-in-Continue-1 : goal.piped_nodes-loop-place-preserved-in-Continue-1
piped_nodes-loop-place-preserved-in-Continue-1 t c =
    let aggs = c.args.aggs.now in
    let agg = c.in-Some-get.agg.now in
    let place = c.in-Some.place in
    let pipes = pipes_of c.args.level.now.pipes.now in
    let left = into_iter_items c.next.new.self.iter in
    let is : slice_get aggs place ≡ Some agg = sym c.get.ensures ∙ ap option_copied c.in-Some-get.is in
    let listed : Listed aggs pipes c.args.nodes place (c.in-Some.node ∷ left) c.loop-place.told =
    listed-from aggs pipes c.args.nodes place c.loop-place.place-iterator.count (into_iter_items c.loop-place.place-iterator.iter) (c.in-Some.node ∷ left) c.loop-place.told c.in-Some.ensures.steps.1 c.in-Some.ensures.steps.0.0 c.loop-place.invariant.listed in
    let within = get-within aggs place agg is in
    let part = c.index-part.result.now in
    let inner : pipes_of c.as_slice.result.now ≡ pipes_within place pipes =
    ap pipes_of c.as_slice.ensures.value ∙ sym (part-here c.args.level.now.within.items place part (subst (λ (n : ℕ). place < n) (sym c.requires.level.0) within) c.index-part.ensures)
    ∙ c.requires.level.1 place within in
    let node = subst (λ (ps : List Pipe). IsNode agg ps c.in-Some.node c.piped_node-piped.result) inner c.piped_node-piped.ensures in
    let kept : IsKept place agg c.piped_node-piped.result c.loop-place.told c.keep.new.told = c.in_ok-keep-in-Some-get.ensures in
    record {
      next = search rules;
      finite = tt;
      listed =
          listed-at aggs pipes c.args.nodes place c.loop-place.place-iterator.count c.next.new.self.count left c.keep.new.told c.in-Some.ensures.steps.1 c.in-Some.ensures.steps.2
          (next-listed aggs pipes c.args.nodes place c.in-Some.node left c.loop-place.told listed agg c.piped_node-piped.result c.keep.new.told is node kept);
    }

pub piped_nodes-loop-place-preserved : goal.piped_nodes-loop-place-preserved
piped_nodes-loop-place-preserved t c =
    let aggs = c.args.aggs.now in
    let place = c.in-Some.place in
    let pipes = pipes_of c.args.level.now.pipes.now in
    let left = into_iter_items c.next.new.self.iter in
    let new : RemarkedNodes = record { nodes = c.push.new.self; entries = c.loop-place.told.entries } in
    let is : slice_get aggs place ≡ None = sym c.get.ensures ∙ ap option_copied c.in-None-get.is in
    let more : c.push.new.self ≡ c.loop-place.told.nodes ++ c.in-Some.node ∷ [] = c.in_ok-push-in-None-get.ensures.ok in
    let listed : Listed aggs pipes c.args.nodes place (c.in-Some.node ∷ left) c.loop-place.told =
    listed-from aggs pipes c.args.nodes place c.loop-place.place-iterator.count (into_iter_items c.loop-place.place-iterator.iter) (c.in-Some.node ∷ left) c.loop-place.told c.in-Some.ensures.steps.1 c.in-Some.ensures.steps.0.0 c.loop-place.invariant.listed in
    record {
      next = search rules;
      finite = tt;
      listed =
          listed-at aggs pipes c.args.nodes place c.loop-place.place-iterator.count c.next.new.self.count left new c.in-Some.ensures.steps.1 c.in-Some.ensures.steps.2
          (bare-listed aggs pipes c.args.nodes place c.in-Some.node left c.loop-place.told listed new is more refl);
    }

pub piped_nodes-returns : goal.piped_nodes-returns
piped_nodes-returns t c =
    let aggs = c.args.aggs.now in
    let pipes = pipes_of c.args.level.now.pipes.now in
    let rest = c.loop-place.place-iterator.iter.rest in
    let none : into_iter_items c.loop-place.place-iterator.iter ≡ [] = no-items rest.items rest.len rest.ok.0 c.in-None.ensures.steps.0.0 in
    end-listed aggs pipes c.args.nodes c.loop-place.place-iterator.count c.loop-place.told
    (subst (λ (ns : List NodeAnswer). Listed aggs pipes c.args.nodes c.loop-place.place-iterator.count ns c.loop-place.told) none c.loop-place.invariant.listed)

pub piped_object-returns : goal.piped_object-returns
piped_object-returns t c =
    let aggs = c.args.aggs.now in
    let pipes = pipes_of c.args.level.now.pipes.now in
    let own = map view_of c.args.own.items in
    let all : sorted entry_cmp (map view_of c.in_ok-entries.entries.items) ≡ object_entries aggs pipes own c.args.nodes =
    ap (sorted entry_cmp) (c.in_ok-entries.ensures ∙ ap (λ (vs : List View). vs ++ own) c.in_ok-told.ensures.entries) in
    let fit = subst AreFit all c.in_ok-in_order.ensures.0 in
    (c.in_ok-told.ensures.nodes_are (nodes-fit aggs pipes own c.args.nodes fit), (fit, c.in_ok-in_order.ensures.1 ∙ ap (flat_map (λ (e : View). said_notes e.1)) all))
