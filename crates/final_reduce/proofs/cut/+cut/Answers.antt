use Rattle.std.specs.Prelude.{IsTrue}
use Rattle.std.proofs.Common.{◌≡◌, ◌∙◌, ◌+◌, ◌<◌, ◌^◌, sym, ap, map, arith, true, List, []}
use Rattle.agg_model.specs.declared.aggregation.Agg.{Agg, out-Agg}
use Rattle.agg_model.specs.declared.partial.Bucket.{Bucket}
use Rattle.agg_model.specs.declared.partial.Node.{Node, out-Node}
use Rattle.agg_model.specs.declared.partial.Node.TheOpen.{Node-F}
use Rattle.agg_model.specs.declared.partial.Node.TheVariants.{Keyed, Fixed}
use Rattle.agg_evaluation.specs.Shard.{fixed_keys}
use Rattle.agg_evaluation.specs.Trees.{have_children, is_tree_at}
use Rattle.agg_evaluation.specs.Whole.{Parts, parts, parts_at, shape_of}
use Rattle.agg_evaluation.specs.Finishable.{fits_at, is_finishable}
use Rattle.agg_evaluation.proofs.NodeForms.{out-Keyed, out-Fixed, out-Number}
use Rattle.bucket_order.specs.Kinds.{child_kinds}
use Rattle.final_reduce.specs.Standing.{beyond_at, can_return, cut_bucket, cut_keyed, cutter, form_of, returned_at}
use Rattle.final_reduce.proofs.AggSizes.{children_less}
use Rattle.final_reduce.proofs.FinishableLaws.{can_return-of, cutter-level, fixed-cut, fixed-parts, keyed-cut, keyed-parts, kinds_of_cutters, leaves-stand, number-cut, opened, other-fits, returned-pass, tree-opened}
use Rattle.final_reduce.proofs.cut.+cut.Goals as goal

pub cut_node-returned_buckets-requires : goal.cut_node-returned_buckets-requires
cut_node-returned_buckets-requires t c =
    let k = (out-Agg c.args.agg.now).kind in
    let of = c.in-Keyed in
    let is = keyed-parts c.args.node of.buckets of.error of.full of.cut of.is in
    ap (λ (p : Parts). can_return (form_of k) p.buckets) (sym is) ∙ can_return-of k (parts c.args.node) (opened c.args.agg.now c.args.node c.requires.node).1

pub cut_node-overflow_add-other : goal.cut_node-overflow_add-other
cut_node-overflow_add-other t c =
    let a = out-Agg c.args.agg.now in
    let of = c.in-Keyed in
    let p = parts_at (Node-F.Keyed of.buckets of.error of.full of.cut) in
    let fits : fits_at a.kind p ≡ true = ap (fits_at a.kind) (sym (keyed-parts c.args.node of.buckets of.error of.full of.cut of.is)) ∙ (opened c.args.agg.now c.args.node c.requires.node).1 in
    let low : of.cut < 2 ^ 64 = omega arith in
    let within = other-fits (child_kinds a.children) a.kind p fits low in
    omega (arith, within, c.in_ok-returned-in-Keyed.ensures.beyond)

pub cut_node-cut_below-requires : goal.cut_node-cut_below-requires
cut_node-cut_below-requires t c =
    let a = out-Agg c.args.agg.now in
    let tests = map is_finishable a.children in
    let of = c.in-Keyed in
    let is = keyed-parts c.args.node of.buckets of.error of.full of.cut of.is in
    let pass = ap (λ (p : Parts). have_children tests p.buckets) (sym is) ∙ (opened c.args.agg.now c.args.node c.requires.node).0 in
    (omega (arith, c.decreases, children_less c.args.agg.now), ap (have_children tests) c.in_ok-returned-in-Keyed.ensures.returned ∙ returned-pass tests (child_kinds a.children) (form_of a.kind) of.buckets pass)

pub cut_node-cut_below-requires-in-Fixed : goal.cut_node-cut_below-requires-in-Fixed
cut_node-cut_below-requires-in-Fixed t c =
    let tests = map is_finishable (out-Agg c.args.agg.now).children in
    let is = fixed-parts c.args.node c.in-Fixed.buckets c.in-Fixed.is in
    (omega (arith, c.decreases, children_less c.args.agg.now), ap (λ (p : Parts). have_children tests p.buckets) (sym is) ∙ (opened c.args.agg.now c.args.node c.requires.node).0)

-- a node's tree is of the shape of its kind
abbrev tree : (a : Agg) (n : Node) (l : Node-F Node Bucket) → IsTrue (is_finishable a n) → out-Node n ≡ l → is_tree_at (map is_finishable (out-Agg a).children) (fixed_keys (out-Agg a).kind) (shape_of (out-Agg a).kind) l ≡ true
tree a n l fine is = ap (is_tree_at (map is_finishable (out-Agg a).children) (fixed_keys (out-Agg a).kind) (shape_of (out-Agg a).kind)) (sym is) ∙ tree-opened a n fine

pub cut_node-returns-in_ok-below-in-Keyed : goal.cut_node-returns-in_ok-below-in-Keyed
cut_node-returns-in_ok-below-in-Keyed t c =
    let a = out-Agg c.args.agg.now in
    let form = form_of a.kind in
    let cs = map cutter a.children in
    let kinds = sym (kinds_of_cutters a.children) in
    let of = c.in-Keyed in
    let bs = of.buckets in
    let whole = tree c.args.agg.now c.args.node (Node-F.Keyed bs of.error of.full of.cut) c.requires.node (ap out-Node of.is ∙ out-Keyed bs of.error of.full of.cut) in
    let level = cutter-level c.args.agg.now c.args.node ∙ keyed-cut cs (map is_finishable a.children) a.kind c.args.node bs of.error of.full of.cut whole
    ∙ ap (cut_keyed cs form) (keyed-parts c.args.node bs of.error of.full of.cut of.is) in
    let below = c.in_ok-below-in-Keyed.ensures ∙ ap (map (cut_bucket cs)) (c.in_ok-returned-in-Keyed.ensures.returned ∙ ap (λ ks. returned_at ks form bs) kinds) in
    let other = ap (λ n. of.cut + n) (c.in_ok-returned-in-Keyed.ensures.beyond ∙ ap (λ ks. beyond_at ks form bs) kinds) in
    (λ i. Keyed (below i) of.error of.full (other i)) ∙ sym level

pub cut_node-returns-in_ok-below-in-Fixed : goal.cut_node-returns-in_ok-below-in-Fixed
cut_node-returns-in_ok-below-in-Fixed t c =
    let a = out-Agg c.args.agg.now in
    let cs = map cutter a.children in
    let bs = c.in-Fixed.buckets in
    let whole = tree c.args.agg.now c.args.node (Node-F.Fixed bs) c.requires.node (ap out-Node c.in-Fixed.is ∙ out-Fixed bs) in
    ap Fixed c.in_ok-below-in-Fixed.ensures
    ∙ sym (cutter-level c.args.agg.now c.args.node ∙ fixed-cut cs (map is_finishable a.children) a.kind c.args.node bs whole ∙ ap (λ (p : Parts). Fixed (map (cut_bucket cs) p.buckets)) (fixed-parts c.args.node bs c.in-Fixed.is))

pub cut_node-returns-in-Number : goal.cut_node-returns-in-Number
cut_node-returns-in-Number t c =
    let a = out-Agg c.args.agg.now in
    let m = c.in-Number.metric in
    let whole = tree c.args.agg.now c.args.node (Node-F.Number m) c.requires.node (ap out-Node c.in-Number.is ∙ out-Number m) in
    sym c.in-Number.is ∙ sym (cutter-level c.args.agg.now c.args.node ∙ number-cut (map cutter a.children) (map is_finishable a.children) a.kind c.args.node m whole)

pub cut_below-returns-then-is_empty : goal.cut_below-returns-then-is_empty
cut_below-returns-then-is_empty t c =
    let none : c.args.children.now ≡ [] = c.is_empty.ensures.0 c.if-is_empty.true in
    sym (ap (λ (children : List Agg). map (cut_bucket (map cutter children)) c.args.buckets) none
    ∙ leaves-stand c.args.buckets (ap (λ (children : List Agg). have_children (map is_finishable children) c.args.buckets) (sym none) ∙ c.requires.children))
