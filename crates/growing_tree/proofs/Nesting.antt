-- What a nested aggregation makes of roots, one after another: what its one bucket makes of all rows beneath them.
use Rattle.std.specs.Prelude.{◌≡◌, refl, ℕ, zero, suc, ◌+◌, List, [], ◌∷◌, ◌++◌, flat_map, length, map, take, sum_by}
use Rattle.std.proofs.Common.{sym, ◌∙◌, ap, arith, length-append}
use Rattle.std.proofs.Math.ListN.{get_or, set}
use Rattle.std.proofs.lemmas.List.Sums.{sum_by-cons}
use Rattle.list_laws.proofs.Lists.{append-nil}
use Rattle.agg_model.specs.declared.aggregation.Agg.{Agg, out-Agg}
use Rattle.agg_model.specs.declared.aggregation.Kind.TheVariants as kind
use Rattle.agg_model.specs.declared.key.Key.TheVariants as key
use Rattle.agg_model.specs.declared.partial.Node.{Node}
use Rattle.agg_model.specs.declared.partial.Node.TheOpen.{Node-F}
use Rattle.agg_model.specs.declared.partial.Node.TheVariants as node
use Rattle.agg_evaluation.specs.Cost.{node_cost, key_bytes}
use Rattle.agg_evaluation.specs.Groups.{under}
use Rattle.agg_evaluation.specs.Rows.{PlacedRow, beneath}
use Rattle.agg_evaluation.proofs.Computing.{computing}
use Rattle.agg_evaluation.proofs.NodeForms.{out-Fixed}
use Rattle.evaluation_laws.proofs.CostLaws.{bytes, cost-Fixed}
use Rattle.shard_columns.specs.Columns.{Columns}
use Rattle.growth_laws.specs.Gathering.{Gatherer, counted, gathered_bucket, gathered_buckets, gathered_children, gatherer_of, put_rows}
use Rattle.growing_tree.specs.Decoded.{decoded}
use Rattle.growing_tree.specs.Gathered.{decoders, key_at, shown_children}
use Rattle.growing_tree.specs.GatheredEach.{AreRises, after_each, cost_after, gathered_one}
use Rattle.growing_tree.specs.Shown.{HasGathered, fixed_buckets}
use Rattle.growing_tree.specs.LoneBuckets.{GrowsAlone, lone, lone_node}
use Rattle.growing_tree.specs.SideBySide.{side_by_side, side_cost}
use Rattle.growing_tree.specs.Steady.{AreSteady, IsSteady}
use Rattle.growing_tree.specs.Trees.{numbered_buckets}
use Rattle.growing_tree.specs.declared.ready.Ready.{Ready, out-Ready}
use Rattle.growing_tree.specs.declared.tree.Growing.{Growing}
use Rattle.growing_tree.proofs.Levels.{counted-none, counted-out, decoded-out, gathered-is}
use Rattle.growing_tree.proofs.Singles.{single-gathered}
use Rattle.growing_tree.proofs.Steady.{steady-each, still-steady}

put-lone : (gs : List Gatherer) (rows : List PlacedRow) (count : ℕ) (ns : List Node) → put_rows gs rows (key.Fixed 0) (lone count ns ∷ []) ≡ gathered_bucket gs rows (lone count ns) ∷ []
unfolding computing
put-lone gs rows count ns = refl

-- the first rows of a list that is made part by part
pub take-parts : (f : PlacedRow → List PlacedRow) (rows : List PlacedRow) (i : ℕ) → take (length (flat_map f (take i rows))) (flat_map f rows) ≡ flat_map f (take i rows)
take-parts f [] zero = refl
take-parts f [] (suc i) = refl
take-parts f (row ∷ rows) zero = refl
take-parts f (row ∷ rows) (suc i) =
    ap (λ n. take n (f row ++ flat_map f rows)) (length-append (f row) (flat_map f (take i rows)))
    ∙ front (f row) (flat_map f rows) (length (flat_map f (take i rows)))
    ∙ ap (λ rs. f row ++ rs) (take-parts f rows i)
  where
    front : (xs ys : List PlacedRow) (n : ℕ) → take (length xs + n) (xs ++ ys) ≡ xs ++ take n ys
    front [] ys n = ap (λ m. take m ys) none
      where
        none : length {A = PlacedRow} [] + n ≡ n
        none = omega arith
    front (x ∷ xs) ys n = ap (λ m. take m (x ∷ xs ++ ys)) more ∙ ap (λ zs. x ∷ zs) (front xs ys n)
      where
        more : length (x ∷ xs) + n ≡ suc (length xs + n)
        more = omega arith

module _ (all : List PlacedRow) (a : Agg) (context : ℕ) (nested : (out-Agg a).kind ≡ kind.Nested context) where
  abbrev gs : List Gatherer
  gs = map (gatherer_of all) (out-Agg a).children

  abbrev inside : List PlacedRow → List PlacedRow
  inside rows = flat_map (beneath all context) rows

  -- rows that it counts
  pub lone-counted : (rows : List PlacedRow) (count : ℕ) (ns : List Node) → gathered_children gs [] ns ≡ ns → counted all a rows (lone_node count ns) ≡ lone_node (count + length rows) (gathered_children gs rows ns)
  lone-counted [] count ns none = counted-none all a (lone_node count ns) ∙ (λ i. lone_node (stays i) (sym none i))
    where
      stays : count ≡ count + 0
      stays = omega arith
  lone-counted (row ∷ rows) count ns none =
      counted-out all a (row ∷ rows) (lone_node count ns) _ (out-Fixed (lone count ns ∷ []))
      ∙ ap (λ k. node.Fixed (gathered_buckets all gs k (row ∷ rows) (lone count ns ∷ []))) nested
      ∙ ap node.Fixed (single-gathered all gs (kind.Nested context) row rows (lone count ns ∷ []) refl ∙ put-lone gs (row ∷ rows) count ns)

  -- a root that it is handed
  one-root : (root : PlacedRow) (n : Node) → gathered_one all a root n ≡ counted all a (beneath all context root) n
  one-root root n = gathered-is all a (root ∷ []) (beneath all context root) n (ap (λ k. under all [] k (root ∷ [])) nested ∙ append-nil (beneath all context root))

  pub roots-gathered : (roots : List PlacedRow) (count : ℕ) (ns : List Node) → IsSteady (gathered_children gs) ns
      → after_each (gathered_one all a) roots (lone_node count ns) ≡ lone_node (count + length (inside roots)) (gathered_children gs (inside roots) ns)
  roots-gathered [] count ns h = (λ i. lone_node (stays i) (sym h.none i))
    where
      stays : count ≡ count + 0
      stays = omega arith
  roots-gathered (root ∷ roots) count ns h =
      let own = beneath all context root in
      ap (after_each (gathered_one all a) roots) (one-root root (lone_node count ns) ∙ lone-counted own count ns h.none)
      ∙ roots-gathered roots (count + length own) (gathered_children gs own ns) (still-steady (gathered_children gs) ns h own)
      ∙ (λ i. lone_node (both own (inside roots) i) (sym (h.more own (inside roots)) i))
    where
      both : (xs ys : List PlacedRow) → (count + length xs) + length ys ≡ count + length (xs ++ ys)
      both xs ys = let l = length-append xs ys in omega (arith, l)

  -- what the tree costs after so many roots, by what the trees below cost after the rows beneath them
  pub roots-cost : (roots : List PlacedRow) (count : ℕ) (ns : List Node) (i : ℕ) → IsSteady (gathered_children gs) ns
      → cost_after (gathered_one all a) roots (lone_node count ns) i
      ≡ (640 + key_bytes (key.Fixed 0)) + sum_by node_cost (after_each (side_by_side gs) (take (length (inside (take i roots))) (inside roots)) ns)
  roots-cost roots count ns i h =
      let some = inside (take i roots) in
      let now = ap node_cost (roots-gathered (take i roots) count ns h) ∙ cost-Fixed (lone (count + length some) (gathered_children gs some ns) ∷ []) in
      let each = ap (sum_by node_cost) (steady-each (gathered_children gs) ns h some ∙ ap (λ rs. after_each (side_by_side gs) rs ns) (sym (take-parts (beneath all context) roots i))) in
      let one = sum_by-cons bytes (lone (count + length some) (gathered_children gs some ns)) [] in
      omega (arith, now, each, one)

-- a level that has this one bucket
one-there : (xs : List Growing) (x : Growing) → length xs ≡ 1 → x ≡ get_or xs 0 x → xs ≡ x ∷ []
one-there [] x l e = absurd (omega arith)
one-there (y ∷ []) x l e = ap (λ z. z ∷ []) (sym e)
one-there (y ∷ z ∷ xs) x l e = absurd (omega arith)

module _ (shard : Columns) (r : Ready) where
  lone-shown : (g : Growing) → fixed_buckets (decoders shard (out-Ready r).children) (key_at shard r) (g ∷ []) ≡ lone g.count (shown_children shard (out-Ready r).children g.children.items) ∷ []
  unfolding computing
  lone-shown g = refl

  lone-tree : (g : Growing) → decoded shard r (node.Fixed (numbered_buckets 0 (g ∷ []))) ≡ lone_node g.count (shown_children shard (out-Ready r).children g.children.items)
  lone-tree g = decoded-out shard r (node.Fixed (numbered_buckets 0 (g ∷ []))) (Node-F.Fixed (numbered_buckets 0 (g ∷ []))) (out-Fixed (numbered_buckets 0 (g ∷ []))) ∙ ap node.Fixed (lone-shown g)

  -- more rows in it
  pub lone-grows : (hs : List Gatherer) (rows : List PlacedRow) (before after : List ℕ) (xs : List Growing) (was now : Growing) → length xs ≡ 1 → was ≡ get_or xs 0 was
      → HasGathered hs rows (decoders shard (out-Ready r).children) was now → AreSteady hs (shown_children shard (out-Ready r).children was.children.items)
      → AreRises (side_cost hs rows (shown_children shard (out-Ready r).children was.children.items)) (length rows) before after
      → GrowsAlone hs rows (decoded shard r (node.Fixed (numbered_buckets 0 xs))) (decoded shard r (node.Fixed (numbered_buckets 0 (set xs 0 now)))) before after
  lone-grows hs rows before after xs was now l e h steady rises =
      let one = one-there xs was l e in
      record {
        count = was.count;
        children = shown_children shard (out-Ready r).children was.children.items;
        steady = steady;
        old_is = ap (λ ys. decoded shard r (node.Fixed (numbered_buckets 0 ys))) one ∙ lone-tree was;
        new_is = ap (λ ys. decoded shard r (node.Fixed (numbered_buckets 0 (set ys 0 now)))) one ∙ lone-tree now ∙ (λ i. lone_node (h.count i) (h.children i));
        rises = rises;
      }
