-- The children of a growing tree cost less than it.
use Rattle.std.specs.Prelude.{ℕ, suc, ℤ, ◌+◌, ◌≤◌, max, List, [], ◌∷◌, length, sum_by}
use Rattle.std.proofs.Common.{arith}
use Rattle.std.proofs.lemmas.List.Sums.{sum_by-cons}
use Rattle.agg_model.specs.declared.key.Key.{Key}
use Rattle.agg_model.specs.declared.key.Key.TheVariants as key
use Rattle.agg_model.specs.declared.partial.Node.{Node}
use Rattle.agg_evaluation.specs.Cost.{node_cost}
use Rattle.evaluation_laws.proofs.CostLaws.{bytes, cost-Keyed, cost-Fixed}
use Rattle.growing_tree.specs.declared.tree.Growing.{Growing}
use Rattle.growing_tree.specs.declared.tree.Level.{Level}
use Rattle.growing_tree.specs.declared.tree.Level.TheVariants.{Keyed, Measured, Counts, Fixed, Number}
use Rattle.growing_tree.specs.declared.tree.Tree.TheDeep.{deep-Level, deep-Growing}
use Rattle.growing_tree.specs.Trees.{level_node, bucket_at, coded_buckets, numbered_buckets, IsAligned}
use denote.Param.Weighed.{most}

children-fall : (ns : List Node) → most (λ n. node_cost n + 1) ns ≤ sum_by node_cost ns + 1
children-fall [] = omega arith
children-fall (n ∷ ns) = let rest = children-fall ns in let all = sum_by-cons node_cost n ns in omega arith

growing-falls : (k : Key) (g : Growing) → deep-Growing g ≤ bytes (bucket_at k g)
growing-falls k g = let children = children-fall g.children.items in omega arith

coded-fall : (cs : List ℤ) (gs : List Growing) → length gs ≤ length cs → most deep-Growing gs ≤ sum_by bytes (coded_buckets cs gs)
coded-fall cs [] l = omega arith
coded-fall [] (g ∷ gs) l = absurd (omega arith)
coded-fall (c ∷ cs) (g ∷ gs) l =
    let here = growing-falls (key.Whole c) g in
    let rest = coded-fall cs gs (omega arith) in
    let all = sum_by-cons bytes (bucket_at (key.Whole c) g) (coded_buckets cs gs) in
    omega arith

numbered-fall : (n : ℕ) (gs : List Growing) → most deep-Growing gs ≤ sum_by bytes (numbered_buckets n gs)
numbered-fall n [] = omega arith
numbered-fall n (g ∷ gs) =
    let here = growing-falls (key.Fixed n) g in
    let rest = numbered-fall (suc n) gs in
    let all = sum_by-cons bytes (bucket_at (key.Fixed n) g) (numbered_buckets (suc n) gs) in
    omega arith

pub level-falls : (l : Level) → IsAligned l → max (deep-Level l) 0 ≤ node_cost (level_node l)
level-falls (Keyed k) h =
    let all = cost-Keyed (coded_buckets k.places k.buckets.items) 0 0 0 in
    let fall = coded-fall k.places k.buckets.items h.few in
    omega arith
level-falls (Measured m) h = omega arith
level-falls (Counts ns) h = omega arith
level-falls (Fixed bs) h = let all = cost-Fixed (numbered_buckets 0 bs.items) in let fall = numbered-fall 0 bs.items in omega arith
level-falls (Number m) h = omega arith
