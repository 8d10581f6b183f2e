-- The merge, one level at a time.
use Rattle.std.specs.Prelude.{◌≡◌, refl, ℕ, List, map}
use Rattle.std.proofs.Common.{sym, ◌∙◌, ap}
use Rattle.agg_model.specs.declared.partial.Bucket.{Bucket}
use Rattle.agg_model.specs.declared.partial.Metric.{Metric}
use Rattle.agg_model.specs.declared.partial.Node.{Node, out-Node}
use Rattle.agg_model.specs.declared.partial.Node.TheOpen.{Node-F}
use Rattle.agg_model.specs.declared.partial.Node.TheVariants.{Keyed, Fixed, Number, rolls-Keyed, rolls-Fixed, rolls-Number, outs-Keyed, outs-Fixed, outs-Number}
use Rattle.agg_model.specs.declared.partial.Node.TheViews.{roll-Node}
use Rattle.agg_model.specs.declared.partial.Node.TheFolds.{para-roll-Node, para-roll-Bucket}
use Rattle.partial_result.specs.Merged.{merged, merged_bucket, other_bucket, other_node, united, merged_children, merged_metric, sum_u64, sum_u32, merge_node_at, OtherNode, OtherBucket}

-- one level of the other node, with what each part makes of one of the first
abbrev opened : Node-F Node Bucket → Node-F OtherNode OtherBucket
opened (Node-F.Keyed bs e f k) = Node-F.Keyed (map other_bucket bs) e f k
opened (Node-F.Fixed bs) = Node-F.Fixed (map other_bucket bs)
opened (Node-F.Number m) = Node-F.Number m

level : (d : Node-F Node Bucket) (n : Node) → merged (roll-Node d) n ≡ merge_node_at (opened d) (out-Node n)
level (Node-F.Keyed bs e f k) n = ap (λ (g : Node → Node). g n) (para-roll-Node _ _ _ _ (Node-F.Keyed bs e f k))
level (Node-F.Fixed bs) n = ap (λ (g : Node → Node). g n) (para-roll-Node _ _ _ _ (Node-F.Fixed bs))
level (Node-F.Number m) n = ap (λ (g : Node → Node). g n) (para-roll-Node _ _ _ _ (Node-F.Number m))

pub merged_bucket_level : (b c : Bucket) → merged_bucket b c ≡ record { key = c.key; count = sum_u64 c.count b.count; covered = sum_u64 c.covered b.covered; children = merged_children (map other_node b.children) c.children }
merged_bucket_level b c = ap (λ (g : Bucket → Bucket). g c) (para-roll-Bucket _ _ _ _ (record { key = b.key; count = b.count; covered = b.covered; children = b.children }))

pub merged-Fixed : (bs cs : List Bucket) → merged (Fixed bs) (Fixed cs) ≡ Fixed (united (map other_bucket bs) cs)
merged-Fixed bs cs = ap (λ n. merged n (Fixed cs)) (sym (rolls-Fixed bs)) ∙ level (Node-F.Fixed bs) (Fixed cs) ∙ ap (merge_node_at (Node-F.Fixed (map other_bucket bs))) (outs-Fixed cs)

pub merged-Keyed : (bs cs : List Bucket) (e f k e' f' k' : ℕ) → merged (Keyed bs e f k) (Keyed cs e' f' k') ≡ Keyed (united (map other_bucket bs) cs) (sum_u64 e' e) (sum_u32 f' f) (sum_u64 k' k)
merged-Keyed bs cs e f k e' f' k' =
    ap (λ n. merged n (Keyed cs e' f' k')) (sym (rolls-Keyed bs e f k)) ∙ level (Node-F.Keyed bs e f k) (Keyed cs e' f' k') ∙ ap (merge_node_at (Node-F.Keyed (map other_bucket bs) e f k)) (outs-Keyed cs e' f' k')

-- nodes of two kinds: the first stays
pub merged-Keyed-Fixed : (bs : List Bucket) (e f k : ℕ) (cs : List Bucket) → merged (Keyed bs e f k) (Fixed cs) ≡ Fixed cs
merged-Keyed-Fixed bs e f k cs =
    ap (λ n. merged n (Fixed cs)) (sym (rolls-Keyed bs e f k)) ∙ level (Node-F.Keyed bs e f k) (Fixed cs) ∙ ap (merge_node_at (Node-F.Keyed (map other_bucket bs) e f k)) (outs-Fixed cs) ∙ rolls-Fixed cs

pub merged-Keyed-Number : (bs : List Bucket) (e f k : ℕ) (m : Metric) → merged (Keyed bs e f k) (Number m) ≡ Number m
merged-Keyed-Number bs e f k m =
    ap (λ n. merged n (Number m)) (sym (rolls-Keyed bs e f k)) ∙ level (Node-F.Keyed bs e f k) (Number m) ∙ ap (merge_node_at (Node-F.Keyed (map other_bucket bs) e f k)) (outs-Number m) ∙ rolls-Number m

pub merged-Number : (m n : Metric) → merged (Number m) (Number n) ≡ Number (merged_metric m n)
merged-Number m n = ap (λ o. merged o (Number n)) (sym (rolls-Number m)) ∙ level (Node-F.Number m) (Number n) ∙ ap (merge_node_at (Node-F.Number m)) (outs-Number n)

pub merged-Number-Keyed : (m : Metric) (cs : List Bucket) (e f k : ℕ) → merged (Number m) (Keyed cs e f k) ≡ Keyed cs e f k
merged-Number-Keyed m cs e f k =
    ap (λ o. merged o (Keyed cs e f k)) (sym (rolls-Number m)) ∙ level (Node-F.Number m) (Keyed cs e f k) ∙ ap (merge_node_at (Node-F.Number m)) (outs-Keyed cs e f k) ∙ rolls-Keyed cs e f k

pub merged-Number-Fixed : (m : Metric) (cs : List Bucket) → merged (Number m) (Fixed cs) ≡ Fixed cs
merged-Number-Fixed m cs =
    ap (λ o. merged o (Fixed cs)) (sym (rolls-Number m)) ∙ level (Node-F.Number m) (Fixed cs) ∙ ap (merge_node_at (Node-F.Number m)) (outs-Fixed cs) ∙ rolls-Fixed cs

pub merged-Fixed-Keyed : (bs cs : List Bucket) (e f k : ℕ) → merged (Fixed bs) (Keyed cs e f k) ≡ Keyed cs e f k
merged-Fixed-Keyed bs cs e f k =
    ap (λ n. merged n (Keyed cs e f k)) (sym (rolls-Fixed bs)) ∙ level (Node-F.Fixed bs) (Keyed cs e f k) ∙ ap (merge_node_at (Node-F.Fixed (map other_bucket bs))) (outs-Keyed cs e f k) ∙ rolls-Keyed cs e f k

pub merged-Fixed-Number : (bs : List Bucket) (m : Metric) → merged (Fixed bs) (Number m) ≡ Number m
merged-Fixed-Number bs m =
    ap (λ n. merged n (Number m)) (sym (rolls-Fixed bs)) ∙ level (Node-F.Fixed bs) (Number m) ∙ ap (merge_node_at (Node-F.Fixed (map other_bucket bs))) (outs-Number m) ∙ rolls-Number m
