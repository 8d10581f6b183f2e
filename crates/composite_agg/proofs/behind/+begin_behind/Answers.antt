use Rattle.std.proofs.Common.{◌≡◌, ◌-◌, ◌∙◌, sym, ap, arith, subst, drop, length, map, take, ◌∷◌, rules, List}
use Rattle.std.specs.Prelude.{T}
use Rattle.std.specs.List.{list_all}
use Rattle.std.specs.Ordering.{is_lt}
use Rattle.agg_model.specs.declared.aggregation.CompositeSource.{CompositeSource}
use Rattle.agg_model.specs.declared.key.Key.{Key}
use Rattle.agg_evaluation.specs.Keys.{combinations, source_keys}
use Rattle.agg_evaluation.specs.Rows.{row_of}
use Rattle.bucket_order.specs.Composites.{any_parts_cmp}
use Rattle.composite_agg.specs.Sources.{ArePositive}
use Rattle.composite_agg.proofs.LaterKeys.{less, rest-whole, tied}
use Rattle.composite_agg.proofs.behind.+begin_behind.Goals as goal

pub begin_behind-requires : goal.begin_behind-requires
begin_behind-requires t c =
    let sources_are : c.args.sources.now ≡ c.source-item.result ∷ drop 1 c.args.sources.now = search rules in
    let rest : ArePositive (drop 1 c.args.sources.now) = (subst ArePositive sources_are c.requires.positive).1 in
    let n = ap length sources_are in
    let m = ap length (rest-whole c.args.sources.now) in
    (omega (arith, n, m), (c.requires.built, (c.requires.in_range, subst ArePositive (sym (rest-whole c.args.sources.now)) rest)))

pub returns-in-Some-Less : goal.returns-in-Some-Less
returns-in-Some-Less t c says =
    let sources_are : c.args.sources.now ≡ c.source-item.result ∷ drop 1 c.args.sources.now = search rules in
    let parts_are : c.args.parts.now ≡ c.part-item.result ∷ drop 1 c.args.parts.now = search rules in
    let row = row_of c.args.shard.now.rows c.args.row in
    let rest = combinations (map (source_keys row) (drop 1 c.args.sources.now)) in
    let o = c.in-Some-Less.ensures in
    let own = less c.source-item.result (drop 1 c.args.sources.now) c.part-item.result (drop 1 c.args.parts.now) o.part (source_keys row c.source-item.result) rest o.only (sym o.order ∙ c.in-Some-Less.field-0-is) in
    subst (λ (ss : List CompositeSource). T (list_all (λ js. is_lt (any_parts_cmp ss c.args.parts.now js)) (combinations (map (source_keys row) ss)))) (sym sources_are)
    (subst (λ (ps : List Key). T (list_all (λ js. is_lt (any_parts_cmp (c.source-item.result ∷ drop 1 c.args.sources.now) ps js)) (combinations (map (source_keys row) (c.source-item.result ∷ drop 1 c.args.sources.now))))) (sym parts_are) own)

pub returns-in-Some-Equal : goal.returns-in-Some-Equal
returns-in-Some-Equal t c says =
    let sources_are : c.args.sources.now ≡ c.source-item.result ∷ drop 1 c.args.sources.now = search rules in
    let parts_are : c.args.parts.now ≡ c.part-item.result ∷ drop 1 c.args.parts.now = search rules in
    let row = row_of c.args.shard.now.rows c.args.row in
    let rest = combinations (map (source_keys row) (drop 1 c.args.sources.now)) in
    let o = c.in-Some-Equal.ensures in
    let more =
    subst (λ (ps : List Key). T (list_all (λ js. is_lt (any_parts_cmp (drop 1 c.args.sources.now) ps js)) rest)) (rest-whole c.args.parts.now)
    (subst (λ (ss : List CompositeSource). T (list_all (λ js. is_lt (any_parts_cmp ss (take (length c.args.parts.now - 1) (drop 1 c.args.parts.now)) js)) (combinations (map (source_keys row) ss)))) (rest-whole c.args.sources.now) (c.begin_behind.ensures says)) in
    let own = tied c.source-item.result (drop 1 c.args.sources.now) c.part-item.result (drop 1 c.args.parts.now) o.part (source_keys row c.source-item.result) rest o.only (sym o.order ∙ c.in-Some-Equal.field-0-is) more in
    subst (λ (ss : List CompositeSource). T (list_all (λ js. is_lt (any_parts_cmp ss c.args.parts.now js)) (combinations (map (source_keys row) ss)))) (sym sources_are)
    (subst (λ (ps : List Key). T (list_all (λ js. is_lt (any_parts_cmp (c.source-item.result ∷ drop 1 c.args.sources.now) ps js)) (combinations (map (source_keys row) (c.source-item.result ∷ drop 1 c.args.sources.now))))) (sym parts_are) own)
