use Rattle.std.proofs.Common.{◌≡◌, true, false, rules}
use Rattle.std.specs.Str.{bytes_eq}
use Rattle.std.proofs.lemmas.List.Sorted.{IsPartitionPoint-from_clause}
use Rattle.agg_reading.specs.Properties.{is_before}
use Rattle.agg_mapping.proofs.Finding.{parts_at, search_gives, none_past, some_at}
use Rattle.agg_mapping.proofs.paths.first.Goals as goal

pub returns-in_err-item-clause-value : goal.returns-in_err-item-clause-value
returns-in_err-item-clause-value g c =
    let path_of = g.T.HasPath.path_of in
    let xs = c.args.items.now in
    let point = IsPartitionPoint-from_clause (λ x. is_before (path_of x) c.args.path.now) xs _ c.partition_point-place.ensures.partitioned (parts_at path_of xs c.args.path.now c.requires) (λ a r f k. search rules) in
    rw (search_gives path_of xs c.args.path.now _ c.requires point, none_past xs c.partition_point-place.result c.in_err-item.ensures.lookup.3) (search rules)

pub returns-then-ne-clause-value : goal.returns-then-ne-clause-value
returns-then-ne-clause-value g c =
    let path_of = g.T.HasPath.path_of in
    let xs = c.args.items.now in
    let point = IsPartitionPoint-from_clause (λ x. is_before (path_of x) c.args.path.now) xs _ c.partition_point-place.ensures.partitioned (parts_at path_of xs c.args.path.now c.requires) (λ a r f k. search rules) in
    let other : bytes_eq (path_of c.in_ok-item.item.now) c.args.path.now ≡ false = search rules in
    rw (search_gives path_of xs c.args.path.now _ c.requires point, some_at xs c.partition_point-place.result c.in_ok-item.item.now c.in_ok-item.ensures.lookup.3.0 c.in_ok-item.ensures.lookup.1, other)

pub returns-clause-value : goal.returns-clause-value
returns-clause-value g c =
    let path_of = g.T.HasPath.path_of in
    let xs = c.args.items.now in
    let point = IsPartitionPoint-from_clause (λ x. is_before (path_of x) c.args.path.now) xs _ c.partition_point-place.ensures.partitioned (parts_at path_of xs c.args.path.now c.requires) (λ a r f k. search rules) in
    let same : bytes_eq (path_of c.in_ok-item.item.now) c.args.path.now ≡ true = search rules in
    rw (search_gives path_of xs c.args.path.now _ c.requires point, some_at xs c.partition_point-place.result c.in_ok-item.item.now c.in_ok-item.ensures.lookup.3.0 c.in_ok-item.ensures.lookup.1, same)
