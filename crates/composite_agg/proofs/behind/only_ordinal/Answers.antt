use Rattle.std.proofs.Common.{◌≡◌, rules, arith, None, length}
use Rattle.composite_agg.proofs.WordPlaces.{one-item, only-word}
use Rattle.composite_agg.proofs.behind.only_ordinal.Goals as goal

pub returns-in-len1 : goal.returns-in-len1
returns-in-len1 c =
    let s = c.args.source.now in
    let os = c.ordinals.result.now in
    let none : s.interval ≡ None = search rules in
    let one : length os ≡ 1 = omega (arith, c.in-len1.len_at_least, c.in-len1.len_below) in
    only-word c.args.shard.now c.requires.built c.args.row s _ os none (one-item os one) c.ordinals.ensures.exact (c.ordinals.ensures.known 0 (omega (arith, one)))
