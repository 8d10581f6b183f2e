use Rattle.std.proofs.Common.{◌≡◌, ◌<◌, ◌∙◌, sym, ap, subst, arith, length, Equal, Greater, rules}
use Rattle.std.specs.Prelude.{T}
use Rattle.std.specs.Ordering.{is_lt, ordering_reverse}
use Rattle.agg_evaluation.specs.CompositeKeys.{is_composite_of}
use Rattle.list_laws.proofs.Booleans.{holds, true_is}
use Rattle.composite_agg.specs.InOrder.{page_cmp}
use Rattle.composite_agg.specs.Runs.{in_runs, place_in}
use Rattle.composite_agg.proofs.CodedSpots.{among-below, among-is, gap-for, spot-of}
use Rattle.composite_agg.proofs.PageSteps.{back, tied}
use Rattle.composite_agg.proofs.PlaceOrder.{at}
use Rattle.composite_agg.proofs.coded.told_at.Goals as goal

-- keys that tie are one
pub returns-in-Equal-clause-found : goal.returns-in-Equal-clause-found
returns-in-Equal-clause-found g c =
    let sources = c.args.sources.now in
    let rs = c.args.runs.now in
    let s = c.args.spot in
    let x = c.index.result.now in
    let run = c.index-runs-spot.result in
    let within = c.if-spot-runs.false in
    let is_run = c.index-runs-spot.is in
    let below : s.at < length run.items = search rules in
    let tie : page_cmp sources (g.T.HasKey.key_of x) (g.K.Sought.sought c.args.key.now) ≡ Equal = search rules in
    let among = among-is rs s.run s.at run x within is_run below c.index.ensures in
    let each = at (λ z. is_composite_of (length sources) (g.T.HasKey.key_of z)) (in_runs rs) (place_in rs s.run s.at) x (among-below rs s.run s.at run x within is_run below c.index.ensures) (holds _ c.requires.parts) in
    let parts = true_is _ (subst (λ z. T (is_composite_of (length sources) (g.T.HasKey.key_of z))) among each) in
    spot-of g.T.HasKey.key_of rs (g.K.Sought.sought c.args.key.now) s run x within is_run below c.index.ensures (tied sources (g.T.HasKey.key_of x) (g.K.Sought.sought c.args.key.now) parts c.requires.key_parts tie)

-- the item comes behind the key, and its neighbour before it
pub returns-in-Greater-clause-absent : goal.returns-in-Greater-clause-absent
returns-in-Greater-clause-absent g c =
    let sources = c.args.sources.now in
    let rs = c.args.runs.now in
    let s = c.args.spot in
    let k = g.K.Sought.sought c.args.key.now in
    let x = c.index-then-spot-gt0.result.now in
    let y = c.index.result.now in
    let run = c.index-runs-spot.result in
    let below : s.at < length run.items = search rules in
    let some : 0 < s.at = omega (arith, c.if-spot-gt0.true) in
    let less = holds _ (sym (ap (λ j. is_lt (page_cmp sources j k)) c.key-then-spot-gt0.ensures) ∙ sym c.is_before.ensures ∙ c.if-is_before.true) in
    let over : page_cmp sources (g.T.HasKey.key_of y) k ≡ Greater = search rules in
    let more = holds _ (ap is_lt (back sources k (g.T.HasKey.key_of y) ∙ ap ordering_reverse over)) in
    gap-for g.T.HasKey.key_of sources rs k s run x y c.requires.order c.if-spot-runs.false c.index-runs-spot.is some below c.index-then-spot-gt0.ensures c.index.ensures less more
