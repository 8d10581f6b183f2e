use Rattle.std.proofs.Common.{rules, arith, ◌≡◌, ◌∙◌, length, refl, sym, ap}
use Rattle.std.proofs.lemmas.Result.{err_from_is_err_and}
use Rattle.agg_base.proofs.Gave.{gave_nothing, gave_then}
use Rattle.agg_reading.specs.Store.{applied}
use Rattle.fitting_laws.proofs.Stores.{applied_fits}
use Rattle.agg_bulk.proofs.FittingLemmas.{empty_fits, still_fits}
use Rattle.script_lines.specs.Steps.{place_of}
use Rattle.column_loading.specs.Loadings.{store_of}
use Rattle.agg_bulk.specs.Loading.{loading_of}
use Rattle.agg_bulk.proofs.SectionLemmas.{as_loading, begun_is, one_more_item, all_loaded}
use Rattle.agg_bulk.proofs.sections.bulk_actions.Goals as goal

pub loop-items-init : goal.loop-items-init
loop-items-init g c = record {
  kept = c.requires.kept;
  never_falls = search rules;
  gave = gave_nothing;
  same_source = refl;
  index = refl;
  few = let none : length c.new-items.result ≡ 0 = ap length c.new-items.ensures in omega arith;
  fitting = empty_fits _ _ c.in_ok-loading.ensures.none;
  loading = c.in_ok-loading.ensures.loading;
  shards = c.in_ok-loading.ensures.shards;
  so_far = λ bytes goes_on. as_loading _ _ _ _ _ _ _ goes_on (begun_is _ _ _ c.in_ok-loading.ensures.none c.new-items.ensures);
}

pub next_action-requires : goal.next_action-requires
next_action-requires g c = c.loop-items.invariant.kept

pub returns-in_err-action-clause-script : goal.returns-in_err-action-clause-script
returns-in_err-action-clause-script g c bytes goes_on =
    let p = err_from_is_err_and c.from_residual-in_err-action.result c.from_residual-in_err-action.ensures.1 in
    rw (p.1, p.2) (c.in_err-action.ensures.script bytes (loading_of c.args.index (store_of c.args.index.mapping c.loop-items.loading) c.loop-items.items) (sym c.as_str.ensures) (sym c.len.ensures) (c.loop-items.invariant.so_far bytes goes_on))

pub loop-items-smaller : goal.loop-items-smaller
loop-items-smaller g c =
    let more = one_more_item c.in-Some.action (applied c.args.index.mapping c.in-Some.action (store_of c.args.index.mapping c.loop-items.loading)) c.args.index (store_of c.args.index.mapping c.loop-items.loading) _ c.loop-items.items _ (c.in_ok-apply.ensures.after c.args.index) in
    omega (arith, more, c.loop-items.invariant.few)

pub loop-items-preserved : goal.loop-items-preserved
loop-items-preserved g c =
    let before = c.loop-items.invariant in
    let more = one_more_item c.in-Some.action (applied c.args.index.mapping c.in-Some.action (store_of c.args.index.mapping c.loop-items.loading)) c.args.index (store_of c.args.index.mapping c.loop-items.loading) _ c.loop-items.items _ (c.in_ok-apply.ensures.after c.args.index) in
    let room = rw c.in-Some.is at c.in_ok-action.ensures.room in
    record {
      kept = c.in_ok-action.ensures.kept;
      never_falls = omega (arith, before.never_falls, c.in_ok-action.ensures.never_falls);
      same_source = c.in_ok-action.ensures.same_source ∙ before.same_source;
      gave = gave_then before.gave c.in_ok-action.ensures.gave;
      index = before.index;
      few = omega (arith, more, c.len.ensures, room refl);
      fitting =
          still_fits c.in-Some.action (applied c.args.index.mapping c.in-Some.action (store_of c.args.index.mapping c.loop-items.loading)) c.args.index (store_of c.args.index.mapping c.loop-items.loading) _ c.loop-items.items _ (c.in_ok-apply.ensures.after c.args.index)
          (applied_fits c.args.index.mapping c.in-Some.action (store_of c.args.index.mapping c.loop-items.loading) before.fitting) before.fitting;
      loading = c.in_ok-apply.ensures.loading;
      shards = c.in_ok-apply.ensures.shards ∙ before.shards;
      so_far = λ bytes goes_on.
          let read = rw c.in-Some.is at c.in_ok-action.ensures.script bytes (loading_of c.args.index (store_of c.args.index.mapping c.loop-items.loading) c.loop-items.items) (sym c.as_str.ensures) (sym c.len.ensures) (before.so_far bytes goes_on) in
          as_loading _ _ _ _ _ _ _ read (c.in_ok-apply.ensures.after c.args.index);
    }

pub returns-clause-script : goal.returns-clause-script
returns-clause-script g c bytes goes_on =
    let read = rw c.in_default.is at c.in_ok-action.ensures.script bytes (loading_of c.args.index (store_of c.args.index.mapping c.loop-items.loading) c.loop-items.items) (sym c.as_str.ensures) (sym c.len.ensures) (c.loop-items.invariant.so_far bytes goes_on) in
    all_loaded bytes (loading_of c.args.index (store_of c.args.index.mapping c.loop-items.loading) c.loop-items.items) (place_of c.next_action.new.lines) _ _ _ read

pub returns-clause-fitting : goal.returns-clause-fitting
returns-clause-fitting g c = c.loop-items.invariant.fitting

pub returns-in_err-action-clause-gave : goal.returns-in_err-action-clause-gave
returns-in_err-action-clause-gave g c = gave_then c.loop-items.invariant.gave c.next_action.ensures.gave

pub returns-in_err-apply-clause-gave : goal.returns-in_err-apply-clause-gave
returns-in_err-apply-clause-gave g c = gave_then c.loop-items.invariant.gave c.next_action.ensures.gave

pub returns-clause-gave : goal.returns-clause-gave
returns-clause-gave g c = gave_then c.loop-items.invariant.gave c.next_action.ensures.gave
