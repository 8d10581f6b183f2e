use Rattle.std.proofs.Common.{◌≡◌, ◌<◌, ◌≤◌, ◌∙◌, sym, ap, subst, arith, length, get_or, take, drop, suc, add-one}
use Rattle.std.specs.Prelude.{T, IsTrue}
use Rattle.std.specs.List.{list_all}
use Rattle.std.specs.Ordering.{is_lt}
use Rattle.std.proofs.lemmas.List.{get_or_default}
use Rattle.agg_evaluation.specs.CompositeKeys.{is_composite_of}
use Rattle.list_laws.proofs.Booleans.{holds, true_is}
use Rattle.composite_agg.specs.InOrder.{IsInOrder, page_cmp}
use Rattle.composite_agg.specs.Runs.{in_runs}
use Rattle.composite_agg.proofs.InRuns.{dropped, got, place-below, taken}
use Rattle.composite_agg.proofs.RunOrder.{all-append, all-run, order-run}
use Rattle.composite_agg.proofs.runs.find_spot.Goals as goal

pub find-requires-clause-order : goal.find-requires-clause-order
find-requires-clause-order g c =
    let run = c.index-runs-run.result in
    let items = c.as_slice.ensures.value ∙ ap (λ v. v.items) c.index-runs-run.is in
    subst (IsInOrder g.T.HasKey.key_of c.args.sources.now) (sym items) (order-run g.T.HasKey.key_of c.args.sources.now c.args.runs.now c.run_of-run.result run c.run_of-run.ensures.within c.requires.order)

pub find-requires-clause-parts : goal.find-requires-clause-parts
find-requires-clause-parts g c =
    let run = c.index-runs-run.result in
    let p = (λ (x : g.row.T.Denot). is_composite_of (length c.args.sources.now) (g.T.HasKey.key_of x)) in
    let items = c.as_slice.ensures.value ∙ ap (λ v. v.items) c.index-runs-run.is in
    true_is _ (subst (λ xs. T (list_all p xs)) (sym items)
    (all-run p c.args.runs.now c.run_of-run.result run c.run_of-run.ensures.within (holds _ c.requires.parts)))

pub returns-in-Ok-clause-found : goal.returns-in-Ok-clause-found
returns-in-Ok-clause-found g c =
    let rs = c.args.runs.now in
    let r = c.run_of-run.result in
    let i = c.in-Ok.at in
    let run = c.index-runs-run.result in
    let within = c.run_of-run.ensures.within in
    let items = c.as_slice.ensures.value ∙ ap (λ v. v.items) c.index-runs-run.is in
    let found = subst (λ xs. (i < length xs) × ((d : _) → g.T.HasKey.key_of (get_or xs i d) ≡ (g.K.Sought.sought c.args.key.now))) items c.in-Ok.ensures.found in
    let lt : (d : _) → i < length (get_or rs r d).items = (λ d. subst (λ v. i < length v.items) (get_or_default rs r run d within) found.0) in
    record {
      place = record { there = within; fits = λ d. let below = lt d in omega (arith, below) };
      there = lt;
      among = place-below rs r i run within found.0;
      is_key = λ e. ap g.T.HasKey.key_of (got rs r i run within e found.0) ∙ found.1 e;
    }

pub returns-in-Err-clause-absent : goal.returns-in-Err-clause-absent
returns-in-Err-clause-absent g c =
    let rs = c.args.runs.now in
    let r = c.run_of-run.result in
    let i = c.in-Err.at in
    let run = c.index-runs-run.result in
    let within = c.run_of-run.ensures.within in
    let first = (λ (x : g.row.T.Denot). is_lt (page_cmp c.args.sources.now (g.T.HasKey.key_of x) (g.K.Sought.sought c.args.key.now))) in
    let later = (λ (x : g.row.T.Denot). is_lt (page_cmp c.args.sources.now (g.K.Sought.sought c.args.key.now) (g.T.HasKey.key_of x))) in
    let items = c.as_slice.ensures.value ∙ ap (λ v. v.items) c.index-runs-run.is in
    let absent = subst (λ xs. (i ≤ length xs) × IsTrue (list_all first (take i xs)) × IsTrue (list_all later (drop i xs))) items c.in-Err.ensures.absent in
    let behind = subst (λ n. T (list_all later (in_runs (drop n rs)))) (add-one r) (holds _ c.run_of-run.ensures.behind) in
    record {
      place = λ some. record { there = within; fits = λ d. subst (λ v. i ≤ length v.items) (get_or_default rs r run d within) absent.0 };
      before =
          true_is _ (subst (λ xs. T (list_all first xs)) (sym (taken rs r i run within absent.0))
          (all-append first (in_runs (take r rs)) (take i (get_or rs r run).items) (holds _ c.run_of-run.ensures.before) (holds _ absent.1)));
      behind =
          true_is _ (subst (λ xs. T (list_all later xs)) (sym (dropped rs r i run within absent.0))
          (all-append later (drop i (get_or rs r run).items) (in_runs (drop (suc r) rs)) (holds _ absent.2) behind));
    }
