-- What is loaded fits.
use Rattle.std.specs.Prelude.{◌≡◌, refl, ℕ, ◌+◌, List, [], ◌∷◌, Ok, Err, IfOk}
use Rattle.std.proofs.Common.{arith, true}
use Rattle.agg_model.specs.declared.bulk.Action.{Action}
use Rattle.agg_model.specs.declared.bulk.Applied.{Applied}
use Rattle.agg_reading.specs.declared.parts.IndexLine.{IndexLine}
use Rattle.agg_reading.specs.Reading.{Reading}
use Rattle.agg_reading.specs.declared.parts.Heading.{Heading}
use Rattle.agg_reading.specs.IndexLine.{index_line_at}
use Rattle.agg_model.specs.Lines.{Line}
use Rattle.agg_reading.specs.Lines.{Place, start, past, is_empty_line, Script, checked}
use Rattle.agg_reading.specs.Store.{Store, applied, live_documents, store_weight}
use Rattle.agg_reading.specs.Script.{Loading, Loaded, at_line, after, with_action, heading_of, is_delete, actions, source_of, begun, sections, loaded}
use Rattle.agg_reading.proofs.Steps.{then_ok, next_ok, if_ok}
use Rattle.agg_reading.proofs.IndexLineLaws.{LineFits, index_line_at-fits}
use Rattle.agg_model.specs.Contexts.{parents_before}
use Rattle.fitting_laws.proofs.MappingOrder.{mapping_lined}
use Rattle.fitting_laws.specs.Stores.{IsFitting, IsIndexed}
use Rattle.fitting_laws.proofs.Stores.{applied_fits}
use Rattle.fitting_laws.proofs.Shards.{shards_given}

-- what an index line keeps
abbrev Lined : IndexLine → Type 0
Lined l = LineFits l × (parents_before l.mapping ≡ true)

lined : (bytes : List ℕ) → IfOk (index_line_at bytes) Lined
lined bytes = by (index_line_at bytes) (index_line_at-fits bytes) (mapping_lined bytes)
  where
    by : (o : Reading IndexLine) → IfOk o LineFits → IfOk o (λ l. parents_before l.mapping ≡ true) → IfOk o Lined
    by (Ok l) f g = (f, g)
    by (Err e) f g = tt

-- what is kept from line to line
abbrev Going : Loading → Type 0
Going now = Lined now.index × IsFitting now.index.mapping now.store

abbrev pub Done : Loaded → Type 0
Done l = Lined l.index × IsFitting l.index.mapping l.store

after_going : (action : Action) (o : Reading (Applied × Store)) (now : Loading) → IfOk o (λ r. IsFitting now.index.mapping r.1) → Going now → Going (after action o now)
after_going action (Ok done) now h g = (g.0, h)
after_going action (Err e) now h g = g

action_going : (heading : Heading) (source : List ℕ) (now : Loading) → Going now → Going (with_action heading source now)
unfolding with_action
action_going heading source now g =
    let action : Action = record { kind = heading.kind; id = heading.id; routing = heading.routing; source = source } in
    after_going action (applied now.index.mapping action now.store) now (applied_fits now.index.mapping action now.store g.1) g

mutual
  unfolding actions source_of

  actions_done : (now : Loading) (place : Place) (ls : List Line) → Going now → IfOk (actions now place ls) Done
  actions_done now place [] g = tt
  actions_done now place (l ∷ ls) g =
      then_ok Done (checked place l) _ (λ _.
      if_ok Done (is_empty_line l.text) _ _ (λ e. g) (λ e.
      then_ok Done (heading_of (place.number + 1) l now) _ (λ heading.
      if_ok Done (is_delete heading.kind) (actions (with_action heading [] now) (past l place) ls) _ (λ e. actions_done (with_action heading [] now) (past l place) ls (action_going heading [] now g))
      (λ e. source_done heading now (past l place) ls g))))

  source_done : (heading : Heading) (now : Loading) (place : Place) (ls : List Line) → Going now → IfOk (source_of heading now place ls) Done
  source_done heading now place [] g = tt
  source_done heading now place (s ∷ ls) g =
      then_ok Done (checked place s) _ (λ _.
      if_ok Done (is_empty_line s.text) _ (actions (with_action heading s.text now) (past s place) ls) (λ e. tt)
      (λ e. actions_done (with_action heading s.text now) (past s place) ls (action_going heading s.text now g)))

at_line_ok : (line : ℕ) (o : Reading IndexLine) → IfOk o Lined → IfOk (at_line line o) Lined
at_line_ok line (Ok x) h = h
at_line_ok line (Err e) h = tt

nothing_live : (index : IndexLine) → Lined index → Going (begun index)
unfolding live_documents store_weight
nothing_live index h = (h, (refl, let none : store_weight [] ≡ 0 = refl in omega (arith, none)))

sections_done : (index : IndexLine) (place : Place) (ls : List Line) → Lined index → IfOk (sections index place ls) Done
unfolding sections
sections_done index place [] h = tt
sections_done index place (e ∷ ls) h =
    then_ok Done (checked place e) _ (λ _.
    if_ok Done (is_empty_line e.text) (actions (begun index) (past e place) ls) _ (λ t. actions_done (begun index) (past e place) ls (nothing_live index h)) (λ t. tt))

loaded_done : (ls : List Line) → IfOk (loaded ls) Done
unfolding loaded
loaded_done [] = tt
loaded_done (l ∷ ls) =
    then_ok Done (checked start l) _ (λ _.
    next_ok Lined Done (at_line 1 (index_line_at l.text)) _ (at_line_ok 1 (index_line_at l.text) (lined l.text)) (λ index h. sections_done index (past l start) ls h))

pub loaded_indexed : (ls : List Line) → IfOk (loaded ls) IsIndexed
loaded_indexed ls =
    let found : (o : Script Loaded) → IfOk o Done → IfOk o IsIndexed = by in found (loaded ls) (loaded_done ls)
  where
    by : (o : Script Loaded) → IfOk o Done → IfOk o IsIndexed
    by (Ok l) d = record { fitting = d.1; ordered = d.0.0.mapping; paths = d.0.1; some = d.0.0.shards.0; at_most = d.0.0.shards.1; shards = shards_given l.index.mapping l.store l.index.shards d.0.0.shards.0 d.1 }
    by (Err e) d = tt
