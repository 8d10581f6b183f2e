-- Each part of loading by its next line.
use Rattle.std.proofs.Common.{◌≡◌, ◌∙◌, ◌+◌, ◌||◌, ◌<◌, ◌≤◌, ℕ, Bool, true, false, List, [], Option, Some, None, Ok, Err, refl, sym, ap, subst, length, arith}
use Rattle.std.specs.Prelude.{IfErr, IsTrue, if◌then◌else◌, nat_le, option_map}
use Rattle.std.proofs.lemmas.Bool.{eqb-true, le-leb, lt-leb}
use Rattle.script_lines.proofs.LineLemmas.{some_is}
use Rattle.agg_mapping.specs.Faults.{refused_at, StandsAt}
use Rattle.agg_mapping.specs.declared.fault.MapFault.TheVariants as map_fault
use Rattle.agg_model.specs.Lines.{Line, lines}
use Rattle.agg_model.specs.declared.bulk.Action.{Action}
use Rattle.agg_model.specs.declared.bulk.Applied.{Applied}
use Rattle.agg_model.specs.declared.bulk.Item.{Item}
use Rattle.agg_model.specs.declared.limits.TheConstants.{MAX_ACTIONS}
use Rattle.agg_model.specs.declared.script_refusal.TheConstants.{BAD_INDEX_LINE, MISSING_SECTION, MISSING_SOURCE, TOO_MANY_DOCUMENTS}
use Rattle.agg_reading.proofs.LineRefusals.{an_index_line}
use Rattle.agg_reading.specs.Action.{action_at}
use Rattle.agg_reading.specs.IndexLine.{index_line_at}
use Rattle.agg_reading.specs.Lines.{Place, Script, start, past, is_empty_line, refuse_script}
use Rattle.agg_reading.specs.Reading.{Reading, Fails, ◌>>=◌}
use Rattle.agg_reading.specs.Refusals.{is_refusal, index_line_refusals, action_refusals}
use Rattle.agg_reading.specs.Script.{Loading, Loaded, loaded, sections, actions, source_of, heading_of, with_action, at_line, after, begun, done_at, is_delete}
use Rattle.agg_reading.specs.Store.{Store, applied}
use Rattle.agg_reading.specs.declared.fault.RequestFault.{RequestFault}
use Rattle.agg_reading.specs.declared.fault.RequestFault.TheVariants.{NotJson, Bad, Memory}
use Rattle.agg_reading.specs.declared.parts.Heading.{Heading}
use Rattle.agg_reading.specs.declared.parts.IndexLine.{IndexLine}
use Rattle.agg_bulk.specs.Loading.{GoesOnAt, Ends, after_line, after_heading, after_action, is_action_fault, fault_at, loading_of}
use Rattle.agg_bulk.proofs.StepLemmas.{Section, Taken, stops, goes_on_as, whole, left_lines}

abbrev at_index : Place → Line → List Line → Script Loaded
at_index place l more = at_line (place.number + 1) (index_line_at l.text) >>= λ index. sections index (past l place) more

first_section : Section MISSING_SECTION start loaded (at_index start)
unfolding loaded
first_section = record { end = refl; line = λ l more. refl }

pub index_section : (place : Place) → place ≡ start → Section MISSING_SECTION place loaded (at_index place)
index_section place is = subst (λ (p : Place). Section MISSING_SECTION p loaded (at_index p)) (sym is) first_section

abbrev at_empty : IndexLine → Place → Line → List Line → Script Loaded
at_empty index place e more = if is_empty_line e.text then actions (begun index) (past e place) more else refuse_script MISSING_SECTION (place.number + 1)

pub empty_section : (index : IndexLine) (place : Place) → Section MISSING_SECTION place (sections index place) (at_empty index place)
unfolding sections
empty_section index place = record { end = refl; line = λ l more. refl }

abbrev at_action : Loading → Place → Line → List Line → Script Loaded
at_action now place l more =
    if is_empty_line l.text then Ok (done_at now (past l place) more) else (heading_of (place.number + 1) l now >>= λ heading. after_line heading now (past l place) more)

pub action_section : (now : Loading) (place : Place) → Section MISSING_SECTION place (actions now place) (at_action now place)
unfolding actions
action_section now place = record { end = refl; line = λ l more. refl }

abbrev at_source : Heading → Loading → Place → Line → List Line → Script Loaded
at_source heading now place s more = if is_empty_line s.text then refuse_script MISSING_SOURCE place.number else actions (with_action heading s.text now) (past s place) more

pub source_section : (heading : Heading) (now : Loading) (place : Place) → Section MISSING_SOURCE place (source_of heading now place) (at_source heading now place)
unfolding source_of
source_section heading now place = record { end = refl; line = λ l more. refl }

-- the index line

or_nothing : (b : Bool) → (b || false) ≡ true → b ≡ true
or_nothing true e = refl
or_nothing false e = absurd cc

refused_walk : (walk : Reading IndexLine) (path : List ℕ) → IfErr walk (λ e. IsTrue (is_refusal index_line_refusals e)) → StandsAt (refused_at walk) (map_fault.Refused path) → walk ≡ Err (Bad BAD_INDEX_LINE path)
refused_walk (Ok x) path own stands = absurd cc
refused_walk (Err NotJson) path own stands = absurd cc
refused_walk (Err Memory) path own stands = absurd cc
refused_walk (Err (Bad code at)) path own stands =
    ap (λ (n : ℕ). Err (Bad n at)) (sym (eqb-true BAD_INDEX_LINE code (or_nothing _ own))) ∙ ap (λ (p : List ℕ). Err (Bad BAD_INDEX_LINE p)) (some_is at path stands)

module _ (bytes text : List ℕ) (place now : Place) (left : Option (List ℕ)) (count : ℕ) (ended : Bool) (taken : Taken bytes text place now (at_index place) left count ended) where
  pub index_read : (index : IndexLine) → index_line_at text ≡ Ok index → GoesOnAt bytes (sections index now) left count ended
  index_read index is =
      goes_on_as _ _ _ _ _ taken.goes_on (sections index now)
      (λ more. ap (λ (r : Reading IndexLine). at_line (place.number + 1) r >>= λ index. sections index (past taken.l place) more) (ap index_line_at taken.text_is ∙ is)
      ∙ ap (λ (p : Place). sections index p more) (sym taken.place_is))

  pub index_refused : (path : List ℕ) → StandsAt (refused_at (index_line_at text)) (map_fault.Refused path) → loaded (lines bytes) ≡ Err (record { number = BAD_INDEX_LINE; line = now.number; path = path })
  index_refused path stands =
      stops _ _ _ _ _ taken.goes_on _
      (λ more. ap (λ (r : Reading IndexLine). at_line (place.number + 1) r >>= λ index. sections index (past taken.l place) more)
      (ap index_line_at taken.text_is ∙ refused_walk (index_line_at text) path (an_index_line text).refusal stands)
      ∙ ap (λ (p : Place). Err (record { number = BAD_INDEX_LINE; line = p.number; path = path })) (sym taken.place_is))

-- the empty line behind it

module _ (bytes text : List ℕ) (index : IndexLine) (place now : Place) (left : Option (List ℕ)) (count : ℕ) (ended : Bool) (taken : Taken bytes text place now (at_empty index place) left count ended) where
  pub empty_read : is_empty_line text ≡ true → GoesOnAt bytes (actions (begun index) now) left count ended
  empty_read is =
      goes_on_as _ _ _ _ _ taken.goes_on (actions (begun index) now)
      (λ more. ap (λ (b : Bool). if b then actions (begun index) (past taken.l place) more else refuse_script MISSING_SECTION (place.number + 1)) (ap is_empty_line taken.text_is ∙ is)
      ∙ ap (λ (p : Place). actions (begun index) p more) (sym taken.place_is))

  pub empty_refused : is_empty_line text ≡ false → loaded (lines bytes) ≡ refuse_script MISSING_SECTION now.number
  empty_refused other =
      stops _ _ _ _ _ taken.goes_on _
      (λ more. ap (λ (b : Bool). if b then actions (begun index) (past taken.l place) more else refuse_script MISSING_SECTION (place.number + 1)) (ap is_empty_line taken.text_is ∙ other)
      ∙ ap (λ (p : Place). refuse_script MISSING_SECTION p.number) (sym taken.place_is))

-- the line of an action

module _ (bytes text : List ℕ) (now : Loading) (place next : Place) (left : Option (List ℕ)) (count : ℕ) (ended : Bool) (taken : Taken bytes text place next (at_action now place) left count ended) where
  abbrev by_test : Bool → List Line → Script Loaded
  by_test b more = if b then Ok (done_at now (past taken.l place) more) else (heading_of (place.number + 1) taken.l now >>= λ heading. after_line heading now (past taken.l place) more)

  pub actions_end : is_empty_line text ≡ true → GoesOnAt bytes (after_heading now next None) left count ended
  actions_end is =
      goes_on_as _ _ _ _ _ taken.goes_on (after_heading now next None)
      (λ more. ap (λ (b : Bool). by_test b more) (ap is_empty_line taken.text_is ∙ is) ∙ ap (λ (p : Place). Ok (done_at now p more)) (sym taken.place_is))

  abbrev by_reading : Bool → Reading Heading → List Line → Script Loaded
  by_reading full r more =
      (if full then refuse_script TOO_MANY_DOCUMENTS (place.number + 1) else at_line (place.number + 1) r) >>= λ heading. after_line heading now (past taken.l place) more

  by_action : is_empty_line text ≡ false → (more : List Line) → at_action now place taken.l more ≡ by_reading (nat_le MAX_ACTIONS now.actions) (action_at now.index.name now.actions text) more
  unfolding heading_of
  by_action other more =
      ap (λ (b : Bool). by_test b more) (ap is_empty_line taken.text_is ∙ other)
      ∙ ap (λ (t : List ℕ). by_reading (nat_le MAX_ACTIONS now.actions) (action_at now.index.name now.actions t) more) taken.text_is

  pub too_many : is_empty_line text ≡ false → nat_le MAX_ACTIONS now.actions ≡ true → loaded (lines bytes) ≡ refuse_script TOO_MANY_DOCUMENTS next.number
  too_many other full =
      stops _ _ _ _ _ taken.goes_on _
      (λ more. by_action other more ∙ ap (λ (b : Bool). by_reading b (action_at now.index.name now.actions text) more) full
      ∙ ap (λ (p : Place). refuse_script TOO_MANY_DOCUMENTS p.number) (sym taken.place_is))

  module _ (other : is_empty_line text ≡ false) (room : nat_le MAX_ACTIONS now.actions ≡ false) where
    by_line : (r : Reading Heading) → action_at now.index.name now.actions text ≡ r → (more : List Line) → at_action now place taken.l more ≡ by_reading false r more
    by_line r is more = by_action other more ∙ ap (λ (b : Bool). by_reading b (action_at now.index.name now.actions text) more) room ∙ ap (λ (q : Reading Heading). by_reading false q more) is

    pub action_read : (heading : Heading) → action_at now.index.name now.actions text ≡ Ok heading → GoesOnAt bytes (after_heading now next (Some heading)) left count ended
    action_read heading is =
        goes_on_as _ _ _ _ _ taken.goes_on (after_heading now next (Some heading))
        (λ more. by_line (Ok heading) is more ∙ ap (λ (p : Place). after_line heading now p more) (sym taken.place_is))

    pub action_refused : (code : ℕ) (path : List ℕ) → action_at now.index.name now.actions text ≡ Err (Bad code path) → loaded (lines bytes) ≡ Err (record { number = code; line = next.number; path = path })
    action_refused code path is =
        stops _ _ _ _ _ taken.goes_on _
        (λ more. by_line (Err (Bad code path)) is more ∙ ap (λ (p : Place). Err (record { number = code; line = p.number; path = path })) (sym taken.place_is))

-- its source line

module _ (bytes text : List ℕ) (heading : Heading) (now : Loading) (place next : Place) (left : Option (List ℕ)) (count : ℕ) (ended : Bool) (taken : Taken bytes text place next (at_source heading now place) left count ended) where
  pub source_read : is_empty_line text ≡ false → GoesOnAt bytes (actions (with_action heading text now) next) left count ended
  source_read other =
      goes_on_as _ _ _ _ _ taken.goes_on (actions (with_action heading text now) next)
      (λ more. ap (λ (b : Bool). if b then refuse_script MISSING_SOURCE place.number else actions (with_action heading taken.l.text now) (past taken.l place) more) (ap is_empty_line taken.text_is ∙ other)
      ∙ ap (λ (t : List ℕ). actions (with_action heading t now) (past taken.l place) more) taken.text_is
      ∙ ap (λ (p : Place). actions (with_action heading text now) p more) (sym taken.place_is))

  pub source_missing : is_empty_line text ≡ true → loaded (lines bytes) ≡ refuse_script MISSING_SOURCE place.number
  source_missing is =
      stops _ _ _ _ _ taken.goes_on _
      (λ more. ap (λ (b : Bool). if b then refuse_script MISSING_SOURCE place.number else actions (with_action heading taken.l.text now) (past taken.l place) more) (ap is_empty_line taken.text_is ∙ is))

-- an action with its source
pub as_action : (heading : Heading) (source : List ℕ) (now : Loading) →
    with_action heading source now
    ≡ (let action : Action = record { kind = heading.kind; id = heading.id; routing = heading.routing; source = source } in after action (applied now.index.mapping action now.store) now)
unfolding with_action
as_action heading source now = refl

-- no source line is wanted of a delete, and one of each other action
pub with_source_line : (bytes : List ℕ) (heading : Heading) (now : Loading) (place : Place) (left : Option (List ℕ)) (count : ℕ) (ended : Bool) → is_delete heading.kind ≡ false →
    GoesOnAt bytes (after_line heading now place) left count ended → GoesOnAt bytes (source_of heading now place) left count ended
with_source_line bytes heading now place left count ended other goes_on =
    goes_on_as _ _ _ _ _ goes_on (source_of heading now place) (λ more. ap (λ (b : Bool). if b then actions (with_action heading [] now) place more else source_of heading now place more) other)

pub without_source_line : (bytes : List ℕ) (heading : Heading) (now : Loading) (place : Place) (left : Option (List ℕ)) (count : ℕ) (ended : Bool) → is_delete heading.kind ≡ true →
    GoesOnAt bytes (after_line heading now place) left count ended → GoesOnAt bytes (actions (with_action heading [] now) place) left count ended
without_source_line bytes heading now place left count ended deletes goes_on =
    goes_on_as _ _ _ _ _ goes_on (actions (with_action heading [] now) place) (λ more. ap (λ (b : Bool). if b then actions (with_action heading [] now) place more else source_of heading now place more) deletes)

-- whether one more action is taken
pub full_is : (actions taken : ℕ) → actions ≡ taken → MAX_ACTIONS ≤ taken → nat_le MAX_ACTIONS actions ≡ true
full_is actions taken same full = le-leb _ _ (omega (arith, same, full))

pub room_is : (actions taken : ℕ) → actions ≡ taken → taken < MAX_ACTIONS → nat_le MAX_ACTIONS actions ≡ false
room_is actions taken same room = lt-leb _ _ (omega (arith, same, room))

-- what an action line is refused with
pub action_fault : (e : RequestFault) (walk : Reading Heading) → IfErr walk (λ e. IsTrue (is_refusal action_refusals e)) → Fails e walk → IsTrue (is_action_fault e)
action_fault NotJson walk own fails = absurd (let never = subst (λ (w : Reading Heading). IfErr w (λ e. IsTrue (is_refusal action_refusals e))) fails own in cc)
action_fault (Bad code at) walk own fails = subst (λ (w : Reading Heading). IfErr w (λ e. IsTrue (is_refusal action_refusals e))) fails own
action_fault Memory walk own fails = refl

-- the end of the script at an action line
pub action_ends : (bytes text : List ℕ) (now : Loading) (place next : Place) (left : Option (List ℕ)) (count : ℕ) (ended : Bool) (taken : Taken bytes text place next (at_action now place) left count ended) →
    is_empty_line text ≡ false → nat_le MAX_ACTIONS now.actions ≡ false → (e : RequestFault) (read : ℕ) → Fails e (action_at now.index.name now.actions text) → Ends bytes (fault_at next.number e) read
action_ends bytes text now place next left count ended taken other room NotJson read fails = tt
action_ends bytes text now place next left count ended taken other room (Bad code path) read fails = action_refused bytes text now place next left count ended taken other room code path fails
action_ends bytes text now place next left count ended taken other room Memory read fails = tt

-- loading with an item for each action

pub as_loading : (bytes : List ℕ) (place : Place) (left : Option (List ℕ)) (count : ℕ) (ended : Bool) (a b : Loading) → GoesOnAt bytes (actions a place) left count ended → a ≡ b → GoesOnAt bytes (actions b place) left count ended
as_loading bytes place left count ended a b goes_on same = subst (λ (l : Loading). GoesOnAt bytes (actions l place) left count ended) same goes_on

pub begun_is : (index : IndexLine) (store : Store) (items : List Item) → store ≡ [] → items ≡ [] → begun index ≡ loading_of index store items
begun_is index store items none nothing = ap (λ (s : Store). loading_of index s []) (sym none) ∙ ap (loading_of index store) (sym nothing)

one_more : (action : Action) (done : Reading (Applied × Store)) (now : Loading) → (after action done now).actions ≡ now.actions + 1
one_more action (Ok done) now = refl
one_more action (Err e) now = refl

pub one_more_item : (action : Action) (done : Reading (Applied × Store)) (index : IndexLine) (store new : Store) (items more : List Item) → after action done (loading_of index store items) ≡ loading_of index new more → length more ≡ length items + 1
one_more_item action done index store new items more same = sym (ap (λ (l : Loading). l.actions) same) ∙ one_more action done (loading_of index store items)

-- all is loaded
pub all_loaded : (bytes : List ℕ) (now : Loading) (place : Place) (left : Option (List ℕ)) (count : ℕ) (ended : Bool) → GoesOnAt bytes (after_action now place None) left count ended →
    (rest : List Line) × (option_map lines left ≡ Some rest) × (loaded (lines bytes) ≡ Ok (done_at now place rest)) × GoesOnAt bytes (after_action now place None) left count ended
all_loaded bytes now place left count ended goes_on = (lines goes_on.handed.rest, left_lines _ _ _ _ _ goes_on, whole _ _ _ _ _ goes_on, goes_on)
