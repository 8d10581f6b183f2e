-- The first two sections of a script: the index line, an empty line, and bulk lines up to an empty line
-- (Elasticsearch Reference 8, 'Bulk API').
use Rattle.std.specs.Prelude.{ℕ, ◌+◌, List, [], ◌∷◌, ◌++◌, Ok, Err, Bool, true, false, nat_le, if◌then◌else◌}
use Rattle.agg_model.specs.declared.limits.TheConstants.{MAX_ACTIONS}
use Rattle.agg_model.specs.declared.script_refusal.TheConstants.{MISSING_SECTION, MISSING_SOURCE, TOO_MANY_DOCUMENTS}
use Rattle.agg_model.specs.declared.bulk.Action.{Action}
use Rattle.agg_model.specs.declared.bulk.ActionKind.{ActionKind}
use Rattle.agg_model.specs.declared.bulk.ActionKind.TheVariants.{Index, Create, Delete}
use Rattle.agg_model.specs.declared.bulk.Applied.{Applied}
use Rattle.agg_model.specs.declared.bulk.Item.{Item}
use Rattle.agg_model.specs.declared.bulk.ItemEnd.{ItemEnd}
use Rattle.agg_model.specs.declared.bulk.ItemEnd.TheVariants as end
use Rattle.agg_model.specs.declared.bulk.ItemRefusal.{ItemRefusal}
use Rattle.agg_reading.specs.declared.fault.RequestFault.{RequestFault}
use Rattle.agg_reading.specs.declared.fault.RequestFault.TheVariants.{NotJson, Bad, Memory}
use Rattle.agg_reading.specs.Reading.{Reading, ◌>>=◌, ◌>>◌}
use Rattle.agg_reading.specs.declared.parts.IndexLine.{IndexLine}
use Rattle.agg_reading.specs.IndexLine.{index_line_at}
use Rattle.agg_reading.specs.declared.parts.Heading.{Heading}
use Rattle.agg_reading.specs.Action.{action_at}
use Rattle.agg_reading.specs.Store.{Store, applied}
use Rattle.agg_model.specs.Lines.{Line}
use Rattle.agg_reading.specs.Lines.{Place, start, past, is_empty_line, ScriptRefusal, Script, refuse_script, checked}

-- The refusal of a line, with its number. The readings of lines answer no other fault.
abbrev pub refusal_at : ℕ → RequestFault → ScriptRefusal
refusal_at line NotJson = record { number = 0; line = line; path = [] }
refusal_at line (Bad code path) = record { number = code; line = line; path = path }
refusal_at line Memory = record { number = 0; line = line; path = [] }

abbrev pub at_line : {A : Type 0} → ℕ → Reading A → Script A
at_line line (Ok x) = Ok x
at_line line (Err e) = Err (refusal_at line e)

-- what was loaded up to some line
pub record Loading : Type 0 where
  pub index : IndexLine
  pub store : Store
  pub items : List Item
  -- the number of action lines
  pub actions : ℕ

-- the refusal of an item
abbrev pub item_refusal : RequestFault → ItemRefusal
item_refusal NotJson = record { number = 0; path = [] }
item_refusal (Bad code path) = record { number = code; path = path }
item_refusal Memory = record { number = 0; path = [] }

abbrev pub with_item : Action → ItemEnd → Store → Loading → Loading
with_item action ended store now = record {
  index = now.index;
  store = store;
  items = now.items ++ record { kind = action.kind; id = action.id; end = ended } ∷ [];
  actions = now.actions + 1;
}

-- a refused item leaves the store as it was
abbrev pub after : Action → Reading (Applied × Store) → Loading → Loading
after action (Ok done) now = with_item action (end.Applied done.0) done.1 now
after action (Err e) now = with_item action (end.Refused (item_refusal e)) now.store now

-- one more action, by its heading and its source line, which a delete has not
unfoldable pub with_action : Heading → List ℕ → Loading → Loading
with_action heading source now =
    let action : Action = record { kind = heading.kind; id = heading.id; routing = heading.routing; source = source } in
    after action (applied now.index.mapping action now.store) now

-- the action of a line; at most MAX_ACTIONS are taken
unfoldable pub heading_of : ℕ → Line → Loading → Script Heading
heading_of line l now =
    if nat_le MAX_ACTIONS now.actions then refuse_script TOO_MANY_DOCUMENTS line else at_line line (action_at now.index.name now.actions l.text)

abbrev pub is_delete : ActionKind → Bool
is_delete Index = false
is_delete Create = false
is_delete Delete = true

-- what was loaded, and what is left of the input
pub record Loaded : Type 0 where
  pub index : IndexLine
  pub store : Store
  pub items : List Item
  pub place : Place
  pub rest : List Line

-- the loading is done at an empty line
abbrev pub done_at : Loading → Place → List Line → Loaded
done_at now place rest = record { index = now.index; store = now.store; items = now.items; place = place; rest = rest }

-- The bulk lines: each action with its source line, up to the empty line.
unfoldable mutual
  pub actions : Loading → Place → List Line → Script Loaded
  actions now place [] = refuse_script MISSING_SECTION place.number
  actions now place (l ∷ ls) =
      checked place l >>
      (if is_empty_line l.text then Ok (done_at now (past l place) ls) else (do
        heading ← heading_of (place.number + 1) l now
        if is_delete heading.kind then actions (with_action heading [] now) (past l place) ls else source_of heading now (past l place) ls))

  -- the source line of the action above it, whose line is refused where this one is empty or not there
  pub source_of : Heading → Loading → Place → List Line → Script Loaded
  source_of heading now place [] = refuse_script MISSING_SOURCE place.number
  source_of heading now place (s ∷ ls) =
      checked place s >>
      (if is_empty_line s.text then refuse_script MISSING_SOURCE place.number else actions (with_action heading s.text now) (past s place) ls)

abbrev pub begun : IndexLine → Loading
begun index = record { index = index; store = []; items = []; actions = 0 }

-- the empty line after the index line, and the bulk lines
unfoldable pub sections : IndexLine → Place → List Line → Script Loaded
sections index place [] = refuse_script MISSING_SECTION place.number
sections index place (e ∷ ls) =
    checked place e >>
    (if is_empty_line e.text then actions (begun index) (past e place) ls else refuse_script MISSING_SECTION (place.number + 1))

-- the first two sections of a script
unfoldable pub loaded : List Line → Script Loaded
loaded [] = refuse_script MISSING_SECTION 0
loaded (l ∷ ls) = do
  checked start l
  index ← at_line 1 (index_line_at l.text)
  sections index (past l start) ls
