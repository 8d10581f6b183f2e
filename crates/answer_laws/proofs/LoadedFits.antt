-- The searches of a script that was loaded are made for its mapping.
use Rattle.std.specs.Prelude.{◌≡◌, true, List, [], ◌∷◌, Option, Some, None, Result, Ok, Err, IfOk}
use Rattle.std.specs.List.{AllByRecursion}
use Rattle.std.proofs.Common.{subst}
use Rattle.agg_model.specs.declared.aggregation.Search.{Search}
use Rattle.agg_model.specs.declared.breaker.Tripped.{Tripped}
use Rattle.agg_model.specs.declared.mapping.Mapping.{Mapping}
use Rattle.agg_model.specs.declared.settings.Settings.{Settings}
use Rattle.agg_evaluation.specs.SearchFits.{search_fits}
use Rattle.agg_reading.specs.Entries.{Entry, body, change, entries}
use Rattle.agg_reading.specs.Lines.{ScriptRefusal}
use Rattle.agg_reading.specs.Request.{search_of}
use Rattle.agg_reading.specs.Script.{Loaded}
use Rattle.agg_reading.specs.declared.fault.RequestFault.{RequestFault}
use Rattle.agg_spec.specs.Columns.{columns_refusal}
use Rattle.agg_spec.specs.Index.{Index}
use Rattle.agg_spec.specs.Outcome.{Request}
use Rattle.agg_spec.specs.Output.{Script, answered, refused, too_heavy, if_light, script_from}
use Rattle.agg_spec.specs.Requests.{LoadedScript, Segment, loaded_script, or_refused, request_of, segments, with_request}
use Rattle.fitting_laws.proofs.Searches.{search_fits_of}

-- a body that is no search, or one that is made for the mapping
abbrev pub Fits : Mapping → Request → Type 0
Fits m r = IfOk r.search (λ s. search_fits m s ≡ true)

abbrev pub AllFit : Mapping → List Segment → Type 0
AllFit m = AllByRecursion (λ segment. AllByRecursion (Fits m) segment.requests)

body-fits : (m : Mapping) (found : Result Search RequestFault) → IfOk found (λ s. search_fits m s ≡ true) → IfOk (or_refused found) (λ s. search_fits m s ≡ true)
body-fits m (Ok search) h = h
body-fits m (Err fault) h = tt

with-fit : (m : Mapping) (r : Request) (rest : List Segment) → Fits m r → AllFit m rest → AllFit m (with_request r rest)
with-fit m r [] fit fits = tt
with-fit m r (s ∷ rest) fit fits = ((fit, fits.0), fits.1)

segments-fit : (index : Index) (es : List Entry) → AllFit index.mapping (segments index es)
segments-fit index [] = (tt, tt)
segments-fit index (body bytes ∷ rest) =
    with-fit index.mapping (request_of index bytes) (segments index rest) (body-fits index.mapping (search_of index.mapping bytes) (search_fits_of index.mapping bytes)) (segments-fit index rest)
segments-fit index (change line ∷ rest) = (tt, segments-fit index rest)

-- what a script is, where it is one that is answered
abbrev IfAnswered : (LoadedScript → Type 0) → Script → Type 0
IfAnswered P (answered s) = P s
IfAnswered P (refused r) = Unit {0}
IfAnswered P (too_heavy t) = Unit {0}

abbrev ScriptFit : LoadedScript → Type 0
ScriptFit s = AllFit s.index.mapping s.segments

light-fits : (s : LoadedScript) (o : Option Tripped) → ScriptFit s → IfAnswered ScriptFit (if_light s o)
light-fits s None h = h
light-fits s (Some t) h = tt

loads-fit : (words : Settings) (r : Result Loaded ScriptRefusal) → IfAnswered ScriptFit (script_from words r)
loads-fit words (Err e) = tt
loads-fit words (Ok l) =
    light-fits (loaded_script l) (columns_refusal words.limits (loaded_script l).columns) (segments-fit (loaded_script l).index (entries l.place l.rest).entries)

pub script-fits : (words : Settings) (r : Result Loaded ScriptRefusal) (s : LoadedScript) → script_from words r ≡ answered s → AllFit s.index.mapping s.segments
script-fits words r s e = subst (IfAnswered ScriptFit) e (loads-fit words r)
