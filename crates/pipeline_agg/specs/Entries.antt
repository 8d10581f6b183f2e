-- What prints under the names of an object ('Pipeline aggregations').
use Rattle.std.specs.Prelude.{◌≡◌, ℕ, pos, List, [], ◌++◌, map, filter_map, flat_map, Option, Some, None, Result, Ok, Err}
use Rattle.std.specs.List.{All, AllByRecursion}
use Rattle.std.specs.Option.{option_map_or}
use Rattle.std.specs.declared.cmp.Ordering.{Ordering}
use Rattle.std.specs.Ordering.{nat_cmp}
use Rattle.std.specs.Cmp.Lexicographic.{slice_cmp}
use Rattle.agg_model.specs.declared.aggregation.Agg.{Agg}
use Rattle.agg_model.specs.declared.aggregation.Kind.{Kind}
use Rattle.agg_model.specs.declared.answer.BucketAnswer.{BucketAnswer, out-BucketAnswer}
use Rattle.agg_model.specs.declared.answer.NodeAnswer.{NodeAnswer}
use Rattle.agg_model.specs.declared.pipeline.Note.{Note}
use Rattle.agg_model.specs.declared.pipeline.Pipe.{Pipe}
use Rattle.agg_spec.specs.Notes.{no_parents, piper}
use Rattle.agg_spec.specs.RangeCheck.{first_path}
use Rattle.agg_spec.specs.Remarks.{Remark, sibling_says}
use Rattle.bucket_order.specs.Kinds.{child_kinds}
use Rattle.pipeline_agg.specs.Parents.{IsSmall, next_running, next_says}
use Rattle.pipeline_agg.specs.Placed.{pipe_of}
use Rattle.pipeline_agg.specs.Told.{IsCause, IsFit, first_wide, notes_of}
use Rattle.pipeline_agg.specs.declared.entries.Entry.{Entry}
use Rattle.pipeline_agg.specs.declared.entries.Teller.{Teller}
use Rattle.pipeline_agg.specs.declared.fault.PipeFault.{PipeFault}
use Rattle.pipeline_agg.specs.declared.parents.Running.{Running}
use Rattle.pipeline_agg.specs.declared.remarked.Said.{Said}
use Rattle.pipeline_agg.specs.declared.remarked.Said.TheVariants as said

-- a name, with what prints under it
abbrev pub View : Type 0
View = List ℕ × Said

abbrev pub view_of : Entry → View
view_of e = (e.name.now, e.said)

-- what is said where the values of some remarks are looked at, and others are kept
abbrev pub said_of : List Remark → List Remark → Said
said_of looked_at kept = option_map_or said.Wide (first_wide looked_at) (said.Notes (notes_of kept))

-- a pipeline's name, with what it says
abbrev pub pipe_entry : Pipe → List Remark → View
pipe_entry p remarks = (p.name, said_of remarks remarks)

-- of a pipeline at the top
abbrev pub top_entry : List Agg → List NodeAnswer → Pipe → View
top_entry aggs nodes p = pipe_entry p (sibling_says (map piper aggs) nodes p p.kind ++ no_parents p)

-- a pipeline with what it keeps
abbrev pub teller_of : Teller → Pipe × Running
teller_of t = (pipe_of t.placed, t.running)

-- in front of the first bucket
abbrev pub beginning : Pipe → Pipe × Running
beginning p = (p, record { sum = pos 0; before = None })

-- behind one more bucket
abbrev pub moved_on : List Kind → BucketAnswer → Pipe × Running → Pipe × Running
moved_on kinds b t = (t.0, next_running kinds t.0.kind b t.1)

-- what it says in the object of the next bucket
abbrev pub entry_of_teller : List Agg → BucketAnswer → Pipe × Running → View
entry_of_teller children b t =
    pipe_entry
    t.0
    (sibling_says (map piper children) (out-BucketAnswer b).children t.0 t.0.kind ++ next_says (child_kinds children) t.0 t.0.kind b t.1)

abbrev pub all_small : List Teller → Type 0
all_small = All (λ t. IsSmall t.running)

-- byte order of the names
abbrev pub entry_cmp : View → View → Ordering
entry_cmp a b = slice_cmp nat_cmp a.0 b.0

abbrev pub path_said : Said → Option (List ℕ)
path_said (said.Notes notes) = None
path_said (said.Wide path) = Some path

-- the first path among entries
abbrev pub first_said_wide : List View → Option (List ℕ)
first_said_wide entries = first_path (filter_map (λ e. path_said e.1) entries)

abbrev pub said_notes : Said → List Note
said_notes (said.Notes notes) = notes
said_notes (said.Wide path) = []

-- no entry has a value out of range
abbrev pub AreFit : List View → Type 0
AreFit = AllByRecursion (λ e. IsFit e.1)

-- all notes in the order of the entries, or the first path
abbrev pub IsGathered : List View → Result (List Note) PipeFault → Type 0
IsGathered entries (Ok notes) = AreFit entries × (notes ≡ flat_map (λ e. said_notes e.1) entries)
IsGathered entries (Err fault) = IsCause (first_said_wide entries) fault
