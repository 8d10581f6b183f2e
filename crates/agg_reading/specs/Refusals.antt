-- The refusals that a reading may answer, by their numbers (Elasticsearch Reference 8, 'API conventions': errors).
use Rattle.std.specs.Prelude.{ℕ, List, [], ◌∷◌, Bool, false, IfErr, IsTrue, ◌==◌}
use Rattle.std.specs.List.{list_any}
use Rattle.agg_model.specs.declared.body_refusal.TheConstants.{BODY_NOT_OBJECT, INVALID_NAME, LIMIT_EXCEEDED, MISPLACED_AGGREGATION, MISPLACED_PIPELINE, MISSING_MEMBER, NOT_ONE_MEMBER, NO_SUCH_CHILD, NO_SUCH_FIELD, NO_SUCH_PATH, NO_SUCH_PIPE_PATH, OUT_OF_RANGE, UNKNOWN_KIND, UNKNOWN_MEMBER, UNKNOWN_QUERY, WRONG_TYPE}
use Rattle.agg_model.specs.declared.item_refusal.TheConstants.{INDEX_FULL, KEYWORD_TOO_LONG, NUMBER_OUT_OF_RANGE, SOURCE_NOT_OBJECT, STRICT_MAPPING, TOO_MANY_FIELD_VALUES, TOO_MANY_NESTED_OBJECTS, VERSION_CONFLICT, WRONG_FIELD_TYPE}
use Rattle.agg_model.specs.declared.script_refusal.TheConstants.{BAD_INDEX_LINE, INPUT_TOO_LONG, LINE_TOO_LONG, MALFORMED_ACTION, MISSING_SECTION, MISSING_SOURCE, TOO_MANY_DOCUMENTS, UPDATE_NOT_SUPPORTED}
use Rattle.agg_reading.specs.declared.fault.RequestFault.{RequestFault}
use Rattle.agg_reading.specs.declared.fault.RequestFault.TheVariants.{NotJson, Bad, Memory}
use Rattle.agg_reading.specs.Reading.{Reading}
use Rattle.agg_reading.specs.Lines.{Script}

-- a broken rule with one of these numbers: neither want of memory nor bytes that are no JSON
abbrev pub is_refusal : List ℕ → RequestFault → Bool
is_refusal numbers (Bad code at) = list_any (λ n. n == code) numbers
is_refusal numbers NotJson = false
is_refusal numbers Memory = false

-- the reading gives a value, or is refused with one of these numbers
abbrev pub RefusesWith : {A : Type 0} → List ℕ → Reading A → Type 0
RefusesWith numbers read = IfErr read (λ e. IsTrue (is_refusal numbers e))

abbrev pub index_line_refusals : List ℕ
index_line_refusals = BAD_INDEX_LINE ∷ []

abbrev pub action_refusals : List ℕ
action_refusals = MALFORMED_ACTION ∷ UPDATE_NOT_SUPPORTED ∷ []

abbrev pub document_refusals : List ℕ
document_refusals =
    SOURCE_NOT_OBJECT ∷ WRONG_FIELD_TYPE ∷ NUMBER_OUT_OF_RANGE ∷ KEYWORD_TOO_LONG ∷ TOO_MANY_NESTED_OBJECTS
    ∷ TOO_MANY_FIELD_VALUES ∷ STRICT_MAPPING ∷ []

-- of a document that is to be stored
abbrev pub item_refusals : List ℕ
item_refusals = VERSION_CONFLICT ∷ INDEX_FULL ∷ document_refusals

abbrev pub body_refusals : List ℕ
body_refusals =
    BODY_NOT_OBJECT ∷ UNKNOWN_MEMBER ∷ MISSING_MEMBER ∷ WRONG_TYPE ∷ OUT_OF_RANGE ∷ UNKNOWN_QUERY ∷ UNKNOWN_KIND ∷ NOT_ONE_MEMBER
    ∷ NO_SUCH_FIELD ∷ NO_SUCH_PATH ∷ MISPLACED_AGGREGATION ∷ LIMIT_EXCEEDED ∷ INVALID_NAME ∷ NO_SUCH_CHILD
    ∷ NO_SUCH_PIPE_PATH ∷ MISPLACED_PIPELINE ∷ []

-- of the first two sections of a script
abbrev pub loading_refusals : List ℕ
loading_refusals =
    LINE_TOO_LONG ∷ BAD_INDEX_LINE ∷ MALFORMED_ACTION ∷ UPDATE_NOT_SUPPORTED ∷ MISSING_SOURCE
    ∷ TOO_MANY_DOCUMENTS ∷ INPUT_TOO_LONG ∷ MISSING_SECTION ∷ []

-- a script gives a value, or is refused with one of these numbers
abbrev pub StopsWith : {A : Type 0} → List ℕ → Script A → Type 0
StopsWith numbers script = IfErr script (λ e. IsTrue (list_any (λ n. n == e.number) numbers))
