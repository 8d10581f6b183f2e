-- The last line of a run that ends early: words outside the grammar, or a script that is refused.
use Rattle.std.specs.Prelude.{ℕ, if◌then◌else◌, ◌==◌, List, [], ◌∷◌, ◌++◌, unwrap_or, find, option_map, codes}
use Rattle.agg_model.specs.declared.script_refusal.TheConstants.{BAD_HEADER, BAD_INDEX_LINE, INPUT_TOO_LONG, LINE_TOO_LONG, MALFORMED_ACTION, MISSING_BODY, MISSING_SECTION, MISSING_SOURCE, NOT_BUILT, TOO_MANY_DOCUMENTS, UPDATE_NOT_SUPPORTED}
use Rattle.agg_model.specs.declared.settings.Usage.{Usage}
use Rattle.agg_spec.specs.Json.{Member, count}
use Rattle.agg_spec.specs.ErrorLines.{error_line, text_member}

abbrev pub usage_line : Usage → List ℕ
usage_line u = error_line (text_member (codes "key") u.key ∷ text_member (codes "type") (codes "usage") ∷ text_member (codes "value") u.value ∷ []) 2

abbrev pub script_types : List (ℕ × List ℕ)
script_types =
    (NOT_BUILT, codes "not_built") ∷ (LINE_TOO_LONG, codes "line_too_long") ∷ (BAD_INDEX_LINE, codes "bad_index_line")
    ∷ (MALFORMED_ACTION, codes "malformed_action") ∷ (UPDATE_NOT_SUPPORTED, codes "update_not_supported")
    ∷ (MISSING_SOURCE, codes "missing_source") ∷ (TOO_MANY_DOCUMENTS, codes "too_many_documents")
    ∷ (MISSING_BODY, codes "missing_body") ∷ (INPUT_TOO_LONG, codes "input_too_long")
    ∷ (MISSING_SECTION, codes "missing_section") ∷ (BAD_HEADER, codes "bad_header") ∷ []

abbrev pub script_type : ℕ → List ℕ
script_type number = unwrap_or (option_map (λ t. t.1) (find (λ t. t.0 == number) script_types)) []

-- BAD_INDEX_LINE alone tells where in the index line it lies
abbrev pub script_path : ℕ → List ℕ → List Member
script_path number path = if number == BAD_INDEX_LINE then text_member (codes "path") path ∷ [] else []

-- a refusal by its number, the line where it was found, and the pointer in the index line
abbrev pub script_line : ℕ → ℕ → List ℕ → List ℕ
script_line number line path =
    error_line ((codes "line", count line) ∷ (codes "number", count number) ∷ (script_path number path ++ text_member (codes "type") (script_type number) ∷ [])) 5
