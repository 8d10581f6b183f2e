-- Scripts, loaded or refused.
use Rattle.std.specs.Prelude.{◌≡◌, refl, ℕ, ℤ, pos, List, [], ◌∷◌, ◌++◌, length, nat_lt, if◌then◌else◌, Option, Some, None, Ok, Err, codes}
use Rattle.std.proofs.Common.{sym, subst}
use Rattle.agg_model.specs.declared.row.Document.{Document}
use Rattle.agg_model.specs.declared.row.Row.{Row, roll-Row}
use Rattle.agg_model.specs.declared.row.Scalar.TheVariants as scalar
use Rattle.agg_model.specs.declared.bulk.ActionKind.TheVariants.{Index, Create, Delete}
use Rattle.agg_model.specs.declared.bulk.Applied.TheVariants.{Created, Deleted, NotFound}
use Rattle.agg_model.specs.declared.bulk.Item.{Item}
use Rattle.agg_model.specs.declared.bulk.ItemEnd.TheVariants.{Applied, Refused}
use Rattle.agg_reading.specs.Reading.{◌>>=◌}
use Rattle.agg_reading.specs.declared.parts.IndexLine.{IndexLine}
use Rattle.agg_model.specs.Lines.{lines}
use Rattle.agg_reading.specs.Lines.{start, line_fault, Script, refuse_script}
use Rattle.agg_reading.specs.Store.{live_documents}
use Rattle.agg_reading.specs.Script.{Loaded, loaded, heading_of}
use Rattle.agg_reading.specs.Entries.{Entries, body, change, entries}
use Rattle.serde_json.specs.Data.{object, no_members, member}
use Rattle.agg_reading.proofs.Computing.{computing}
use Rattle.agg_reading.proofs.Mappings.{plain}

-- the bytes of lines, each with its newline
abbrev lined : List (List ℕ) → List ℕ
lined [] = []
lined (l ∷ ls) = l ++ 10 ∷ lined ls

abbrev load : List (List ℕ) → Script Loaded
load ls = loaded (lines (lined ls))

abbrev items_of : List (List ℕ) → Script (List Item)
items_of ls = load ls >>= λ r. Ok r.items

abbrev documents_of : List (List ℕ) → Script (List Document)
documents_of ls = load ls >>= λ r. Ok (live_documents r.store)

abbrev entries_of : List (List ℕ) → Script Entries
entries_of ls = load ls >>= λ r. Ok (entries r.place r.rest)

-- the index `i` of one shard with a boolean `b`, a long `n` and a keyword `t`
abbrev index_line : List ℕ
index_line = codes "{\"index\":\"i\",\"mappings\":{\"properties\":{\"b\":{\"type\":\"boolean\"},\"n\":{\"type\":\"long\"},\"t\":{\"type\":\"keyword\"}}},\"settings\":{\"number_of_shards\":1}}"

an_empty_input_is_38_at_line_0 : load [] ≡ refuse_script 38 0
unfolding computing
an_empty_input_is_38_at_line_0 = refl

an_unknown_type_is_31 : load (codes "{\"index\":\"i\",\"mappings\":{\"properties\":{\"x\":{\"type\":\"text\"}}}}" ∷ []) ≡ Err (record { number = 31; line = 1; path = codes "/mappings/properties/x/type" })
unfolding computing
an_unknown_type_is_31 = refl

an_index_line_alone_is_38 : load (index_line ∷ []) ≡ refuse_script 38 1
unfolding computing
an_index_line_alone_is_38 = refl

a_second_line_that_is_not_empty_is_38 : load (index_line ∷ codes "x" ∷ codes "{\"index\":{" ∷ []) ≡ refuse_script 38 2
unfolding computing
a_second_line_that_is_not_empty_is_38 = refl

an_update_is_33 : load (index_line ∷ [] ∷ codes "{\"update\":{\"_id\":\"1\"}}" ∷ []) ≡ refuse_script 33 3
unfolding computing
an_update_is_33 = refl

an_action_that_is_not_json_is_32_also_at_the_end : load (index_line ∷ [] ∷ codes "{\"index\":{" ∷ []) ≡ refuse_script 32 3
unfolding computing
an_action_that_is_not_json_is_32_also_at_the_end = refl

an_end_of_input_in_the_bulk_lines_is_38_at_their_last : load (index_line ∷ [] ∷ codes "{\"index\":{}}" ∷ codes "{\"t\":\"a\"}" ∷ []) ≡ refuse_script 38 4
unfolding computing
an_end_of_input_in_the_bulk_lines_is_38_at_their_last = refl

an_end_of_input_after_an_action_is_34_at_the_action : load (index_line ∷ [] ∷ codes "{\"index\":{}}" ∷ []) ≡ refuse_script 34 3
unfolding computing
an_end_of_input_after_an_action_is_34_at_the_action = refl

an_empty_source_line_is_34_at_the_action : load (index_line ∷ [] ∷ codes "{\"index\":{}}" ∷ [] ∷ codes "{}" ∷ []) ≡ refuse_script 34 3
unfolding computing
an_empty_source_line_is_34_at_the_action = refl

an_end_of_input_after_a_delete_is_38 : load (index_line ∷ [] ∷ codes "{\"delete\":{\"_id\":\"1\"}}" ∷ []) ≡ refuse_script 38 3
unfolding computing
an_end_of_input_after_a_delete_is_38 = refl

-- A create of a live id is 26, a delete of none finds nothing.

a_conflict_and_a_delete_of_nothing : items_of (index_line ∷ [] ∷ codes "{\"create\":{\"_id\":\"1\"}}" ∷ codes "{\"t\":\"a\"}" ∷ codes "{\"create\":{\"_id\":\"1\"}}" ∷ codes "{\"t\":\"b\"}" ∷ codes "{\"delete\":{\"_id\":\"9\"}}" ∷ [] ∷ []) ≡ Ok (
    record { kind = Create; id = codes "1"; end = Applied Created }
    ∷ record { kind = Create; id = codes "1"; end = Refused (record { number = 26; path = [] }) }
    ∷ record { kind = Delete; id = codes "9"; end = Applied NotFound } ∷ [])
unfolding computing
a_conflict_and_a_delete_of_nothing = refl

the_store_keeps_the_first : documents_of (index_line ∷ [] ∷ codes "{\"create\":{\"_id\":\"1\"}}" ∷ codes "{\"t\":\"a\"}" ∷ codes "{\"create\":{\"_id\":\"1\"}}" ∷ codes "{\"t\":\"b\"}" ∷ codes "{\"delete\":{\"_id\":\"9\"}}" ∷ [] ∷ []) ≡ Ok (record { id = codes "1"; routing = codes "1"; root = roll-Row (record { values = record { field = 2; values = scalar.Word (codes "a") ∷ [] } ∷ []; children = [] }) } ∷ [])
unfolding computing
the_store_keeps_the_first = refl

-- An id that was deleted and comes again takes its old place, and a refused item leaves the store as it was.

abbrev number : ℤ → Row
number z = roll-Row (record { values = record { field = 1; values = scalar.Whole z ∷ [] } ∷ []; children = [] })

abbrev changes : List (List ℕ)
changes = (index_line ∷ ((13 ∷ [])) ∷ codes "{\"index\":{\"_id\":\"1\"}}" ∷ codes "{\"n\":1}" ∷ codes "{\"index\":{\"_id\":\"2\"}}" ∷ codes "{\"n\":2}" ∷ codes "{\"delete\":{\"_id\":\"1\"}}" ∷ codes "{\"index\":{\"_id\":\"1\"}}" ∷ codes "{\"n\":3}" ∷ codes "{\"index\":{\"_id\":\"2\"}}" ∷ codes "{\"n\":4.5}" ∷ ((13 ∷ [])) ∷ [])

a_deleted_id_takes_its_old_place : documents_of changes ≡ Ok (record { id = codes "1"; routing = codes "1"; root = number (pos 3) } ∷ record { id = codes "2"; routing = codes "2"; root = number (pos 2) } ∷ [])
unfolding computing
a_deleted_id_takes_its_old_place = refl

each_action_is_an_item : items_of changes ≡ Ok (
    record { kind = Index; id = codes "1"; end = Applied Created }
    ∷ record { kind = Index; id = codes "2"; end = Applied Created }
    ∷ record { kind = Delete; id = codes "1"; end = Applied Deleted }
    ∷ record { kind = Index; id = codes "1"; end = Applied Created }
    ∷ record { kind = Index; id = codes "2"; end = Refused (record { number = 21; path = codes "n" }) } ∷ [])
unfolding computing
each_action_is_an_item = refl

a_create_after_a_delete_is_taken : items_of (index_line ∷ [] ∷ codes "{\"create\":{\"_id\":\"1\"}}" ∷ codes "{\"n\":1}" ∷ codes "{\"delete\":{\"_id\":\"1\"}}" ∷ codes "{\"create\":{\"_id\":\"1\"}}" ∷ codes "{\"n\":2}" ∷ [] ∷ []) ≡ Ok (
    record { kind = Create; id = codes "1"; end = Applied Created }
    ∷ record { kind = Delete; id = codes "1"; end = Applied Deleted }
    ∷ record { kind = Create; id = codes "1"; end = Applied Created } ∷ [])
unfolding computing
a_create_after_a_delete_is_taken = refl

-- Searches, each a header and a body, and settings lines between them.

empty_lines_before_a_header_are_passed_over : entries_of (index_line ∷ [] ∷ [] ∷ codes "{}" ∷ [] ∷ ((13 ∷ [])) ∷ [] ∷ codes "{\"a\":1}" ∷ codes "{}" ∷ []) ≡ Ok (record { entries = body [] ∷ body (codes "{}") ∷ []; refused = None })
unfolding computing
empty_lines_before_a_header_are_passed_over = refl

a_last_line_without_a_newline_counts : (loaded (lines (index_line ++ 10 ∷ 10 ∷ 10 ∷ codes "{}" ++ 10 ∷ codes "[1")) >>= λ r. Ok (entries r.place r.rest)) ≡ Ok (record { entries = body (codes "[1") ∷ []; refused = None })
unfolding computing
a_last_line_without_a_newline_counts = refl

a_header_that_is_no_object_is_39 : entries_of (index_line ∷ [] ∷ [] ∷ codes "[]" ∷ codes "{}" ∷ []) ≡ Ok (record { entries = []; refused = Some (record { number = 39; line = 4; path = [] }) })
unfolding computing
a_header_that_is_no_object_is_39 = refl

a_header_without_a_body_is_36 : entries_of (index_line ∷ [] ∷ [] ∷ codes "{}" ∷ codes "{}" ∷ codes "{}" ∷ []) ≡ Ok (record { entries = body (codes "{}") ∷ []; refused = Some (record { number = 36; line = 6; path = [] }) })
unfolding computing
a_header_without_a_body_is_36 = refl

a_bad_header_at_the_end_is_39 : entries_of (index_line ∷ [] ∷ [] ∷ codes "{" ∷ []) ≡ Ok (record { entries = []; refused = Some (record { number = 39; line = 4; path = [] }) })
unfolding computing
a_bad_header_at_the_end_is_39 = refl

a_settings_line_stands_alone : entries_of (index_line ∷ [] ∷ [] ∷ codes "{\"transient\":{}}" ∷ codes "{}" ∷ codes "{}" ∷ []) ≡ Ok (record { entries = change (object (member (codes "transient") (object no_members) no_members)) ∷ body (codes "{}") ∷ []; refused = None })
unfolding computing
a_settings_line_stands_alone = refl

another_member_beside_it_makes_a_header : entries_of (index_line ∷ [] ∷ [] ∷ codes "{\"transient\":{},\"index\":1}" ∷ codes "{}" ∷ []) ≡ Ok (record { entries = body (codes "{}") ∷ []; refused = None })
unfolding computing
another_member_beside_it_makes_a_header = refl

-- The limits.

abbrev if_long : ℕ → Option ℕ
if_long n = if nat_lt 1048576 n then Some 30 else None

a_line_of_1048577_bytes_is_30 : (text : List ℕ) → length text ≡ 1048577 → line_fault start (record { text = text; size = 1048578 }) ≡ Some 30
unfolding computing
a_line_of_1048577_bytes_is_30 text long =
    let P : ℕ → Type 0 = λ n. if_long n ≡ Some 30 in subst P (sym long) refl

a_line_of_1048576_bytes_is_taken : (text : List ℕ) → length text ≡ 1048576 → line_fault start (record { text = text; size = 1048577 }) ≡ None
unfolding computing
a_line_of_1048576_bytes_is_taken text long =
    let P : ℕ → Type 0 = λ n. if_long n ≡ None in subst P (sym long) refl

input_byte_268435457_is_37 : line_fault (record { number = 9; read = 268435455 }) (record { text = 97 ∷ []; size = 2 }) ≡ Some 37
unfolding computing
input_byte_268435457_is_37 = refl

a_last_byte_within_the_input_is_taken : line_fault (record { number = 9; read = 268435455 }) (record { text = 97 ∷ []; size = 1 }) ≡ None
unfolding computing
a_last_byte_within_the_input_is_taken = refl

-- the first byte beyond the input is the line's own byte 1,048,577: it comes first
a_long_line_that_is_beyond_the_input_is_37 : (text : List ℕ) → line_fault (record { number = 9; read = 267386880 }) (record { text = text; size = 1048579 }) ≡ Some 37
unfolding computing
a_long_line_that_is_beyond_the_input_is_37 text = refl

-- it is the line's own byte 1,048,578: the line is too long before
a_line_that_is_too_long_before_it_is_beyond_the_input_is_30 : (text : List ℕ) → length text ≡ 1048578 → line_fault (record { number = 9; read = 267386879 }) (record { text = text; size = 1048579 }) ≡ Some 30
unfolding computing
a_line_that_is_too_long_before_it_is_beyond_the_input_is_30 text long =
    let P : ℕ → Type 0 = λ n. if_long n ≡ Some 30 in subst P (sym long) refl

abbrev of_index : IndexLine
of_index = record { name = codes "i"; mapping = plain; shards = 1 }

the_action_after_1048576_is_35_whatever_it_is : heading_of 5 (record { text = codes "{"; size = 2 }) (record { index = of_index; store = []; items = []; actions = 1048576 }) ≡ refuse_script 35 5
unfolding computing
the_action_after_1048576_is_35_whatever_it_is = refl

the_last_action_that_is_taken_is_read : heading_of 5 (record { text = codes "{\"index\":{}}"; size = 13 }) (record { index = of_index; store = []; items = []; actions = 1048575 }) ≡ Ok (record { kind = Index; id = codes "_auto_1048575"; routing = codes "_auto_1048575" })
unfolding computing
the_last_action_that_is_taken_is_read = refl
