-- What is enclosed is looked up place by place.
use Rattle.std.proofs.Common.{arith, ◌≡◌, ◌∙◌, sym, ap, get_or, ◌+◌, length, List, [], ◌∷◌, ℕ, drop, Bor}
use Rattle.std.specs.Prelude.{Option, None, Some, IfSome, is_some, nat_lt, option_copied, slice_get}
use Rattle.std.specs.Option.{option_map_or}
use Rattle.std.proofs.lemmas.Bool.{ltb-true, ltb-false}
use Rattle.std.proofs.lemmas.List.{drop_more, drop_all}
use Rattle.std.proofs.lemmas.Option.{slice_get_past, slice_get-get_or}
use Rattle.agg_model.specs.declared.aggregation.Agg.{Agg, out-Agg}
use Rattle.agg_spec.specs.NoteZones.{enclosed_aggs}
use Rattle.agg_response.proofs.note_zones.enclosed_agg.Goals as goal

looked_up : (xs : List Agg) (i : ℕ) (r : Option (Bor Agg)) → is_some r ≡ nat_lt i (length xs) → IfSome r (λ x. x.now ≡ get_or xs i x.now)
    → option_copied r ≡ slice_get xs i
looked_up xs i None e f = sym (slice_get_past xs i (ltb-false i (length xs) (sym e)))
looked_up xs i (Some x) e f = ap (λ y. Some y) f ∙ sym (slice_get-get_or xs i x.now (ltb-true i (length xs) (sym e)))

into : (place : ℕ) (places : List ℕ) (aggs : List Agg) (found : Option Agg) → slice_get aggs place ≡ found
    → enclosed_aggs (place ∷ places) aggs ≡ option_map_or (λ a. enclosed_aggs places (out-Agg a).children) found []
into place places aggs found e = ap (λ o. option_map_or (λ a. enclosed_aggs places (out-Agg a).children) o []) e

none_of : (place : ℕ) → slice_get {X = Agg} [] place ≡ None
none_of place = slice_get_past [] place (omega arith)

pub returns-in_err-get : goal.returns-in_err-get
returns-in_err-get c =
    let places = c.args.places.now in
    let i = c.loop-around.around-index in
    let within = c.loop-around.within.now in
    let place = get_or places i 0 in
    let missing = sym (looked_up within place c.get.result c.get.ensures.lookup.0 c.get.ensures.lookup.1) ∙ ap option_copied c.in_err-get.was in
    let empty =
    sym c.loop-around.invariant ∙ ap (λ ps. enclosed_aggs ps within) (drop_more places i 0 c.loop-around-test.true)
    ∙ into place (drop (i + 1) places) within None missing in
    ap option_copied c.from_residual.ensures ∙ sym (none_of c.args.place) ∙ sym (ap (λ aggs. slice_get aggs c.args.place) empty)

pub loop-around-preserved : goal.loop-around-preserved
loop-around-preserved c =
    let places = c.args.places.now in
    let i = c.loop-around.around-index in
    let within = c.loop-around.within.now in
    let place = get_or places i 0 in
    let found = sym (looked_up within place c.get.result c.get.ensures.lookup.0 c.get.ensures.lookup.1) ∙ ap option_copied c.in_ok-get.was in
    ap (enclosed_aggs (drop (i + 1) places)) c.as_slice-within.ensures
    ∙ sym (into place (drop (i + 1) places) within (Some c.in_ok-get.field-0.now) found)
    ∙ sym (ap (λ ps. enclosed_aggs ps within) (drop_more places i 0 c.loop-around-test.true))
    ∙ c.loop-around.invariant

pub returns : goal.returns
returns c =
    let places = c.args.places.now in
    let i = c.loop-around.around-index in
    let within = c.loop-around.within.now in
    looked_up within c.args.place c.get-2.result c.get-2.ensures.lookup.0 c.get-2.ensures.lookup.1
    ∙ ap (λ aggs. slice_get aggs c.args.place) (sym (ap (λ ps. enclosed_aggs ps within) (drop_all i places c.loop-around-test.false)) ∙ c.loop-around.invariant)
