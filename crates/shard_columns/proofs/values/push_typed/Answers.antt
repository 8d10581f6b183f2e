use Rattle.std.proofs.Common.{◌≡◌, ◌++◌, ◌+◌, ℕ, List, [], map, length, true, sym, ◌∙◌, ap, subst}
use Rattle.std.specs.List.{list_all}
use Rattle.std.proofs.lemmas.Result.{on_ok_weaker}
use Rattle.agg_model.specs.declared.row.Scalar.{Scalar}
use Rattle.shard_columns.specs.declared.values.Typed.{Typed}
use Rattle.shard_columns.specs.declared.values.Typed.TheVariants as typed
use Rattle.agg_model.specs.declared.row.Scalar.TheVariants.{Word}
use Rattle.shard_columns.specs.Lent.{wholes_in, flags_in}
use Rattle.shard_columns.specs.Values.{is_taken, words_in}
use Rattle.shard_columns.specs.Words.{Notes, of_field}
use Rattle.shard_columns.specs.Storing.{AddsTyped}
use Rattle.shard_columns.proofs.Storing.{AddsTyped-wholes, AddsTyped-words, AddsTyped-flags, no-words-wholes, no-words-flags, OnOk-both}
use Rattle.shard_columns.proofs.Noting.{Notes-no_word}
use Rattle.shard_columns.proofs.values.push_typed.Goals as goal

pub returns-in-Wholes-clause-notes : goal.returns-in-Wholes-clause-notes
returns-in-Wholes-clause-notes c =
    let field = c.args.field.now.field in
    let values = c.args.field.now.values in
    let none : words_in values ≡ [] = no-words-wholes values c.in-Wholes.wholes (subst (λ (t : Typed). list_all (is_taken t) values ≡ true) c.in-Wholes.is c.requires.taken) in
    on_ok_weaker c.push_wholes.result (λ _. subst (λ (ws : List (List ℕ)). Notes c.args.numbers.now c.args.numbers.now (of_field field ws)) (sym none) (Notes-no_word c.args.numbers.now field c.requires.sound)) c.push_wholes.ensures

pub returns-in-Wholes-clause-adds : goal.returns-in-Wholes-clause-adds
returns-in-Wholes-clause-adds c =
    let field = c.args.field.now.field in
    let values = c.args.field.now.values in
    let taken = subst (λ (t : Typed). list_all (is_taken t) values ≡ true) c.in-Wholes.is c.requires.taken in
    on_ok_weaker c.push_wholes.result (λ is.
    subst (λ (t : Typed). AddsTyped c.args.numbers.now field t (typed.Wholes c.push_wholes.new.wholes) values) (sym c.in-Wholes.is)
    (AddsTyped-wholes c.args.numbers.now field c.in-Wholes.wholes c.push_wholes.new.wholes values taken (is ∙ ap (λ (vs : List Scalar). c.in-Wholes.wholes.items ++ wholes_in vs) c.as_slice-values.ensures))) c.push_wholes.ensures

pub returns-in-Words-clause-adds : goal.returns-in-Words-clause-adds
returns-in-Words-clause-adds c =
    let field = c.args.field.now.field in
    let values = c.args.field.now.values in
    let taken = subst (λ (t : Typed). list_all (is_taken t) values ≡ true) c.in-Words.is c.requires.taken in
    OnOk-both c.push_words.result c.push_words.ensures.grown c.push_words.ensures.shown (λ grown is.
    subst (λ (t : Typed). AddsTyped c.push_words.new.numbers field t (typed.Words c.push_words.new.words) values) (sym c.in-Words.is)
    (AddsTyped-words c.push_words.new.numbers field c.in-Words.words c.push_words.new.words values taken (grown ∙ ap (λ (vs : List Scalar). length c.in-Words.words.items + length (words_in vs)) c.as_slice-values.ensures)
    (λ show shows. is show shows ∙ ap (λ (vs : List Scalar). map (show field) c.in-Words.words.items ++ map Word (words_in vs)) c.as_slice-values.ensures)))

pub returns-in-Flags-clause-notes : goal.returns-in-Flags-clause-notes
returns-in-Flags-clause-notes c =
    let field = c.args.field.now.field in
    let values = c.args.field.now.values in
    let none : words_in values ≡ [] = no-words-flags values c.in-Flags.flags (subst (λ (t : Typed). list_all (is_taken t) values ≡ true) c.in-Flags.is c.requires.taken) in
    on_ok_weaker c.push_flags.result (λ _. subst (λ (ws : List (List ℕ)). Notes c.args.numbers.now c.args.numbers.now (of_field field ws)) (sym none) (Notes-no_word c.args.numbers.now field c.requires.sound)) c.push_flags.ensures

pub returns-in-Flags-clause-adds : goal.returns-in-Flags-clause-adds
returns-in-Flags-clause-adds c =
    let field = c.args.field.now.field in
    let values = c.args.field.now.values in
    let taken = subst (λ (t : Typed). list_all (is_taken t) values ≡ true) c.in-Flags.is c.requires.taken in
    on_ok_weaker c.push_flags.result (λ is.
    subst (λ (t : Typed). AddsTyped c.args.numbers.now field t (typed.Flags c.push_flags.new.flags) values) (sym c.in-Flags.is)
    (AddsTyped-flags c.args.numbers.now field c.in-Flags.flags c.push_flags.new.flags values taken (is ∙ ap (λ (vs : List Scalar). c.in-Flags.flags.items ++ flags_in vs) c.as_slice-values.ensures))) c.push_flags.ensures
