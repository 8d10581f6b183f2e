use Rattle.std.proofs.lemmas.List.{append-nil}
use Rattle.std.proofs.Common.{◌≡◌, ◌+◌, ◌++◌, ◌∷◌, ℕ, List, [], map, take, length, length-append, sym, ◌∙◌, ap, subst, arith}
use Rattle.std.specs.Prelude.{Vec}
use Rattle.std.specs.declared.alloc.Global.{Global}
use Rattle.agg_model.specs.declared.row.Scalar.{Scalar}
use Rattle.agg_model.specs.declared.row.Scalar.TheVariants.{Word}
use Rattle.shard_columns.specs.declared.words.WordNumbers.{WordNumbers}
use Rattle.shard_columns.specs.Values.{word_in, words_in}
use Rattle.shard_columns.specs.Words.{Notes, of_field}
use Rattle.shard_columns.proofs.Laying.{take-next, all-taken}
use Rattle.shard_columns.proofs.Noting.{Notes-no_word, Notes-value}
use Rattle.shard_columns.proofs.Storing.{AddsWords, Shows-before, words-step, words-skip, words-count, no-word}
use Rattle.shard_columns.proofs.values.push_words.Goals as goal
use Rattle.shard_columns.proofs.values.push_words.Goals.{in-Word+in_ok-number+in_ok-push, in_default}

pub loop-value-init : goal.loop-value-init
loop-value-init c = record { notes = Notes-no_word c.args.numbers.now c.args.field c.requires.sound; few = omega arith; grown = omega arith; shown = λ show shows. sym (append-nil _) }

pub loop-value-preserved : goal.loop-value-preserved
loop-value-preserved c =
    let values = c.args.values.now in
    let k = c.loop-value.value-index in
    let v = c.value-item.result in
    let next : take (k + 1) values ≡ take k values ++ v ∷ [] = take-next values k v c.loop-value-test.true c.value-item.is in
    let so_far = c.loop-value.invariant in
    elim c.match-value.branch [
      | in-Word+in_ok-number+in_ok-push w ↦
          let before = c.loop-value.numbers in
          let after : WordNumbers = w.number.new.self in
          let noted = w.in_ok-number.ensures in
          let word = w.as_str.result.now in
          let v_is : v ≡ Word word = w.in-Word.is ∙ ap Word (sym w.as_str.ensures) in
          let made : AddsWords c.args.numbers.now after c.args.field c.args.words.now w.push.new.self (take (k + 1) values) (k + 1) =
          record {
            notes = subst (λ (vs : List Scalar). Notes c.args.numbers.now after (of_field c.args.field (words_in vs))) (sym next)
                (Notes-value c.args.numbers.now before after c.args.field (take k values) v so_far.notes (subst (λ (x : Scalar). Notes before after (of_field c.args.field (word_in x))) (sym v_is) noted.notes));
            few = (let few = so_far.few in let more = noted.few in omega (arith, few, more));
            grown = (let grown = so_far.grown in
                omega (arith, grown, ap length w.in_ok-push.ensures.items, length-append c.loop-value.words.items (w.in_ok-number.number ∷ []), ap (λ (vs : List Scalar). length (words_in vs)) next, words-count (take k values) v, ap (λ (x : Scalar). length (word_in x)) v_is));
            shown = λ show shows.
                words-step (show c.args.field) c.args.words.now.items c.loop-value.words.items _ (take k values) v w.in_ok-number.number
                (so_far.shown show (Shows-before before after show noted.notes.kept shows)) w.in_ok-push.ensures.items
                (ap (λ (x : Scalar). x ∷ []) (shows.word c.args.field w.in_ok-number.number word noted.number) ∙ ap (λ (x : Scalar). map Word (words_in (x ∷ []))) (sym v_is))
                ∙ ap (λ (vs : List Scalar). map (show c.args.field) c.args.words.now.items ++ map Word (words_in vs)) (sym next);
          } in
          subst (λ (ns : WordNumbers). AddsWords c.args.numbers.now ns c.args.field c.args.words.now c.match-value.words (take (k + 1) values) (k + 1)) (sym w.numbers-is)
          (subst (λ (ws : Vec ℕ Global). AddsWords c.args.numbers.now after c.args.field c.args.words.now ws (take (k + 1) values) (k + 1)) (sym w.words-is) made)
      | in_default w ↦
          let same : words_in (take (k + 1) values) ≡ words_in (take k values) = ap words_in next ∙ words-skip (take k values) v (no-word v w.in_default.not-Word) in
          let kept : AddsWords c.args.numbers.now c.loop-value.numbers c.args.field c.args.words.now c.loop-value.words (take (k + 1) values) (k + 1) =
          record {
            notes = subst (λ (ws : List (List ℕ)). Notes c.args.numbers.now c.loop-value.numbers (of_field c.args.field ws)) (sym same) so_far.notes;
            few = (let few = so_far.few in omega (arith, few));
            grown = so_far.grown ∙ ap (λ (ws : List (List ℕ)). length c.args.words.now.items + length ws) (sym same);
            shown = λ show shows. so_far.shown show shows ∙ ap (λ (ws : List (List ℕ)). map (show c.args.field) c.args.words.now.items ++ map Word ws) (sym same);
          } in
          subst (λ (ns : WordNumbers). AddsWords c.args.numbers.now ns c.args.field c.args.words.now c.match-value.words (take (k + 1) values) (k + 1)) (sym w.numbers-is)
          (subst (λ (ws : Vec ℕ Global). AddsWords c.args.numbers.now c.loop-value.numbers c.args.field c.args.words.now ws (take (k + 1) values) (k + 1)) (sym w.words-is) kept)
    ]

pub returns : goal.returns
returns c =
    let all = all-taken c.args.values.now c.loop-value.value-index c.loop-value-test.false in
    let last = c.loop-value.invariant in
    record {
      notes = subst (λ (vs : List Scalar). Notes c.args.numbers.now c.loop-value.numbers (of_field c.args.field (words_in vs))) all last.notes;
      few = (let few = last.few in omega (arith, few, c.loop-value.auto.value-index-end));
      shown = λ show shows. last.shown show shows ∙ ap (λ (vs : List Scalar). map (show c.args.field) c.args.words.now.items ++ map Word (words_in vs)) all;
      grown = last.grown ∙ ap (λ (vs : List Scalar). length c.args.words.now.items + length (words_in vs)) all;
    }
