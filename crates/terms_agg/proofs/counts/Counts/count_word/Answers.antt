use Rattle.std.proofs.Common.{◌≡◌, ℕ, ◌+◌, ◌<◌, ◌^◌, Result, Ok, Err, OnOk, IfOk, Option, Some, None, length, sym, ◌∙◌, ap, subst, arith, [], slice_index_or}
use Rattle.std.specs.Prelude.{option_map}
use Rattle.std.specs.Option.{SomeIff, ok_or}
use Rattle.std.proofs.lemmas.Bool.Decides.{nat_tests}
use Rattle.std.proofs.lemmas.Option.{slice_get-get_or}
use Rattle.shard_columns.specs.Dictionary.{words_of}
use Rattle.shard_columns.proofs.Dictionaries.{words_of-strict}
use Rattle.terms_agg.specs.Counts.{counted}
use Rattle.terms_agg.proofs.Counting.{counted-raised, new-bytes, known-bytes}
use Rattle.terms_agg.proofs.counts.Counts.count_word.Goals as goal

on-ok : {T E P : Type 0} (r : Result T E) → P → OnOk r P
on-ok (Ok x) p = p
on-ok (Err e) p = tt

some-value : {E : Type 0} (P : Type 0) (r : Result ℕ E) (o : Option ℕ) (v n : ℕ) (e : E) → r ≡ ok_or o e → SomeIff o P v → v ≡ n → IfOk r (λ b. b ≡ n)
some-value {E} P r None v n e made is same = subst (λ (r : Result ℕ E). IfOk r (λ b. b ≡ n)) (sym made) tt
some-value {E} P r (Some x) v n e made is same = subst (λ (r : Result ℕ E). IfOk r (λ b. b ≡ n)) (sym made) (is.1 ∙ same)

pub returns-then-not-branch-clause-counters : goal.returns-then-not-branch-clause-counters
returns-then-not-branch-clause-counters c =
    let words = words_of c.args.field c.args.shard.now.rows in
    ap (counted words) c.in_ok-raise.ensures.counters
    ∙ counted-raised words c.args.self.now c.args.ordinal (words_of-strict c.args.field c.args.shard.now.rows) c.requires.counters c.requires.there

pub returns-then-not-branch-clause-bytes : goal.returns-then-not-branch-clause-bytes
returns-then-not-branch-clause-bytes c =
    let words = words_of c.args.field c.args.shard.now.rows in
    let there = sym c.in_ok-raise.ensures.first ∙ c.if-not-branch.true in
    sym (known-bytes words c.args.self.now c.args.ordinal (words_of-strict c.args.field c.args.shard.now.rows) c.requires.counters c.requires.there (grind (arith, nat_tests, there)))

pub returns-clause-counters : goal.returns-clause-counters
returns-clause-counters c =
    let words = words_of c.args.field c.args.shard.now.rows in
    on-ok c.ok_or.result (ap (counted words) c.in_ok-raise.ensures.counters
    ∙ counted-raised words c.args.self.now c.args.ordinal (words_of-strict c.args.field c.args.shard.now.rows) c.requires.counters c.requires.there)

pub returns-clause-bytes : goal.returns-clause-bytes
returns-clause-bytes c =
    let words = words_of c.args.field c.args.shard.now.rows in
    let absent = sym c.in_ok-raise.ensures.first ∙ c.if-not-branch.false in
    let size : Some (length (slice_index_or words c.args.ordinal [])) ≡ Some c.word_len.result
    = ap (option_map length) (sym (slice_get-get_or words c.args.ordinal [] c.requires.there)) ∙ c.word_len.ensures in
    let bytes : length (slice_index_or words c.args.ordinal []) ≡ c.word_len.result = cc size in
    some-value (128 + c.word_len.result < 2 ^ 64) c.ok_or.result c.checked_add.result (128 + c.word_len.result) _ (record {}) c.ok_or.ensures.value c.checked_add.ensures
    (ap (λ (n : ℕ). 128 + n) (sym bytes)
    ∙ sym (new-bytes words c.args.self.now c.args.ordinal (words_of-strict c.args.field c.args.shard.now.rows) c.requires.counters c.requires.there (grind (arith, nat_tests, absent))))
