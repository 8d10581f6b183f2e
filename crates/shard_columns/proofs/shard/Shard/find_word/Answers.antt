use Rattle.std.proofs.Common.{◌≡◌, ℕ, [], List, Option, length, Contains, sym, ap, subst, arith}
use Rattle.std.specs.List.Sorted.{IsStrictlySortedBy}
use Rattle.std.specs.Ordering.{nat_cmp}
use Rattle.std.specs.Option.{IfNone}
use Rattle.std.specs.Cmp.Lexicographic.{slice_cmp}
use Rattle.std.proofs.lemmas.List.{get_or_past}
use Rattle.shard_columns.specs.Dictionary.{words_of, NoRowHas}
use Rattle.shard_columns.specs.Values.{Words}
use Rattle.shard_columns.proofs.Dictionaries.{words_of-strict, words_of-has}
use Rattle.shard_columns.proofs.Reading.{words-are, words-few}
use Rattle.shard_columns.proofs.Searching.{within-list}
use Rattle.shard_columns.proofs.Weighing.{length-words}
use Rattle.shard_columns.proofs.shard.Shard.find_word.Goals as goal

pub find_word-requires : goal.find_word-requires
find_word-requires c =
    let are = words-are c.self.inside c.args.self.now c.self.view_is c.self.invariant c.args.field c.deref.result.now c.in_ok-get.field-0.now c.deref.ensures.value (c.in_ok-get.ensures.lookup.3.1 []) in
    subst (IsStrictlySortedBy (slice_cmp nat_cmp)) (sym are) (words_of-strict c.args.field c.args.self.now.rows)

pub overflow_cast-result : goal.overflow_cast-result
overflow_cast-result c =
    let are = words-are c.self.inside c.args.self.now c.self.view_is c.self.invariant c.args.field c.deref.result.now c.in_ok-get.field-0.now c.deref.ensures.value (c.in_ok-get.ensures.lookup.3.1 []) in
    let below = within-list c.in_ok-get.field-0.now c.in_ok-ordinal.ordinal c.args.word.now c.in_ok-ordinal.ensures.found in
    omega (arith, below, ap length are, length-words (words_of c.args.field c.args.self.now.rows), words-few c.self.inside c.args.self.now c.self.view_is c.self.invariant c.args.field)

pub returns-in_err-get-clause-absent : goal.returns-in_err-get-clause-absent
returns-in_err-get-clause-absent c =
    let words : List Words = c.deref.result.now in
    let none : [] ≡ words_of c.args.field c.args.self.now.rows =
    words-are c.self.inside c.args.self.now c.self.view_is c.self.invariant c.args.field words [] c.deref.ensures.value (sym (get_or_past words c.args.field [] c.in_err-get.ensures.lookup.3)) in
    let absent : NoRowHas c.args.field c.args.word.now c.args.self.now.rows = λ n has.
    let there : Contains [] c.args.word.now = subst (λ (ws : Words). Contains ws c.args.word.now) (sym none) (words_of-has c.args.field c.args.self.now.rows n c.args.word.now has) in
    absurd (omega (arith, there.1)) in
    subst (λ (r : Option ℕ). IfNone r (NoRowHas c.args.field c.args.word.now c.args.self.now.rows)) (sym c.from_residual.ensures) absent

pub returns-in_err-ordinal-clause-absent : goal.returns-in_err-ordinal-clause-absent
returns-in_err-ordinal-clause-absent c =
    let are = words-are c.self.inside c.args.self.now c.self.view_is c.self.invariant c.args.field c.deref.result.now c.in_ok-get.field-0.now c.deref.ensures.value (c.in_ok-get.ensures.lookup.3.1 []) in
    let absent : NoRowHas c.args.field c.args.word.now c.args.self.now.rows = λ n has.
    c.in_err-ordinal.ensures.absent (subst (λ (ws : Words). Contains ws c.args.word.now) (sym are) (words_of-has c.args.field c.args.self.now.rows n c.args.word.now has)) in
    subst (λ (r : Option ℕ). IfNone r (NoRowHas c.args.field c.args.word.now c.args.self.now.rows)) (sym c.from_residual-in_err-ordinal.ensures) absent
