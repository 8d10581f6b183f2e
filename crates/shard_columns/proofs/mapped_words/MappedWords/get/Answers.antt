use Rattle.std.proofs.Common.{◌≡◌, ◌≢◌, ℕ, List, [], Option, None, Some, option_map, get_or, sym, ◌∙◌, ap}
use Rattle.std.specs.Map.{lookup}
use Rattle.std.specs.BTreeMap.{is_at}
use Rattle.std.specs.Option.{option_copied}
use Rattle.std.specs.Ordering.{nat_cmp}
use Rattle.shard_columns.specs.declared.mapped_words.Found.{Found}
use Rattle.shard_columns.specs.Numbered.{Entries, number_in, beginning_of, found_in, firsts_in}
use Rattle.shard_columns.specs.Values.{Words}
use Rattle.shard_columns.proofs.Beginnings.{first_of, begins-so, found-first, found-other, found-none}
use Rattle.shard_columns.proofs.Keeping.{Places, at_beginning, lookup-in, low-place}
use Rattle.shard_columns.proofs.Searching.{read}
use Rattle.shard_columns.proofs.mapped_words.MappedWords.get.Goals as goal

-- what a look-up finds
looked : (firsts : Places) (word : List ℕ) (beginning : ℕ) (o found : Option Found) → beginning ≡ beginning_of word → o ≡ lookup (is_at (nat_cmp beginning)) firsts → o ≡ found → at_beginning firsts word ≡ found
looked firsts word beginning o found begins is same = ap (λ (k : ℕ). lookup (is_at (nat_cmp k)) firsts) (sym begins) ∙ (sym is ∙ same)

there : (texts : Words) (firsts : Places) (word : List ℕ) (found : Option Found) → at_beginning firsts word ≡ found → first_of (firsts_in texts firsts) word ≡ option_map (found_in texts) found
there texts firsts word found is = lookup-in texts (is_at (nat_cmp (beginning_of word))) firsts ∙ ap (option_map (found_in texts)) is

pub returns-in_err-first : goal.returns-in_err-first
returns-in_err-first c =
    let texts : Words = c.self.inside.texts in
    let firsts : Places = c.self.inside.firsts.entries in
    let others = c.self.inside.others.entries in
    let word = c.args.word.now in
    let none = looked firsts word c.beginning_of.result (option_copied c.get.result) None c.beginning_of.ensures c.get.ensures.value (ap option_copied c.in_err-first.was) in
    c.from_residual.ensures ∙ sym (ap (λ (es : Entries). number_in es word) (sym c.self.view_is) ∙ found-none (firsts_in texts firsts) others word c.self.invariant.indexed (there texts firsts word None none))

pub get-requires-2 : goal.get-requires-2
get-requires-2 c =
    let texts : Words = c.self.inside.texts in
    let firsts : Places = c.self.inside.firsts.entries in
    let first : Found = c.in_ok-first.first.now in
    let met = looked firsts c.args.word.now c.beginning_of.result (option_copied c.get.result) (Some first) c.beginning_of.ensures c.get.ensures.value (ap option_copied c.in_ok-first.was) in
    low-place _ (is_at (nat_cmp (beginning_of c.args.word.now))) firsts first c.self.invariant.within met

pub is_word-requires : goal.is_word-requires
is_word-requires c =
    let texts : Words = c.self.inside.texts in
    let firsts : Places = c.self.inside.firsts.entries in
    let word = c.args.word.now in
    let first : Found = c.in_ok-first.first.now in
    let met = looked firsts word c.beginning_of.result (option_copied c.get.result) (Some first) c.beginning_of.ensures c.get.ensures.value (ap option_copied c.in_ok-first.was) in
    let text : get_or texts first.place [] ≡ c.get-2.result.now = read texts first.place c.get-2.result.now [] c.get-2.ensures in
    ap beginning_of (sym text) ∙ begins-so (firsts_in texts firsts) word (found_in texts first) c.self.invariant.indexed.begun (there texts firsts word (Some first) met)

pub returns-then-is_word : goal.returns-then-is_word
returns-then-is_word c =
    let texts : Words = c.self.inside.texts in
    let firsts : Places = c.self.inside.firsts.entries in
    let others = c.self.inside.others.entries in
    let word = c.args.word.now in
    let first : Found = c.in_ok-first.first.now in
    let met = looked firsts word c.beginning_of.result (option_copied c.get.result) (Some first) c.beginning_of.ensures c.get.ensures.value (ap option_copied c.in_ok-first.was) in
    let text : get_or texts first.place [] ≡ c.get-2.result.now = read texts first.place c.get-2.result.now [] c.get-2.ensures in
    sym (ap (λ (es : Entries). number_in es word) (sym c.self.view_is)
    ∙ found-first (firsts_in texts firsts) others word (found_in texts first) c.self.invariant.indexed (there texts firsts word (Some first) met) (text ∙ c.is_word.ensures.0 c.if-is_word.true))

pub returns : goal.returns
returns c =
    let texts : Words = c.self.inside.texts in
    let firsts : Places = c.self.inside.firsts.entries in
    let others = c.self.inside.others.entries in
    let word = c.args.word.now in
    let first : Found = c.in_ok-first.first.now in
    let met = looked firsts word c.beginning_of.result (option_copied c.get.result) (Some first) c.beginning_of.ensures c.get.ensures.value (ap option_copied c.in_ok-first.was) in
    let text : get_or texts first.place [] ≡ c.get-2.result.now = read texts first.place c.get-2.result.now [] c.get-2.ensures in
    let differs : get_or texts first.place [] ≢ word = λ (h : get_or texts first.place [] ≡ word). absurd (cc (sym (c.is_word.ensures.1 (sym text ∙ h)) ∙ c.if-is_word.false)) in
    c.copied.ensures ∙ (c.get-3.ensures.value
    ∙ sym (ap (λ (es : Entries). number_in es word) (sym c.self.view_is)
    ∙ found-other (firsts_in texts firsts) others word (found_in texts first) c.self.invariant.indexed (there texts firsts word (Some first) met) differs))
