use Rattle.std.proofs.Common.{◌≡◌, ◌++◌, ◌∷◌, [], ℕ, Bool, true, List, if◌then◌else◌, ◌∙◌, ap, subst, arith}
use Rattle.std.specs.Result.{is_ok, IfOk}
use Rattle.shard_columns.specs.Numbered.{Known, Entries, later_entries, IsGiven}
use Rattle.shard_columns.specs.Values.{Words}
use Rattle.shard_columns.proofs.Arranging.{later-push, given-later, given-if}
use Rattle.shard_columns.proofs.field_words.FieldWords.number.Goals as goal

-- where there is room, it stands there
pushed : (b : Bool) (old new before : List ℕ) (n : ℕ) → new ≡ (if b then old ++ n ∷ [] else old) → b ≡ true → old ≡ before → new ≡ before ++ n ∷ []
pushed b old new before n is fits same = is ∙ (ap (λ (c : Bool). if c then old ++ n ∷ [] else old) fits ∙ ap (λ (xs : List ℕ). xs ++ n ∷ []) same)

pub returns : goal.returns
returns c =
    let mapped : Entries = c.self.inside.mapped in
    let texts : Words = c.self.inside.texts in
    let numbers = c.self.inside.numbers.items in
    let word = c.args.word.now in
    let next = c.args.next in
    let put = pushed (is_ok c.push-2.result) c.reserve.new.self.items c.push-2.new.self.items numbers next c.push-2.ensures.items (c.push-2.ensures.succeeds (omega (arith, c.in_ok-reserve.ensures.ok))) c.reserve.ensures.items in
    let later : later_entries c.push.new.self c.push-2.new.self.items ≡ later_entries texts numbers ++ (word, next) ∷ [] =
    (λ i. later_entries (c.in_ok-push.ensures.added i) (put i)) ∙ later-push texts numbers word next c.self.invariant in
    let given = given-later mapped (later_entries texts numbers) (later_entries c.push.new.self c.push-2.new.self.items) word next later in
    subst (λ (known : Known). IsGiven known (record { mapped = mapped; later = later_entries c.push.new.self c.push-2.new.self.items }) word next next) c.self.view_is given

pub returns-then-len-lt-MAPPED : goal.returns-then-len-lt-MAPPED
returns-then-len-lt-MAPPED c =
    let later : Entries = later_entries c.self.inside.texts c.self.inside.numbers.items in
    let given = given-if c.self.inside.mapped c.number.new.self later c.args.word.now c.args.next c.number.result c.number.ensures.found c.number.ensures.after in
    subst (λ (known : Known). IfOk c.number.result (λ n. IsGiven known (record { mapped = c.number.new.self; later = later }) c.args.word.now n c.args.next)) c.self.view_is given
