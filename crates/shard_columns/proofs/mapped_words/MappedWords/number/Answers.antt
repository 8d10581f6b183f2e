use Rattle.std.proofs.Common.{◌≡◌, ◌≢◌, refl, ◌++◌, ◌∷◌, ℕ, false, [], List, Option, Some, cond, unwrap_or, get_or, sym, ◌∙◌, ap, subst, arith}
use Rattle.std.specs.Result.{OnOk, is_err}
use Rattle.std.specs.declared.result.Result.{Result}
use Rattle.std.specs.declared.result.Result.TheVariants.{Ok, Err}
use Rattle.std.specs.BTreeMap.{get_by_text}
use Rattle.std.specs.Str.{bytes_eq}
use Rattle.std.proofs.lemmas.Result.{IfOk-weaker}
use Rattle.shard_columns.specs.declared.mapped_words.Found.{Found}
use Rattle.shard_columns.specs.Numbered.{Entries, number_in, beginning_of, firsts_in, found_in, first_entries, other_entries, IsKept}
use Rattle.shard_columns.specs.Values.{Words}
use Rattle.shard_columns.proofs.Beginnings.{begins-so, number-kept, found-first, found-other, indexed-either, after-other, found-none, after-first}
use Rattle.shard_columns.proofs.Keeping.{Places, CameTo, came-to, met-low, met-first, same-entries, none-first, puts, kept-first}
use Rattle.shard_columns.proofs.Searching.{read}
use Rattle.shard_columns.proofs.mapped_words.MappedWords.number.Goals as goal

-- what is put is there, unless it failed
added : {X E : Type 0} {P : Type 0} (r : Result X E) → OnOk r P → is_err r ≡ false → P
added (Ok x) put fine = put
added (Err e) put fine = absurd (cc fine)

pub get-requires : goal.get-requires
get-requires c =
    let texts : Words = c.self.inside.texts in
    let firsts = c.self.inside.firsts.entries in
    let others = c.self.inside.others.entries in
    let now = c.first_at.new.firsts.entries in
    let word = c.args.word.now in
    let first : Found = c.in_ok-first.first in
    let new : Found = record { place = c.in-Ok.place; number = c.args.next } in
    let kept = c.self.invariant in
    let came : CameTo texts firsts now word first new =
    came-to texts firsts now c.beginning_of.result word first new c.beginning_of.ensures c.in_ok-first.ensures.found c.in_ok-first.ensures.entries c.in_ok-first.ensures.updates.0 c.first_at.ensures.ordered (omega (arith, c.in-Ok.ensures, c.len.ensures)) in
    met-low texts firsts now others word first new kept came c.if-first-place.false

pub is_word-requires : goal.is_word-requires
is_word-requires c =
    let texts : Words = c.self.inside.texts in
    let firsts = c.self.inside.firsts.entries in
    let others = c.self.inside.others.entries in
    let now = c.first_at.new.firsts.entries in
    let word = c.args.word.now in
    let first : Found = c.in_ok-first.first in
    let new : Found = record { place = c.in-Ok.place; number = c.args.next } in
    let kept = c.self.invariant in
    let came : CameTo texts firsts now word first new =
    came-to texts firsts now c.beginning_of.result word first new c.beginning_of.ensures c.in_ok-first.ensures.found c.in_ok-first.ensures.entries c.in_ok-first.ensures.updates.0 c.first_at.ensures.ordered (omega (arith, c.in-Ok.ensures, c.len.ensures)) in
    let text : get_or texts first.place [] ≡ c.get.result.now = read texts first.place c.get.result.now [] c.get.ensures in
    ap beginning_of (sym text) ∙ begins-so (firsts_in texts firsts) word (found_in texts first) kept.indexed.begun (met-first texts firsts now others word first new kept came c.if-first-place.false)

-- this word stands at its beginning
here : (c : goal.Then-is_word) → number_in c.args.self.now c.args.word.now ≡ Some c.in_ok-first.first.number
here c =
    let texts : Words = c.self.inside.texts in
    let firsts = c.self.inside.firsts.entries in
    let others = c.self.inside.others.entries in
    let now = c.first_at.new.firsts.entries in
    let word = c.args.word.now in
    let first : Found = c.in_ok-first.first in
    let new : Found = record { place = c.in-Ok.place; number = c.args.next } in
    let kept = c.self.invariant in
    let came : CameTo texts firsts now word first new =
    came-to texts firsts now c.beginning_of.result word first new c.beginning_of.ensures c.in_ok-first.ensures.found c.in_ok-first.ensures.entries c.in_ok-first.ensures.updates.0 c.first_at.ensures.ordered (omega (arith, c.in-Ok.ensures, c.len.ensures)) in
    let text : get_or texts first.place [] ≡ c.get.result.now = read texts first.place c.get.result.now [] c.get.ensures in
    ap (λ (es : Entries). number_in es word) (sym c.self.view_is)
    ∙ found-first (firsts_in texts firsts) others word (found_in texts first) kept.indexed (met-first texts firsts now others word first new kept came c.if-first-place.false) (text ∙ c.is_word.ensures.0 c.if-is_word.true)

pub returns-then-is_word-clause-found : goal.returns-then-is_word-clause-found
returns-then-is_word-clause-found c = ap (λ (o : Option ℕ). unwrap_or o c.args.next) (sym (here c))

pub invariant_of-self-then-is_word : goal.invariant_of-self-then-is_word
invariant_of-self-then-is_word c =
    let texts : Words = c.self.inside.texts in
    let firsts = c.self.inside.firsts.entries in
    let others = c.self.inside.others.entries in
    let now = c.first_at.new.firsts.entries in
    let word = c.args.word.now in
    let first : Found = c.in_ok-first.first in
    let new : Found = record { place = c.in-Ok.place; number = c.args.next } in
    let kept = c.self.invariant in
    let came : CameTo texts firsts now word first new =
    came-to texts firsts now c.beginning_of.result word first new c.beginning_of.ensures c.in_ok-first.ensures.found c.in_ok-first.ensures.entries c.in_ok-first.ensures.updates.0 c.first_at.ensures.ordered (omega (arith, c.in-Ok.ensures, c.len.ensures)) in
    subst (λ (fs : Places). IsKept texts fs others) (sym (same-entries texts firsts now others word first new kept came c.if-first-place.false)) kept

pub returns-then-is_word-clause-after : goal.returns-then-is_word-clause-after
returns-then-is_word-clause-after c = λ w.
    let texts : Words = c.self.inside.texts in
    let firsts = c.self.inside.firsts.entries in
    let others = c.self.inside.others.entries in
    let now = c.first_at.new.firsts.entries in
    let word = c.args.word.now in
    let first : Found = c.in_ok-first.first in
    let new : Found = record { place = c.in-Ok.place; number = c.args.next } in
    let kept = c.self.invariant in
    let came : CameTo texts firsts now word first new =
    came-to texts firsts now c.beginning_of.result word first new c.beginning_of.ensures c.in_ok-first.ensures.found c.in_ok-first.ensures.entries c.in_ok-first.ensures.updates.0 c.first_at.ensures.ordered (omega (arith, c.in-Ok.ensures, c.len.ensures)) in
    ap (λ (fs : Places). number_in (first_entries (firsts_in texts fs) ++ other_entries others) w) (same-entries texts firsts now others word first new kept came c.if-first-place.false)
    ∙ (ap (λ (es : Entries). number_in es w) c.self.view_is ∙ number-kept (number_in c.args.self.now) word first.number (here c) w)

-- another word stands there
differs : (c : goal.After-number_among) → get_or c.self.inside.texts c.in_ok-first.first.place [] ≢ c.args.word.now
differs c h = absurd (cc (sym (c.is_word.ensures.1 (sym (read c.self.inside.texts c.in_ok-first.first.place c.get.result.now [] c.get.ensures) ∙ h)) ∙ c.if-is_word.false))

pub invariant_of-self-2 : goal.invariant_of-self-2
invariant_of-self-2 c =
    let texts : Words = c.self.inside.texts in
    let firsts = c.self.inside.firsts.entries in
    let others = c.self.inside.others.entries in
    let now = c.first_at.new.firsts.entries in
    let word = c.args.word.now in
    let first : Found = c.in_ok-first.first in
    let new : Found = record { place = c.in-Ok.place; number = c.args.next } in
    let kept = c.self.invariant in
    let came : CameTo texts firsts now word first new =
    came-to texts firsts now c.beginning_of.result word first new c.beginning_of.ensures c.in_ok-first.ensures.found c.in_ok-first.ensures.entries c.in_ok-first.ensures.updates.0 c.first_at.ensures.ordered (omega (arith, c.in-Ok.ensures, c.len.ensures)) in
    let among = c.number_among.new.numbers.entries in
    let same : IsKept texts firsts among =
    record {
      within = kept.within;
      indexed = indexed-either (firsts_in texts firsts) others among word (found_in texts first) c.number_among.result kept.indexed (met-first texts firsts now others word first new kept came c.if-first-place.false) (differs c) c.number_among.ensures.after c.number_among.ensures.err;
    } in
    subst (λ (fs : Places). IsKept texts fs among) (sym (same-entries texts firsts now others word first new kept came c.if-first-place.false)) same

pub returns-clause-found : goal.returns-clause-found
returns-clause-found c =
    let texts : Words = c.self.inside.texts in
    let firsts = c.self.inside.firsts.entries in
    let others = c.self.inside.others.entries in
    let now = c.first_at.new.firsts.entries in
    let word = c.args.word.now in
    let first : Found = c.in_ok-first.first in
    let new : Found = record { place = c.in-Ok.place; number = c.args.next } in
    let kept = c.self.invariant in
    let came : CameTo texts firsts now word first new =
    came-to texts firsts now c.beginning_of.result word first new c.beginning_of.ensures c.in_ok-first.ensures.found c.in_ok-first.ensures.entries c.in_ok-first.ensures.updates.0 c.first_at.ensures.ordered (omega (arith, c.in-Ok.ensures, c.len.ensures)) in
    let next = c.args.next in
    let found : number_in c.args.self.now word ≡ get_by_text c.self.inside.others word =
    ap (λ (es : Entries). number_in es word) (sym c.self.view_is) ∙ found-other (firsts_in texts firsts) others word (found_in texts first) kept.indexed (met-first texts firsts now others word first new kept came c.if-first-place.false) (differs c) in
    IfOk-weaker c.number_among.result (λ n. n ≡ unwrap_or (get_by_text c.self.inside.others word) next) (λ n. n ≡ unwrap_or (number_in c.args.self.now word) next) (λ n is. is ∙ ap (λ (o : Option ℕ). unwrap_or o next) (sym found)) c.number_among.ensures.found

pub returns-clause-after : goal.returns-clause-after
returns-clause-after c =
    let texts : Words = c.self.inside.texts in
    let firsts = c.self.inside.firsts.entries in
    let others = c.self.inside.others.entries in
    let now = c.first_at.new.firsts.entries in
    let word = c.args.word.now in
    let first : Found = c.in_ok-first.first in
    let new : Found = record { place = c.in-Ok.place; number = c.args.next } in
    let kept = c.self.invariant in
    let came : CameTo texts firsts now word first new =
    came-to texts firsts now c.beginning_of.result word first new c.beginning_of.ensures c.in_ok-first.ensures.found c.in_ok-first.ensures.entries c.in_ok-first.ensures.updates.0 c.first_at.ensures.ordered (omega (arith, c.in-Ok.ensures, c.len.ensures)) in
    let among = c.number_among.new.numbers.entries in
    IfOk-weaker c.number_among.result (λ n. (w : List ℕ) → get_by_text c.number_among.new.numbers w ≡ cond (bytes_eq word w) (Some n) (get_by_text c.self.inside.others w)) _ (λ n after w.
    ap (λ (fs : Places). number_in (first_entries (firsts_in texts fs) ++ other_entries among) w) (same-entries texts firsts now others word first new kept came c.if-first-place.false)
    ∙ (after-other (firsts_in texts firsts) others among word (found_in texts first) n kept.indexed (met-first texts firsts now others word first new kept came c.if-first-place.false) (differs c) after w
    ∙ ap (λ (es : Entries). cond (bytes_eq word w) (Some n) (number_in es w)) c.self.view_is)) c.number_among.ensures.after

-- no word begins so
pub invariant_of-self-else-is_err : goal.invariant_of-self-else-is_err
invariant_of-self-else-is_err c =
    let texts : Words = c.self.inside.texts in
    let firsts = c.self.inside.firsts.entries in
    let others = c.self.inside.others.entries in
    let now = c.first_at.new.firsts.entries in
    let word = c.args.word.now in
    let first : Found = c.in_ok-first.first in
    let new : Found = record { place = c.in-Ok.place; number = c.args.next } in
    let kept = c.self.invariant in
    let came : CameTo texts firsts now word first new =
    came-to texts firsts now c.beginning_of.result word first new c.beginning_of.ensures c.in_ok-first.ensures.found c.in_ok-first.ensures.entries c.in_ok-first.ensures.updates.0 c.first_at.ensures.ordered (omega (arith, c.in-Ok.ensures, c.len.ensures)) in
    let push = added c.push.result c.push.ensures.added (sym c.is_err.ensures.value ∙ c.if-is_err.false) in
    subst (λ (ts : Words). IsKept ts now others) (sym push) (kept-first texts firsts now others word first new kept came c.if-first-place.true)

pub returns-then-first-place-clause-found : goal.returns-then-first-place-clause-found
returns-then-first-place-clause-found c =
    let texts : Words = c.self.inside.texts in
    let firsts = c.self.inside.firsts.entries in
    let others = c.self.inside.others.entries in
    let now = c.first_at.new.firsts.entries in
    let word = c.args.word.now in
    let first : Found = c.in_ok-first.first in
    let new : Found = record { place = c.in-Ok.place; number = c.args.next } in
    let kept = c.self.invariant in
    let came : CameTo texts firsts now word first new =
    came-to texts firsts now c.beginning_of.result word first new c.beginning_of.ensures c.in_ok-first.ensures.found c.in_ok-first.ensures.entries c.in_ok-first.ensures.updates.0 c.first_at.ensures.ordered (omega (arith, c.in-Ok.ensures, c.len.ensures)) in
    ap (λ (o : Option ℕ). unwrap_or o c.args.next) (sym (ap (λ (es : Entries). number_in es word) (sym c.self.view_is) ∙ found-none (firsts_in texts firsts) others word kept.indexed (none-first texts firsts now others word first new kept came c.if-first-place.true)))

pub returns-then-first-place-clause-after : goal.returns-then-first-place-clause-after
returns-then-first-place-clause-after c = λ w.
    let texts : Words = c.self.inside.texts in
    let firsts = c.self.inside.firsts.entries in
    let others = c.self.inside.others.entries in
    let now = c.first_at.new.firsts.entries in
    let word = c.args.word.now in
    let first : Found = c.in_ok-first.first in
    let new : Found = record { place = c.in-Ok.place; number = c.args.next } in
    let kept = c.self.invariant in
    let came : CameTo texts firsts now word first new =
    came-to texts firsts now c.beginning_of.result word first new c.beginning_of.ensures c.in_ok-first.ensures.found c.in_ok-first.ensures.entries c.in_ok-first.ensures.updates.0 c.first_at.ensures.ordered (omega (arith, c.in-Ok.ensures, c.len.ensures)) in
    let push = added c.push.result c.push.ensures.added (sym c.is_err.ensures.value ∙ c.if-is_err.false) in
    ap (λ (ts : Words). number_in (first_entries (firsts_in ts now) ++ other_entries others) w) push
    ∙ (after-first (firsts_in texts firsts) (firsts_in (texts ++ word ∷ []) now) others word (beginning_of word) (word, c.args.next) refl refl kept.indexed (none-first texts firsts now others word first new kept came c.if-first-place.true) (puts texts firsts now others word first new kept came c.if-first-place.true) w
    ∙ ap (λ (es : Entries). cond (bytes_eq word w) (Some c.args.next) (number_in es w)) c.self.view_is)
