use Rattle.std.proofs.Common.{◌≡◌, ◌++◌, ◌∷◌, ◌+◌, [], List, length, take, get_or, sym, ◌∙◌, ap, subst, arith}
use Rattle.std.proofs.lemmas.List.{append-nil, append_assoc, map-append, take_more, take_all, length-take}
use Rattle.shard_columns.specs.declared.field_words.Numbered.{Numbered}
use Rattle.shard_columns.specs.Numbered.{Entries, entry_of, all_entries, later_entries, IsBegun, AreBegun}
use Rattle.shard_columns.specs.Values.{Words}
use Rattle.shard_columns.proofs.Arranging.{later-push, all-push}
use Rattle.shard_columns.proofs.Searching.{read}
use Rattle.shard_columns.proofs.field_words.lend_later.Goals as goal

pub loop-place-init : goal.loop-place-init
loop-place-init c = record { added = sym (append-nil (all_entries c.args.words.now.items)); begun = c.requires.begun }

pub loop-place-preserved : goal.loop-place-preserved
loop-place-preserved c =
    let texts : Words = c.args.texts.now in
    let numbers = c.args.numbers.now in
    let words : List Numbered = c.loop-place.words.items in
    let front : Entries = all_entries c.args.words.now.items in
    let k = c.loop-place.place in
    let low = c.loop-place-test.true in
    let size = c.requires.sizes in
    let number = get_or numbers k 0 in
    let text : get_or texts k [] ≡ c.get.result.now = read texts k c.get.result.now [] c.get.ensures in
    let entry : entry_of c.new.result ≡ (get_or texts k [], number) = c.new.ensures.entry ∙ (λ i. (sym text i, number)) in
    let sizes : length (take k texts) ≡ length (take k numbers) = omega (arith, length-take k texts, length-take k numbers, size, low) in
    let more : later_entries (take (k + 1) texts) (take (k + 1) numbers) ≡ later_entries (take k texts) (take k numbers) ++ (get_or texts k [], number) ∷ [] =
    (λ i. later_entries (take_more texts k [] (omega (arith, low, size)) i) (take_more numbers k 0 low i)) ∙ later-push (take k texts) (take k numbers) (get_or texts k []) number sizes in
    record {
      added = ap all_entries c.in_ok-push.ensures.items
          ∙ (map-append entry_of words (c.new.result ∷ [])
          ∙ ((λ i. c.loop-place.invariant.added i ++ entry i ∷ [])
          ∙ (append_assoc front (later_entries (take k texts) (take k numbers)) ((get_or texts k [], number) ∷ []) ∙ ap (λ (es : Entries). front ++ es) (sym more))));
      begun = subst AreBegun (sym c.in_ok-push.ensures.items) (all-push IsBegun words c.new.result c.loop-place.invariant.begun c.new.ensures.begun);
    }

pub returns : goal.returns
returns c =
    let k = c.loop-place.place in
    let past = c.loop-place-test.false in
    let size = c.requires.sizes in
    record {
      added = c.loop-place.invariant.added
          ∙ (λ i. all_entries c.args.words.now.items ++ later_entries (take_all k c.args.texts.now (omega (arith, past, size)) i) (take_all k c.args.numbers.now past i));
      begun = c.loop-place.invariant.begun;
    }
