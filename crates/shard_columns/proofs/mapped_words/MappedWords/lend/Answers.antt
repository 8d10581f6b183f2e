use Rattle.std.proofs.Common.{◌≡◌, ◌++◌, ◌∷◌, [], ℕ, List, map, get_or, sym, ◌∙◌, ap, subst}
use Rattle.std.specs.Prelude.{String, string_bytes}
use Rattle.std.specs.declared.alloc.Global.{Global}
use Rattle.std.specs.Map.{values_of}
use Rattle.std.specs.Map.Iter.{deref, deref_pair}
use Rattle.std.proofs.lemmas.List.{append-nil, append_assoc, map-append}
use Rattle.std.proofs.lemmas.Map.Iter.{iter_end, rest_more, rest_so_far}
use denote.Bor.{Bor}
use Rattle.list_laws.proofs.Lists.{map-map}
use Rattle.shard_columns.specs.declared.mapped_words.Found.{Found}
use Rattle.shard_columns.specs.declared.field_words.Numbered.{Numbered}
use Rattle.shard_columns.specs.Numbered.{Entry, Entries, entry_of, all_entries, found_in, firsts_in, first_entries, other_entries, IsBegun, AreBegun}
use Rattle.shard_columns.specs.Values.{Words}
use Rattle.shard_columns.proofs.Arranging.{all-push}
use Rattle.shard_columns.proofs.Keeping.{Places, within-values}
use Rattle.shard_columns.proofs.Searching.{read}
use Rattle.shard_columns.proofs.mapped_words.MappedWords.lend.Goals as goal

abbrev Others : Type 0
Others = List (String Global × ℕ)

abbrev Pair : Type 0
Pair = Bor (String Global) × Bor ℕ

pub loop-found-init : goal.loop-found-init
loop-found-init c = record { added = sym (append-nil (all_entries c.args.words.now.items)); begun = c.requires.begun }

pub get-text-requires : goal.get-text-requires
get-text-requires c =
    let firsts : Places = c.self.inside.firsts.entries in
    let start : c.into_iter-found-iterator.result ≡ values_of firsts = c.into_iter-found-iterator.ensures.into_iter_gives ∙ c.values-found-items.ensures.rest in
    let so_far = rest_so_far deref c.loop-found.yielded c.into_iter-found-iterator.result c.loop-found.found-iterator c.loop-found.yielded_by in
    let next = rest_more deref c.loop-found.found-iterator c.next.new.self c.next.result c.in-Some.found c.in-Some.is c.next.ensures.steps in
    within-values _ firsts (map deref c.loop-found.yielded) c.next.new.self c.in-Some.found.now c.self.invariant.within (sym start ∙ (so_far ∙ ap (λ (fs : List Found). map deref c.loop-found.yielded ++ fs) next))

pub loop-found-preserved : goal.loop-found-preserved
loop-found-preserved c =
    let texts : Words = c.self.inside.texts in
    let words : List Numbered = c.loop-found.words.items in
    let found : Found = c.in-Some.found.now in
    let front : Entries = all_entries c.args.words.now.items in
    let text : get_or texts found.place [] ≡ c.get-text.result.now = read texts found.place c.get-text.result.now [] c.get-text.ensures in
    let entry : entry_of c.new.result ≡ found_in texts found = c.new.ensures.entry ∙ (λ i. (sym text i, found.number)) in
    record {
      added = ap all_entries c.in_ok-push.ensures.items
          ∙ (map-append entry_of words (c.new.result ∷ [])
          ∙ ((λ i. c.loop-found.invariant.added i ++ entry i ∷ [])
          ∙ (append_assoc front (map (λ (f : Bor Found). found_in texts f.now) c.loop-found.yielded) (found_in texts found ∷ [])
          ∙ ap (λ (es : Entries). front ++ es) (sym (map-append (λ (f : Bor Found). found_in texts f.now) c.loop-found.yielded (c.in-Some.found ∷ []))))));
      begun = subst AreBegun (sym c.in_ok-push.ensures.items) (all-push IsBegun words c.new.result c.loop-found.invariant.begun c.new.ensures.begun);
    }

entries-push : (front : Entries) (ys : List Pair) (y : Pair) (e : Entry) → e ≡ (string_bytes y.0.now, y.1.now) → (front ++ other_entries (map deref_pair ys)) ++ e ∷ [] ≡ front ++ other_entries (map deref_pair (ys ++ y ∷ []))
entries-push front ys y e is = append_assoc front (other_entries (map deref_pair ys)) (e ∷ []) ∙ ap (λ (es : Entries). front ++ es) (behind ys)
  where
    behind : (ys : List Pair) → other_entries (map deref_pair ys) ++ e ∷ [] ≡ other_entries (map deref_pair (ys ++ y ∷ []))
    behind [] = ap (λ (x : Entry). x ∷ []) is
    behind (z ∷ zs) = ap (λ (es : Entries). (string_bytes z.0.now, z.1.now) ∷ es) (behind zs)

pub loop-text-init : goal.loop-text-init
loop-text-init c = record { added = sym (append-nil (all_entries c.loop-found.words.items)); begun = c.loop-found.invariant.begun }

pub loop-text-preserved : goal.loop-text-preserved
loop-text-preserved c =
    let words : List Numbered = c.loop-text.words.items in
    let entry : entry_of c.new-in-loop-text.result ≡ (string_bytes c.in-Some-2.text.now, c.in-Some-2.number.now) = c.new-in-loop-text.ensures.entry ∙ (λ i. (c.as_str.ensures.value i, c.in-Some-2.number.now)) in
    record {
      added = ap all_entries c.in_ok-push-2.ensures.items
          ∙ (map-append entry_of words (c.new-in-loop-text.result ∷ [])
          ∙ (ap (λ (es : Entries). es ++ entry_of c.new-in-loop-text.result ∷ []) c.loop-text.invariant.added
          ∙ entries-push (all_entries c.loop-found.words.items) c.loop-text.yielded (c.in-Some-2.text, c.in-Some-2.number) (entry_of c.new-in-loop-text.result) entry));
      begun = subst AreBegun (sym c.in_ok-push-2.ensures.items) (all-push IsBegun words c.new-in-loop-text.result c.loop-text.invariant.begun c.new-in-loop-text.ensures.begun);
    }

pub returns-clause-added : goal.returns-clause-added
returns-clause-added c =
    let texts : Words = c.self.inside.texts in
    let firsts : Places = c.self.inside.firsts.entries in
    let others : Others = c.self.inside.others.entries in
    let words : Entries = all_entries c.args.words.now.items in
    let start : c.into_iter-found-iterator.result ≡ values_of firsts = c.into_iter-found-iterator.ensures.into_iter_gives ∙ c.values-found-items.ensures.rest in
    let front = iter_end deref (values_of firsts) c.loop-found.yielded c.into_iter-found-iterator.result c.loop-found.found-iterator c.next.new.self c.next.result start c.loop-found.yielded_by c.in-None.is c.next.ensures.steps in
    let back = iter_end deref_pair others c.loop-text.yielded c.into_iter-text-iterator.result c.loop-text.text-iterator c.next-in-loop-text.new.self c.next-in-loop-text.result c.into_iter-text-iterator.ensures.into_iter_gives.0 c.loop-text.yielded_by c.in-None-2.is c.next-in-loop-text.ensures.steps in
    let firsts_are : map (λ (f : Bor Found). found_in texts f.now) c.loop-found.yielded ≡ first_entries (firsts_in texts firsts) =
    sym (map-map (found_in texts) deref c.loop-found.yielded)
    ∙ (ap (map (found_in texts)) front.0 ∙ (map-map (found_in texts) (λ (e : ℕ × Found). e.1) firsts ∙ sym (map-map (λ (e : ℕ × Entry). e.1) (λ (e : ℕ × Found). (e.0, found_in texts e.1)) firsts))) in
    c.loop-text.invariant.added
    ∙ ((λ i. (c.loop-found.invariant.added ∙ ap (λ (es : Entries). words ++ es) firsts_are) i ++ other_entries (back.0 i))
    ∙ (append_assoc words (first_entries (firsts_in texts firsts)) (other_entries others) ∙ ap (λ (es : Entries). words ++ es) c.self.view_is))
