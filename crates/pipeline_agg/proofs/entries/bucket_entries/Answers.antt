use Rattle.std.proofs.Common.{rules, refl, ◌≡◌, ap, sym, subst, ◌∙◌, map, take, drop, [], ◌∷◌, ◌++◌, length, set, ◌<◌}
use Rattle.std.specs.Prelude.{◌+◌}
use Rattle.std.proofs.lemmas.List.{length-set, map-append}
use Rattle.std.proofs.lemmas.List.Elements.{All-append}
use Rattle.bucket_order.specs.Kinds.{child_kinds}
use Rattle.pipeline_agg.specs.Entries.{AreFit, all_small, entry_of_teller, moved_on, teller_of, view_of}
use Rattle.pipeline_agg.specs.Parents.{IsSmall}
use Rattle.pipeline_agg.specs.declared.entries.Teller.{Teller}
use Rattle.pipeline_agg.proofs.EntryLaws.{alone-small, fit-back, fit-front, left-over, made, moved, was}
use Rattle.pipeline_agg.proofs.entries.bucket_entries.Goals as goal

pub entry_of_next-requires-clause-small : goal.entry_of_next-requires-clause-small
entry_of_next-requires-clause-small c =
    let t = c.teller-item.result in
    let now = c.loop-teller.teller-items in
    let olds = c.args.tellers.now.items in
    let i = c.loop-teller.teller-index in
    let within : i < length now = subst (λ n. i < n) (sym c.loop-teller.auto.teller-items) c.loop-teller-test.true in
    let is = was c.args.children.now c.args.bucket.now olds now i t within c.teller-item.is c.loop-teller.invariant.2 c.loop-teller.invariant.3 in
    subst (λ (x : Teller). IsSmall x.running) (sym is ∙ c.teller-item.is) (c.requires.small i t (subst (λ n. i < n) c.loop-teller.invariant.3 within))

pub loop-teller-preserved : goal.loop-teller-preserved
loop-teller-preserved c =
    let children = c.args.children.now in
    let b = c.args.bucket.now in
    let t = c.teller-item.result in
    let now = c.loop-teller.teller-items in
    let olds = c.args.tellers.now.items in
    let i = c.loop-teller.teller-index in
    let within : i < length now = subst (λ n. i < n) (sym c.loop-teller.auto.teller-items) c.loop-teller-test.true in
    let new = c.entry_of_next.new.teller in
    let entry = c.in_ok-entry_of_next.field-0 in
    let before = c.loop-teller.invariant in
    let views : map view_of c.push.new.self.items ≡ map view_of c.loop-teller.entries.items ++ view_of entry ∷ [] =
    ap (map view_of) c.in_ok-push.ensures.items ∙ map-append view_of c.loop-teller.entries.items (entry ∷ []) in
    let told = made children b olds now i t within c.teller-item.is before.2 before.3 (entry_of_teller children b) (map view_of c.loop-teller.entries.items)
    (map view_of c.push.new.self.items) (view_of entry) before.0 (c.in_ok-entry_of_next.ensures.told ∙ ap (λ (x : Teller). entry_of_teller children b (teller_of x)) (sym c.teller-item.is)) views in
    let taken = moved children b olds now i t within c.teller-item.is before.2 before.3 new in
    let kept = made children b olds now i t within c.teller-item.is before.2 before.3 (moved_on (child_kinds children) b) (map teller_of (take i now))
    (map teller_of (take (i + 1) (set now i new))) (teller_of new) before.1 (c.in_ok-entry_of_next.ensures.kept ∙ ap (λ (x : Teller). moved_on (child_kinds children) b (teller_of x)) (sym c.teller-item.is)) (ap (map teller_of) taken ∙ map-append teller_of (take i now) (new ∷ [])) in
    let rest = left-over children b olds now i t within c.teller-item.is before.2 before.3 new in
    let small : AreFit (map view_of c.push.new.self.items) → all_small (take (i + 1) (set now i new)) =
    λ fit.
    let both = subst AreFit views fit in
    let here = c.in_ok-entry_of_next.ensures.small (fit-back (map view_of c.loop-teller.entries.items) (view_of entry ∷ []) both).0 in
    subst all_small (sym taken) (All-append (λ (x : Teller). IsSmall x.running) (take i now) (new ∷ []) (before.4 (fit-front (map view_of c.loop-teller.entries.items) (view_of entry ∷ []) both)) (alone-small new here)) in
    (told, kept, rest, length-set now i new ∙ before.3, small, c.entry_of_next.ensures.siblings)
