use Rattle.std.proofs.Common.{sym, ap, arith, rules, ◌≡◌, ◌<◌, ◌∙◌, suc, length, w64, to_z, of_z}
use Rattle.std.proofs.lemmas.Int.{to_z-of_z}
use Rattle.bucket_places.proofs.Indexing.{of_table_more, of_others_more, on_err, still_indexed, updates_at}
use Rattle.bucket_places.proofs.places.Index.insert.Goals as goal

pub returns-in_err-insert-in-None-clause-memory : goal.returns-in_err-insert-in-None-clause-memory
returns-in_err-insert-in-None-clause-memory c =
    on_err c.from_residual-in_err-insert-in-None.result (λ codes was. still_indexed codes c.args.self.now.table.items was c.insert.new.self c.in_err-insert-in-None.ensures.err)

pub returns-in_ok-self-in-Some-clause-more : goal.returns-in_ok-self-in-Some-clause-more
returns-in_ok-self-in-Some-clause-more c = λ codes was absent last.
    let table = c.args.self.now.table.items in
    let same : to_z w64 (of_z w64 c.args.code) ≡ c.args.code = to_z-of_z w64 c.args.code (search rules) in
    let below : c.in-Some.entry < length table = let l = c.in-Some.ensures.within in let n = c.len.ensures in omega (arith, l, n) in
    of_table_more codes table c.args.self.now.others was c.args.code absent c.in-Some.entry c.in_ok-self-in-Some.field-0 (sym same ∙ c.in-Some.ensures.code) below (c.in_ok-self-in-Some.ensures ∙ ap suc last)

pub returns-in_ok-insert-in-None-clause-more : goal.returns-in_ok-insert-in-None-clause-more
returns-in_ok-insert-in-None-clause-more c = λ codes was absent last.
    let table = c.args.self.now.table.items in
    let same : to_z w64 (of_z w64 c.args.code) ≡ c.args.code = to_z-of_z w64 c.args.code (search rules) in
    let n = c.len.ensures in
    of_others_more codes table c.args.self.now.others was c.args.code absent c.insert.new.self (λ k l e. c.in-None.ensures.outside k (omega (arith, l, n)) (same ∙ e))
    (updates_at c.args.self.now.others c.insert.new.self c.args.place (length codes) same last c.in_ok-insert-in-None.ensures.updates)
