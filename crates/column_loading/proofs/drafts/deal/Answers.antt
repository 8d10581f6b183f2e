use Rattle.std.proofs.Common.{◌≡◌, ◌<◌, ◌++◌, ◌∷◌, ℕ, List, [], Some, length, get_or, set, sym, ◌∙◌, ap, subst, arith}
use Rattle.std.specs.Prelude.{slice_get}
use Rattle.std.proofs.lemmas.Result.{on_ok_weaker}
use Rattle.agg_reading.specs.Routing.{shard_of}
use Rattle.agg_documents.specs.Shards.{cut}
use Rattle.agg_documents.proofs.Dealing.{shard-below}
use Rattle.shard_columns.proofs.Searching.{taken}
use Rattle.column_loading.specs.Drafts.{AreDraftsOf}
use Rattle.column_loading.proofs.Dealt.{admits-here, drafts-set}
use Rattle.column_loading.proofs.drafts.deal.Goals as goal

-- the shard of a routing
chosen : (routing text bytes : List ℕ) (n len shard : ℕ) → shard ≡ shard_of bytes len → bytes ≡ text → text ≡ routing → len ≡ n → shard ≡ shard_of routing n
chosen routing text bytes n len shard is bytes_are text_is len_is = is ∙ (ap (λ (r : List ℕ). shard_of r len) (bytes_are ∙ text_is) ∙ ap (shard_of routing) len_is)

pub overflow_cast-shard : goal.overflow_cast-shard
overflow_cast-shard c = let low = c.shard_of-shard.type_inv in omega (arith, low)

pub index_mut-requires : goal.index_mut-requires
index_mut-requires c =
    let d = c.args.document.now in
    let n = length c.args.drafts.now.items in
    let is = chosen d.routing c.as_str.result.now c.as_bytes.result.now n c.len.result c.shard_of-shard.result c.shard_of-shard.ensures c.as_bytes.ensures.value c.as_str.ensures (c.len.ensures ∙ c.args.drafts.now.ok.0) in
    let low = shard-below d.routing n c.requires.some in
    omega (arith, is, low, c.args.drafts.now.ok.0)

pub push-requires : goal.push-requires
push-requires c =
    let d = c.args.document.now in
    let drafts = c.args.drafts.now.items in
    let n = length drafts in
    let m = c.requires.room.0 in
    let documents = c.requires.room.1.0 in
    let are = c.requires.room.1.1.0 in
    let light = c.requires.room.1.1.1 in
    let is = chosen d.routing c.as_str.result.now c.as_bytes.result.now n c.len.result c.shard_of-shard.result c.shard_of-shard.ensures c.as_bytes.ensures.value c.as_str.ensures (c.len.ensures ∙ c.args.drafts.now.ok.0) in
    let low : c.shard_of-shard.result < n = (let below = shard-below d.routing n c.requires.some in omega (arith, is, below)) in
    let at : slice_get drafts (shard_of d.routing n) ≡ Some c.index_mut.result.now = ap (slice_get drafts) (sym is) ∙ taken drafts c.shard_of-shard.result c.index_mut.result.now low c.index_mut.ensures.value in
    (m, (get_or (cut documents n) (shard_of d.routing n) [], (are.each (shard_of d.routing n) c.index_mut.result.now at, admits-here m documents d n c.requires.some light)))

pub returns : goal.returns
returns c = on_ok_weaker c.push.result (λ takes m documents are light.
    let d = c.args.document.now in
    let drafts = c.args.drafts.now.items in
    let n = length drafts in
    let is = chosen d.routing c.as_str.result.now c.as_bytes.result.now n c.len.result c.shard_of-shard.result c.shard_of-shard.ensures c.as_bytes.ensures.value c.as_str.ensures (c.len.ensures ∙ c.args.drafts.now.ok.0) in
    let low : c.shard_of-shard.result < n = (let below = shard-below d.routing n c.requires.some in omega (arith, is, below)) in
    let at : slice_get drafts (shard_of d.routing n) ≡ Some c.index_mut.result.now = ap (slice_get drafts) (sym is) ∙ taken drafts c.shard_of-shard.result c.index_mut.result.now low c.index_mut.ensures.value in
    subst (λ (k : ℕ). AreDraftsOf m (cut (documents ++ d ∷ []) n) (set drafts k c.push.new.self)) (sym is)
    (drafts-set m documents d n c.requires.some drafts c.index_mut.result.now c.push.new.self are at takes light)) c.push.ensures
