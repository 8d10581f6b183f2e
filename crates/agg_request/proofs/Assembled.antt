-- What is assembled of an aggregation, in two steps.
use Rattle.std.proofs.Common.{◌≡◌, refl, ℕ, List, [], Bool, Ok, Err}
use Rattle.std.specs.Prelude.{⊤}
use Rattle.serde_json.specs.Data.{Members}
use Rattle.agg_model.specs.declared.aggregation.Agg.{roll-Agg}
use Rattle.agg_reading.specs.declared.names.KindName.{KindName}
use Rattle.agg_reading.specs.declared.parts.Counts.{Counts}
use Rattle.agg_reading.specs.declared.parts.ReadKind.{ReadKind}
use Rattle.agg_reading.specs.declared.pipes.ReadItem.TheVariants as read_item
use Rattle.agg_reading.specs.declared.pipes.Siblings.{Siblings}
use Rattle.agg_reading.specs.Orders.{resolved, with_order}
use Rattle.agg_reading.specs.PipePaths.{around_of, fitted_pipes}
use Rattle.agg_reading.specs.Reading.{Reading, ◌>>=◌, ◌>>◌}
use Rattle.agg_reading.specs.Request.{assembled, placed}
use Rattle.agg_request.specs.Fitted.{fitted}

abbrev both : {A B : Type 0} → A → B → Reading (A × B)
both a b = Ok (a, b)

joined : {A B C : Type 0} (p : Reading ⊤) (o : Reading A) (q : Reading B) (f : A → B → C)
    → (p >> (o >>= (λ a. q >>= (λ b. Ok (f a b))))) ≡ ((p >> (o >>= (λ a. q >>= both a))) >>= (λ (x : A × B). Ok (f x.0 x.1)))
joined (Err e) o q f = refl
joined (Ok u) (Err e) q f = refl
joined (Ok u) (Ok a) (Err e) f = refl
joined (Ok u) (Ok a) (Ok b) f = refl

pub in_two : (top : Bool) (kind : KindName) (name at : List ℕ) (ms : Members) (found : ReadKind) (children : Siblings) (counts : Counts)
    → assembled top kind name at ms found (children, counts) ≡ (fitted top kind at ms found.order children >>= (λ f. Ok (read_item.Aggregation (roll-Agg (record { name = name; kind = with_order f.0 found.kind; children = children.aggs })) f.1, counts)))
unfolding assembled fitted
in_two top kind name at ms found children counts =
    joined (placed top kind at ms children) (resolved children.aggs [] found.order) (fitted_pipes (around_of kind) children.aggs children.pipes) (λ order pipes. (read_item.Aggregation (roll-Agg (record { name = name; kind = with_order order found.kind; children = children.aggs })) pipes, counts))
