-- A path that begins with another and what follows it.
use Rattle.std.proofs.Common.{◌≡◌, refl, ap, ◌∙◌, ℕ, List, [], ◌∷◌, ◌++◌, length, drop}
use Rattle.std.specs.Prelude.{◌&&◌, nat_eq}
use Rattle.std.specs.List.{starts_with}
use Rattle.list_laws.proofs.Booleans.{and_assoc}

pub starts_with-append : (path front ending : List ℕ) → starts_with nat_eq path (front ++ ending) ≡ (starts_with nat_eq path front && starts_with nat_eq (drop (length front) path) ending)
starts_with-append [] [] ending = refl
starts_with-append (b ∷ path) [] ending = refl
starts_with-append [] (c ∷ front) ending = refl
starts_with-append (b ∷ path) (c ∷ front) ending =
    ap (λ r. nat_eq c b && r) (starts_with-append path front ending) ∙ and_assoc (nat_eq c b) (starts_with nat_eq path front) (starts_with nat_eq (drop (length front) path) ending)
