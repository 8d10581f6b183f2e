-- What a source in memory gives, over plain lists.
use Rattle.std.proofs.Common.{◌≡◌, ◌<◌, ◌+◌, ◌-◌, min, ℕ, List, [], ◌++◌, sym, ap, ◌∙◌, length, take, drop, arith}
use Rattle.std.proofs.lemmas.List.{take_rest, take-append-drop, drop-drop, nil_from_length}

-- n bytes from place g on were given, of bytes that the code sees as `seen`
pub split_rest : (bytes seen rest front : List ℕ) (g n : ℕ) → seen ≡ bytes → drop g bytes ≡ rest → front ≡ take n (take (length seen - g) (drop g seen)) → rest ≡ front ++ drop (g + n) bytes
split_rest bytes seen rest front g n same is given =
    let front_is : front ≡ take n (drop g bytes) = given ∙ ap (take n) (take_rest seen g) ∙ ap (λ (t : List ℕ). take n (drop g t)) same in
    sym is ∙ sym (take-append-drop n (drop g bytes))
    ∙ ap (λ (t : List ℕ). t ++ drop n (drop g bytes)) (sym front_is)
    ∙ ap (λ (t : List ℕ). front ++ t) (drop-drop n g bytes)

-- nothing is given only where nothing is left
pub nothing_left : (bytes seen rest : List ℕ) (g n m room piece : ℕ) → seen ≡ bytes → drop g bytes ≡ rest → m ≡ min room piece → n ≡ min m (length (take (length seen - g) (drop g seen))) → 0 < room → 0 < piece → n ≡ 0 → rest ≡ []
nothing_left bytes seen rest g n m room piece same is most count some positive none =
    let left : length (take (length seen - g) (drop g seen)) ≡ length rest = ap length (take_rest seen g ∙ ap (drop g) same ∙ is) in
    nil_from_length rest (omega arith)
