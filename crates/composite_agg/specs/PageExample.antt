-- A page of two buckets that is offered the keys 5, 3, 4 and 5, as an example.
use Rattle.std.specs.Prelude.{pos, ℕ, List, [], ◌∷◌, false, None}
use Rattle.agg_model.specs.declared.key.Key.{Key}
use Rattle.agg_model.specs.declared.key.Key.TheVariants.{Many, Whole}
use Rattle.composite_agg.specs.FirstPages.{FirstPage, answer_of, page_with}
use Rattle.composite_agg.specs.declared.offered.Offered.{Offered}

-- the key of a number at one source
abbrev pub key_of : ℕ → Key
key_of n = Many (Whole (pos n) ∷ [])

-- a page of two over one source, ascending
abbrev pub page_of_two : FirstPage
page_of_two = record {
  sources = record { name = []; field = 0; interval = None; descending = false; missing_bucket = false } ∷ [];
  size = 2;
  after = None;
  buckets = [];
}

-- the page after these keys were offered, one after another
abbrev pub offered : FirstPage → List ℕ → FirstPage
offered p [] = p
offered p (n ∷ ns) = offered (page_with p (key_of n) []) ns

-- what becomes of each of them
abbrev pub answers : FirstPage → List ℕ → List Offered
answers p [] = []
answers p (n ∷ ns) = answer_of p (key_of n) ∷ answers (page_with p (key_of n) []) ns
