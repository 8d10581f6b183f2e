-- Texts of limits, with a heap of 1,000 bytes.
use Rattle.std.specs.Prelude.{◌≡◌, refl, ℕ, List, Option, Some, None, codes}
use Rattle.agg_settings.specs.Limits.{limit_of}
use Rattle.agg_settings.proofs.Computing.{computing}

abbrev limit : List ℕ → Option ℕ
limit s = limit_of 1000 s

a_unit_in_either_case : limit (codes "3Kb") ≡ Some 3072
unfolding computing
a_unit_in_either_case = refl

one_petabyte : limit (codes "1024tb") ≡ Some 1125899906842624
unfolding computing
one_petabyte = refl

more_than_one_petabyte : limit (codes "1025tb") ≡ None
unfolding computing
more_than_one_petabyte = refl

a_size_of_nothing : limit (codes "0b") ≡ Some 0
unfolding computing
a_size_of_nothing = refl

nothing : limit (codes "0") ≡ Some 0
unfolding computing
nothing = refl

two_zeros_are_no_limit : limit (codes "00") ≡ None
unfolding computing
two_zeros_are_no_limit = refl

a_number_without_a_unit : limit (codes "64") ≡ None
unfolding computing
a_number_without_a_unit = refl

leading_zeros : limit (codes "0064b") ≡ Some 64
unfolding computing
leading_zeros = refl

a_percentage_is_rounded_down : limit_of 1999 (codes "007%") ≡ Some 139
unfolding computing
a_percentage_is_rounded_down = refl

the_whole_heap : limit (codes "100%") ≡ Some 1000
unfolding computing
the_whole_heap = refl

more_than_the_heap : limit (codes "101%") ≡ None
unfolding computing
more_than_the_heap = refl

half_a_percent : limit (codes "0.5%") ≡ None
unfolding computing
half_a_percent = refl

a_sign : limit (codes "+1b") ≡ None
unfolding computing
a_sign = refl

twenty_digits : limit (codes "00000000000000000001b") ≡ Some 1
unfolding computing
twenty_digits = refl

twenty_one_digits : limit (codes "000000000000000000001b") ≡ None
unfolding computing
twenty_one_digits = refl

an_empty_text : limit (codes "") ≡ None
unfolding computing
an_empty_text = refl

a_unit_alone : limit (codes "kb") ≡ None
unfolding computing
a_unit_alone = refl
