-- Words that are not in the grammar: the first key that fails, with its value.
use Rattle.std.specs.Prelude.{◌≡◌, refl, List, [], ◌∷◌, true, false, codes}
use Rattle.clap.specs.Walk.{Text}
use Rattle.agg_model.specs.declared.settings.Settings.{Settings}
use Rattle.agg_settings.specs.Usages.{Reading, refuse}
use Rattle.agg_settings.specs.Settings.{settings_of}
use Rattle.agg_settings.proofs.Computing.{computing}

abbrev read : List Text → Reading Settings
read words = settings_of true words

abbrev no_command : Reading Settings
no_command = refuse [] []

no_worker : read (codes "--workers" ∷ codes "0" ∷ []) ≡ refuse (codes "--workers") (codes "0")
unfolding computing
no_worker = refl

sixty_five_workers : read (codes "--workers" ∷ codes "65" ∷ []) ≡ refuse (codes "--workers") (codes "65")
unfolding computing
sixty_five_workers = refl

-- where several are not answered yet
two_workers_of_one : settings_of false (codes "--workers" ∷ codes "2" ∷ []) ≡ refuse (codes "--workers") (codes "2")
unfolding computing
two_workers_of_one = refl

an_empty_value : read (codes "--workers=" ∷ []) ≡ refuse (codes "--workers") []
unfolding computing
an_empty_value = refl

a_batch_of_one : read (codes "--batched-reduce-size" ∷ codes "1" ∷ []) ≡ refuse (codes "--batched-reduce-size") (codes "1")
unfolding computing
a_batch_of_one = refl

sixty_five_searches : read (codes "--concurrent-searches" ∷ codes "65" ∷ []) ≡ refuse (codes "--concurrent-searches") (codes "65")
unfolding computing
sixty_five_searches = refl

two_zeros : read (codes "-E" ∷ codes "indices.breaker.request.limit=00" ∷ []) ≡ refuse (codes "indices.breaker.request.limit") (codes "00")
unfolding computing
two_zeros = refl

a_heap_of_nothing : read (codes "-E" ∷ codes "heap_size=0b" ∷ []) ≡ refuse (codes "heap_size") (codes "0b")
unfolding computing
a_heap_of_nothing = refl

real_memory : read (codes "-E" ∷ codes "indices.breaker.total.use_real_memory=true" ∷ []) ≡ refuse (codes "indices.breaker.total.use_real_memory") (codes "true")
unfolding computing
real_memory = refl

an_unknown_key : read (codes "-E" ∷ codes "x=y=z" ∷ []) ≡ refuse (codes "x") (codes "y=z")
unfolding computing
an_unknown_key = refl

no_equals_sign : read (codes "-E" ∷ codes "heap_size" ∷ []) ≡ refuse (codes "heap_size") []
unfolding computing
no_equals_sign = refl

-- a later entry of the key does not mend it
a_bad_entry_before_a_good_one : read (codes "-E" ∷ codes "heap_size=0" ∷ codes "-E" ∷ codes "heap_size=1gb" ∷ []) ≡ refuse (codes "heap_size") (codes "0")
unfolding computing
a_bad_entry_before_a_good_one = refl

nothing_attached : read (codes "-E=" ∷ []) ≡ refuse [] []
unfolding computing
nothing_attached = refl

-- options are looked at in their own order, whatever the order of the words
workers_before_entries : read (codes "-E" ∷ codes "x=1" ∷ codes "--workers" ∷ codes "x" ∷ []) ≡ refuse (codes "--workers") (codes "x")
unfolding computing
workers_before_entries = refl

entries_before_scan : read (codes "--scan" ∷ codes "--concurrent-searches" ∷ codes "2" ∷ codes "-E" ∷ codes "x=1" ∷ []) ≡ refuse (codes "x") (codes "1")
unfolding computing
entries_before_scan = refl

scan_before_generate : read (codes "--generate" ∷ codes "x" ∷ codes "--scan" ∷ codes "--concurrent-searches" ∷ codes "2" ∷ []) ≡ refuse (codes "--scan") []
unfolding computing
scan_before_generate = refl

no_shards : read (codes "--generate" ∷ codes "1:2:0" ∷ []) ≡ refuse (codes "--generate") (codes "1:2:0")
unfolding computing
no_shards = refl

two_numbers : read (codes "--generate" ∷ codes "1:2" ∷ []) ≡ refuse (codes "--generate") (codes "1:2")
unfolding computing
two_numbers = refl

four_numbers : read (codes "--generate" ∷ codes "1:2:3:4" ∷ []) ≡ refuse (codes "--generate") (codes "1:2:3:4")
unfolding computing
four_numbers = refl

an_unknown_word : read (codes "--request-cache=8" ∷ []) ≡ no_command
unfolding computing
an_unknown_word = refl

a_request_for_help : read (codes "--help" ∷ []) ≡ no_command
unfolding computing
a_request_for_help = refl

a_plain_word : read (codes "x" ∷ []) ≡ no_command
unfolding computing
a_plain_word = refl

a_word_after_two_dashes : read (codes "--" ∷ codes "x" ∷ []) ≡ no_command
unfolding computing
a_word_after_two_dashes = refl

a_value_for_a_flag : read (codes "--scan=x" ∷ []) ≡ no_command
unfolding computing
a_value_for_a_flag = refl

a_flag_twice : read (codes "--scan" ∷ codes "--scan" ∷ []) ≡ no_command
unfolding computing
a_flag_twice = refl

an_option_twice : read (codes "--workers" ∷ codes "1" ∷ codes "--workers" ∷ codes "1" ∷ []) ≡ no_command
unfolding computing
an_option_twice = refl

no_value_at_the_end : read (codes "-E" ∷ []) ≡ no_command
unfolding computing
no_value_at_the_end = refl

a_flag_for_a_value : read (codes "-E" ∷ codes "--scan" ∷ []) ≡ no_command
unfolding computing
a_flag_for_a_value = refl
