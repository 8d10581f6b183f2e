-- Index lines that are refused, each with the pointer of the first thing refused.
use Rattle.std.specs.Prelude.{◌≡◌, refl, [], codes}
use Rattle.agg_reading.specs.Reading.{refuse}
use Rattle.agg_reading.specs.IndexLine.{index_line_at}
use Rattle.agg_reading.proofs.Computing.{computing}

an_unknown_type : index_line_at (codes "{\"index\":\"i\",\"mappings\":{\"properties\":{\"x\":{\"type\":\"text\"}}}}") ≡ refuse 31 (codes "/mappings/properties/x/type")
unfolding computing
an_unknown_type = refl

a_line_that_is_not_json : index_line_at (codes "{\"index\":") ≡ refuse 31 []
unfolding computing
a_line_that_is_not_json = refl

a_line_that_is_no_object : index_line_at (codes "[]") ≡ refuse 31 []
unfolding computing
a_line_that_is_no_object = refl

an_unknown_member : index_line_at (codes "{\"index\":\"i\",\"aliases\":{}}") ≡ refuse 31 (codes "/aliases")
unfolding computing
an_unknown_member = refl

a_missing_name_comes_last : index_line_at (codes "{\"settings\":{\"number_of_shards\":0}}") ≡ refuse 31 (codes "/settings/number_of_shards")
unfolding computing
a_missing_name_comes_last = refl

a_missing_name : index_line_at (codes "{\"settings\":{}}") ≡ refuse 31 []
unfolding computing
a_missing_name = refl

an_empty_name : index_line_at (codes "{\"index\":\"\"}") ≡ refuse 31 (codes "/index")
unfolding computing
an_empty_name = refl

null_for_mappings : index_line_at (codes "{\"index\":\"i\",\"mappings\":null}") ≡ refuse 31 (codes "/mappings")
unfolding computing
null_for_mappings = refl

an_unknown_member_of_mappings : index_line_at (codes "{\"index\":\"i\",\"mappings\":{\"_source\":{}}}") ≡ refuse 31 (codes "/mappings/_source")
unfolding computing
an_unknown_member_of_mappings = refl

dynamic_true : index_line_at (codes "{\"index\":\"i\",\"mappings\":{\"dynamic\":true}}") ≡ refuse 31 (codes "/mappings/dynamic")
unfolding computing
dynamic_true = refl

a_field_name_with_a_dot : index_line_at (codes "{\"index\":\"i\",\"mappings\":{\"properties\":{\"a.b\":{\"type\":\"long\"}}}}") ≡ refuse 31 (codes "/mappings/properties/a.b")
unfolding computing
a_field_name_with_a_dot = refl

an_empty_field_name : index_line_at (codes "{\"index\":\"i\",\"mappings\":{\"properties\":{\"\":{\"type\":\"long\"}}}}") ≡ refuse 31 (codes "/mappings/properties/")
unfolding computing
an_empty_field_name = refl

a_field_that_is_no_object : index_line_at (codes "{\"index\":\"i\",\"mappings\":{\"properties\":{\"a\":1}}}") ≡ refuse 31 (codes "/mappings/properties/a")
unfolding computing
a_field_that_is_no_object = refl

a_field_without_type_and_properties : index_line_at (codes "{\"index\":\"i\",\"mappings\":{\"properties\":{\"a\":{\"x\":1}}}}") ≡ refuse 31 (codes "/mappings/properties/a")
unfolding computing
a_field_without_type_and_properties = refl

a_type_that_is_no_text : index_line_at (codes "{\"index\":\"i\",\"mappings\":{\"properties\":{\"a\":{\"type\":5,\"x\":1}}}}") ≡ refuse 31 (codes "/mappings/properties/a/type")
unfolding computing
a_type_that_is_no_text = refl

a_member_that_the_type_has_not : index_line_at (codes "{\"index\":\"i\",\"mappings\":{\"properties\":{\"a\":{\"type\":\"long\",\"ignore_above\":1}}}}") ≡ refuse 31 (codes "/mappings/properties/a/ignore_above")
unfolding computing
a_member_that_the_type_has_not = refl

properties_of_a_keyword : index_line_at (codes "{\"index\":\"i\",\"mappings\":{\"properties\":{\"a\":{\"type\":\"keyword\",\"properties\":{}}}}}") ≡ refuse 31 (codes "/mappings/properties/a/properties")
unfolding computing
properties_of_a_keyword = refl

an_ignore_above_that_is_too_great : index_line_at (codes "{\"index\":\"i\",\"mappings\":{\"properties\":{\"a\":{\"type\":\"keyword\",\"ignore_above\":2147483648}}}}") ≡ refuse 31 (codes "/mappings/properties/a/ignore_above")
unfolding computing
an_ignore_above_that_is_too_great = refl

names_are_tried_in_their_places : index_line_at (codes "{\"index\":\"i\",\"mappings\":{\"properties\":{\"a\":{\"type\":\"x\"},\"b.c\":{}}}}") ≡ refuse 31 (codes "/mappings/properties/a/type")
unfolding computing
names_are_tried_in_their_places = refl

a_field_in_the_21st_properties : index_line_at (codes "{\"index\":\"i\",\"mappings\":{\"properties\":{\"x\":{\"properties\":{\"x\":{\"properties\":{\"x\":{\"properties\":{\"x\":{\"properties\":{\"x\":{\"properties\":{\"x\":{\"properties\":{\"x\":{\"properties\":{\"x\":{\"properties\":{\"x\":{\"properties\":{\"x\":{\"properties\":{\"x\":{\"properties\":{\"x\":{\"properties\":{\"x\":{\"properties\":{\"x\":{\"properties\":{\"x\":{\"properties\":{\"x\":{\"properties\":{\"x\":{\"properties\":{\"x\":{\"properties\":{\"x\":{\"properties\":{\"x\":{\"properties\":{\"x\":{\"type\":\"long\"}}}}}}}}}}}}}}}}}}}}}}}}}}}}}}}}}}}}}}}}}}}}") ≡ refuse 31 (codes "/mappings/properties/x/properties/x/properties/x/properties/x/properties/x/properties/x/properties/x/properties/x/properties/x/properties/x/properties/x/properties/x/properties/x/properties/x/properties/x/properties/x/properties/x/properties/x/properties/x/properties/x/properties/x")
unfolding computing
a_field_in_the_21st_properties = refl

shards_above_1024 : index_line_at (codes "{\"index\":\"i\",\"settings\":{\"number_of_shards\":1025}}") ≡ refuse 31 (codes "/settings/number_of_shards")
unfolding computing
shards_above_1024 = refl

shards_that_are_not_whole : index_line_at (codes "{\"index\":\"i\",\"settings\":{\"number_of_shards\":1.0}}") ≡ refuse 31 (codes "/settings/number_of_shards")
unfolding computing
shards_that_are_not_whole = refl

shards_that_differ : index_line_at (codes "{\"index\":\"i\",\"settings\":{\"index\":{\"number_of_shards\":2},\"index.number_of_shards\":3}}") ≡ refuse 31 (codes "/settings/index/number_of_shards")
unfolding computing
shards_that_differ = refl

the_later_pointer_in_byte_order_differs : index_line_at (codes "{\"index\":\"i\",\"settings\":{\"index\":{\"number_of_shards\":2},\"number_of_shards\":3}}") ≡ refuse 31 (codes "/settings/number_of_shards")
unfolding computing
the_later_pointer_in_byte_order_differs = refl

values_come_before_their_equality : index_line_at (codes "{\"index\":\"i\",\"settings\":{\"index\":{\"number_of_shards\":2,\"index.number_of_shards\":3},\"number_of_shards\":0}}") ≡ refuse 31 (codes "/settings/number_of_shards")
unfolding computing
values_come_before_their_equality = refl
