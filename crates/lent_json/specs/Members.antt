-- Members of a text, one after another: of one name the last value stays (RFC 8259, 4).
use Rattle.serde_json.specs.Data.{Members, no_members, member, put}

abbrev pub put_all : Members → Members → Members
put_all no_members found = found
put_all (member k d ms) found = put_all ms (put k d found)
