-- Document 01's table of rows, and rows at the two blob limits, computed on the rules of the whole calls.
-- Assumes nothing.
use mathlib.Core.Path.{◌≡◌, refl}
use mathlib.Core.List.{map}
use Rattle.rules.specs.Choice.{pick, ◌and◌, all}
use Rattle.rules.specs.Bytes.{le, le_at, part, over, order, is_equal, is_less}
use Rattle.rules.specs.Wire.{code_of, form, written, written_if, type_of, type_in, wire_types, width_of, end_tag, maximum}
use Rattle.rules.specs.Names.{ascii}
use Rattle.rules.specs.Refusals.{line_of, ◌then◌, in_order}
use Rattle.rules.specs.Schema.{deep, child}
use Rattle.rules.specs.Utf8.{begins, awaited, lowest, highest, rest_utf8, is_utf8}
use Rattle.rules.specs.Block.{node_at, block, earlier, name_ok, children_ok, record_ok, record_at, block_ok, name_in, is_name_utf8, names_utf8, trees_from, tree_at, block_tree, depth_of}
use Rattle.rules.specs.SchemaRules.{node_rule, rule_at, schema_rule, not_tuple, root_rule, name_rule, child_rule, table_rule}
use Rattle.rules.specs.Format.{block_form_ok, block_depth_ok, block_rule, reference_at, entry_at, entry_name, lookup, resolved, table_schema, reference_ok, ascending, entry_ok, reference_form_ok, forms_ok, entry_depth_ok, reference_depth_ok, depths_ok, block_utf8, entry_utf8, reference_utf8, format_utf8, entry_rule, root_of, inline_rule, reference_rule, rules_order, sizes_ok, format_rules, one_block, encoder_rules}
use Rattle.rules.specs.Value.{tally, items, values, records_of, payload_of}
use Rattle.rules.specs.ValueRecord.{layout, layouts, value_record_at, is_record}
use Rattle.rules.specs.ValueTable.{bit, payload_bytes, value_kind, size_of, content_of, head_of, below, heads, flat, ◌>>=◌ as ◌parsed>>=◌, kind_of, stored_at, scalar_at, items_at, values_at, node_value, if_record_is, value_at, if_whole_table, table_value}
use Rattle.rules.specs.Walk.{of_type, blob_limit, ◌>>=◌, number_of, bytes_of, charged, blob_of, child_of, pairs_of, fields_of, value_of, walk}
use Rattle.rules.specs.Reading.{settings_ok, limits, start, root_from, row_at, when_accepted, door, through, extent, skipped, skip_rule, room, room_for, room_test, fill_with, filled, decode_rule}
use Rattle.rules.specs.Answers.{said, none_said, row_said, read_said}
use Rattle.rules.specs.Writing.{◌>>=◌ as ◌wrote>>=◌, kind_for, fitting, tagged, write, write_row, placed, encode_value, encode_ok, encode_rule}
use Rattle.rules.specs.Rows.{schema_record, one_table, A, B, C, settings, blank, encoded_again, again, outcome, line, limited, apart, ten_bytes, lines, two_blobs, limit_lines, same, refusal, row, ten_records, four_records, seven_records, three_records, twelve_records, ten_payload, outcomes, limit_outcomes}

pub rows_hold : map outcome lines ≡ outcomes
unfolding schema_record one_table A B settings blank encoded_again again outcome line limited ten_bytes lines same refusal row ten_records four_records seven_records three_records ten_payload outcomes ascii pick ◌and◌ all le le_at part over order is_equal is_less form written written_if type_of type_in wire_types width_of end_tag maximum line_of said ◌then◌ in_order deep child node_at block earlier name_ok children_ok record_ok record_at block_ok name_in is_name_utf8 names_utf8 begins awaited lowest highest rest_utf8 is_utf8 trees_from tree_at block_tree depth_of node_rule rule_at schema_rule not_tuple root_rule name_rule child_rule table_rule block_form_ok block_depth_ok block_rule reference_at entry_at entry_name lookup resolved table_schema reference_ok ascending entry_ok reference_form_ok forms_ok entry_depth_ok reference_depth_ok depths_ok block_utf8 entry_utf8 reference_utf8 format_utf8 entry_rule root_of inline_rule reference_rule rules_order sizes_ok format_rules one_block encoder_rules tally items values records_of payload_of layout layouts value_record_at is_record bit payload_bytes value_kind size_of content_of head_of below heads flat ◌parsed>>=◌ kind_of stored_at scalar_at items_at values_at node_value if_record_is value_at if_whole_table table_value of_type code_of blob_limit ◌>>=◌ number_of bytes_of charged blob_of child_of pairs_of fields_of value_of walk settings_ok limits start root_from row_at when_accepted door through extent skipped skip_rule room room_for room_test fill_with filled decode_rule none_said row_said read_said ◌wrote>>=◌ kind_for fitting tagged write write_row placed encode_value encode_ok encode_rule
rows_hold = refl

-- document 02, d
pub limits_hold : map outcome limit_lines ≡ limit_outcomes
unfolding schema_record one_table A C settings blank encoded_again again outcome apart ten_bytes two_blobs limit_lines same refusal row ten_records twelve_records ten_payload limit_outcomes ascii pick ◌and◌ all le le_at part over order is_equal is_less form written written_if type_of type_in wire_types width_of end_tag maximum line_of said ◌then◌ in_order deep child node_at block earlier name_ok children_ok record_ok record_at block_ok name_in is_name_utf8 names_utf8 begins awaited lowest highest rest_utf8 is_utf8 trees_from tree_at block_tree depth_of node_rule rule_at schema_rule not_tuple root_rule name_rule child_rule table_rule block_form_ok block_depth_ok block_rule reference_at entry_at entry_name lookup resolved table_schema reference_ok ascending entry_ok reference_form_ok forms_ok entry_depth_ok reference_depth_ok depths_ok block_utf8 entry_utf8 reference_utf8 format_utf8 entry_rule root_of inline_rule reference_rule rules_order sizes_ok format_rules one_block encoder_rules tally items values records_of payload_of layout layouts value_record_at is_record bit payload_bytes value_kind size_of content_of head_of below heads flat ◌parsed>>=◌ kind_of stored_at scalar_at items_at values_at node_value if_record_is value_at if_whole_table table_value of_type code_of blob_limit ◌>>=◌ number_of bytes_of charged blob_of child_of pairs_of fields_of value_of walk settings_ok limits start root_from row_at when_accepted door through extent skipped skip_rule room room_for room_test fill_with filled decode_rule none_said row_said read_said ◌wrote>>=◌ kind_for fitting tagged write write_row placed encode_value encode_ok encode_rule
limits_hold = refl
