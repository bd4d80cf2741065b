-- Document 01's example of a listing, computed on the rules.
-- Assumes nothing.
use mathlib.Core.Path.{◌≡◌, refl}
use Rattle.rules.specs.Choice.{pick, ◌and◌, all}
use Rattle.rules.specs.Bytes.{le, le_at, part, order, is_equal, is_less}
use Rattle.rules.specs.Wire.{code_of, form, written, written_if, type_of, type_in, wire_types, width_of, end_tag, maximum}
use Rattle.rules.specs.Names.{spelling, ascii, name_of}
use Rattle.rules.specs.Refusals.{line_of, ◌then◌, in_order}
use Rattle.rules.specs.Schema.{deep, child}
use Rattle.rules.specs.Utf8.{begins, awaited, lowest, highest, rest_utf8, is_utf8}
use Rattle.rules.specs.Block.{node_at, block, earlier, name_ok, children_ok, record_ok, record_at, block_ok, name_in, is_name_utf8, names_utf8, trees_from, tree_at, block_tree, depth_of}
use Rattle.rules.specs.SchemaRules.{node_rule, rule_at, schema_rule, not_tuple, root_rule, name_rule, child_rule, table_rule}
use Rattle.rules.specs.Format.{block_form_ok, block_depth_ok, block_rule, reference_at, entry_at, entry_name, lookup, resolved, table_schema, reference_ok, ascending, entry_ok, reference_form_ok, forms_ok, entry_depth_ok, reference_depth_ok, depths_ok, block_utf8, entry_utf8, reference_utf8, format_utf8, entry_rule, root_of, inline_rule, reference_rule, rules_order, sizes_ok, format_rules}
use Rattle.rules.specs.Value.{items, values}
use Rattle.rules.specs.ValueTable.{bit, value_kind}
use Rattle.rules.specs.Walk.{of_type, blob_limit, ◌>>=◌, number_of, bytes_of, charged, blob_of, child_of, pairs_of, fields_of, value_of, walk}
use Rattle.rules.specs.Reading.{defaults, settings_ok, limits, start, root_from, row_at, when_accepted, door, through, extent, room_for}
use Rattle.rules.specs.Query.{signed}
use Rattle.rules.specs.Rows.{schema_record, one_table, B}
use Rattle.rules.specs.Numerals.{digit, digits_if, digits, numeral, integer_in}
use Rattle.rules.specs.Lines.{decimal, code_words, code_word, end_line}
use Rattle.rules.specs.Listing.{parent_words, kind_word, number_text, value_text, listing_line, node_line, lines_below, lines_of, row_lines, refusal_line, piece_of, row_piece_of, piece_at, files_ok, files_piece, and_then, pieces_from, pieces, joined, listing, files_listing, example_listing, ended, example_lines}

pub listing_holds : example_listing ≡ joined example_lines
unfolding spelling name_of defaults pick ◌and◌ all le le_at part order is_equal is_less form written written_if type_of type_in wire_types width_of end_tag maximum ascii line_of ◌then◌ in_order deep child node_at block earlier name_ok children_ok record_ok record_at block_ok name_in is_name_utf8 names_utf8 begins awaited lowest highest rest_utf8 is_utf8 trees_from tree_at block_tree depth_of node_rule rule_at schema_rule not_tuple root_rule name_rule child_rule table_rule block_form_ok block_depth_ok block_rule reference_at entry_at entry_name lookup resolved table_schema reference_ok ascending entry_ok reference_form_ok forms_ok entry_depth_ok reference_depth_ok depths_ok block_utf8 entry_utf8 reference_utf8 format_utf8 entry_rule root_of inline_rule reference_rule rules_order sizes_ok format_rules items values bit value_kind of_type code_of blob_limit ◌>>=◌ number_of bytes_of charged blob_of child_of pairs_of fields_of value_of walk settings_ok limits start root_from row_at when_accepted door through extent room_for schema_record one_table B digit digits_if digits numeral decimal code_words code_word end_line integer_in parent_words kind_word signed number_text value_text listing_line node_line lines_below lines_of row_lines refusal_line piece_of row_piece_of piece_at files_ok files_piece and_then pieces_from pieces joined listing files_listing example_listing ended example_lines
listing_holds = refl
