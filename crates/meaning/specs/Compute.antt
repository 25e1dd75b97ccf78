-- The public definitions with all that they are made of unfolded: for theorems that are proved by computing.
-- Made by tools/compute.py; the gate holds it to that.
use Rattle.std.specs.Prelude.{ℕ, List}
use Rattle.meaning.specs.Bytes.{choose, refuse, all_of, permitted, separator, digit, letter, text_byte, every, same, begins, ends, without_last, prefix}
use Rattle.meaning.specs.Unfold.{without_last_if, add, split_at_lf, without_cr, physical, none, put, drop_if, next, unfold_lines, unfold_file, unfolded_text}
use Rattle.meaning.specs.Model.{records_from, target_of, flag_of, component_of, components_of, dimension_of, type_of, parameters_size, attribute_of, attributes_of, tables_of, topics_of, name_of, model_of}
use Rattle.meaning.specs.Check.{special, name_byte, is_name, is_flag, is_bound, good_component, good_components, is_dimension, good_type, is_type, is_among, keeps_transfer, keeps_topic, keeps_table, keeps_attribute, keeps, see, follows_transfer, follows, is_outside, judge_attributes, judge_references, check_records, check_model, good_names, attribute_names, table_names, good_types, good_tables, in_topic_order}
use Rattle.meaning.specs.Answer.{numbers_of, check_answer, check, text_unfolded, text_checked, unfold_text, code_for_c, numbers_in, Answer, TextResult}
use Rattle.meaning.specs.Field.{goes_on, add_to_fields, fields_of, has_code}
use Rattle.meaning.specs.Value.{digits_after, is_digits, unsigned, signed, is_number, number_digits, within, number_of, is_leap_year, days_of_month, is_day, date_of, enumeration_of, stretch_of, text_of, is_identification, same_identification, reference_of, value_of, is_undefined, is_undefined_twice}
use Rattle.meaning.specs.Digits.{last_digits, shortened, digits_of, sign_of, pointed, number_bytes, date_bytes}
use Rattle.meaning.specs.Row.{component_pairs, pairs_of_type, pairs_of, has_mandatory, put_pair, put_number, undefined_cells, undefined_rest, said_by, is_value, may_be_defined, may_be_undefined, value_of_pair, field_cells, pair_cells, component_values, point_cells}
use Rattle.meaning.specs.Reading.{line_code_of, move, is_in_arc, is_forbidden, line_attributes, is_complete, due_lines, nothing_read, start_of, with_line, same_name, find_topic, find_table, mandatory_between, object_at, objects_of, is_used, Rooms}
use Rattle.meaning.specs.Lines.{bare, named, opening_line, description_line, transfer_line, model_line, topic_line, topic_end, table_line, store_row, object_fields, behind_objects, object_line, store_point, attribute_line, closing_line, line_due, step_of, run, at_end, read_lines}
use Rattle.meaning.specs.Table.{find_object, put_reference, resolve_pair, resolve_pairs, resolve_rows, resolve, refused_with, accepted_with, read_resolved, read_run, read_text, read_unfolded, read_checked, read, Result}
use Rattle.meaning.specs.Writing.{counts_fit, content_of, stretch_bytes, identification_bytes, type_bytes, field_bytes, pair_fields, point_fields, point_code, point_lines, attribute_lines, object_lines, row_lines, rows_of_table, rows_behind_table, rows_behind_topic, table_lines, topic_lines, field_lines, spaced, line_bytes, lines_bytes, lines_of, Lent}
use Rattle.meaning.specs.Readback.{is_within, shown_stretch, is_text, has_start, shown_pairs, shown_objects, same_cells, same_shown, same_pairs, same_objects, same_table, is_resolved_as, is_run_as, reads_as, is_table}
use Rattle.meaning.specs.Width.{goes_whole, cut_in, cut_line, cut_lines, write_bytes, write_checked, write, Written}
use Rattle.meaning.specs.Listing.{object_rows, point_rows, rows_with, shown, print_row, print_rows, model_size, list_with, list}

unfoldable pub compute_read : List ℕ → List ℕ → Rooms → Result
unfolding choose refuse all_of permitted separator digit letter text_byte every same begins ends without_last prefix without_last_if add split_at_lf without_cr physical none put drop_if next unfold_lines unfold_file unfolded_text records_from target_of flag_of component_of components_of dimension_of type_of parameters_size attribute_of attributes_of tables_of topics_of name_of model_of special name_byte is_name is_flag is_bound good_component good_components is_dimension good_type is_type is_among keeps_transfer keeps_topic keeps_table keeps_attribute keeps see follows_transfer follows is_outside judge_attributes judge_references check_records check_model good_names attribute_names table_names good_types good_tables in_topic_order numbers_of check_answer check text_unfolded text_checked unfold_text code_for_c numbers_in goes_on add_to_fields fields_of has_code digits_after is_digits unsigned signed is_number number_digits within number_of is_leap_year days_of_month is_day date_of enumeration_of stretch_of text_of is_identification same_identification reference_of value_of is_undefined is_undefined_twice last_digits shortened digits_of sign_of pointed number_bytes date_bytes component_pairs pairs_of_type pairs_of has_mandatory put_pair put_number undefined_cells undefined_rest said_by is_value may_be_defined may_be_undefined value_of_pair field_cells pair_cells component_values point_cells line_code_of move is_in_arc is_forbidden line_attributes is_complete due_lines nothing_read start_of with_line same_name find_topic find_table mandatory_between object_at objects_of is_used bare named opening_line description_line transfer_line model_line topic_line topic_end table_line store_row object_fields behind_objects object_line store_point attribute_line closing_line line_due step_of run at_end read_lines find_object put_reference resolve_pair resolve_pairs resolve_rows resolve refused_with accepted_with read_resolved read_run read_text read_unfolded read_checked read counts_fit content_of stretch_bytes identification_bytes type_bytes field_bytes pair_fields point_fields point_code point_lines attribute_lines object_lines row_lines rows_of_table rows_behind_table rows_behind_topic table_lines topic_lines field_lines spaced line_bytes lines_bytes lines_of is_within shown_stretch is_text has_start shown_pairs shown_objects same_cells same_shown same_pairs same_objects same_table is_resolved_as is_run_as reads_as is_table goes_whole cut_in cut_line cut_lines write_bytes write_checked write object_rows point_rows rows_with shown print_row print_rows model_size list_with list
compute_read model file rooms = read model file rooms

unfoldable pub compute_unfold : List ℕ → List ℕ → ℕ → TextResult
unfolding choose refuse all_of permitted separator digit letter text_byte every same begins ends without_last prefix without_last_if add split_at_lf without_cr physical none put drop_if next unfold_lines unfold_file unfolded_text records_from target_of flag_of component_of components_of dimension_of type_of parameters_size attribute_of attributes_of tables_of topics_of name_of model_of special name_byte is_name is_flag is_bound good_component good_components is_dimension good_type is_type is_among keeps_transfer keeps_topic keeps_table keeps_attribute keeps see follows_transfer follows is_outside judge_attributes judge_references check_records check_model good_names attribute_names table_names good_types good_tables in_topic_order numbers_of check_answer check text_unfolded text_checked unfold_text code_for_c numbers_in goes_on add_to_fields fields_of has_code digits_after is_digits unsigned signed is_number number_digits within number_of is_leap_year days_of_month is_day date_of enumeration_of stretch_of text_of is_identification same_identification reference_of value_of is_undefined is_undefined_twice last_digits shortened digits_of sign_of pointed number_bytes date_bytes component_pairs pairs_of_type pairs_of has_mandatory put_pair put_number undefined_cells undefined_rest said_by is_value may_be_defined may_be_undefined value_of_pair field_cells pair_cells component_values point_cells line_code_of move is_in_arc is_forbidden line_attributes is_complete due_lines nothing_read start_of with_line same_name find_topic find_table mandatory_between object_at objects_of is_used bare named opening_line description_line transfer_line model_line topic_line topic_end table_line store_row object_fields behind_objects object_line store_point attribute_line closing_line line_due step_of run at_end read_lines find_object put_reference resolve_pair resolve_pairs resolve_rows resolve refused_with accepted_with read_resolved read_run read_text read_unfolded read_checked read counts_fit content_of stretch_bytes identification_bytes type_bytes field_bytes pair_fields point_fields point_code point_lines attribute_lines object_lines row_lines rows_of_table rows_behind_table rows_behind_topic table_lines topic_lines field_lines spaced line_bytes lines_bytes lines_of is_within shown_stretch is_text has_start shown_pairs shown_objects same_cells same_shown same_pairs same_objects same_table is_resolved_as is_run_as reads_as is_table goes_whole cut_in cut_line cut_lines write_bytes write_checked write object_rows point_rows rows_with shown print_row print_rows model_size list_with list
compute_unfold model file room = unfold_text model file room

unfoldable pub compute_check : List ℕ → Answer
unfolding choose refuse all_of permitted separator digit letter text_byte every same begins ends without_last prefix without_last_if add split_at_lf without_cr physical none put drop_if next unfold_lines unfold_file unfolded_text records_from target_of flag_of component_of components_of dimension_of type_of parameters_size attribute_of attributes_of tables_of topics_of name_of model_of special name_byte is_name is_flag is_bound good_component good_components is_dimension good_type is_type is_among keeps_transfer keeps_topic keeps_table keeps_attribute keeps see follows_transfer follows is_outside judge_attributes judge_references check_records check_model good_names attribute_names table_names good_types good_tables in_topic_order numbers_of check_answer check text_unfolded text_checked unfold_text code_for_c numbers_in goes_on add_to_fields fields_of has_code digits_after is_digits unsigned signed is_number number_digits within number_of is_leap_year days_of_month is_day date_of enumeration_of stretch_of text_of is_identification same_identification reference_of value_of is_undefined is_undefined_twice last_digits shortened digits_of sign_of pointed number_bytes date_bytes component_pairs pairs_of_type pairs_of has_mandatory put_pair put_number undefined_cells undefined_rest said_by is_value may_be_defined may_be_undefined value_of_pair field_cells pair_cells component_values point_cells line_code_of move is_in_arc is_forbidden line_attributes is_complete due_lines nothing_read start_of with_line same_name find_topic find_table mandatory_between object_at objects_of is_used bare named opening_line description_line transfer_line model_line topic_line topic_end table_line store_row object_fields behind_objects object_line store_point attribute_line closing_line line_due step_of run at_end read_lines find_object put_reference resolve_pair resolve_pairs resolve_rows resolve refused_with accepted_with read_resolved read_run read_text read_unfolded read_checked read counts_fit content_of stretch_bytes identification_bytes type_bytes field_bytes pair_fields point_fields point_code point_lines attribute_lines object_lines row_lines rows_of_table rows_behind_table rows_behind_topic table_lines topic_lines field_lines spaced line_bytes lines_bytes lines_of is_within shown_stretch is_text has_start shown_pairs shown_objects same_cells same_shown same_pairs same_objects same_table is_resolved_as is_run_as reads_as is_table goes_whole cut_in cut_line cut_lines write_bytes write_checked write object_rows point_rows rows_with shown print_row print_rows model_size list_with list
compute_check model = check model

unfoldable pub compute_write : List ℕ → Lent → ℕ → ℕ → Written
unfolding choose refuse all_of permitted separator digit letter text_byte every same begins ends without_last prefix without_last_if add split_at_lf without_cr physical none put drop_if next unfold_lines unfold_file unfolded_text records_from target_of flag_of component_of components_of dimension_of type_of parameters_size attribute_of attributes_of tables_of topics_of name_of model_of special name_byte is_name is_flag is_bound good_component good_components is_dimension good_type is_type is_among keeps_transfer keeps_topic keeps_table keeps_attribute keeps see follows_transfer follows is_outside judge_attributes judge_references check_records check_model good_names attribute_names table_names good_types good_tables in_topic_order numbers_of check_answer check text_unfolded text_checked unfold_text code_for_c numbers_in goes_on add_to_fields fields_of has_code digits_after is_digits unsigned signed is_number number_digits within number_of is_leap_year days_of_month is_day date_of enumeration_of stretch_of text_of is_identification same_identification reference_of value_of is_undefined is_undefined_twice last_digits shortened digits_of sign_of pointed number_bytes date_bytes component_pairs pairs_of_type pairs_of has_mandatory put_pair put_number undefined_cells undefined_rest said_by is_value may_be_defined may_be_undefined value_of_pair field_cells pair_cells component_values point_cells line_code_of move is_in_arc is_forbidden line_attributes is_complete due_lines nothing_read start_of with_line same_name find_topic find_table mandatory_between object_at objects_of is_used bare named opening_line description_line transfer_line model_line topic_line topic_end table_line store_row object_fields behind_objects object_line store_point attribute_line closing_line line_due step_of run at_end read_lines find_object put_reference resolve_pair resolve_pairs resolve_rows resolve refused_with accepted_with read_resolved read_run read_text read_unfolded read_checked read counts_fit content_of stretch_bytes identification_bytes type_bytes field_bytes pair_fields point_fields point_code point_lines attribute_lines object_lines row_lines rows_of_table rows_behind_table rows_behind_topic table_lines topic_lines field_lines spaced line_bytes lines_bytes lines_of is_within shown_stretch is_text has_start shown_pairs shown_objects same_cells same_shown same_pairs same_objects same_table is_resolved_as is_run_as reads_as is_table goes_whole cut_in cut_line cut_lines write_bytes write_checked write object_rows point_rows rows_with shown print_row print_rows model_size list_with list
compute_write model t width room = write model t width room

unfoldable pub compute_listing : Rooms → List ℕ → List ℕ
unfolding choose refuse all_of permitted separator digit letter text_byte every same begins ends without_last prefix without_last_if add split_at_lf without_cr physical none put drop_if next unfold_lines unfold_file unfolded_text records_from target_of flag_of component_of components_of dimension_of type_of parameters_size attribute_of attributes_of tables_of topics_of name_of model_of special name_byte is_name is_flag is_bound good_component good_components is_dimension good_type is_type is_among keeps_transfer keeps_topic keeps_table keeps_attribute keeps see follows_transfer follows is_outside judge_attributes judge_references check_records check_model good_names attribute_names table_names good_types good_tables in_topic_order numbers_of check_answer check text_unfolded text_checked unfold_text code_for_c numbers_in goes_on add_to_fields fields_of has_code digits_after is_digits unsigned signed is_number number_digits within number_of is_leap_year days_of_month is_day date_of enumeration_of stretch_of text_of is_identification same_identification reference_of value_of is_undefined is_undefined_twice last_digits shortened digits_of sign_of pointed number_bytes date_bytes component_pairs pairs_of_type pairs_of has_mandatory put_pair put_number undefined_cells undefined_rest said_by is_value may_be_defined may_be_undefined value_of_pair field_cells pair_cells component_values point_cells line_code_of move is_in_arc is_forbidden line_attributes is_complete due_lines nothing_read start_of with_line same_name find_topic find_table mandatory_between object_at objects_of is_used bare named opening_line description_line transfer_line model_line topic_line topic_end table_line store_row object_fields behind_objects object_line store_point attribute_line closing_line line_due step_of run at_end read_lines find_object put_reference resolve_pair resolve_pairs resolve_rows resolve refused_with accepted_with read_resolved read_run read_text read_unfolded read_checked read counts_fit content_of stretch_bytes identification_bytes type_bytes field_bytes pair_fields point_fields point_code point_lines attribute_lines object_lines row_lines rows_of_table rows_behind_table rows_behind_topic table_lines topic_lines field_lines spaced line_bytes lines_bytes lines_of is_within shown_stretch is_text has_start shown_pairs shown_objects same_cells same_shown same_pairs same_objects same_table is_resolved_as is_run_as reads_as is_table goes_whole cut_in cut_line cut_lines write_bytes write_checked write object_rows point_rows rows_with shown print_row print_rows model_size list_with list
compute_listing rooms input = list_with rooms input
