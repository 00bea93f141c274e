-- Cases by computing: what a theorem names in place of every definition that a layout unfolds.
use Rattle.numbers.specs.Ints.{fit64}
use Rattle.numbers.specs.Literals.{char_lit_of, is_string, unquoted, string_of}
use Rattle.numbers.specs.Numbers.{all_digits, value_from, digits_from, digits_of, signed_digits, prefixed, outer_signed, number_of, literal_of}
use Rattle.numbers.specs.Numbers.{imm64_of, imm_of}
use Rattle.numbers.specs.Strings.{octal_of, escape_of, char_of, decoded_from, to_quote, nothing_beside, quoted_of, string_bytes}
use Rattle.numbers.specs.Operands.{comma_parts, operands, non_empty, item_operands}
use Rattle.numbers.specs.Registers.{abi_names, number_in, x_number, bare_register, register_of}
use Rattle.numbers.specs.Text.{trim_start, trim_end, trimmed, index_of, before, uncommented, starts_with, same, one_spaced, leading}
use Rattle.layout.specs.Bytes.{little_endian, together, count_before, less_bytes}
use Rattle.layout.specs.Pieces.{lines, line_pieces}
use Rattle.layout.specs.Directives.{directives, row_in, aligned, all_label_bytes}
use Rattle.layout.specs.Statements.{section_named, section_of, section_line, symbol_after, equate_of, equ_of, assignment_of}
use Rattle.layout.specs.Statements.{unlabelled_of, labelled, parsed}
use Rattle.layout.specs.Pseudos.{spellings, item_in}
use Rattle.layout.specs.Stage.{is_label, recorded, add_label, label_step, add_equate, add_item, text_line, grow_data, add_label_word}
use Rattle.layout.specs.Stage.{data_write, data_line, grow_bss, bss_line, own_line, statement_step, step_parsed, line_stage}
use Rattle.layout.specs.Addresses.{address_in, insert, ordered, fill}
use Rattle.layout.specs.Expressions.{scan, tokens_in, any_unreadable, sum_from, evaluate}
use Rattle.layout.specs.Rounds.{constant, turn, pass, pending_count, first_pending, rounds}
use Rattle.layout.specs.Expansions.{expansion}
use Rattle.layout.specs.Records.{field_bytes}
use Rattle.layout.specs.Layouts.{emit, found_equates, check_bytes, after_lines, layout_of}
use Rattle.encoder.specs.Encoding.{encoded}

unfoldable pub computing : Unit {0}
unfolding
    fit64 char_lit_of is_string unquoted string_of all_digits value_from digits_from digits_of signed_digits prefixed outer_signed number_of literal_of
    imm64_of imm_of octal_of escape_of char_of decoded_from to_quote nothing_beside quoted_of string_bytes comma_parts operands non_empty item_operands abi_names number_in x_number bare_register register_of trim_start trim_end trimmed
    index_of before uncommented starts_with same one_spaced leading little_endian together count_before less_bytes lines line_pieces directives row_in
    aligned all_label_bytes section_named section_of section_line symbol_after equate_of equ_of assignment_of unlabelled_of labelled parsed spellings
    item_in is_label recorded add_label label_step add_equate add_item text_line grow_data add_label_word data_write data_line grow_bss bss_line own_line
    statement_step step_parsed line_stage address_in insert ordered fill scan tokens_in any_unreadable sum_from evaluate constant turn pass pending_count
    first_pending rounds expansion field_bytes encoded emit found_equates check_bytes after_lines layout_of
computing = tt
