-- The setup that a made script begins with is accepted: its bytes are read by the definitions, step by step.
use Rattle.std.proofs.Common.{refl, ◌≡◌, true, is_ok, Result, Ok, Err}
use Rattle.std.specs.Str.{chars, is_utf8}
use Rattle.whistle.specs.declared.sample_setup.TheConstants.{HARBOUR}
use Rattle.wb_model.specs.declared.registry.Lists.{Lists}
use Rattle.wb_setup.specs.declared.setup.SetupFault.{SetupFault}
use Rattle.wb_setup.specs.Setups.{setup as lists_in}
use Rattle.toml.specs.Parse.{after_element, atom, expression, header_key, items, key_equals, line, lines, members, parse_document, skip_bom, val}
use Rattle.toml.specs.Tables.{along_dots, along_header, at_key, define}
use Rattle.toml_parser.specs.Lexical.{skip_from, skip_ws}
use Rattle.toml_parser.specs.Strings.{body, escape, escape_char, hex_escape, key_after, one_line, quoted, simple_key, special}
use Rattle.toml_parser.specs.Numbers.{decimal_number, number, plain_number, prefixed_integer, underscore_fits, unquoted, word_len, word_value}
use Rattle.hex.specs.Hex.{decode_pairs}
use Rattle.json.specs.Json.{value}
use Rattle.json.specs.Lex.{lex, punctuate}
use Rattle.json.specs.Text.{code_unit, content, short_escape}
use Rattle.json.specs.Word.{after_number, word}
use Rattle.json.specs.Print.{escape_byte}
use Rattle.wb_base.specs.FormJson.{form_text}
use Rattle.std.specs.Float.Numeral.{scan_numeral}
use Rattle.std.specs.Fmt.{digits}
use lib.Utf8.{encode}

reads : is_ok (lists_in HARBOUR.now) ≡ true
unfolding scan_numeral digits is_utf8 chars encode parse_document lines skip_from skip_bom line expression key_equals key_after simple_key skip_ws val atom quoted one_line after_element header_key items members along_dots along_header at_key define decimal_number number plain_number prefixed_integer underscore_fits unquoted word_len word_value body escape escape_char hex_escape special decode_pairs value punctuate lex content word code_unit short_escape after_number form_text escape_byte
reads = refl

by_case : (r : Result Lists SetupFault) → is_ok r ≡ true → (lists : Lists) × (r ≡ Ok lists)
by_case (Ok lists) is = (lists, refl)
by_case (Err fault) is = absurd (cc is)

pub sample_setup_reads : (lists : Lists) × (lists_in HARBOUR.now ≡ Ok lists)
sample_setup_reads = by_case (lists_in HARBOUR.now) reads
