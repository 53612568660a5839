-- 01's printed case: its bytes in, its thirteen lines out, by the definition alone.
use mathlib.Core.Path.{◌≡◌, refl}
use mathlib.Core.List.{[], ◌∷◌}
use Rattle.algebra.specs.Order.{pick, best_of}
use Rattle.algebra.specs.Step.{routed}
use Rattle.algebra.specs.Modes.{forwarded}
use Rattle.weights.specs.Words.{words}
use Rattle.matrices.specs.Buffers.{blocks, cell, first_malformed}
use Rattle.matrices.specs.Steps.{every}
use Rattle.tables.specs.Tables.{words_of, table_in}
use Rattle.routes.specs.Calls.{run_of, done_of}
use Rattle.file_bytes.specs.Bytes.{two_at}
use Rattle.fields.specs.Nested.{added, component_read, language_from}
use Rattle.fields.specs.Header.{field_check, fields_check, head_read}
use Rattle.records.specs.Records.{record_length, ends_check, values_check, record_check, records_check, record_list_check, list_end, body_check}
use Rattle.files.specs.File.{file_read}
use Rattle.contents.specs.Contents.{outside_at, listed_words, listed_table}
use Rattle.files.specs.PrintedFile.{printed_file}
use Rattle.decimals.specs.Digits.{digits_within, decimal}
use Rattle.texts.specs.Lines.{laws_line, route_line, entry_line}
use Rattle.printing.specs.Work.{routes_told, routes_left, table_told, table_left}
use Rattle.printing.specs.Printed.{text_of, printed}

pub printed_file_lem : printed (printed_file 3)
    ≡ 76 ∷ 65 ∷ 87 ∷ 83 ∷ 32 ∷ 49 ∷ 32 ∷ 49 ∷ 32 ∷ 49 ∷ 10
    ∷ 82 ∷ 32 ∷ 48 ∷ 32 ∷ 48 ∷ 32 ∷ 48 ∷ 10
    ∷ 82 ∷ 32 ∷ 48 ∷ 32 ∷ 49 ∷ 32 ∷ 50 ∷ 10
    ∷ 82 ∷ 32 ∷ 48 ∷ 32 ∷ 50 ∷ 32 ∷ 53 ∷ 10
    ∷ 82 ∷ 32 ∷ 49 ∷ 32 ∷ 48 ∷ 32 ∷ 45 ∷ 10
    ∷ 82 ∷ 32 ∷ 49 ∷ 32 ∷ 49 ∷ 32 ∷ 48 ∷ 10
    ∷ 82 ∷ 32 ∷ 49 ∷ 32 ∷ 50 ∷ 32 ∷ 51 ∷ 10
    ∷ 82 ∷ 32 ∷ 50 ∷ 32 ∷ 48 ∷ 32 ∷ 45 ∷ 10
    ∷ 82 ∷ 32 ∷ 50 ∷ 32 ∷ 49 ∷ 32 ∷ 45 ∷ 10
    ∷ 82 ∷ 32 ∷ 50 ∷ 32 ∷ 50 ∷ 32 ∷ 48 ∷ 10
    ∷ 70 ∷ 32 ∷ 48 ∷ 32 ∷ 48 ∷ 32 ∷ 53 ∷ 32 ∷ 52 ∷ 10
    ∷ 70 ∷ 32 ∷ 49 ∷ 32 ∷ 48 ∷ 32 ∷ 51 ∷ 32 ∷ 52 ∷ 10
    ∷ 70 ∷ 32 ∷ 50 ∷ 32 ∷ 48 ∷ 32 ∷ 48 ∷ 32 ∷ 52 ∷ 10 ∷ []
unfolding printed text_of routes_told routes_left table_told table_left file_read head_read fields_check field_check language_from component_read added two_at body_check record_list_check list_end records_check record_check record_length ends_check values_check listed_table blocks listed_words outside_at words run_of done_of words_of first_malformed cell table_in every routed forwarded best_of pick laws_line route_line entry_line decimal digits_within
printed_file_lem = refl
