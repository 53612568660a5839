-- 01's printed case, read by the definition: the head, the arcs and the mapping.
use mathlib.Core.Path.{◌≡◌, refl}
use mathlib.Core.List.{[], ◌∷◌, ◌++◌}
use lib.ListN.{replicate}
use Rattle.weights.specs.Sizes.{weight_words, entry_words, ones}
use Rattle.weights.specs.Words.{words}
use Rattle.records.specs.declared.Listing.TheVariants.{Arcs, Attachments}
use Rattle.file_bytes.specs.Bytes.{two_at}
use Rattle.fields.specs.Nested.{added, component_read, language_from}
use Rattle.fields.specs.Header.{field_check, fields_check, head_read, sound_head}
use Rattle.records.specs.Records.{record_length, ends_check, values_check, record_check, records_check, record_list_check, list_end, body_check}
use Rattle.files.specs.File.{file_read}
use Rattle.matrices.specs.Buffers.{blocks}
use Rattle.contents.specs.Contents.{outside_at, listed_words, listed_table}
use Rattle.files.specs.PrintedFile.{printed_file, printed_head}

pub printed_read : file_read (printed_file 3) ≡ sound_head 9 (printed_head 3)
unfolding file_read head_read fields_check field_check language_from component_read added two_at body_check record_list_check list_end records_check record_check record_length ends_check values_check
printed_read = refl

pub printed_mapping_lem : listed_table (printed_file 3) (printed_head 3) Attachments 25 2 ≡ replicate entry_words ones ++ (0 ∷ 0 ∷ 0 ∷ 0 ∷ 7 ∷ 0 ∷ 0 ∷ 0 ∷ 0 ∷ 4 ∷ [])
unfolding listed_table blocks listed_words outside_at words two_at record_length
printed_mapping_lem = refl

pub printed_arcs_lem : listed_table (printed_file 3) (printed_head 3) Arcs 11 3
    ≡ replicate weight_words ones ++ (2 ∷ 0 ∷ 0 ∷ 0 ∷ 9 ∷ 0 ∷ 0 ∷ 0 ∷ []) ++ replicate 8 ones ++ (3 ∷ 0 ∷ 0 ∷ 0 ∷ []) ++ replicate 12 ones
unfolding listed_table blocks listed_words outside_at words two_at record_length
printed_arcs_lem = refl
