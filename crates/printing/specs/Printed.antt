-- The printed text (01, "The printed case"), part after part.
-- To be believed: all of it.
use Rattle.std.specs.Prelude.{ℕ, ◌+◌, Bool, true, false, cond, List, [], ◌++◌, eqb, length, Result, Ok, Err}
use Rattle.refusals.specs.declared.Refusal.{Refusal}
use Rattle.refusals.specs.declared.Refusal.TheVariants.{Bytes}
use Rattle.refusals.specs.declared.Told.{Told}
use Rattle.refusals.specs.Told.{told}
use Rattle.weights.specs.declared.Language.{Language}
use Rattle.weights.specs.Languages.{components_of}
use Rattle.laws.specs.Report.{report}
use Rattle.tables.specs.Tables.{table_in}
use Rattle.fields.specs.declared.SoundHead.{SoundHead}
use Rattle.records.specs.declared.Listing.TheVariants.{Arcs, Attachments}
use Rattle.records.specs.Records.{list_end}
use Rattle.file_bytes.specs.Bytes.{two_at}
use Rattle.files.specs.File.{file_read}
use Rattle.contents.specs.Contents.{listed_table}
use Rattle.texts.specs.Lines.{laws_line, route_lines, entry_lines, refused_line}
use Rattle.printing.specs.Work.{routes_told, routes_left, blank, table_told, table_left, blank_table}
use Rattle.matrices.specs.Buffers.{matrix_in}
use Rattle.forwarding.specs.Calls.{OnTables, on_tables}
use Rattle.guards.specs.OnNetwork.{OnNetwork, on_network}

-- ---- the parts

-- D U C, as the law report has them
abbrev pub laws_part : Language → List ℕ
laws_part l = laws_line (report l).law_d.held (report l).law_u.held (report l).law_c.held

-- a refusal takes the place of a text, and nothing follows it; number 0 is done
abbrev pub unless_refused : Told → List ℕ → List ℕ
unless_refused t text = cond (eqb t.number 0) text (refused_line t)

-- the R lines of the matrix that r holds, with what follows them
abbrev pub routes_part : Language → ℕ → Told → List ℕ → List ℕ → List ℕ
routes_part l n t r rest = unless_refused t (route_lines n (matrix_in (length (components_of l)) n r) ++ rest)

-- the F lines of the table that f holds; with m 0 there are none
abbrev pub forward_part : Language → ℕ → ℕ → ℕ → Told → List ℕ → List ℕ
forward_part l n m mode t f = cond (eqb m 0) [] (unless_refused t (entry_lines mode n m (table_in (length (components_of l)) m f)))

-- ---- the whole

-- LAWS, then the R lines, then the F lines, of the routes that the sweeps have left
abbrev pub text_with : OnTables → List ℕ
text_with T =
    laws_part T.network.language
    ++ routes_part T.network.language T.network.n (routes_told T.network (blank T.network.n)) T.routes
    (forward_part T.network.language T.network.n T.m T.mode (table_told T (blank_table T.network.n T.m)) (table_left T (blank_table T.network.n T.m)))

-- of a network with m destinations, a mode and a mapping
unfoldable pub text_of : OnNetwork → ℕ → ℕ → List ℕ → List ℕ
text_of N m mode mapping = text_with (on_tables N m mode (routes_left N (blank N.n)) mapping)

-- a bad file's refusal in place of everything
abbrev pub text_read : List ℕ → Result SoundHead Refusal → List ℕ
text_read s (Err r) = refused_line (told r)
text_read s (Ok t) =
    text_of (on_network t.head.language t.head.n (listed_table s t.head Arcs (t.next + 2) (two_at s t.next))) t.head.m t.head.mode
    (listed_table s t.head Attachments (list_end s t.head Arcs t.next + 2) (two_at s (list_end s t.head Arcs t.next)))

-- The text printed of a file of at most 65,536 bytes.
unfoldable pub printed : List ℕ → List ℕ
printed s = text_read s (file_read s)

-- what is printed of an input: of its first 65,536 bytes, or 1 0 0 where there are more
abbrev pub printed_input : Bool → List ℕ → List ℕ
printed_input true s = refused_line (told (Bytes 0 0))
printed_input false s = printed s
