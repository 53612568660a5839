-- What is written is what was put, and the two reads tell whether that is the text of the whole input.
use Rattle.std.proofs.Common.{arith, nat_lt, length, take, ◌∙◌, sym}
use Rattle.printing.specs.Printed.{printed_input}
use Rattle.decimals.proofs.Putting.{put_front}
use Rattle.printer.proofs.Reading.{told_of, written}
use Rattle.printer.proofs.print_from.Goals as goal

pub returns : goal.returns
returns g c =
    written _ _ _ _ _ (λ file. printed_input (nat_lt 65536 (length file)) file) c.write_all.ensures.bytes
    (λ file known.
    put_front c.print_input-end.ensures (omega arith)
    ∙ told_of 65536 c.in_ok-size.size c.in_ok-more.field-0 _ (take c.in_ok-more.field-0 c.read_full-2.new.buffer) file _ _ _ known
    c.in_ok-size.ensures.bytes (sym c.in_ok-size.ensures.bound.1) (omega (arith, c.in_ok-size.ensures.bound.0))
    (λ short. c.in_ok-size.ensures.end (omega arith))
    c.in_ok-more.ensures.bytes (sym c.in_ok-more.ensures.bound.1) (λ none. c.in_ok-more.ensures.end (omega arith)))
