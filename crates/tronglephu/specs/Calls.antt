-- What each exported function answers and leaves: the row of its call's own definition, in four numbers. The buffers that fresh,
-- steps and forward leave are those calls' own.
-- To be believed: all of it.
use Rattle.std.specs.Prelude.{ℕ, cond, List, [], ◌∷◌, ◌++◌, eqb, drop, Option, Some, None}
use Rattle.refusals.specs.Checks.{answer_told, if_passed, Check}
use Rattle.refusals.specs.declared.Told.{Told}
use Rattle.refusals.specs.Cases.{Case, check_of}
use Rattle.weights.specs.declared.Language.{Language}
use Rattle.weights.specs.Languages.{language_cases}
use Rattle.laws.specs.Report.{report}
use Rattle.routes.specs.Calls.{fresh_check, StepsRow, steps_row, EquationRow, equation_row}
use Rattle.forwarding.specs.Calls.{OnTables, forward_check}
use Rattle.hops.specs.Calls.{HopRow, hop_row}
use Rattle.handover.specs.Calls.{LenderRow, lender_row, row_part}
use Rattle.files.specs.Answers.{Row, file_row, arcs_after, mapping_after}
use Rattle.door.specs.declared.Reply.{Reply}
use Rattle.door.specs.Replies.{reply_of, is_done}
use Rattle.door.specs.Reports.{report_words, laws_words, held_laws}
use Rattle.door.specs.Problems.{problem_words, problem_of}
use Rattle.guards.specs.OnNetwork.{OnNetwork}
use Rattle.files.specs.Cases.{short_case, file_cases}

-- ---- read

-- 9 on arcs (1), mapping (3), problem (6), before the file is looked at
abbrev pub room_cases : List ℕ → List ℕ → List ℕ → List Case
room_cases arcs mapping problem = short_case 1 1024 arcs ∷ short_case 3 2560 mapping ∷ short_case 6 problem_words problem ∷ []

-- the first refusal of these
abbrev pub room_check : List ℕ → List ℕ → List ℕ → Check
room_check arcs mapping problem = check_of (room_cases arcs mapping problem)

-- .. and then the file: all that `tronglephu_read` may refuse
abbrev pub read_reply_cases : List ℕ → List ℕ → List ℕ → List ℕ → List Case
read_reply_cases file arcs mapping problem = room_cases arcs mapping problem ++ file_cases file

-- a buffer that is too short, else what the reader tells
abbrev pub read_told : List ℕ → List ℕ → List ℕ → List ℕ → Told
read_told file arcs mapping problem = if_passed (room_check arcs mapping problem) (file_row file arcs mapping).told (answer_told (room_check arcs mapping problem))

-- the answer of `tronglephu_read`
abbrev pub read_reply : List ℕ → List ℕ → List ℕ → List ℕ → Reply
read_reply file arcs mapping problem = reply_of (read_told file arcs mapping problem) 0

-- what the arcs hold after it
abbrev pub arcs_left : List ℕ → List ℕ → List ℕ → List ℕ → List ℕ
arcs_left file arcs mapping problem = if_passed (room_check arcs mapping problem) (arcs_after file arcs mapping) arcs

-- what the mapping holds after it
abbrev pub mapping_left : List ℕ → List ℕ → List ℕ → List ℕ → List ℕ
mapping_left file arcs mapping problem = if_passed (room_check arcs mapping problem) (mapping_after file arcs mapping) mapping

-- the twelve words of a problem that is read, and what the buffer held after them
abbrev pub problem_after : Row → List ℕ → List ℕ
problem_after w problem = cond (is_done w.told) (problem_of w.n w.m w.mode w.language ++ drop problem_words problem) problem

-- what the problem holds after it
abbrev pub problem_left : List ℕ → List ℕ → List ℕ → List ℕ → List ℕ
problem_left file arcs mapping problem = if_passed (room_check arcs mapping problem) (problem_after (file_row file arcs mapping) problem) problem

-- ---- laws

-- 5, 4, then 9 on the report (6)
abbrev pub report_cases : Language → List ℕ → List Case
report_cases l s = language_cases l ++ short_case 6 report_words s ∷ []

-- the first refusal of these
abbrev pub report_check : Language → List ℕ → Check
report_check l s = check_of (report_cases l s)

-- the answer of `tronglephu_laws`: a refusal, else which laws are held
abbrev pub laws_reply : Language → List ℕ → Reply
laws_reply l s = reply_of (answer_told (report_check l s)) (if_passed (report_check l s) (held_laws (report l).law_d (report l).law_u (report l).law_c) 0)

-- what the report holds after it: the words of the three laws, and what the buffer held after them
abbrev pub report_left : Language → List ℕ → List ℕ
report_left l s = if_passed (report_check l s) (laws_words (report l).law_d (report l).law_u (report l).law_c ++ drop report_words s) s

-- ---- fresh, steps, equation

-- the answer of `tronglephu_fresh`
abbrev pub fresh_reply : Language → ℕ → List ℕ → Reply
fresh_reply l n r = reply_of (answer_told (fresh_check l n r)) 0

-- the steps done, on 11 too
abbrev pub steps_reply_of : StepsRow → Reply
steps_reply_of w = reply_of w.told w.done

-- the answer of `tronglephu_steps`
abbrev pub steps_reply : OnNetwork → List ℕ → List ℕ → Reply
steps_reply N r list = steps_reply_of (steps_row N r list)

-- 1 yes, 0 no
abbrev pub equation_reply_of : EquationRow → Reply
equation_reply_of w = reply_of w.told (cond w.yes 1 0)

-- the answer of `tronglephu_equation`
abbrev pub equation_reply : OnNetwork → List ℕ → Reply
equation_reply N r = equation_reply_of (equation_row N r)

-- ---- forward, next hop, handover

-- the answer of `tronglephu_forward`
abbrev pub forward_reply : OnTables → List ℕ → Reply
forward_reply T f = reply_of (answer_told (forward_check T f)) 0

-- the node, or 255 for none
abbrev pub node_or_none : Option ℕ → ℕ
node_or_none (Some node) = node
node_or_none None = 255

-- 0 on a refusal
abbrev pub hop_reply_of : HopRow → Reply
hop_reply_of w = reply_of w.told (cond (is_done w.told) (node_or_none w.node) 0)

-- the answer of `tronglephu_next_hop`
abbrev pub hop_reply : OnNetwork → List ℕ → ℕ → ℕ → Reply
hop_reply N r i j = hop_reply_of (hop_row N r i j)

-- the number of the buffer that lends
abbrev pub handover_reply_of : LenderRow → Reply
handover_reply_of w = reply_of w.told w.buffer

-- the answer of `tronglephu_handover`
abbrev pub handover_reply : OnNetwork → List ℕ → List ℕ → ℕ → Reply
handover_reply N standing newer i = handover_reply_of (lender_row N standing newer i)

-- the row that the forwarder gets, by the number of the buffer that lends: none where the call refuses
abbrev pub row_lent_by : ℕ → ℕ → ℕ → List ℕ → List ℕ → List ℕ
row_lent_by buffer n i standing newer = cond (eqb buffer 2) (row_part n i newer) (cond (eqb buffer 5) (row_part n i standing) [])
