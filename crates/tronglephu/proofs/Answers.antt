-- From a call's own answer to the four numbers, way by way; and a next hop is below 16, so 255 is no node; the number of the buffer that
-- lends names the row that is lent.
use Prim.Native.Nat.{ℕ, ◌≤◌, ◌<◌}
use mathlib.Core.Path.{◌≡◌, refl, sym, ap, ◌∙◌}
use mathlib.Core.Bool.{Bool, true, false, cond}
use mathlib.Core.List.{List, [], ◌∷◌, ◌++◌}
use native.Mathlib.Omega.{arith}
use borrow.Author.Tests.{le-leb, lt-leb, leb-true}
use lib.ListN.{length, drop}
use Rattle.std.specs.Prelude.{Ok, Err, Some}
use Rattle.refusals.specs.declared.Refusal.{Refusal}
use Rattle.refusals.specs.declared.Refusal.TheVariants.{Length}
use Rattle.refusals.specs.Told.{told, done}
use Rattle.refusals.specs.Checks.{if_passed, answer_told, Check}
use Rattle.std.specs.Result.{result_and}
use Rattle.refusals.proofs.OneToOne.{told_one, told_not_done}
use Rattle.refusals.proofs.First.{first_passes, unless_passes, stops, goes_on}
use Rattle.refusals.proofs.Cases.{check_append}
use Rattle.numbers.specs.declared.Node.{Node}
use Rattle.weights.specs.declared.Component.{Component}
use Rattle.weights.specs.declared.Language.{Language}
use Rattle.weights.specs.Languages.{components_of, language_cases, language_check}
use Rattle.laws.specs.declared.LawReport.{LawReport}
use Rattle.laws.specs.Report.{Report, report_of, report, law_of, answer_row}
use Rattle.guards.proofs.Singles.{nodes_passed}
use Rattle.hops.specs.Calls.{HopRow, hop_row, hop_said, hop_cases}
use Rattle.hops.proofs.Exact.{hop_given}
use Rattle.handover.specs.Calls.{handover_check, is_best, row_part, lent_row}
use Rattle.files.specs.Answers.{problem_read, Row, file_row, arcs_after, mapping_after, ReadSays}
use Rattle.door.specs.declared.Reply.{Reply}
use Rattle.door.specs.Replies.{reply_of}
use Rattle.door.specs.Reports.{report_words, laws_words, held_laws}
use Rattle.door.specs.Problems.{problem_words, problem_of}
use Rattle.door.proofs.Back.{refusal_not_done}
use Rattle.tronglephu.specs.Calls.{room_cases, room_check, read_reply, arcs_left, mapping_left, problem_after, problem_left, report_check, laws_reply, report_left, hop_reply_of, handover_reply, row_lent_by}
use Rattle.refusals.specs.Cases.{checks_of}
use Rattle.handover.proofs.Answers.{lender_row_by}
use Rattle.guards.specs.OnNetwork.{OnNetwork}
use Rattle.files.specs.Cases.{short_case}

-- ---- any call

-- the reply made for the answer b, where the call has given b and says w
pub said : {A W : Type 0} (reply : W → Reply) (says : A → W) {a b : A} {w : W} {x : Reply} → x ≡ reply (says b) → a ≡ b → says a ≡ w → x ≡ reply w
said reply says p e q = p ∙ ap (λ z. reply (says z)) (sym e) ∙ ap reply q

-- ---- room

pub no_room : (which words : ℕ) (s : List ℕ) → length s < words → (short_case which words s).check ≡ Err (Length which 0)
no_room which words s h = rw (lt-leb words (length s) h)

pub room : (which words : ℕ) (s : List ℕ) → words ≤ length s → (short_case which words s).check ≡ Ok tt
room which words s h = rw (le-leb words (length s) h)

room_passed : (which words : ℕ) (s : List ℕ) → (short_case which words s).check ≡ Ok tt → words ≤ length s
room_passed which words s e = leb-true words (length s) (unless_passes _ _ e)

-- ---- read

module _ (file arcs mapping problem : List ℕ) where
  pub problem_room : room_check arcs mapping problem ≡ Ok tt → problem_words ≤ length problem
  problem_room e = room_passed 6 problem_words problem (first_passes (checks_of (room_cases arcs mapping problem)) e).1.1.0

  -- the four promises of `tronglephu_read`
  abbrev pub Reads : Reply → List ℕ → List ℕ → List ℕ → Type 0
  Reads x arcs' mapping' problem' =
      (x ≡ read_reply file arcs mapping problem)
      × (arcs' ≡ arcs_left file arcs mapping problem)
      × (mapping' ≡ mapping_left file arcs mapping problem)
      × (problem' ≡ problem_left file arcs mapping problem)

  pub read_short : (x : Refusal) → room_check arcs mapping problem ≡ Err x → Reads (reply_of (told x) 0) arcs mapping problem
  read_short x e = (
    ap (λ (c : Check). reply_of (if_passed c (file_row file arcs mapping).told (answer_told c)) 0) (sym e),
    ap (λ (c : Check). if_passed c (arcs_after file arcs mapping) arcs) (sym e),
    ap (λ (c : Check). if_passed c (mapping_after file arcs mapping) mapping) (sym e),
    ap (λ (c : Check). if_passed c (problem_after (file_row file arcs mapping) problem) problem) (sym e),
  )

  module _ (e : room_check arcs mapping problem ≡ Ok tt) (arcs' mapping' : List ℕ) where
    -- once there is room, the answer is the file's
    by_row : (w : Row) (problem' : List ℕ) → w ≡ file_row file arcs mapping → arcs' ≡ arcs_after file arcs mapping → mapping' ≡ mapping_after file arcs mapping
        → problem' ≡ problem_after w problem → Reads (reply_of w.told 0) arcs' mapping' problem'
    by_row w problem' f a m p = (
      ap (λ (w : Row). reply_of w.told 0) f ∙ ap (λ (c : Check). reply_of (if_passed c (file_row file arcs mapping).told (answer_told c)) 0) (sym e),
      a ∙ ap (λ (c : Check). if_passed c (arcs_after file arcs mapping) arcs) (sym e),
      m ∙ ap (λ (c : Check). if_passed c (mapping_after file arcs mapping) mapping) (sym e),
      p ∙ ap (λ (w : Row). problem_after w problem) f ∙ ap (λ (c : Check). if_passed c (problem_after (file_row file arcs mapping) problem) problem) (sym e),
    )

    pub read_refused : (r : Refusal) → ReadSays file arcs mapping arcs' mapping' (Err r) → Reads (reply_of (told r) 0) arcs' mapping' problem
    read_refused r s = by_row _ problem s.answer s.arcs_hold s.mapping_holds (rw (refusal_not_done r))

    pub read_done : (n m mode : ℕ) (l : Language) (problem' : List ℕ) → ReadSays file arcs mapping arcs' mapping' (problem_read n m mode l)
        → problem' ≡ problem_of n m mode l ++ drop problem_words problem → Reads (reply_of done 0) arcs' mapping' problem'
    read_done n m mode l problem' s p = by_row _ problem' s.answer s.arcs_hold s.mapping_holds p

-- ---- laws

module _ (l : Language) (s : List ℕ) where
  -- the reply and the report, by what the checks and the law report give
  abbrev reply_by : Check → Report → Reply
  reply_by c w = reply_of (answer_told c) (if_passed c (held_laws w.law_d w.law_u w.law_c) 0)

  abbrev left_by : Check → Report → List ℕ
  left_by c w = if_passed c (laws_words w.law_d w.law_u w.law_c ++ drop report_words s) s

  laws_order : report_check l s ≡ result_and (language_check l) (result_and (short_case 6 report_words s).check (Ok tt))
  laws_order = check_append (language_cases l) (short_case 6 report_words s ∷ [])

  -- the two promises of `tronglephu_laws`
  abbrev pub Reports : Reply → List ℕ → Type 0
  Reports x s' = (x ≡ laws_reply l s) × (s' ≡ report_left l s)

  by_check : (r : Refusal) → report_check l s ≡ Err r → Reports (reply_of (told r) 0) s
  by_check r e = (ap (λ (c : Check). reply_by c (report l)) (sym e), ap (λ (c : Check). left_by c (report l)) (sym e))

  pub laws_refused : (r : Refusal) → answer_row (Err r) ≡ report l → Reports (reply_of (told r) 0) s
  laws_refused r e = by_check r (laws_order ∙ stops (result_and (short_case 6 report_words s).check (Ok tt)) (go (language_check l) (components_of l) e))
    where
      go : (c : Check) (cs : List Component) → answer_row (Err r) ≡ report_of c cs → c ≡ Err r
      go (Ok _) cs e = absurd (told_not_done r (ap (λ (w : Report). w.told) e))
      go (Err x) cs e = ap Err (sym (told_one r x (ap (λ (w : Report). w.told) e)))

  module _ (laws : LawReport) (e : answer_row (Ok laws) ≡ report l) where
    passes : language_check l ≡ Ok tt
    passes = go (language_check l) (components_of l) e
      where
        go : (k : Check) (cs : List Component) → answer_row (Ok laws) ≡ report_of k cs → k ≡ Ok tt
        go (Ok _) cs e = refl
        go (Err x) cs e = absurd (told_not_done x (sym (ap (λ (w : Report). w.told) e)))

    pub report_short : length s < report_words → Reports (reply_of (told (Length 6 0)) 0) s
    report_short h = by_check (Length 6 0) (laws_order ∙ goes_on passes (stops (Ok tt) (no_room 6 report_words s h)))

    pub report_written : (s' : List ℕ) → report_words ≤ length s → s' ≡ laws_words (law_of laws.d) (law_of laws.u) (law_of laws.c) ++ drop report_words s
        → Reports (reply_of done (held_laws (law_of laws.d) (law_of laws.u) (law_of laws.c))) s'
    report_written s' h f =
        let k : report_check l s ≡ Ok tt = laws_order ∙ goes_on passes (goes_on (room 6 report_words s h) refl) in (
          ap (reply_by (Ok tt)) e ∙ ap (λ (c : Check). reply_by c (report l)) (sym k),
          f ∙ ap (left_by (Ok tt)) e ∙ ap (λ (c : Check). left_by c (report l)) (sym k),
        )

-- ---- next hop

pub hop_refused : (r : Refusal) → reply_of (told r) 0 ≡ hop_reply_of (hop_said (Err r))
hop_refused r = rw (refusal_not_done r)

-- a next hop is a node, below 16
pub hop_small : (N : OnNetwork) (r : List ℕ) (i j : ℕ) (k : Node) → hop_said (Ok (Some k)) ≡ hop_row N r i j → k.0 < 16
hop_small N r i j k e =
    let h = (hop_given N r i j k.0).0 (sym (ap (λ (w : HopRow). w.node) e)) in
    let few = nodes_passed N.n (first_passes (checks_of (hop_cases N r i j)) h.0).0 in
    let below = h.1.hop.below in
    omega arith

-- ---- handover

-- the row of the buffer that the reply numbers is the row that is lent
pub row_lent : (N : OnNetwork) (standing newer : List ℕ) (i : ℕ) → lent_row N standing newer i ≡ row_lent_by (handover_reply N standing newer i).value N.n i standing newer
row_lent N standing newer i = go (handover_check N standing newer i) (is_best N newer)
  where
    go : (c : Check) (b : Bool) → if_passed c (cond b (row_part N.n i newer) (row_part N.n i standing)) [] ≡ row_lent_by (lender_row_by c b).buffer N.n i standing newer
    go (Ok _) true = refl
    go (Ok _) false = refl
    go (Err x) b = refl
