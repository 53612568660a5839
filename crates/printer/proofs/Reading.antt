-- What a full buffer, and one byte more, tell of an input.
use Rattle.std.proofs.Common.{inl, inr, suc, zero, ◌≡◌, ℕ, ◌+◌, ◌<◌, ◌≤◌, nat_lt, true, false, Result, Ok, Err, OnOk, IfSome, List, [], ◌∷◌, ◌++◌, None, Some, arith, length, refl, sym, ap, ◌∙◌, subst, append-nil}
use Rattle.std.proofs.lemmas.Bool.{le-ltb, lt-ltb, cases_lt}
use Rattle.std.specs.declared.option.Option.{Option}
use Rattle.std.specs.Io.KnownBytes.{Appends, Consumes, IsAtEnd}
use lib.ListN.{length-append}
use Rattle.printing.specs.Printed.{printed_input}

-- the length of an input that was read in two parts
parts : (front mid next rest file : List ℕ) → file ≡ front ++ mid → mid ≡ next ++ rest
    → (length file ≡ length front + length mid) × (length mid ≡ length next + length rest)
parts front mid next rest file a b = (ap length a ∙ length-append front mid, ap length b ∙ length-append next rest)

-- no byte
none_left : (xs : List ℕ) → length xs ≡ 0 → xs ≡ []
none_left [] h = refl
none_left (x ∷ xs) h = absurd (omega (arith, h))

-- more was read, so the buffer had no room left
full_buffer : (room size : ℕ) (ys : List ℕ) → (size < room → ys ≡ []) → 0 < length ys → room ≤ size
full_buffer room size ys end some =
    elim (cases_lt size room) [ inl short ↦ absurd (omega (arith, some, ap length (end short))) | inr full ↦ full ]

-- whether a byte more was read says whether the input is longer than the buffer
told : (room size got : ℕ) (front next file : List ℕ) (mid new : Option (List ℕ))
    → Consumes (Some file) mid front → length front ≡ size → size ≤ room → (size < room → IsAtEnd mid)
    → Consumes mid new next → length next ≡ got → (got < 1 → IsAtEnd new)
    → printed_input (nat_lt 0 got) front ≡ printed_input (nat_lt room (length file)) file
told room size got front next file None new a la within ea b lb eb = absurd a
told room size got front next file (Some ys) None a la within ea b lb eb = absurd b
told room size zero front next file (Some ys) (Some zs) a la within ea b lb eb =
    let end : zs ≡ [] = eb (omega arith) in
    let rest : length zs ≡ 0 = ap length end in
    let lengths = parts front ys next zs file a b in
    let whole : ys ≡ [] = none_left ys (omega (arith, lengths)) in
    let same : file ≡ front = a ∙ ap (λ l. front ++ l) whole ∙ append-nil front in
    let short : nat_lt room (length file) ≡ false = le-ltb room (length file) (omega (arith, lengths, ap length whole)) in
    ap (printed_input false) (sym same) ∙ ap (λ t. printed_input t file) (sym short)
told room size (suc got) front next file (Some ys) (Some zs) a la within ea b lb eb =
    let lengths = parts front ys next zs file a b in
    let full : room ≤ size = full_buffer room size ys ea (omega (arith, lengths, lb)) in
    let long : nat_lt room (length file) ≡ true = lt-ltb room (length file) (omega (arith, lengths, lb, la)) in
    let some : nat_lt 0 (suc got) ≡ true = lt-ltb 0 (suc got) (omega arith) in
    ap (λ t. printed_input t front) some ∙ ap (λ t. printed_input t file) (sym long)

-- the same of a reader whose bytes are known
pub told_of : (room size got : ℕ) (front next file : List ℕ) (all mid new : Option (List ℕ)) → all ≡ Some file
    → Consumes all mid front → length front ≡ size → size ≤ room → (size < room → IsAtEnd mid)
    → Consumes mid new next → length next ≡ got → (got < 1 → IsAtEnd new)
    → printed_input (nat_lt 0 got) front ≡ printed_input (nat_lt room (length file)) file
told_of room size got front next file all mid new known a =
    told room size got front next file mid new (subst (λ (x : Option (List ℕ)). Consumes x mid front) known a)

-- what was written is the text of the input, where that is known
pub written : {T E : Type 0} (r : Result T E) (known old new : Option (List ℕ)) (bytes : List ℕ) (text : List ℕ → List ℕ)
    → OnOk r (Appends old new bytes) → ((file : List ℕ) → known ≡ Some file → bytes ≡ text file)
    → OnOk r (IfSome known (λ file. Appends old new (text file)))
written (Err e) known old new bytes text h same = tt
written (Ok x) None old new bytes text h same = tt
written (Ok x) (Some file) old new bytes text h same = subst (Appends old new) (same file refl) h
