-- What each status says follows from how a run ends.
use Rattle.std.proofs.Common.{◌≡◌, ◌∙◌, ◌<◌, ◌+◌, ℕ, List, [], ◌∷◌, ◌++◌, length, take, drop, get_or, ap, sym, subst, inl, inr, ◌⊎◌, append_assoc, append-nil, Option, Some, None, Result, Ok, Err, refl, arith}
use Rattle.std.proofs.lemmas.List.{take_more, length-append, length-map, length-take}
use Rattle.std.proofs.Math.Seq.{take-length, drop-append_seam}
use Rattle.knox_edge.specs.declared.shelf.ShelfEnd.TheVariants as end
use Rattle.knox_verify.specs.declared.verdict.VerifyFault.TheVariants as refusal
use Rattle.knox_run.specs.declared.status.Status.TheVariants as status
use Rattle.sat_core.specs.declared.answering.Solved.TheVariants as solved
use Rattle.knox_run.specs.Words.{Bytes, Reads, Rose, ShelfEnd, TooLong, Verdict, Yes, Undecided, TooWide, VerifyFault, Parts, FiveTexts, five, Means, FirstFault}
use Rattle.knox_run.specs.Words.{Sat, Solved, Command, Verify, Check, Status, Verified, Rejected, NoEmptyClause, Outcome, NoCommand, Unbuilt, Unread, Text, Judged, Checked, Memory, OfDevice}
use Rattle.knox_run.specs.Commands.{command_of}
use Rattle.knox_run.specs.Outcomes.{status_of, to_out, to_err}
use Rattle.knox_run.specs.Reading.{ReadWhole, ReadUpTo, RefusesRead, texts_of}
use Rattle.knox_run.specs.Runs.{Seen, IsVerify, IsCheck, IsSat, IsOther, IsVerified, outcome_of, Because, Ends, names_of}
use Rattle.knox_run.specs.Writing.{StopsBoth}
use Rattle.knox_run.specs.Consequences.{OfVerified, OfChecked, OfSolved, Wrote, Tells, OrStops, SaysYes, SaysClosed, SaysOneMeaning, SaysUsage, Explains, AsksPrefix, IsUnhindered, GoesThrough, IsComplete, IsCompleteYes, TellsFirstFault}

-- ---- what a run comes to

-- a put failed, which a sink counted, or memory was wanting
abbrev Stopped : Seen → Type 0
Stopped s = ((s.status ≡ status.WriteFault) × (Rose s.out_before.faults s.out_after.faults ⊎ Rose s.err_before.faults s.err_after.faults)) ⊎ (s.status ≡ status.Memory)

stopped : (s : Seen) (r : Status) (u v : Bytes) → s.status ≡ r → StopsBoth u v r s.out_before s.out_after s.err_before s.err_after → Stopped s
stopped s status.WriteFault u v is h = inl (is, h.2)
stopped s status.Memory u v is h = inr is
stopped s _ u v is h = absurd h

-- the outcome of a run of this command, why it came, and that it was told, if it was
abbrev Came : Seen → Option Command → Type 0
Came s k = (o : Outcome) × Because k (names_of s.words) s.before s.after o × (Tells s o ⊎ Stopped s)

came : (s : Seen) (k : Option Command) → command_of s.words ≡ k → Ends s → Came s k
came s k is ends =
    elim ends.2 as (λ _. Came s k) [
      | inl d ↦ (ends.0, subst (λ x. Because x (names_of s.words) s.before s.after ends.0) is ends.1, inl (d.0, (d.1, d.2)))
      | inr h ↦ (ends.0, subst (λ x. Because x (names_of s.words) s.before s.after ends.0) is ends.1, inr (stopped s s.status _ _ refl h))
    ]

-- what follows where the outcome was told
unless : (s : Seen) (o : Outcome) (P : Type 0) → (Tells s o → OrStops s P) → Tells s o ⊎ Stopped s → OrStops s P
unless s o P f (inl d) = f d
unless s o P f (inr (inl h)) = inr (inl h.0)
unless s o P f (inr (inr m)) = inr (inr m)

-- a read was refused
refusal_of : (c : Command) (names : List Bytes) (b a : Reads) (o : Outcome) → RefusesRead c names b a o → (which : ℕ) × (x : ShelfEnd) × ReadUpTo names which x b a
refusal_of c names b a (Unread which) r = (which, end.Failed, r)
refusal_of c names b a (Text letter (OfDevice TooLong)) r = (r.0, end.TooLong, r.2)
refusal_of c names b a Memory r = (r.0, end.Memory, r.1)
refusal_of c names b a _ r = absurd r

-- ---- the causes of a status

of-texts : (s : Seen) (A B : FiveTexts → Type 0) → ((t : FiveTexts) → A t → B t) → OfVerified s A → OfVerified s B
of-texts s A B f k = (k.0, (k.1.0, (k.1.1.0, k.1.1.1, f k.1.1.0 k.1.1.2)))

-- a refusal that isn't want of memory
is-fault : (s : Seen) (f : VerifyFault) → (f ≡ refusal.Memory → ⊥) → OfVerified s (λ t. IsVerified t (Err f)) → OfVerified s (λ t. FirstFault t f)
is-fault s f other = of-texts s _ _ (λ t k. elim k.refused as (λ _. FirstFault t f) [ inl m ↦ absurd (other m) | inr h ↦ h ])

not-yet-other : refusal.NotYet ≡ refusal.Memory → ⊥
not-yet-other e = cc

abbrev Wrote-of : Seen → Outcome → Type 0
Wrote-of s o = Wrote s (to_out o) (to_err (names_of s.words) o)

of-refusal : (s : Seen) (c : Command) (o : Outcome) → command_of s.words ≡ Some c → IsVerify (command_of s.words) ⊎ (IsCheck (command_of s.words) ⊎ IsSat (command_of s.words)) → RefusesRead c (names_of s.words) s.before s.after o → Wrote-of s o → Explains s (status_of o)
of-refusal s c (Unread which) is built r w = (which, built, r, subst (λ n. Rose n s.after.faults) r.whole.faults r.refused.faults, w)
of-refusal s c (Text letter (OfDevice TooLong)) is built r w = (letter, OfDevice TooLong, inl (c, is, r), w)
of-refusal s c Memory is built r w = tt
of-refusal s c _ is built r w = absurd r

of-verdict : (s : Seen) (r : Result Verdict VerifyFault) → OfVerified s (λ t. IsVerified t r) → Wrote-of s (outcome_of r) → Explains s (status_of (outcome_of r))
of-verdict s (Ok Yes) k w = (k, w)
of-verdict s (Ok (Undecided hint choices)) k w = (hint, choices, (k, w))
of-verdict s (Ok (TooWide hint bits)) k w = (hint, bits, (k, w))
of-verdict s (Err (refusal.Text letter why)) k w = (letter, OfDevice why, inr (inl (why, refl, is-fault s (refusal.Text letter why) (λ e. cc) k)), w)
of-verdict s (Err refusal.NotYet) k w = (inr (is-fault s refusal.NotYet not-yet-other k), w)
of-verdict s (Err refusal.Memory) k w = tt

of-check : (s : Seen) (o : Outcome) → OfChecked s o → Wrote-of s o → Explains s (status_of o)
of-check s (Checked Verified) k w = inl (k, w)
of-check s (Checked (Rejected number why)) k w = inl (number, why, (k, w))
of-check s (Checked NoEmptyClause) k w = inr (k, w)
of-check s (Text letter why) k w = (letter, why, inr (inr (inl k)), w)
of-check s Memory k w = tt
of-check s _ k w = absurd k.1.1.3

of-solve : (s : Seen) (o : Outcome) → OfSolved s o → Wrote-of s o → Explains s (status_of o)
of-solve s (Solved (solved.Sat a)) k w = inr (inl (a, (k, w)))
of-solve s (Solved (solved.Unsat d)) k w = inr (inr (d, (k, w)))
of-solve s (Solved (solved.Spent d)) k w = (d, (k, w))
of-solve s (Text letter why) k w = (letter, why, inr (inr (inr k)), w)
of-solve s Memory k w = tt
of-solve s _ k w = absurd k.2.1.2

as-outcome : (s : Seen) (o x : Outcome) → o ≡ x → (Wrote-of s x → Explains s (status_of x)) → Wrote-of s o → Explains s (status_of o)
as-outcome s o x is f = subst (λ (z : Outcome). Wrote-of s z → Explains s (status_of z)) (sym is) f

by-cause : (s : Seen) (k : Option Command) (o : Outcome) → command_of s.words ≡ k → Because k (names_of s.words) s.before s.after o → Wrote-of s o → Explains s (status_of o)
by-cause s None o is h = as-outcome s o NoCommand h.0 (λ w. (is, h.1, w))
by-cause s (Some (Verify b p)) o is (inl r) = of-refusal s (Verify b p) o is (inl (b, p, is)) r
by-cause s (Some (Verify b p)) o is (inr h) =
    as-outcome s o (outcome_of h.1.2.0) h.1.2.1 (of-verdict s h.1.2.0 ((b, p, is), (h.0, (h.1.0, h.1.1, h.1.2.2))))
by-cause s (Some Check) o is (inl r) = of-refusal s Check o is (inr (inl is)) r
by-cause s (Some Check) o is (inr h) = of-check s o (is, h)
by-cause s (Some (Sat b)) o is (inl r) = of-refusal s (Sat b) o is (inr (inr (b, is))) r
by-cause s (Some (Sat b)) o is (inr h) = of-solve s o (b, is, h)
by-cause s (Some _) o is h = as-outcome s o Unbuilt h.0 (λ w. (inl (subst IsOther (sym is) tt, h.1), w))

by-stop : (s : Seen) → Stopped s → Explains s s.status
by-stop s (inl h) = subst (Explains s) (sym h.0) h.1
by-stop s (inr m) = subst (Explains s) (sym m) tt

-- each status says what it is to say
pub explained : (s : Seen) → Ends s → Explains s s.status
explained s ends =
    let c = came s (command_of s.words) refl ends in
    elim c.2 as (λ _. Explains s s.status) [
      | inl d ↦ subst (Explains s) (sym d.0) (by-cause s (command_of s.words) c.0 refl c.1 d.1)
      | inr h ↦ by-stop s h
    ]

-- what a yes says, of the worlds and of the script
pub says-yes : (s : Seen) → Ends s → SaysYes s
says-yes s ends is = let h = subst (Explains s) is (explained s ends) in (of-texts s _ _ (λ t k. k.agree refl) h.0, h.1)

pub says-closed : (s : Seen) → Ends s → SaysClosed s
says-closed s ends is = of-texts s _ _ (λ t k. k.closed refl) (subst (Explains s) is (explained s ends)).0

pub says-one-meaning : (s : Seen) → Ends s → SaysOneMeaning s
says-one-meaning s ends is = of-texts s _ _ (λ t k. k.one_meaning) (subst (Explains s) is (explained s ends)).0

-- words that are no command
pub says-usage : (s : Seen) → Ends s → SaysUsage s
says-usage s ends none = let c = came s None none ends in unless s c.0 _ (λ d. inl (d.0 ∙ ap status_of c.1.0)) c.2

-- ---- the names that were asked

-- the names up to the one that was asked last
up-to-asked : (s : Seen) (which : ℕ) (m : Reads) → which < length (names_of s.words) → ReadWhole (take which (names_of s.words)) s.before m → s.after.names ≡ m.names ++ get_or (names_of s.words) which [] ∷ [] → AsksPrefix s
up-to-asked s which m inside w asked = (
  which + 1,
  asked ∙ ap (λ z. z ++ get_or (names_of s.words) which [] ∷ []) w.asked
      ∙ append_assoc s.before.names (take which (names_of s.words)) (get_or (names_of s.words) which [] ∷ [])
      ∙ ap (λ z. s.before.names ++ z) (sym (take_more (names_of s.words) which [] inside)),
)

up-to : (s : Seen) (which : ℕ) (x : ShelfEnd) → ReadUpTo (names_of s.words) which x s.before s.after → AsksPrefix s
up-to s which end.Memory r =
    elim r.refused.asked as (λ _. AsksPrefix s) [
      | inl same ↦ (which, same ∙ r.whole.asked)
      | inr asked ↦ up-to-asked s which r.between r.inside r.whole asked
    ]
up-to s which _ r = up-to-asked s which r.between r.inside r.whole r.refused.asked

all-asked : (s : Seen) → ReadWhole (names_of s.words) s.before s.after → AsksPrefix s
all-asked s w = (length (names_of s.words), w.asked ∙ ap (λ z. s.before.names ++ z) (sym (take-length (names_of s.words))))

none-asked : (s : Seen) → s.after ≡ s.before → AsksPrefix s
none-asked s same = (0, ap (λ r. r.names) same ∙ sym (append-nil s.before.names))

refused-asked : (s : Seen) (c : Command) (o : Outcome) → RefusesRead c (names_of s.words) s.before s.after o → AsksPrefix s
refused-asked s c o r = let u = refusal_of c (names_of s.words) s.before s.after o r in up-to s u.0 u.1 u.2

asked-by : (s : Seen) (k : Option Command) (o : Outcome) → Because k (names_of s.words) s.before s.after o → AsksPrefix s
asked-by s None o h = none-asked s h.1
asked-by s (Some (Verify b p)) o (inl r) = refused-asked s (Verify b p) o r
asked-by s (Some (Verify b p)) o (inr h) = all-asked s h.0
asked-by s (Some Check) o (inl r) = refused-asked s Check o r
asked-by s (Some Check) o (inr h) = all-asked s h.0
asked-by s (Some (Sat b)) o (inl r) = refused-asked s (Sat b) o r
asked-by s (Some (Sat b)) o (inr h) = all-asked s h.0
asked-by s (Some _) o h = none-asked s h.1

-- a run asks for a prefix of the command's texts
pub asks-prefix : (s : Seen) → Ends s → AsksPrefix s
asks-prefix s ends = asked-by s (command_of s.words) ends.0 ends.1

-- ---- five texts that the shelf gave

-- what all reads gave is one list
same-read : (names : List Bytes) (b a : Reads) (w v : ReadWhole names b a) → w.entries ≡ v.entries
same-read names b a w v = sym (drop-append_seam b.given w.entries) ∙ ap (drop (length b.given)) (sym w.given ∙ v.given) ∙ drop-append_seam b.given v.entries

-- how many texts were read
count-read : (names : List Bytes) (b a : Reads) (w : ReadWhole names b a) → length a.given ≡ length b.given + length names
count-read names b a w = ap length w.given ∙ length-append b.given w.entries ∙ ap (λ n. length b.given + n) (sym (length-map w.entries (λ e. e.0)) ∙ ap length w.named)

-- no read of a command whose texts were all read was refused
none-refused : {G : Type 0} (names : List Bytes) (which : ℕ) (x : ShelfEnd) (b a : Reads) → ReadWhole names b a → ReadUpTo names which x b a → G
none-refused names which x b a w u =
    let all = count-read names b a w in
    let some = ap length u.refused.given ∙ count-read (take which names) b u.between u.whole in
    let cut = length-take which names in
    let inside = u.inside in
    absurd (omega (arith, all, some, cut, inside))

-- five texts are known by their list
same-five : (t u : FiveTexts) → t.c ∷ t.s ∷ t.d ∷ t.e ∷ t.h ∷ [] ≡ u.c ∷ u.s ∷ u.d ∷ u.e ∷ u.h ∷ [] → t ≡ u
same-five t u p = ap (λ ts. five (get_or ts 0 []) (get_or ts 1 []) (get_or ts 2 []) (get_or ts 3 []) (get_or ts 4 [])) p

-- what follows where the answer of their verification was told
abbrev Follows : Seen → (FiveTexts → Type 0) → Type 0 → Type 0
Follows s said P = (t : FiveTexts) (r : Result Verdict VerifyFault) → said t → IsVerified t r → Tells s (outcome_of r) → OrStops s P

by-given : (s : Seen) (said : FiveTexts → Type 0) (P : Type 0) (b p : ℕ) (o : Outcome) → Follows s said P → OfVerified s said → Because (Some (Verify b p)) (names_of s.words) s.before s.after o → Tells s o → OrStops s P
by-given s said P b p o f v (inl r) d = let u = refusal_of (Verify b p) (names_of s.words) s.before s.after o r in none-refused (names_of s.words) u.0 u.1 s.before s.after v.1.0 u.2
by-given s said P b p o f v (inr h) d =
    let same = same-five v.1.1.0 h.1.0 (sym v.1.1.1 ∙ ap texts_of (same-read (names_of s.words) s.before s.after v.1.0 h.0) ∙ h.1.1) in
    f h.1.0 h.1.2.0 (subst said same v.1.1.2) h.1.2.2 (subst (Tells s) h.1.2.1 d)

given : (s : Seen) (said : FiveTexts → Type 0) (P : Type 0) → Ends s → Follows s said P → OfVerified s said → OrStops s P
given s said P ends f v =
    let c = came s (Some (Verify v.0.0 v.0.1)) v.0.2 ends in unless s c.0 P (by-given s said P v.0.0 v.0.1 c.0 f v c.1) c.2

verdict-by : (s : Seen) (t : FiveTexts) (r : Result Verdict VerifyFault) → (p : Parts) × Means t p → IsVerified t r → Tells s (outcome_of r) → OrStops s ((v : Verdict) × (s.status ≡ status_of (Judged v)))
verdict-by s t (Ok v) m k d = inl (v, d.0)
verdict-by s t (Err f) m k d = inr (inr (d.0 ∙ ap (λ (z : VerifyFault). status_of (outcome_of (Err z))) (k.meant m.0 m.1)))

pub complete : (s : Seen) → Ends s → IsComplete s
complete s ends = given s _ _ ends (verdict-by s)

-- the status of an answer that is one of two
by-answer : (s : Seen) (P : Type 0) (r wanted : Result Verdict VerifyFault) → Tells s (outcome_of r) → (r ≡ wanted) ⊎ (r ≡ Err refusal.Memory) → (Tells s (outcome_of wanted) → P) → OrStops s P
by-answer s P r wanted d (inl e) f = inl (f (subst (λ (z : Result Verdict VerifyFault). Tells s (outcome_of z)) e d))
by-answer s P r wanted d (inr e) f = inr (inr (d.0 ∙ ap (λ (z : Result Verdict VerifyFault). status_of (outcome_of z)) e))

pub complete-yes : (s : Seen) → Ends s → IsCompleteYes s
complete-yes s ends = given s _ _ ends (λ t r m k d. by-answer s _ r (Ok Yes) d (k.yes m.0 m.1 m.2) (λ y. y.0))

pub tells-first-fault : (s : Seen) → Ends s → TellsFirstFault s
tells-first-fault s ends f = given s _ _ ends (λ t r h k d. by-answer s _ r (Err f) d (k.first_fault f h) (λ y. y))

-- ---- a run that nothing hinders

abbrev Through : Seen → Type 0
Through s = (OfVerified s (λ t. Unit {0}) × (s.status ≡ status.WriteFault → ⊥)) ⊎ (s.status ≡ status.Memory)

no-write-fault : (s : Seen) → Ends s → IsUnhindered s → s.status ≡ status.WriteFault → ⊥
no-write-fault s ends u is = elim (subst (Explains s) is (explained s ends)) [ inl x ↦ u.out_put x | inr x ↦ u.err_put x ]

refused-through : (s : Seen) (c : Command) (o : Outcome) → IsUnhindered s → RefusesRead c (names_of s.words) s.before s.after o → s.status ≡ status_of o → Through s
refused-through s c (Unread which) u r is = absurd (u.read (subst (λ n. Rose n s.after.faults) r.whole.faults r.refused.faults))
refused-through s c (Text letter (OfDevice TooLong)) u r is = absurd (u.short r.2.refused.taken)
refused-through s c Memory u r is = inr is
refused-through s c _ u r is = absurd r

through : (s : Seen) (b p : ℕ) (o : Outcome) → Ends s → IsUnhindered s → Because (Some (Verify b p)) (names_of s.words) s.before s.after o → Tells s o ⊎ Stopped s → Through s
through s b p o ends u (inr h) d = inl ((u.verify, (h.0, (h.1.0, h.1.1, tt))), no-write-fault s ends u)
through s b p o ends u (inl r) (inl d) = refused-through s (Verify b p) o u r d.0
through s b p o ends u (inl r) (inr (inl h)) = absurd (no-write-fault s ends u h.0)
through s b p o ends u (inl r) (inr (inr m)) = inr m

pub goes-through : (s : Seen) → Ends s → GoesThrough s
goes-through s ends u =
    let c = came s (Some (Verify u.verify.0 u.verify.1)) u.verify.2 ends in through s u.verify.0 u.verify.1 c.0 ends u c.1 c.2
