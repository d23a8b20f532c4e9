-- A text is read as what it means, or as its first fault; so it means one thing.
use Rattle.std.proofs.Common.{◌≡◌, ◌≢◌, ◌⊎◌, inl, inr, IfOk, IfErr, ℕ, List, [], ◌∷◌, ◌++◌, Option, Some, None, Result, Ok, Err, refl, sym, ◌∙◌, ap, subst, append_assoc}
use Rattle.std.specs.Prelude.{IsOk}
use Rattle.std.proofs.lemmas.List.{append-nil}
use Rattle.circuit_nodes.specs.declared.node.Row.{Row}
use Rattle.circuit_table.specs.declared.fault.Why.{Why}
use Rattle.circuit_table.specs.declared.fault.Why.TheVariants as why
use Rattle.circuit_table.specs.declared.fault.BtorFault.{BtorFault}
use Rattle.circuit_table.specs.declared.line.Line.{Line}
use Rattle.circuit_table.specs.Rows.{bind, rows_of, added}
use Rattle.knox_circuit.specs.Circuit.{Circuit, unfed}
use Rattle.btor_read.specs.Said.{said}
use Rattle.btor_read.specs.TextLines.{TextLine, text_lines}
use Rattle.btor_read.specs.Meaning.{last_number, SayLines, MeansLines, IsCircuit, BreaksFirst, InTokens, InLine, FaultsAt}
use Rattle.btor_read.specs.Reading.{with_line, unless_unfed, continued, read_behind, lines_or_fault}
use Rattle.btor_read.proofs.ReadingLemmas.{with_said}

-- ---- what is meant is read

line-added : (before : List Line) (t : TextLine) (l : Line) → said t.at (last_number before) t.tokens ≡ Ok l → IsOk (added (rows_of before) l) → with_line before t.at t.tokens ≡ Ok (before ++ l ∷ [])
line-added before t l e fine =
    ap (with_said before) e ∙ accepted (added (rows_of before) l) fine where
      accepted : (r : Result (List Row) Why) → IsOk r → bind r (λ _. Ok (before ++ l ∷ [])) ≡ Ok (before ++ l ∷ [])
      accepted (Ok rows) h = refl
      accepted (Err w) h = cc

said-read : (before : List Line) (front rest : List TextLine) (all : List Line) → SayLines before front all → read_behind before (front ++ rest) ≡ read_behind all rest
said-read before [] rest all s = ap (λ (ls : List Line). read_behind ls rest) s
said-read before (t ∷ front) rest all s =
    ap (λ (r : Result (List Line) Why). continued t.at r (λ more. read_behind more (front ++ rest))) (line-added before t s.0 s.1 s.2)
    ∙ said-read (before ++ s.0 ∷ []) front rest all s.3

all-read : (text : List ℕ) (ls : List Line) → SayLines [] (text_lines text) ls → lines_or_fault text ≡ unless_unfed ls (unfed ls)
all-read text ls s = ap (read_behind []) (sym (append-nil (text_lines text))) ∙ said-read [] (text_lines text) [] ls s

pub lines-read : (text : List ℕ) (ls : List Line) → MeansLines text ls → lines_or_fault text ≡ Ok ls
lines-read text ls m = all-read text ls m.saying ∙ ap (unless_unfed ls) m.fed

line-broken : (ls : List Line) (t : TextLine) (w : Why) → BreaksFirst ls t w → with_line ls t.at t.tokens ≡ Err w
line-broken ls t w (InTokens e) = ap (with_said ls) e
line-broken ls t w (InLine l e b) =
    ap (with_said ls) e
    ∙ ap (λ (r : Result (List Row) Why). bind r (λ _. Ok (ls ++ l ∷ []))) b

fault-of : (f : BtorFault) (line : ℕ) (w : Why) → f.line ≡ line → f.why ≡ w → record { line = line; why = w } ≡ f
fault-of f line w e d = λ i. record { line = sym e i; why = sym d i }

pub fault-read : (text : List ℕ) (f : BtorFault) → FaultsAt text f → lines_or_fault text ≡ Err f
fault-read text f (inl h) =
    ap (read_behind []) h.stands
    ∙ (said-read [] h.before (h.text_line ∷ h.after) h.said_before h.saying
    ∙ (ap (λ (r : Result (List Line) Why). continued h.text_line.at r (λ more. read_behind more h.after)) (line-broken h.said_before h.text_line f.why h.broken_first)
    ∙ ap (λ (g : BtorFault). Err g) (fault-of f h.text_line.at f.why h.place refl)))
fault-read text f (inr h) =
    all-read text h.all h.saying ∙ (ap (unless_unfed h.all) h.starved ∙ ap (λ (g : BtorFault). Err g) (fault-of f h.line.at why.Next h.place h.why))

-- ---- what is read is meant

said-behind : (before : List Line) (front : List TextLine) (ls : List Line) (t : TextLine) (l : Line) → SayLines before front ls → said t.at (last_number ls) t.tokens ≡ Ok l → IsOk (added (rows_of ls) l) → SayLines before (front ++ t ∷ []) (ls ++ l ∷ [])
said-behind before [] ls t l s e fine = (l, ap (λ (b : List Line). said t.at (last_number b) t.tokens) s ∙ e, subst (λ (b : List Line). IsOk (added (rows_of b) l)) (sym s) fine, ap (λ (b : List Line). b ++ l ∷ []) s)
said-behind before (u ∷ front) ls t l s e fine = (s.0, s.1, s.2, said-behind (before ++ s.0 ∷ []) front ls t l s.3 e fine)

abbrev Meant : List ℕ → Result (List Line) BtorFault → Type 0
Meant text (Ok ls) = MeansLines text ls
Meant text (Err f) = FaultsAt text f

read-means : (text : List ℕ) (front rest : List TextLine) (ls : List Line) → text_lines text ≡ front ++ rest → SayLines [] front ls → Meant text (read_behind ls rest)
read-means text front [] ls e s = by_rule (unfed ls) refl where
  saying : SayLines [] (text_lines text) ls
  saying = subst (λ (ts : List TextLine). SayLines [] ts ls) (sym (e ∙ append-nil front)) s

  by_rule : (o : Option Line) → unfed ls ≡ o → Meant text (unless_unfed ls o)
  by_rule None q = record { saying = saying; fed = q }
  by_rule (Some l) q = inr (record { all = ls; saying = saying; line = l; starved = q; place = refl; why = refl })
read-means text front (t ∷ rest) ls e s = by_said (said t.at (last_number ls) t.tokens) refl (λ l q fine. read-means text (front ++ t ∷ []) rest (ls ++ l ∷ []) (e ∙ sym (append_assoc front (t ∷ []) rest)) (said-behind [] front ls t l s q fine)) where
  broken : (w : Why) → BreaksFirst ls t w → FaultsAt text (record { line = t.at; why = w })
  broken w b = inl (record { before = front; text_line = t; after = rest; stands = e; said_before = ls; saying = s; broken_first = b; place = refl })

  by_rules : (l : Line) → said t.at (last_number ls) t.tokens ≡ Ok l → (r : Result (List Row) Why) → added (rows_of ls) l ≡ r → (IsOk (added (rows_of ls) l) → Meant text (read_behind (ls ++ l ∷ []) rest)) → Meant text (continued t.at (bind r (λ _. Ok (ls ++ l ∷ []))) (λ more. read_behind more rest))
  by_rules l q (Ok rows) a more = more (subst (λ (r : Result (List Row) Why). IsOk r) (sym a) refl)
  by_rules l q (Err w) a more = broken w (InLine l q a)

  by_said : (r : Result Line Why) → said t.at (last_number ls) t.tokens ≡ r → ((l : Line) → said t.at (last_number ls) t.tokens ≡ Ok l → IsOk (added (rows_of ls) l) → Meant text (read_behind (ls ++ l ∷ []) rest)) → Meant text (continued t.at (with_said ls r) (λ more. read_behind more rest))
  by_said (Err w) q more = broken w (InTokens q)
  by_said (Ok l) q more = by_rules l q (added (rows_of ls) l) refl (more l q)

text-means : (text : List ℕ) → Meant text (lines_or_fault text)
text-means text = read-means text [] (text_lines text) [] refl refl

-- ---- each text means one thing

same-ok : (r : Result (List Line) BtorFault) (ls others : List Line) → r ≡ Ok ls → r ≡ Ok others → ls ≡ others
same-ok r ls others e d = cc

same-err : (r : Result (List Line) BtorFault) (f g : BtorFault) → r ≡ Err f → r ≡ Err g → f ≡ g
same-err r f g e d = cc

ok-err : (r : Result (List Line) BtorFault) (ls : List Line) (f : BtorFault) → r ≡ Ok ls → r ≡ Err f → ⊥
ok-err r ls f e d = cc

pub one-meaning : (text : List ℕ) (ls others : List Line) → MeansLines text ls → MeansLines text others → ls ≡ others
one-meaning text ls others a b = same-ok (lines_or_fault text) ls others (lines-read text ls a) (lines-read text others b)

pub one-fault : (text : List ℕ) (f g : BtorFault) → FaultsAt text f → FaultsAt text g → f ≡ g
one-fault text f g a b = same-err (lines_or_fault text) f g (fault-read text f a) (fault-read text g b)

pub never-both : (text : List ℕ) (ls : List Line) (f : BtorFault) → MeansLines text ls → FaultsAt text f → ⊥
never-both text ls f a b = ok-err (lines_or_fault text) ls f (lines-read text ls a) (fault-read text f b)

abbrev circuit : List Line → Circuit
circuit ls = record { lines = ls }

pub one-circuit : (text : List ℕ) (a b : Circuit) → IsCircuit text a → IsCircuit text b → a ≡ b
one-circuit text a b p q = ap circuit (one-meaning text a.lines b.lines p q)

pub faultless : (text : List ℕ) (c : Circuit) (f : BtorFault) → IsCircuit text c → FaultsAt text f → ⊥
faultless text c f p q = never-both text c.lines f p q

pub some-meaning : (text : List ℕ) → ((c : Circuit) × IsCircuit text c) ⊎ ((f : BtorFault) × FaultsAt text f)
some-meaning text = by_reading (lines_or_fault text) (text-means text) where
  by_reading : (r : Result (List Line) BtorFault) → Meant text r → ((c : Circuit) × IsCircuit text c) ⊎ ((f : BtorFault) × FaultsAt text f)
  by_reading (Ok ls) m = inl (circuit ls, m)
  by_reading (Err f) m = inr (f, m)

-- ---- what a reader's answer says

memory-or : (w : Why) → (w ≡ why.Memory) ⊎ (w ≢ why.Memory)
memory-or why.Memory = inl refl
memory-or _ = inr (λ e. cc)

pub read-circuit : (text : List ℕ) (ls : List Line) → lines_or_fault text ≡ Ok ls → MeansLines text ls
read-circuit text ls e = subst (λ (r : Result (List Line) BtorFault). Meant text r) e (text-means text)

pub read-fault : (text : List ℕ) (f : BtorFault) → lines_or_fault text ≡ Err f → FaultsAt text f
read-fault text f e = subst (λ (r : Result (List Line) BtorFault). Meant text r) e (text-means text)

abbrev IsTold : List ℕ → Result Circuit BtorFault → Type 0
IsTold text r = IfErr r (λ f. f.why ≢ why.Memory → lines_or_fault text ≡ Err f)

pub found : (text : List ℕ) (r : Result Circuit BtorFault) → IfOk r (λ c. lines_or_fault text ≡ Ok c.lines) → IfOk r (λ c. IsCircuit text c)
found text (Ok c) e = read-circuit text c.lines e
found text (Err f) e = tt

pub only-memory : (text : List ℕ) (r : Result Circuit BtorFault) → IsTold text r → (c : Circuit) → IsCircuit text c → IfErr r (λ f. f.why ≡ why.Memory)
only-memory text (Ok all) e c m = tt
only-memory text (Err f) e c m = elim (memory-or f.why) [ inl q ↦ q | inr other ↦ absurd (faultless text c f m (read-fault text f (e other))) ]

pub fault-told : (text : List ℕ) (r : Result Circuit BtorFault) → IsTold text r → IfErr r (λ f. f.why ≢ why.Memory → FaultsAt text f)
fault-told text (Ok c) e = tt
fault-told text (Err f) e = λ other. read-fault text f (e other)
