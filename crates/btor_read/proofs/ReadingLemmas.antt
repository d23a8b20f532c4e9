-- Text lines read one by one.
use Rattle.std.proofs.Common.{◌≡◌, ℕ, ◌+◌, ◌==◌, Bool, true, false, List, [], ◌∷◌, ◌++◌, length, Option, Some, None, Result, Ok, Err, refl, sym, ◌∙◌, ap}
use Rattle.std.specs.Option.{option_map}
use Rattle.knox_text.specs.Lines.{lines}
use Rattle.circuit_nodes.specs.declared.node.Row.{Row}
use Rattle.circuit_table.specs.declared.fault.Why.{Why}
use Rattle.circuit_table.specs.declared.fault.Why.TheVariants.{Next}
use Rattle.circuit_table.specs.declared.fault.BtorFault.{BtorFault}
use Rattle.circuit_table.specs.declared.line.Line.{Line}
use Rattle.circuit_table.specs.Rows.{bind, rows_of, added}
use Rattle.knox_circuit.specs.Circuit.{unfed}
use Rattle.btor_read.specs.Tokens.{Tokens, tokens_of}
use Rattle.btor_read.specs.Said.{said}
use Rattle.btor_read.specs.TextLines.{TextLine, unless_skipped, text_lines_from}
use Rattle.btor_read.specs.Meaning.{last_or, last_number}
use Rattle.btor_read.specs.Reading.{with_tokens, unless_unfed, continued, read_behind}
use Rattle.btor_read.proofs.GrammarLemmas.{not-none}

-- ---- one text line

-- the lines with one that is said
abbrev pub with_said : List Line → Result Line Why → Result (List Line) Why
with_said before r = bind r (λ l. bind (added (rows_of before) l) (λ _. Ok (before ++ l ∷ [])))

said-line : (before : List Line) (at last : ℕ) (ts : Tokens) (none : Bool) (r : Result Line Why) → last ≡ last_number before → none ≡ (length ts == 0) → none ≡ false → said at last ts ≡ r → with_tokens before at ts ≡ with_said before r
said-line before at last [] none r is h q e = cc
said-line before at last (t ∷ ts) none r is h q e = ap (λ (n : ℕ). with_said before (said at n (t ∷ ts))) (sym is) ∙ ap (with_said before) e

pub line-skipped : (before : List Line) (at : ℕ) (ts : Tokens) (none : Bool) → none ≡ (length ts == 0) → none ≡ true → with_tokens before at ts ≡ Ok before
line-skipped before at [] none h q = refl
line-skipped before at (t ∷ ts) none h q = absurd (not-none t ts (sym h ∙ q))

pub line-faulty : (before : List Line) (at last : ℕ) (ts : Tokens) (none : Bool) (w : Why) → last ≡ last_number before → none ≡ (length ts == 0) → none ≡ false → said at last ts ≡ Err w → with_tokens before at ts ≡ Err w
line-faulty before at last ts none w is h q e = said-line before at last ts none (Err w) is h q e

pub line-added : (before new : List Line) (at last : ℕ) (ts : Tokens) (none : Bool) (l : Line) (rows : List Row) → last ≡ last_number before → none ≡ (length ts == 0) → none ≡ false → said at last ts ≡ Ok l → added (rows_of before) l ≡ Ok rows → new ≡ before ++ l ∷ [] → with_tokens before at ts ≡ Ok new
line-added before new at last ts none l rows is h q e fine same =
    said-line before at last ts none (Ok l) is h q e
    ∙ (ap (λ (r : Result (List Row) Why). bind r (λ _. Ok (before ++ l ∷ []))) fine ∙ ap (λ (ls : List Line). Ok ls) (sym same))

pub line-refused : (before : List Line) (at last : ℕ) (ts : Tokens) (none : Bool) (l : Line) (w : Why) → last ≡ last_number before → none ≡ (length ts == 0) → none ≡ false → said at last ts ≡ Ok l → added (rows_of before) l ≡ Err w → with_tokens before at ts ≡ Err w
line-refused before at last ts none l w is h q e b =
    said-line before at last ts none (Ok l) is h q e ∙ ap (λ (r : Result (List Row) Why). bind r (λ _. Ok (before ++ l ∷ []))) b

last-behind : (n : ℕ) (ls : List Line) (l : Line) → last_or n (ls ++ l ∷ []) ≡ l.number
last-behind n [] l = refl
last-behind n (k ∷ ls) l = last-behind k.number ls l

pub last-added : (before new : List Line) (l : Line) → new ≡ before ++ l ∷ [] → l.number ≡ last_number new
last-added before new l same = sym (ap last_number same ∙ last-behind 0 before l)

pub ruleset line_steps = (line-skipped, line-faulty, line-added, line-refused, last-added)

-- ---- the text lines that are left

-- a text line that is skipped leaves the lines as they are
one-line : (before : List Line) (at : ℕ) (ts : Tokens) (others : List TextLine) → read_behind before (unless_skipped at ts others) ≡ continued at (with_tokens before at ts) (λ (more : List Line). read_behind more others)
one-line before at [] others = refl
one-line before at (t ∷ ts) others = refl

cut-line : (before : List Line) (rest piece more : List ℕ) (at : ℕ) (r : Result (List Line) Why) → lines rest ≡ piece ∷ lines more → with_tokens before at (tokens_of piece) ≡ r → read_behind before (text_lines_from at (lines rest)) ≡ continued at r (λ (after : List Line). read_behind after (text_lines_from (at + 1) (lines more)))
cut-line before rest piece more at r e w =
    ap (λ (ls : List (List ℕ)). read_behind before (text_lines_from at ls)) e
    ∙ (one-line before at (tokens_of piece) (text_lines_from (at + 1) (lines more))
    ∙ ap (λ (r : Result (List Line) Why). continued at r (λ (after : List Line). read_behind after (text_lines_from (at + 1) (lines more)))) w)

pub text-added : (before after : List Line) (rest piece more : List ℕ) (at : ℕ) (answer : Result (List Line) BtorFault) → lines rest ≡ piece ∷ lines more → with_tokens before at (tokens_of piece) ≡ Ok after → read_behind before (text_lines_from at (lines rest)) ≡ answer → read_behind after (text_lines_from (at + 1) (lines more)) ≡ answer
text-added before after rest piece more at answer e w so_far = sym (cut-line before rest piece more at (Ok after) e w) ∙ so_far

pub text-refused : (before : List Line) (rest piece more : List ℕ) (at : ℕ) (why : Why) (answer : Result (List Line) BtorFault) → lines rest ≡ piece ∷ lines more → with_tokens before at (tokens_of piece) ≡ Err why → read_behind before (text_lines_from at (lines rest)) ≡ answer → answer ≡ Err (record { line = at; why = why })
text-refused before rest piece more at why answer e w so_far = sym so_far ∙ cut-line before rest piece more at (Err why) e w

ended : (all : List Line) (rest : List ℕ) (at : ℕ) (answer : Result (List Line) BtorFault) (o : Option Line) → rest ≡ [] → read_behind all (text_lines_from at (lines rest)) ≡ answer → unfed all ≡ o → answer ≡ unless_unfed all o
ended all rest at answer o e so_far is =
    sym so_far ∙ (ap (λ (bytes : List ℕ). read_behind all (text_lines_from at (lines bytes))) e ∙ ap (unless_unfed all) is)

pub text-ended : (all given : List Line) (rest : List ℕ) (at : ℕ) (answer : Result (List Line) BtorFault) → rest ≡ [] → read_behind all (text_lines_from at (lines rest)) ≡ answer → unfed all ≡ None → given ≡ all → answer ≡ Ok given
text-ended all given rest at answer e so_far is same = ended all rest at answer None e so_far is ∙ ap (λ (ls : List Line). Ok ls) (sym same)

starved : (all : List Line) (fault : BtorFault) (o : Option Line) → fault.why ≡ Next → option_map (λ l. l.at) o ≡ Some fault.line → unless_unfed all o ≡ Err fault
starved all fault None w e = cc
starved all fault (Some l) w e = let is : l.at ≡ fault.line = cc in λ i. Err (record { line = is i; why = sym w i })

pub text-starved : (all : List Line) (rest : List ℕ) (at : ℕ) (fault : BtorFault) (answer : Result (List Line) BtorFault) → rest ≡ [] → read_behind all (text_lines_from at (lines rest)) ≡ answer → (fault.why ≡ Next) × (option_map (λ l. l.at) (unfed all) ≡ Some fault.line) → answer ≡ Err fault
text-starved all rest at fault answer e so_far h = ended all rest at answer (unfed all) e so_far refl ∙ starved all fault (unfed all) h.0 h.1

pub ruleset text_steps = (text-added, text-refused, text-ended, text-starved)
