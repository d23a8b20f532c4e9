-- A driver is refused as missing exactly where it lacks a call, and all else of it is read.
use Rattle.std.proofs.Common.{◌≡◌, ◌↔◌, ℕ, nat_lt, ◌++◌, Bool, true, false, if◌then◌else◌, List, [], ◌∷◌, codes, refl, sym, ap, ◌∙◌, Option, Some, None, Result, Ok, Err, true≢false}
use Rattle.knox_text.specs.declared.place.Place.{Place}
use Rattle.knox_sexpr.specs.declared.tree.Tree.{Tree}
use Rattle.knox_words.specs.Bits.{Bits, bits, is_word}
use Rattle.knox_circuit.specs.declared.port.Port.{Port}
use Rattle.knox_circuit.specs.declared.port.Cell.{Cell}
use Rattle.knox_circuit.specs.Ports.{inputs_of, outputs_of}
use Rattle.knox_circuit.specs.Circuit.{Circuit}
use Rattle.knox_circuit.specs.Cells.{cells_of}
use Rattle.knox_lang.specs.declared.expr.Space.TheVariants.{Arg, Local, Input, Output}
use Rattle.knox_lang.specs.declared.parts.OpHead.{OpHead}
use Rattle.knox_lang.specs.declared.parts.Body.{Body}
use Rattle.knox_lang.specs.declared.parts.SpecParts.{SpecParts}
use Rattle.knox_lang.specs.declared.parts.DriverParts.{DriverParts}
use Rattle.knox_lang.specs.WellFormed.{driver_fits}
use Rattle.expr_read.specs.declared.faults.LangWhy.TheVariants.{Missing}
use Rattle.expr_read.specs.declared.faults.LangFault.{LangFault}
use Rattle.expr_read.specs.declared.names.Group.{Group}
use Rattle.expr_read.specs.declared.names.Group.TheVariants.{Device}
use Rattle.expr_read.specs.declared.names.Group.TheVariants as groups
use Rattle.expr_read.specs.declared.names.Named.{Named}
use Rattle.expr_read.specs.declared.names.Seen.{Seen}
use Rattle.expr_read.specs.Views.{◌>>=◌, fails, place_of, number_of, parts_of, is_headed, behind_head, no_more}
use Rattle.expr_read.specs.Names.{seen_of, locals, numbered, cell_names, port_names, and_last}
use Rattle.lang_read.specs.declared.body.Priced.{Priced}
use Rattle.lang_read.specs.declared.statement.Home.{Home}
use Rattle.lang_read.specs.declared.statement.Home.TheVariants.{Driver}
use Rattle.lang_read.specs.Entries.{front, behind_front, form_trees, behind_form, is_entered, new_entry}
use Rattle.lang_read.specs.Statements.{block_of, op_of}
use Rattle.lang_read.specs.Bodies.{result_in, result_of, replying_body, within, cut_last}
use Rattle.lang_read.specs.Calls.{new_number, numbered_body, called, call_named, call_ending, call_in, call, calls_of, all_called}
use Rattle.lang_read.specs.Drivers.{is_among, cell_of, new_cell, named_cells, persistent, keep_of, idle_word, idled, idle_in, idle_entry, idle_entries, idle_of, bodies, driver_in, complete, made, driver_text, LacksCall}
use Rattle.expr_read.proofs.NotMissing.{is_missing, NotMissing, and-then, either, in-each, in-number, in-symbol, in-parts, in-head, at-end}
use Rattle.expr_read.proofs.NotMissingExpr.{in-seen, in-locals, in-typed}
use Rattle.lang_read.proofs.NotMissingStmt.{in-op, in-block}

-- ---- bodies and calls

result-parts : (at : Place) (w : ℕ) (names : List Named) (ts : List Tree) → NotMissing (result_in at w names ts)
result-parts at w names [] = refl
result-parts at w names (head ∷ []) = refl
result-parts at w names (head ∷ e ∷ []) = in-typed e w names
result-parts at w names (head ∷ e ∷ t ∷ ts) = refl

in-result : (t : Tree) (w : ℕ) (names : List Named) → NotMissing (result_of t w names)
in-result t w names = and-then (parts_of t) _ (in-parts t) (λ ts. result-parts (place_of t) w names ts)

in-body : (home : Home) (names : List Named) (w : ℕ) (ts : List Tree) (last : Tree) → NotMissing (replying_body home names w ts last)
in-body home names w ts last =
    and-then (locals (front (codes "local") ts)) _ (in-locals (front (codes "local") ts)) (λ ls.
    and-then (block_of home (behind_front (codes "local") ts) (names ++ numbered Local 0 ls)) _ (in-block home (behind_front (codes "local") ts) (names ++ numbered Local 0 ls)) (λ steps.
    and-then (result_of last w (names ++ numbered Local 0 ls)) _ (in-result last w (names ++ numbered Local 0 ls)) (λ value. tt)))

in-numbered : (at : Place) (number : Result ℕ LangFault) (body : Result Priced LangFault) → NotMissing number → NotMissing body → NotMissing (numbered_body at number body)
in-numbered at number (Ok p) q r = and-then (within 10000000 at p) _ (either (nat_lt 10000000 p.cost) _ _ refl tt) (λ body. and-then number _ q (λ k. tt))
in-numbered at number (Err f) q r = and-then number _ q (λ k. r)

in-called : (home : Home) (names : List Named) (at : Place) (before : List (ℕ × Body)) (x : Tree) (ts : List Tree) (last : Tree) (k : ℕ) (head : OpHead) → NotMissing (called home names at before x ts last k head)
in-called home names at before x ts last k head =
    in-numbered at (new_number before x k) (replying_body home (names ++ numbered Arg 0 head.args) head.result ts last) (either (is_entered k before) _ _ refl tt) (in-body home (names ++ numbered Arg 0 head.args) head.result ts last)

call-end : (home : Home) (ops : List OpHead) (names : List Named) (at : Place) (before : List (ℕ × Body)) (x : Tree) (o : Option (List Tree × Tree)) → NotMissing (call_ending home ops names at before x o)
call-end home ops names at before x None = refl
call-end home ops names at before x (Some p) =
    either (is_headed (codes "result") p.1) _ _ (and-then (op_of x ops) _ (in-op x ops) (λ o. in-called home names at before x p.0 p.1 o.0 o.1)) refl

call-parts : (home : Home) (ops : List OpHead) (names : List Named) (at : Place) (before : List (ℕ × Body)) (ts : List Tree) → NotMissing (call_in home ops names at before ts)
call-parts home ops names at before [] = refl
call-parts home ops names at before (x ∷ ts) = call-end home ops names at before x (cut_last ts)

in-calls : (home : Home) (ops : List OpHead) (names : List Named) (ts : List Tree) → NotMissing (calls_of home ops names ts)
in-calls home ops names ts =
    in-each (call home ops names) and_last [] ts (λ before t. and-then (behind_head (codes "call") t) _ (in-head (codes "call") t) (λ us. call-parts home ops names (place_of t) before us))

in-bodies : (c : Circuit) (ops : List OpHead) (ts : List Tree) → NotMissing (bodies c ops ts)
in-bodies c ops ts = and-then (calls_of (Driver (port_names Input 0 (inputs_of c.lines))) ops (port_names Output 0 (outputs_of c.lines)) ts) _ (in-calls _ ops _ ts) (λ es. tt)

-- ---- what stands before them

in-trees : (word : List ℕ) (ts : List Tree) → NotMissing (form_trees word ts)
in-trees word [] = tt
in-trees word (t ∷ ts) = either (is_headed word t) _ _ (in-head word t) tt

in-cell : (names : List Named) (before : List ℕ) (t : Tree) → NotMissing (new_cell names before t)
in-cell names before t = and-then (cell_of names t) _ (and-then (seen_of Device t names) _ (in-seen Device t names) (λ s. tt)) (λ k. either (is_among k before) _ _ refl tt)

in-keep : (cells : List Cell) (ts : List Tree) → NotMissing (keep_of cells ts)
in-keep cells ts =
    and-then (form_trees (codes "persistent") ts) _ (in-trees (codes "persistent") ts) (λ us.
    and-then (named_cells (cell_names 0 cells) us) _ (in-each (new_cell (cell_names 0 cells)) and_last [] us (in-cell (cell_names 0 cells))) (λ kept. tt))

pub in-entry : {A : Type 0} (group : Group) (names : List Named) (before : List (ℕ × A)) (t : Tree) → NotMissing (new_entry group names before t)
in-entry group names before t = and-then (seen_of group t names) _ (in-seen group t names) (λ s. either (is_entered s.slot.number before) _ _ refl tt)

in-idle-word : (s : Seen) (at : Place) (n : ℕ) → NotMissing (idle_word s at n)
in-idle-word s at n = either (is_word (bits s.width n)) _ _ tt refl

in-idled : (inputs : List Named) (before : List (ℕ × Bits)) (x n : Tree) → NotMissing (idled inputs before x n)
in-idled inputs before x n =
    and-then (new_entry groups.Input inputs before x) _ (in-entry groups.Input inputs before x) (λ s. and-then (number_of n) _ (in-number n) (λ value. in-idle-word s (place_of n) value))

idle-parts : (inputs : List Named) (at : Place) (before : List (ℕ × Bits)) (ts : List Tree) → NotMissing (idle_in inputs at before ts)
idle-parts inputs at before [] = refl
idle-parts inputs at before (x ∷ []) = refl
idle-parts inputs at before (x ∷ n ∷ []) = in-idled inputs before x n
idle-parts inputs at before (x ∷ n ∷ t ∷ ts) = refl

in-idle : (inputs : List Port) (ts : List Tree) → NotMissing (idle_of inputs ts)
in-idle inputs ts =
    and-then (form_trees (codes "idle") ts) _ (in-trees (codes "idle") ts) (λ us.
    and-then (idle_entries (port_names Input 0 inputs) us) _ (in-each (idle_entry (port_names Input 0 inputs)) and_last [] us (λ before t. and-then (parts_of t) _ (in-parts t) (λ vs. idle-parts (port_names Input 0 inputs) (place_of t) before vs))) (λ es. tt))

in-driver : (c : Circuit) (ops : List OpHead) (ts : List Tree) → NotMissing (driver_in c ops ts)
in-driver c ops ts =
    and-then (keep_of (cells_of c.lines) ts) _ (in-keep (cells_of c.lines) ts) (λ keep.
    and-then (idle_of (inputs_of c.lines) (behind_form (codes "persistent") ts)) _ (in-idle (inputs_of c.lines) (behind_form (codes "persistent") ts)) (λ idle.
    and-then (bodies c ops (behind_form (codes "idle") (behind_form (codes "persistent") ts))) _ (in-bodies c ops (behind_form (codes "idle") (behind_form (codes "persistent") ts))) (λ bs. tt)))

-- ---- what is refused as missing

abbrev place_in : {A : Type 0} → Place → Result A LangFault → Place
place_in at (Ok x) = at
place_in at (Err f) = f.place

abbrev missing_in : {A : Type 0} → Result A LangFault → Bool
missing_in (Ok x) = false
missing_in (Err f) = is_missing f.why

never : {A : Type 0} (r : Result A LangFault) → NotMissing r → missing_in r ≡ false
never (Ok x) p = refl
never (Err f) p = p

read-on : {A B : Type 0} (r : Result A LangFault) (g : A → Result B LangFault) (at : Place) → NotMissing r → (r >>= g) ≡ fails at Missing → (x : A) × (r ≡ Ok x) × (g x ≡ fails at Missing)
read-on (Ok x) g at p e = (x, refl, e)
read-on (Err f) g at p e = absurd (true≢false (sym (ap missing_in e) ∙ p))

ends : (ts : List Tree) → no_more ts ≡ Ok tt → ts ≡ []
ends [] e = refl
ends (t ∷ ts) e = absurd (true≢false (sym (ap told e))) where
  told : Result (Unit {0}) LangFault → Bool
  told (Ok u) = true
  told (Err f) = false

lacking : (b : Bool) (here at : Place) (r : Result DriverParts LangFault) → NotMissing r → ((if b then Ok tt else fails {A = Unit {0}} here Missing) >>= λ whole. r) ≡ fails at Missing → (b ≡ false) × (at ≡ here)
lacking true here at r p e = absurd (true≢false (sym (ap missing_in e) ∙ never r p))
lacking false here at r p e = (refl, sym (ap (place_in here) e))

in-made : (at : Place) (p : DriverParts) → NotMissing (made at p)
in-made at p = either (driver_fits p) _ _ tt refl

is-lacking : (c : Circuit) (s : SpecParts) (end at : Place) (ts : List Tree) → driver_text c s end ts ≡ fails at Missing → LacksCall c s ts at
is-lacking c s end at [] e = absurd (true≢false (sym (ap missing_in e)))
is-lacking c s end at (t ∷ more) e =
    let a = read-on (behind_head (codes "driver") t) _ at (in-head (codes "driver") t) e in
    let b = read-on (driver_in c s.ops a.0) _ at (in-driver c s.ops a.0) a.2 in
    let d = read-on (no_more more) _ at (at-end more) b.2 in
    let l = lacking (all_called s.ops a.0) (place_of t) at (made (place_of t) b.0) (in-made (place_of t) b.0) d.2 in
    record { tree = t; alone = ap (λ (us : List Tree). t ∷ us) (ends more d.1); place = l.1; inner = a.0; begins = a.1; parts = b.0; read = b.1; lacking = l.0 }

is-told : (c : Circuit) (s : SpecParts) (end at : Place) (ts : List Tree) → LacksCall c s ts at → driver_text c s end ts ≡ fails at Missing
is-told c s end at ts l = rw (l.alone, l.place) (rw l.begins (rw l.read (rw l.lacking refl)))

pub exact : (c : Circuit) (s : SpecParts) (end at : Place) (ts : List Tree) → (driver_text c s end ts ≡ fails at Missing) ↔ LacksCall c s ts at
exact c s end at ts = (is-lacking c s end at ts, is-told c s end at ts)
