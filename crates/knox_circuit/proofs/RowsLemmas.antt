-- The rows of lines: how many there are, and what the rules let them be.
use Rattle.std.proofs.Common.{◌≡◌, ℕ, ◌+◌, ◌<◌, ◌≤◌, nat_lt, nat_le, ◌||◌, ◌==◌, Bool, true, false, List, [], ◌∷◌, ◌++◌, Result, Ok, Err, length, slice_get, get_or, Option, Some, None, zero, suc, refl, sym, ap, ◌∙◌, subst, arith, inl, inr, if◌then◌else◌}
use Rattle.std.proofs.lemmas.Bool.{cases_lt, lt-ltb, le-leb}
use Rattle.std.proofs.lemmas.Option.{get_or_from_slice_get}
use Rattle.circuit_nodes.specs.declared.node.Row.{Row}
use Rattle.circuit_nodes.specs.declared.node.Resolved.{Resolved}
use Rattle.circuit_table.specs.declared.fault.Why.{Why}
use Rattle.circuit_table.specs.declared.fault.Why.TheVariants as why
use Rattle.circuit_table.specs.declared.line.Line.{Line}
use Rattle.circuit_table.specs.Rows.{bind, shape_resolved, last_number, array_words, row_words, accepted, extended_by, added, rows_after, rows_or, rows_of, AreRuled}
use Rattle.circuit_table.specs.Typed.{AreTyped}
use Rattle.circuit_table.specs.Whole.{hungry_at, row_lacks, or_else, unfed_among}
use Rattle.knox_circuit.specs.Circuit.{unfed, line_at}
use Rattle.circuit_table.proofs.RowsLemmas.{rows_after-push, length-more, words-more}
use Rattle.circuit_table.proofs.ShapeLemmas.{shape-typed}

pub rows-known : (ls : List Line) (rows : List Row) → rows_after [] ls ≡ Ok rows → rows_of ls ≡ rows
rows-known ls rows e = ap rows_or e

pub lines-ruled : (ls : List Line) (rows : List Row) → rows_after [] ls ≡ Ok rows → AreRuled ls
lines-ruled ls rows e = e ∙ ap Ok (sym (rows-known ls rows e))

pub grown : (ls : List Line) (l : Line) (rows more : List Row) → rows_after [] ls ≡ Ok rows → added rows l ≡ Ok more → rows_after [] (ls ++ l ∷ []) ≡ Ok more
grown ls l rows more e f = rows_after-push [] ls l ∙ ap (λ r. bind r (λ m. added m l)) e ∙ f

pub ruleset draft_steps = (rows-known, lines-ruled)

-- the line that was pushed last
at-end : (ls : List Line) (l : Line) → slice_get (ls ++ l ∷ []) (length ls) ≡ Some l
at-end [] l = refl
at-end (k ∷ ls) l = at-end ls l

pub last-is : (ls xs pushed : List Line) (l m : Line) (at : ℕ) → pushed ≡ ls ++ l ∷ [] → xs ≡ pushed → at ≡ length ls → m ≡ get_or xs at m → m ≡ l
last-is ls xs pushed l m at p x a is =
    is ∙ (ap (λ z. get_or z at m) (x ∙ p) ∙ (ap (λ k. get_or (ls ++ l ∷ []) k m) a ∙ get_or_from_slice_get (ls ++ l ∷ []) (length ls) l m (at-end ls l)))

-- a line that was pushed and added
pub pushed-rows : (ls pushed : List Line) (l m : Line) (rows more : List Row) → rows_after [] ls ≡ Ok rows → pushed ≡ ls ++ l ∷ [] → m ≡ l → added rows m ≡ Ok more → rows_after [] pushed ≡ Ok more
pushed-rows ls pushed l m rows more e p same f = ap (rows_after []) p ∙ grown ls l rows more e (sym (ap (added rows) same) ∙ f)

pub pushed-added : (ls pushed : List Line) (l m : Line) (rows more : List Row) → rows_after [] ls ≡ Ok rows → pushed ≡ ls ++ l ∷ [] → m ≡ l → added rows m ≡ Ok more → added (rows_of ls) l ≡ Ok (rows_of pushed)
pushed-added ls pushed l m rows more e p same f =
    ap (λ z. added z l) (rows-known ls rows e) ∙ (sym (ap (added rows) same) ∙ (f ∙ ap Ok (sym (rows-known pushed more (pushed-rows ls pushed l m rows more e p same f)))))

-- what holds of rows after a number of lines
pub record AreLimited (rows : List Row) (n : ℕ) : Type 0 where
  pub typed : AreTyped rows
  pub few : length rows ≤ 1000000
  pub words : array_words rows ≤ 65536
  pub long : length rows ≤ n

not-ok : {A : Type 0} (e : Why) (m : List Row) → Err e ≡ Ok m → A
not-ok e m h = absurd (cc)

accepted-limited : (rows more : List Row) (d : Resolved) (n : ℕ) → AreLimited rows n → length rows < 1000000 → AreTyped (extended_by rows d) → accepted rows d ≡ Ok more → AreLimited more (n + 1)
accepted-limited rows more d n h lt typed e = elim (cases_lt 65536 (array_words rows + row_words d.row)) [
  | inl over ↦ not-ok why.TooManyWords more (sym (ap (λ (b : Bool). if b then Err why.TooManyWords else Ok (extended_by rows d)) (lt-ltb 65536 (array_words rows + row_words d.row) over)) ∙ e)
  | inr le ↦
      let is : extended_by rows d ≡ more = of (nat_lt 65536 (array_words rows + row_words d.row)) e in
      let long = length-more rows d in
      let words = words-more rows d in
      subst (λ (z : List Row). AreLimited z (n + 1)) is (record { typed = typed; few = omega (arith, long, lt); words = omega (arith, words, le); long = omega (arith, long, h.long) })
] where
  of : (b : Bool) → (if b then Err why.TooManyWords else Ok (extended_by rows d)) ≡ Ok more → extended_by rows d ≡ more
  of true q = not-ok why.TooManyWords more q
  of false q = cc

shape-limited : (rows more : List Row) (l : Line) (n : ℕ) (r : Result Resolved Why) → AreLimited rows n → length rows < 1000000 → shape_resolved rows l.number l.shape ≡ r → bind r (λ d. accepted rows d) ≡ Ok more → AreLimited more (n + 1)
shape-limited rows more l n (Err w) h lt is e = not-ok w more e
shape-limited rows more l n (Ok d) h lt is e = accepted-limited rows more d n h lt (shape-typed rows l.number l.shape d h.typed (sym is)) e

or-right : (a b : Bool) → (a || b) ≡ false → b ≡ false
or-right true b h = cc
or-right false b h = h

below : (m n : ℕ) → nat_le m n ≡ false → n < m
below m n h = elim (cases_lt n m) [
  | inl lt ↦ lt
  | inr le ↦ let bad : true ≡ false = sym (le-leb m n le) ∙ h in absurd (cc)
]

added-limited : (rows more : List Row) (l : Line) (n : ℕ) → AreLimited rows n → added rows l ≡ Ok more → AreLimited more (n + 1)
added-limited rows more l n h e = first (nat_lt 1000000 l.at || nat_le 1000000 (length rows)) refl e where
  rest : Result Resolved Why
  rest = if l.number == 0 then Err why.Number else if nat_le l.number (last_number rows) then Err why.Order else shape_resolved rows l.number l.shape

  third : (b : Bool) → length rows < 1000000 → bind (if b then Err why.Order else shape_resolved rows l.number l.shape) (λ d. accepted rows d) ≡ Ok more → AreLimited more (n + 1)
  third true lt q = not-ok why.Order more q
  third false lt q = shape-limited rows more l n (shape_resolved rows l.number l.shape) h lt refl q

  second : (b : Bool) → length rows < 1000000 → bind (if b then Err why.Number else if nat_le l.number (last_number rows) then Err why.Order else shape_resolved rows l.number l.shape) (λ d. accepted rows d) ≡ Ok more → AreLimited more (n + 1)
  second true lt q = not-ok why.Number more q
  second false lt q = third (nat_le l.number (last_number rows)) lt q

  first : (b : Bool) → (nat_lt 1000000 l.at || nat_le 1000000 (length rows)) ≡ b → bind (if b then Err why.TooManyLines else if l.number == 0 then Err why.Number else if nat_le l.number (last_number rows) then Err why.Order else shape_resolved rows l.number l.shape) (λ d. accepted rows d) ≡ Ok more → AreLimited more (n + 1)
  first true is q = not-ok why.TooManyLines more q
  first false is q = second (l.number == 0) (below 1000000 (length rows) (or-right (nat_lt 1000000 l.at) (nat_le 1000000 (length rows)) is)) q

none-limited : (n : ℕ) → AreLimited [] n
none-limited n = record { typed = λ k r is. absurd (cc is); few = omega arith; words = omega arith; long = omega arith }

after-limited : (rows : List Row) (ls : List Line) (n : ℕ) → AreLimited rows n → AreLimited (rows_or (rows_after rows ls)) (n + length ls)
after-limited rows [] n h = subst (AreLimited rows) (omega arith) h
after-limited rows (l ∷ ls) n h = of (added rows l) refl (λ more. after-limited more ls (n + 1)) where
  of : (r : Result (List Row) Why) → added rows l ≡ r → ((more : List Row) → AreLimited more (n + 1) → AreLimited (rows_or (rows_after more ls)) (n + 1 + length ls)) → AreLimited (rows_or (bind r (λ more. rows_after more ls))) (n + length (l ∷ ls))
  of (Err w) is rest = none-limited (n + length (l ∷ ls))
  of (Ok more) is rest = subst (AreLimited (rows_or (rows_after more ls))) (omega arith) (rest more (added-limited rows more l n h is))

-- the rows of all lines
pub rows-limited : (lines : List Line) → AreLimited (rows_of lines) (length lines)
rows-limited lines = subst (AreLimited (rows_of lines)) (omega arith) (after-limited [] lines 0 (none-limited 0))

-- the place of the first row that breaks the rule of a whole circuit

found-within : (rows : List Row) (n k : ℕ) → unfed_among rows n ≡ Some k → k < n
found-within rows zero k e = cc
found-within rows (suc i) k e = of (unfed_among rows i) (row_lacks (hungry_at rows i) (slice_get rows i)) (λ j q. found-within rows i j q) e where
  of : (o : Option ℕ) (b : Bool) → ((j : ℕ) → o ≡ Some j → j < i) → or_else o b i ≡ Some k → k < suc i
  of (Some j) b lt q = let same : j ≡ k = cc in let less = lt j refl in omega (arith, same, less)
  of None true lt q = let same : i ≡ k = cc in omega (arith, same)
  of None false lt q = cc

pub line-within : (lines ls : List Line) (rows rs : List Row) (at : ℕ) → rows_after [] lines ≡ Ok rows → rs ≡ rows → ls ≡ lines → unfed_among rs (length rs) ≡ Some at → at < length ls
line-within lines ls rows rs at e r l found =
    let lt = found-within rs (length rs) at found in
    let rows-long = ap length r in
    let same = ap length (rows-known lines rows e) in
    let long = (rows-limited lines).long in
    let lines-long = ap length l in
    omega (arith, lt, rows-long, same, long, lines-long)

pub unfed-known : (lines : List Line) (rows rs : List Row) → rows_after [] lines ≡ Ok rows → rs ≡ rows → unfed lines ≡ line_at lines (unfed_among rs (length rs))
unfed-known lines rows rs e r =
    ap (λ (z : List Row). line_at lines (unfed_among z (length z))) (rows-known lines rows e ∙ sym r)

pub ruleset fed_steps = (rows-known, lines-ruled, unfed-known)
