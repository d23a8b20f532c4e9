-- What statements do to the words of the spaces, and to whoever answers their queries. The
-- language is the project's own.
use Rattle.std.specs.Prelude.{ℕ, zero, suc, ◌+◌, ◌==◌, List, [], ◌∷◌, ◌++◌, map, if◌then◌else◌}
use Rattle.std.specs.List.{fold}
use Rattle.knox_words.specs.Bits.{Bits, word_or}
use Rattle.knox_lang.specs.declared.scope.Spaces.{Spaces}
use Rattle.knox_lang.specs.declared.expr.Slot.{Slot}
use Rattle.knox_lang.specs.declared.expr.Stmt.{Stmt, fold-Stmt}
use Rattle.knox_lang.specs.declared.expr.Stmt.TheOpen.{Stmt-F}
use Rattle.knox_lang.specs.Scope.{scope, put_in}
use Rattle.knox_lang.specs.Eval.{Calls, eval, values}

-- an operation by its number, with arguments: what is replied, and what the one who is asked is afterwards
pub record Answering (A : Type 0) : Type 0 where
  pub reply : A → ℕ → List Bits → Bits
  pub after : A → ℕ → List Bits → A

-- what a statement makes of the words and of the one who is asked, under the bound variables
abbrev pub Does : Type 0 → Type 0
Does A = Spaces × A → List Bits → Spaces × A

-- one statement after another
abbrev pub in_order : (A : Type 0) → List (Does A) → Does A
in_order A ds st bound = fold (λ (x : Spaces × A) (d : Does A). d x bound) st ds

-- n turns, with the number of the turn bound
abbrev pub turns : (A : Type 0) → Does A → ℕ → ℕ → Does A
turns A d w zero st bound = st
turns A d w (suc n) st bound = d (turns A d w n st bound) (bound ++ word_or w n ∷ [])

-- asks, and puts the reply where the slot says
abbrev pub asks : (A : Type 0) → Answering A → Slot → ℕ → List Bits → Spaces × A → Spaces × A
asks A q s k args st = (put_in st.0 s.space s.number (q.reply st.1 k args), q.after st.1 k args)

-- one level of a statement, over what its parts do
abbrev pub stmt_level : (A : Type 0) → Calls → Answering A → Stmt-F (Does A) → Does A
stmt_level A calls q (Stmt-F.Assign s e) st bound = (put_in st.0 s.space s.number (eval calls e (scope st.0 bound)), st.1)
stmt_level A calls q (Stmt-F.Store s i e) st bound = (put_in st.0 s.space (s.number + (eval calls i (scope st.0 bound)).value) (eval calls e (scope st.0 bound)), st.1)
stmt_level A calls q (Stmt-F.If c as' bs) st bound = if (eval calls c (scope st.0 bound)).value == 1 then in_order A as' st bound else in_order A bs st bound
stmt_level A calls q (Stmt-F.For w n body) st bound = turns A (in_order A body) w n st bound
stmt_level A calls q (Stmt-F.Query s k args) st bound = asks A q s k (values (map (eval calls) args) (scope st.0 bound)) st
stmt_level A calls q _ st bound = st

-- what a statement does
abbrev pub does : (A : Type 0) → Calls → Answering A → Stmt → Does A
does A calls q s = fold-Stmt (Does A) (stmt_level A calls q) s

-- what statements do in order
abbrev pub does_all : (A : Type 0) → Calls → Answering A → List Stmt → Does A
does_all A calls q ss = in_order A (map (does A calls q) ss)
