-- The nodes of a list, one after another.
use Rattle.std.proofs.Common.{◌≡◌, ℕ, suc, ◌-◌, ◌<◌, ℤ, List, [], ◌∷◌, ◌++◌, Ok, Err, refl, sym, ◌∙◌, ap, append_assoc, arith}
use Rattle.std.proofs.lemmas.List.{append-nil}
use Rattle.circuit_table.specs.declared.fault.Why.{Why}
use Rattle.circuit_table.specs.Rows.{bind}
use Rattle.btor_read.specs.Tokens.{Tokens}
use Rattle.btor_read.specs.Grammar.{Read, node_at, nodes_at}

-- nodes, and those that the tokens behind them mean
abbrev pub gathered : List ℤ → Read (List ℤ) → Read (List ℤ)
gathered front r = bind r (λ p. Ok (front ++ p.0, p.1))

gather-first : (front : List ℤ) (a : ℤ) (r : Read (List ℤ)) → gathered front (bind r (λ others. Ok (a ∷ others.0, others.1))) ≡ gathered (front ++ a ∷ []) r
gather-first front a (Err w) = refl
gather-first front a (Ok p) = ap (λ (nodes : List ℤ). Ok (nodes, p.1)) (sym (append_assoc front (a ∷ []) p.0))

abbrev more_nodes : ℕ → Read ℤ → Read (List ℤ)
more_nodes n r = bind r (λ x. bind (nodes_at n x.1) (λ others. Ok (x.0 ∷ others.0, others.1)))

from-first : (n : ℕ) (ts : Tokens) (r : Read ℤ) → 0 < n → node_at ts ≡ r → nodes_at n ts ≡ more_nodes (n - 1) r
from-first n ts r h e =
    let one : n ≡ suc (n - 1) = omega (arith, h) in
    ap (λ (k : ℕ). nodes_at k ts) one ∙ ap (more_nodes (n - 1)) e

pub nodes-start : (r : Read (List ℤ)) → gathered [] r ≡ r
nodes-start (Err w) = refl
nodes-start (Ok p) = refl

pub nodes-more : (front new : List ℤ) (n : ℕ) (ts us : Tokens) (a : ℤ) (whole : Read (List ℤ)) → gathered front (nodes_at n ts) ≡ whole → 0 < n → node_at ts ≡ Ok (a, us) → new ≡ front ++ a ∷ [] → gathered new (nodes_at (n - 1) us) ≡ whole
nodes-more front new n ts us a whole so_far h e is =
    ap (λ (nodes : List ℤ). gathered nodes (nodes_at (n - 1) us)) is
    ∙ (sym (gather-first front a (nodes_at (n - 1) us))
    ∙ (ap (gathered front) (sym (from-first n ts (Ok (a, us)) h e)) ∙ so_far))

pub nodes-none : (front : List ℤ) (n : ℕ) (ts : Tokens) (w : Why) (whole : Read (List ℤ)) → gathered front (nodes_at n ts) ≡ whole → 0 < n → node_at ts ≡ Err w → whole ≡ Err w
nodes-none front n ts w whole so_far h e = sym so_far ∙ ap (gathered front) (from-first n ts (Err w) h e)

pub nodes-end : (front : List ℤ) (n : ℕ) (ts : Tokens) (whole : Read (List ℤ)) → gathered front (nodes_at n ts) ≡ whole → n ≡ 0 → whole ≡ Ok (front, ts)
nodes-end front n ts whole so_far h =
    sym so_far ∙ (ap (λ (k : ℕ). gathered front (nodes_at k ts)) h ∙ ap (λ (nodes : List ℤ). Ok (nodes, ts)) (append-nil front))

pub ruleset node_steps = (nodes-start, nodes-more, nodes-none, nodes-end)
