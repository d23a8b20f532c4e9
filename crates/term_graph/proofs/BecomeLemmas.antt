-- Terms that rules take to the value of an operator on them.
use Rattle.std.proofs.Common.{◌≡◌, ℕ, List, Option, Some, None, true, sym, ap, ◌∙◌, subst}
use Rattle.std.specs.Prelude.{IfSome}
use Rattle.knox_words.specs.Bits.{Bits, IsWord}
use Rattle.knox_words.specs.Ops.{op2_value, op2_or, fits2_of}
use Rattle.knox_words.specs.declared.op.Op2.{Op2}
use Rattle.knox_words.proofs.Results.{op2_or-value}
use Rattle.term_graph.specs.declared.node.Node.{Node}
use Rattle.term_graph.specs.declared.rules.Rule.{Rule}
use Rattle.term_graph.specs.Value.{value, width_of}
use Rattle.term_graph.specs.Kept.{Gives, IsAlways}
use Rattle.term_graph.specs.Rules.{ruled, is_commutative, same_rule, first_rule, second_rule, Becomes}
use Rattle.term_graph.proofs.WidthLemmas.{value-width, value-IsWord}
use Rattle.term_graph.proofs.FoldLemmas.{gives-same}
use Rattle.term_graph.proofs.RuleLemmas.{same-values, first-values, second-values, or-commuted, fits-commuted}

-- every rule of a table
gathered : (ns : List Node) (t : ℕ) (m : Option Rule) (f : List Bits → Bits) → ((v : List Bits) → IfSome m (λ r. ruled r (value v ns t) ≡ f v)) → IfSome m (λ r. Becomes ns t r f)
gathered ns t None f h = tt
gathered ns t (Some r) f h = record { each = λ v. h v }

-- operands that fit do so under every valuation
fits-values : (ns : List Node) (v : List Bits) (o : Op2) (a b : ℕ) → fits2_of o (width_of ns a) (width_of ns b) ≡ true → fits2_of o (value v ns a).width (value v ns b).width ≡ true
fits-values ns v o a b h = rw (value-width v ns a, value-width v ns b) h

-- values that are equal by cases of a table
carried : (m : Option Rule) (x y z : Bits) → IfSome m (λ r. ruled r x ≡ y) → y ≡ z → IfSome m (λ r. ruled r x ≡ z)
carried None x y z h e = tt
carried (Some r) x y z h e = h ∙ e

pub same-becomes : (ns : List Node) (o : Op2) (a b : ℕ) → a ≡ b → fits2_of o (width_of ns a) (width_of ns b) ≡ true → IfSome (same_rule o (width_of ns a)) (λ r. Becomes ns a r (λ v. op2_or o (value v ns a) (value v ns b)))
same-becomes ns o a b e h = gathered ns a _ _ (λ v.
    let fit : fits2_of o (value v ns a).width (value v ns a).width ≡ true = fits-values ns v o a a (subst (λ (k : ℕ). fits2_of o (width_of ns a) (width_of ns k) ≡ true) (sym e) h) in
    carried (same_rule o (width_of ns a)) (value v ns a) (op2_value o (value v ns a) (value v ns a)) _
    (subst (λ (w : ℕ). IfSome (same_rule o w) (λ r. ruled r (value v ns a) ≡ op2_value o (value v ns a) (value v ns a))) (value-width v ns a) (same-values (value v ns a) (value-IsWord v ns a) o fit))
    (sym (op2_or-value o (value v ns a) (value v ns a) fit) ∙ ap (λ (k : ℕ). op2_or o (value v ns a) (value v ns k)) e))

pub first-becomes : (ns : List Node) (o : Op2) (a b : ℕ) (c : Bits) → IsAlways ns a c → c.width ≡ width_of ns b → fits2_of o (width_of ns a) (width_of ns b) ≡ true → IfSome (first_rule o c) (λ r. Becomes ns b r (λ v. op2_or o (value v ns a) (value v ns b)))
first-becomes ns o a b c is same h = gathered ns b _ _ (λ v.
    let fit : fits2_of o (value v ns a).width (value v ns b).width ≡ true = fits-values ns v o a b h in
    let fit-c : fits2_of o c.width (value v ns b).width ≡ true = subst (λ (x : Bits). fits2_of o x.width (value v ns b).width ≡ true) (is.each v) fit in
    carried (first_rule o c) (value v ns b) (op2_value o c (value v ns b)) _
    (first-values c (value v ns b) (same ∙ sym (value-width v ns b)) (subst IsWord (is.each v) (value-IsWord v ns a)) (value-IsWord v ns b) o fit-c)
    (sym (op2_or-value o c (value v ns b) fit-c) ∙ ap (λ (x : Bits). op2_or o x (value v ns b)) (sym (is.each v))))

pub second-becomes : (ns : List Node) (o : Op2) (a b : ℕ) (c : Bits) → IsAlways ns b c → c.width ≡ width_of ns a → fits2_of o (width_of ns a) (width_of ns b) ≡ true → IfSome (second_rule o c) (λ r. Becomes ns a r (λ v. op2_or o (value v ns a) (value v ns b)))
second-becomes ns o a b c is same h = gathered ns a _ _ (λ v.
    let fit : fits2_of o (value v ns a).width (value v ns b).width ≡ true = fits-values ns v o a b h in
    let fit-c : fits2_of o (value v ns a).width c.width ≡ true = subst (λ (x : Bits). fits2_of o (value v ns a).width x.width ≡ true) (is.each v) fit in
    carried (second_rule o c) (value v ns a) (op2_value o (value v ns a) c) _
    (second-values c (value v ns a) (same ∙ sym (value-width v ns a)) (subst IsWord (is.each v) (value-IsWord v ns b)) (value-IsWord v ns a) o fit-c)
    (sym (op2_or-value o (value v ns a) c fit-c) ∙ ap (λ (x : Bits). op2_or o (value v ns a) x) (sym (is.each v))))

pub gives-becomes : (old new : List Node) (t s : ℕ) (r : Rule) (f : List Bits → Bits) → Becomes old s r f → Gives new t (λ v. ruled r (value v old s)) → Gives new t f
gives-becomes old new t s r f is g = gives-same new t _ f g is.each

pub gives-commuted : (old new : List Node) (t a b : ℕ) (o : Op2) → is_commutative o ≡ true → fits2_of o (width_of old a) (width_of old b) ≡ true → Gives new t (λ v. op2_or o (value v old b) (value v old a)) → Gives new t (λ v. op2_or o (value v old a) (value v old b))
gives-commuted old new t a b o c h g = gives-same new t _ _ g (λ v. sym (or-commuted o (value v old a) (value v old b) c (fits-values old v o a b h)))

pub ruleset becoming = (gives-becomes)

pub ruleset turning = (gives-commuted, fits-commuted)
