-- What constructors give: the widths of new nodes, and terms whose operands are words under every valuation.
use Rattle.std.proofs.Common.{◌≡◌, ℕ, zero, suc, ◌+◌, ◌-◌, ◌*◌, ◌%◌, ◌<◌, ◌≤◌, ◌==◌, List, [], append-nil, append_assoc, ◌++◌, length, length-append, take, slice_get, Some, ◌^◌, Bool, true, false, refl, sym, ap, ◌∙◌, subst, arith, if◌then◌else◌}
use Rattle.std.proofs.lemmas.Bool.{le-leb, lt-ltb}
use Rattle.std.proofs.lemmas.List.{length-take-le}
use Rattle.std.proofs.Math.Nat.{mod_self, mod-eq_of_lt, mod-add-mod, add-mul-mod_self_right}
use Rattle.std.specs.Cmp.{nat_eq_equiv}
use Rattle.knox_words.specs.Bits.{Bits, bits, IsWord, word_or, ite_value}
use Rattle.knox_words.specs.Ops.{op1_value, op2_value, op2_or, op1_width, op2_width, fits2_of, sext_or, uext_or, slice_or, sext_value, uext_value}
use Rattle.knox_words.specs.declared.op.Op1.{Op1}
use Rattle.knox_words.specs.declared.op.Op1.TheVariants.{Not, Neg, Inc, Dec}
use Rattle.knox_words.specs.declared.op.Op2.{Op2}
use Rattle.knox_words.proofs.Results.{op1_value-width, op2_value-width}
use Rattle.term_graph.specs.declared.node.Node.{Node}
use Rattle.term_graph.specs.declared.node.Node.TheVariants as node
use Rattle.term_graph.specs.Value.{value, width_of, ite_or}
use Rattle.term_graph.specs.Built.{IsBuilt}
use Rattle.term_graph.specs.Rules.{undoes}
use Rattle.term_graph.proofs.ValueLemmas.{value-node}
use Rattle.term_graph.proofs.WidthLemmas.{value-width, value-IsWord}
use Rattle.term_graph.specs.Kept.{Keeps, Gives, IsAlways}
use Rattle.term_graph.proofs.BuiltLemmas.{word_or-same}

-- the widths of new nodes

pub width-word : (w : Bits) → IsWord w → w.width ≡ (word_or w.width w.value).width
width-word w is = ap (λ (x : Bits). x.width) (sym (word_or-same w is))

pub width-un : (o : Op1) (a : Bits) → op1_width o a.width ≡ (op1_value o a).width
width-un o a = sym (op1_value-width o a)

pub width-bin : (o : Op2) (a b : Bits) → fits2_of o a.width b.width ≡ true → op2_width o a.width b.width ≡ (op2_or o a b).width
width-bin o a b h = sym (op2_value-width o a b) ∙ ap (λ (t : Bool). (if t then op2_value o a b else bits 1 0).width) (sym h)

pub width-sext : (a : Bits) (n : ℕ) → a.width + n ≤ 128 → a.width + n ≡ (sext_or a n).width
width-sext a n h = ap (λ (t : Bool). (if t then sext_value a n else bits 1 0).width) (sym (le-leb (a.width + n) 128 h))

pub width-uext : (a : Bits) (n : ℕ) → a.width + n ≤ 128 → a.width + n ≡ (uext_or a n).width
width-uext a n h = ap (λ (t : Bool). (if t then uext_value a n else bits 1 0).width) (sym (le-leb (a.width + n) 128 h))

pub width-slice : (a : Bits) (h l : ℕ) → l ≤ h → h < a.width → h - l + 1 ≡ (slice_or a h l).width
width-slice a h l p q = rw (le-leb l h p, lt-ltb h a.width q) refl

pub width-ite : (c a b : Bits) → a.width ≡ b.width → a.width ≡ (ite_or c a b).width
width-ite c a b h = by_test (c.value == 1) ∙ ap (λ (t : Bool). (if t then ite_value c a b else bits 1 0).width) (sym (subst (λ (k : ℕ). (a.width == k) ≡ true) h (nat_eq_equiv.refl a.width)))
  where
    by_test : (t : Bool) → a.width ≡ (if t then a else b).width
    by_test true = refl
    by_test false = h

pub ruleset new_widths = (width-word, width-un, width-bin, width-sext, width-uext, width-slice, width-ite)

-- nothing is new

pub keeps-same : (ns : List Node) → Keeps ns ns
keeps-same ns = record { more = []; longer = sym (append-nil ns); vars = refl; values = λ v t h. refl }

pub keeps-within : (a b : List Node) (t : ℕ) → Keeps a b → t < length a → t < length b
keeps-within a b t p h = omega (arith, ap length p.longer, length-append a p.more)

pub keeps-on : (a b c : List Node) → Keeps a b → Keeps b c → Keeps a c
keeps-on a b c p q = record {
  more = p.more ++ q.more;
  longer = q.longer ∙ (ap (λ (ns : List Node). ns ++ q.more) p.longer ∙ append_assoc a p.more q.more);
  vars = q.vars ∙ p.vars;
  values = λ v t h. q.values v t (keeps-within a b t p h) ∙ p.values v t h;
}

pub keeps-width : (a b : List Node) (t : ℕ) → Keeps a b → t < length a → width_of b t ≡ width_of a t
keeps-width a b t p h = ap (λ (x : Bits). x.width) (p.values [] t h)

pub gives-width : (ns : List Node) (t : ℕ) (x : Bits) → Gives ns t (λ v. x) → width_of ns t ≡ x.width
gives-width ns t x g = ap (λ (y : Bits). y.width) (g.gives [])

pub ruleset keeping = (keeps-on, keeps-within)

pub gives-same : (ns : List Node) (t : ℕ) (f g : List Bits → Bits) → Gives ns t f → ((v : List Bits) → f v ≡ g v) → Gives ns t g
gives-same ns t f g is same = record { within = is.within; gives = λ v. is.gives v ∙ same v }

-- operands that are words

pub fold-un : (old new : List Node) (t a : ℕ) (o : Op1) (x : Bits) → IsAlways old a x → Gives new t (λ v. op1_value o x) → Gives new t (λ v. op1_value o (value v old a))
fold-un old new t a o x is g = gives-same new t _ _ g (λ v. ap (op1_value o) (sym (is.each v)))

pub fold-bin : (old new : List Node) (t a b : ℕ) (o : Op2) (x y : Bits) → IsAlways old a x → IsAlways old b y → Gives new t (λ v. op2_or o x y) → Gives new t (λ v. op2_or o (value v old a) (value v old b))
fold-bin old new t a b o x y p q g = gives-same new t _ _ g (λ v. rw (p.each v, q.each v) refl)

pub fold-sext : (old new : List Node) (t a n : ℕ) (x : Bits) → IsAlways old a x → Gives new t (λ v. sext_or x n) → Gives new t (λ v. sext_or (value v old a) n)
fold-sext old new t a n x is g = gives-same new t _ _ g (λ v. ap (λ (y : Bits). sext_or y n) (sym (is.each v)))

pub fold-uext : (old new : List Node) (t a n : ℕ) (x : Bits) → IsAlways old a x → Gives new t (λ v. uext_or x n) → Gives new t (λ v. uext_or (value v old a) n)
fold-uext old new t a n x is g = gives-same new t _ _ g (λ v. ap (λ (y : Bits). uext_or y n) (sym (is.each v)))

pub fold-slice : (old new : List Node) (t a h l : ℕ) (x : Bits) → IsAlways old a x → Gives new t (λ v. slice_or x h l) → Gives new t (λ v. slice_or (value v old a) h l)
fold-slice old new t a h l x is g = gives-same new t _ _ g (λ v. ap (λ (y : Bits). slice_or y h l) (sym (is.each v)))

-- a choice whose arms are equal, or whose condition is a word

pub chosen : (c a b : Bits) → a.width ≡ b.width → ite_or c a b ≡ ite_value c a b
chosen c a b h = ap (λ (t : Bool). if t then ite_value c a b else bits 1 0) (subst (λ (k : ℕ). (a.width == k) ≡ true) h (nat_eq_equiv.refl a.width))

pub alike : (ns : List Node) (a b : ℕ) → width_of ns a ≡ width_of ns b → (v : List Bits) → (value v ns a).width ≡ (value v ns b).width
alike ns a b h v = value-width v ns a ∙ (h ∙ sym (value-width v ns b))

pub choose-equal : (ns : List Node) (c a b : ℕ) → a < length ns → width_of ns a ≡ width_of ns b → a ≡ b → Gives ns a (λ v. ite_or (value v ns c) (value v ns a) (value v ns b))
choose-equal ns c a b h w e = record {
  within = h;
  gives = λ v. by_test ((value v ns c).value == 1) (value v ns a) (value v ns b) (ap (value v ns) e) ∙ sym (chosen (value v ns c) (value v ns a) (value v ns b) (alike ns a b w v));
}
  where
    by_test : (t : Bool) (x y : Bits) → x ≡ y → x ≡ (if t then x else y)
    by_test true x y p = refl
    by_test false x y p = p

pub choose-first : (ns : List Node) (c a b : ℕ) (x : Bits) → a < length ns → width_of ns a ≡ width_of ns b → IsAlways ns c x → (x.value == 1) ≡ true → Gives ns a (λ v. ite_or (value v ns c) (value v ns a) (value v ns b))
choose-first ns c a b x h w is one = record {
  within = h;
  gives = λ v. ap (λ (t : Bool). if t then value v ns a else value v ns b) (sym (ap (λ (y : Bits). y.value == 1) (is.each v) ∙ one)) ∙ sym (chosen (value v ns c) (value v ns a) (value v ns b) (alike ns a b w v));
}

pub choose-second : (ns : List Node) (c a b : ℕ) (x : Bits) → b < length ns → width_of ns a ≡ width_of ns b → IsAlways ns c x → (x.value == 1) ≡ false → Gives ns b (λ v. ite_or (value v ns c) (value v ns a) (value v ns b))
choose-second ns c a b x h w is one = record {
  within = h;
  gives = λ v. ap (λ (t : Bool). if t then value v ns a else value v ns b) (sym (ap (λ (y : Bits). y.value == 1) (is.each v) ∙ one)) ∙ sym (chosen (value v ns c) (value v ns a) (value v ns b) (alike ns a b w v));
}

-- a choice whose condition is turned

turned-choice : (c a b : Bits) → IsWord c → c.width ≡ 1 → a.width ≡ b.width → ite_or (op1_value Not c) b a ≡ ite_or c a b
turned-choice c a b is one same =
    chosen (op1_value Not c) b a (sym same)
    ∙ (ap (λ (k : ℕ). if (2 ^ k - 1 - c.value) == 1 then b else a) one
    ∙ (other c.value (subst (λ (k : ℕ). c.value < 2 ^ k) one is.fits) ∙ sym (chosen c a b same)))
  where
    other : (n : ℕ) → n < 2 → (if (1 - n) == 1 then b else a) ≡ (if n == 1 then a else b)
    other zero h = refl
    other (suc zero) h = refl
    other (suc (suc n)) h = absurd (omega arith)

pub undone-width : (ns : List Node) (c d : ℕ) → Gives ns d (λ v. op1_value Not (value v ns c)) → width_of ns d ≡ width_of ns c
undone-width ns c d g = ap (λ (x : Bits). x.width) (g.gives [])

pub gives-turned_choice : (old new : List Node) (t c d a b : ℕ) → Gives old d (λ v. op1_value Not (value v old c)) → width_of old c ≡ 1 → width_of old a ≡ width_of old b → Gives new t (λ v. ite_or (value v old d) (value v old b) (value v old a)) → Gives new t (λ v. ite_or (value v old c) (value v old a) (value v old b))
gives-turned_choice old new t c d a b n one same g = gives-same new t _ _ g (λ v.
    ap (λ (x : Bits). ite_or x (value v old b) (value v old a)) (n.gives v)
    ∙ turned-choice (value v old c) (value v old a) (value v old b) (value-IsWord v old c) (value-width v old c ∙ one) (alike old a b same v))

pub ruleset turning_choice = (undone-width, gives-turned_choice)

pub ruleset choosing = (choose-equal, choose-first, choose-second)

-- an operator that undoes another

negated-twice : (a m : ℕ) → a < m → (m - (m - a) % m) % m ≡ a
negated-twice zero m h =
    let whole : m - 0 ≡ m = omega arith in
    ap (λ (n : ℕ). (m - n % m) % m) whole ∙ (ap (λ (n : ℕ). (m - n) % m) (mod_self m) ∙ (ap (λ (n : ℕ). n % m) whole ∙ mod_self m))
negated-twice (suc a) m h =
    let less : m - suc a < m = omega arith in
    let back : m - (m - suc a) ≡ suc a = omega arith in
    ap (λ (n : ℕ). (m - n) % m) (mod-eq_of_lt less) ∙ (ap (λ (n : ℕ). n % m) back ∙ mod-eq_of_lt h)

-- two steps that make a whole turn
whole_turn : (a b c m : ℕ) → a < m → b + c ≡ m → ((a + b) % m + c) % m ≡ a
whole_turn a b c m h e =
    let sum : a + b + c ≡ a + 1 * m = omega arith in
    mod-add-mod (a + b) m c ∙ (ap (λ (n : ℕ). n % m) sum ∙ (add-mul-mod_self_right a 1 m ∙ mod-eq_of_lt h))

pub undone-value : (o i : Op1) (x : Bits) → IsWord x → undoes o i ≡ true → op1_value o (op1_value i x) ≡ x
undone-value Not Not x is u =
    let below : x.value < 2 ^ x.width = is.fits in
    let back : 2 ^ x.width - 1 - (2 ^ x.width - 1 - x.value) ≡ x.value = omega arith in
    ap (bits x.width) back
undone-value Neg Neg x is u = ap (bits x.width) (negated-twice x.value (2 ^ x.width) is.fits)
undone-value Inc Dec x is u =
    let below : x.value < 2 ^ x.width = is.fits in
    ap (bits x.width) (whole_turn x.value (2 ^ x.width - 1) 1 (2 ^ x.width) is.fits (omega arith))
undone-value Dec Inc x is u =
    let below : x.value < 2 ^ x.width = is.fits in
    ap (bits x.width) (whole_turn x.value 1 (2 ^ x.width - 1) (2 ^ x.width) is.fits (omega arith))
undone-value _ _ x is u = cc

pub gives-undone : (ns : List Node) (a x : ℕ) (o i : Op1) → IsBuilt ns → slice_get ns a ≡ Some (node.Un i x) → a < length ns → undoes o i ≡ true → Gives ns x (λ v. op1_value o (value v ns a))
gives-undone ns a x o i built e h u =
    let under : x < length (take a ns) = (built.each a (node.Un i x) e).below in
    let long : length (take a ns) ≡ a = length-take-le a ns (omega arith) in
    record {
      within = omega arith;
      gives = λ v. sym (ap (op1_value o) (value-node v ns a (node.Un i x) built e) ∙ undone-value o i (value v ns x) (value-IsWord v ns x) u);
    }

pub ruleset folding = (keeps-same, fold-un, fold-bin, fold-sext, fold-uext, fold-slice, width-word, width-un, width-bin, width-sext, width-uext, width-slice, width-ite)
