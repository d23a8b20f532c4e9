-- Kinds of sections: each stands once among those of a device, so sections of each kind are sections of these kinds that differ, as many as there are.
use Rattle.std.proofs.Common.{◌≡◌, ◌∙◌, ℕ, zero, suc, ◌+◌, ◌-◌, ◌<◌, ◌≤◌, ◌==◌, nat_lt, ◌&&◌, not, Option, Some, None, List, [], ◌∷◌, ◌++◌, length, Bool, true, false, if◌then◌else◌, refl, ap, sym, subst, eqb-true, arith}
use Rattle.knox_theory.proofs.Basics.{and-left, and-right}
use Rattle.script_core.specs.declared.parts.Kind.{Kind}
use Rattle.script_core.specs.declared.parts.Kind.TheVariants.{Factory, BootHost, Rest, Wait, Call, Wire}
use Rattle.script_core.specs.declared.parts.Section.{Section}
use Rattle.script_core.specs.Hints.{same_kind, call_kinds, kinds, with_kind, without, are_of}
use Rattle.script_core.specs.Forms.{is_among, stands_in, are_apart}

-- TWO KINDS
pub same-is : (a b : Kind) → same_kind a b ≡ true → a ≡ b
same-is Factory Factory h = refl
same-is Factory BootHost h = cc
same-is Factory Rest h = cc
same-is Factory Wait h = cc
same-is Factory (Call q) h = cc
same-is Factory Wire h = cc
same-is BootHost Factory h = cc
same-is BootHost BootHost h = refl
same-is BootHost Rest h = cc
same-is BootHost Wait h = cc
same-is BootHost (Call q) h = cc
same-is BootHost Wire h = cc
same-is Rest Factory h = cc
same-is Rest BootHost h = cc
same-is Rest Rest h = refl
same-is Rest Wait h = cc
same-is Rest (Call q) h = cc
same-is Rest Wire h = cc
same-is Wait Factory h = cc
same-is Wait BootHost h = cc
same-is Wait Rest h = cc
same-is Wait Wait h = refl
same-is Wait (Call q) h = cc
same-is Wait Wire h = cc
same-is (Call o) Factory h = cc
same-is (Call o) BootHost h = cc
same-is (Call o) Rest h = cc
same-is (Call o) Wait h = cc
same-is (Call o) (Call q) h = ap Call (eqb-true o q h)
same-is (Call o) Wire h = cc
same-is Wire Factory h = cc
same-is Wire BootHost h = cc
same-is Wire Rest h = cc
same-is Wire Wait h = cc
same-is Wire (Call q) h = cc
same-is Wire Wire h = refl

pub same-self : (a : Kind) → same_kind a a ≡ true
same-self Factory = refl
same-self BootHost = refl
same-self Rest = refl
same-self Wait = refl
same-self (Call o) = grind arith
same-self Wire = refl

pub same-of : (a b : Kind) → a ≡ b → same_kind a b ≡ true
same-of a b e = ap (same_kind a) (sym e) ∙ same-self a

-- either way round
pub other-way : (a b : Kind) → same_kind a b ≡ false → same_kind b a ≡ false
other-way a b e = by_test (same_kind b a) refl
  where
    by_test : (t : Bool) → same_kind b a ≡ t → t ≡ false
    by_test true s = sym (same-of a b (sym (same-is b a s))) ∙ e
    by_test false s = refl

-- ONE KIND LESS
pub record Parted (k : Kind) (ks rest : List Kind) : Type 0 where
  pub before : List Kind
  pub behind : List Kind
  pub whole : ks ≡ before ++ k ∷ behind
  pub others : rest ≡ before ++ behind

pub parted : (k : Kind) (ks rest : List Kind) → without k ks ≡ Some rest → Parted k ks rest
parted k [] rest e = cc
parted k (x ∷ xs) rest e = by_test (same_kind k x) refl (without k xs) refl e (λ r w. parted k xs r w)
  where
    by_test : (b : Bool) → same_kind k x ≡ b → (o : Option (List Kind)) → without k xs ≡ o → (if b then Some xs else with_kind x o) ≡ Some rest →
        ((r : List Kind) → without k xs ≡ Some r → Parted k xs r) → Parted k (x ∷ xs) rest
    by_test true s o w e go =
        let same : xs ≡ rest = cc e in
        record { before = []; behind = xs; whole = ap (λ z. z ∷ xs) (sym (same-is k x s)); others = sym same }
    by_test false s None w e go = cc
    by_test false s (Some r) w e go =
        let same : x ∷ r ≡ rest = cc e in
        let p = go r w in
        record { before = x ∷ p.before; behind = p.behind; whole = ap (λ z. x ∷ z) p.whole; others = sym same ∙ ap (λ z. x ∷ z) p.others }

-- whether no kind stands twice
abbrev pub all_once : List Kind → Bool
all_once [] = true
all_once (k ∷ ks) = not (is_among k ks) && all_once ks

-- what is said of a kind that is taken out
pub record Without (k : Kind) (ks rest : List Kind) : Type 0 where
  pub there : is_among k ks ≡ true
  pub once : all_once rest ≡ true
  pub count : length ks ≡ suc (length rest)
  pub among : (x : Kind) → is_among x rest ≡ (if same_kind k x then false else is_among x ks)

pub not-true : (b : Bool) → not b ≡ true → b ≡ false
not-true true e = cc
not-true false e = refl

not-false : (b : Bool) → b ≡ false → not b ≡ true
not-false b e = ap not e

pub taken-out : (k : Kind) (ks rest : List Kind) → all_once ks ≡ true → without k ks ≡ Some rest → Without k ks rest
taken-out k [] rest once e = cc
taken-out k (y ∷ ys) rest once e = by_test (same_kind k y) refl (without k ys) refl e (λ r w. taken-out k ys r once_behind w)
  where
    apart : is_among y ys ≡ false
    apart = not-true (is_among y ys) (and-left (not (is_among y ys)) (all_once ys) once)

    once_behind : all_once ys ≡ true
    once_behind = and-right (not (is_among y ys)) (all_once ys) once

    -- where it is the first one
    first : k ≡ y → (x : Kind) → is_among x ys ≡ (if same_kind k x then false else (if same_kind x y then true else is_among x ys))
    first is x = by_same (same_kind k x) refl
      where
        by_same : (b : Bool) → same_kind k x ≡ b → is_among x ys ≡ (if b then false else (if same_kind x y then true else is_among x ys))
        by_same true s = ap (λ z. is_among z ys) (sym (same-is k x s) ∙ is) ∙ apart
        by_same false s =
            let other : same_kind x y ≡ false = ap (same_kind x) (sym is) ∙ other-way k x s in
            ap (λ b. if b then true else is_among x ys) (sym other)

    -- where it stands behind
    later : (r : List Kind) → same_kind k y ≡ false → ((x : Kind) → is_among x r ≡ (if same_kind k x then false else is_among x ys)) →
        (x : Kind) → (if same_kind x y then true else is_among x r) ≡ (if same_kind k x then false else (if same_kind x y then true else is_among x ys))
    later r s more x = by_both (same_kind x y) refl (same_kind k x) refl (more x)
      where
        by_both : (a : Bool) → same_kind x y ≡ a → (b : Bool) → same_kind k x ≡ b → is_among x r ≡ (if b then false else is_among x ys) →
            (if a then true else is_among x r) ≡ (if b then false else (if a then true else is_among x ys))
        by_both true p true q m = sym (same-of k y (same-is k x q ∙ same-is x y p)) ∙ s
        by_both true p false q m = refl
        by_both false p true q m = m
        by_both false p false q m = m

    by_test : (b : Bool) → same_kind k y ≡ b → (o : Option (List Kind)) → without k ys ≡ o → (if b then Some ys else with_kind y o) ≡ Some rest →
        ((r : List Kind) → without k ys ≡ Some r → Without k ys r) → Without k (y ∷ ys) rest
    by_test true s o w e go =
        let same : ys ≡ rest = cc e in
        subst (Without k (y ∷ ys)) same (record {
          there = ap (λ b. if b then true else is_among k ys) s;
          once = once_behind;
          count = refl;
          among = first (same-is k y s);
        })
    by_test false s None w e go = cc
    by_test false s (Some r) w e go =
        let same : y ∷ r ≡ rest = cc e in
        let m = go r w in
        let gone : is_among y r ≡ false = m.among y ∙ (ap (λ b. if b then false else is_among y ys) s ∙ apart) in
        subst (Without k (y ∷ ys)) same (record {
          there = ap (λ b. if b then true else is_among k ys) s ∙ m.there;
          once = ap (λ b. b && all_once r) (not-false (is_among y r) gone) ∙ m.once;
          count = ap suc m.count;
          among = later r s m.among;
        })

pub not-there : (k : Kind) (ks : List Kind) → without k ks ≡ None → is_among k ks ≡ false
not-there k [] e = refl
not-there k (y ∷ ys) e = by_test (same_kind k y) refl (without k ys) refl e (λ w. not-there k ys w)
  where
    by_test : (b : Bool) → same_kind k y ≡ b → (o : Option (List Kind)) → without k ys ≡ o → (if b then Some ys else with_kind y o) ≡ None →
        (without k ys ≡ None → is_among k ys ≡ false) → (if b then true else is_among k ys) ≡ false
    by_test true s o w e go = cc
    by_test false s None w e go = go w
    by_test false s (Some r) w e go = cc

-- EACH ONCE
shuffle : (a n s r : Bool) → a && (n && (s && r)) ≡ s && (a && (n && r))
shuffle true true s r = refl
shuffle true false true r = refl
shuffle true false false r = refl
shuffle false n true r = refl
shuffle false n false r = refl

-- sections of the kinds that are left are sections of all of them, none of which is of the one that is taken out
apart-rest : (k : Kind) (ks rest : List Kind) → Without k ks rest → (ss : List Section) → are_apart rest ss ≡ not (stands_in k ss) && are_apart ks ss
apart-rest k ks rest w [] = refl
apart-rest k ks rest w (s ∷ ss) = by_test (same_kind k s.kind) (w.among s.kind) (apart-rest k ks rest w ss)
  where
    by_test : (b : Bool) → is_among s.kind rest ≡ (if b then false else is_among s.kind ks) → are_apart rest ss ≡ not (stands_in k ss) && are_apart ks ss →
        is_among s.kind rest && (not (stands_in s.kind ss) && are_apart rest ss) ≡ not (if b then true else stands_in k ss) && (is_among s.kind ks && (not (stands_in s.kind ss) && are_apart ks ss))
    by_test true m more = ap (λ b. b && (not (stands_in s.kind ss) && are_apart rest ss)) m
    by_test false m more =
        (λ i. m i && (not (stands_in s.kind ss) && more i)) ∙ shuffle (is_among s.kind ks) (not (stands_in s.kind ss)) (not (stands_in k ss)) (are_apart ks ss)

and-false : (b : Bool) → b && false ≡ false
and-false true = refl
and-false false = refl

next-same : (m n : ℕ) → suc m == suc n ≡ m == n
next-same m n = by_test (m == n) refl
  where
    by_test : (b : Bool) → m == n ≡ b → suc m == suc n ≡ b
    by_test true e = grind (arith, e)
    by_test false e = grind (arith, e)

pub each-once : (ss : List Section) (ks : List Kind) → all_once ks ≡ true → are_of ss (Some ks) ≡ (length ss == length ks) && are_apart ks ss
each-once [] [] once = refl
each-once [] (k ∷ ks) once =
    let other : 0 == suc (length ks) ≡ false = grind arith in
    sym (ap (λ b. b && true) other)
each-once (s ∷ ss) ks once = by_test (without s.kind ks) refl (λ rest o. each-once ss rest o)
  where
    by_test : (o : Option (List Kind)) → without s.kind ks ≡ o → ((rest : List Kind) → all_once rest ≡ true → are_of ss (Some rest) ≡ (length ss == length rest) && are_apart rest ss) →
        are_of ss o ≡ (suc (length ss) == length ks) && (is_among s.kind ks && (not (stands_in s.kind ss) && are_apart ks ss))
    by_test None w go =
        sym (ap (λ b. (suc (length ss) == length ks) && (b && (not (stands_in s.kind ss) && are_apart ks ss))) (not-there s.kind ks w) ∙ and-false (suc (length ss) == length ks))
    by_test (Some rest) w go =
        let t = taken-out s.kind ks rest once w in
        go rest t.once
        ∙ ((λ i. sym (next-same (length ss) (length rest)) i && apart-rest s.kind ks rest t ss i)
        ∙ (λ i. (suc (length ss) == sym t.count i) && (sym t.there i && (not (stands_in s.kind ss) && are_apart ks ss))))

-- THE KINDS OF A DEVICE
no-call : (k : Kind) (n : ℕ) → ((o : ℕ) → same_kind k (Call o) ≡ false) → is_among k (call_kinds n) ≡ false
no-call k zero other = refl
no-call k (suc o) other = ap (λ b. if b then true else is_among k (call_kinds o)) (other o) ∙ no-call k o other

pub call-among : (o n : ℕ) → is_among (Call o) (call_kinds n) ≡ nat_lt o n
call-among o zero = grind arith
call-among o (suc n) = by_test (o == n) refl (call-among o n)
  where
    by_test : (b : Bool) → o == n ≡ b → is_among (Call o) (call_kinds n) ≡ nat_lt o n → (if b then true else is_among (Call o) (call_kinds n)) ≡ nat_lt o (suc n)
    by_test true e more = grind arith
    by_test false e more = more ∙ grind arith

calls-once : (n : ℕ) → all_once (call_kinds n) ≡ true
calls-once zero = refl
calls-once (suc o) =
    let gone : is_among (Call o) (call_kinds o) ≡ false = call-among o o ∙ grind arith in
    ap (λ b. not b && all_once (call_kinds o)) gone ∙ calls-once o

pub kinds-once : (ops : ℕ) → all_once (kinds ops) ≡ true
kinds-once ops =
    (λ i. not (no-call Wire ops (λ o. refl) i) && (not (no-call Factory ops (λ o. refl) i) && (not (no-call BootHost ops (λ o. refl) i) && (not (no-call Rest ops (λ o. refl) i) && (not (no-call Wait ops (λ o. refl) i) && calls-once ops i)))))

call-count : (n : ℕ) → length (call_kinds n) ≡ n
call-count zero = refl
call-count (suc n) = ap suc (call-count n)

pub kind-count : (ops : ℕ) → length (kinds ops) ≡ 5 + ops
kind-count ops = ap (λ n. suc (suc (suc (suc (suc n))))) (call-count ops) ∙ omega arith

-- what sections of each kind are
pub of-kinds : (ops : ℕ) (ss : List Section) → are_of ss (Some (kinds ops)) ≡ (length ss == 5 + ops) && are_apart (kinds ops) ss
of-kinds ops ss = each-once ss (kinds ops) (kinds-once ops) ∙ ap (λ n. (length ss == n) && are_apart (kinds ops) ss) (kind-count ops)

-- as the code counts them
pub too-few : (ops n : ℕ) (ss : List Section) → n ≡ length ss → n < 5 → false ≡ are_of ss (Some (kinds ops))
too-few ops n ss e lt =
    let other : length ss == 5 + ops ≡ false = grind (arith, e, lt) in
    sym (of-kinds ops ss ∙ ap (λ b. b && are_apart (kinds ops) ss) other)

pub other-count : (ops n : ℕ) (ss : List Section) → n ≡ length ss → 5 ≤ n → (n - 5 ≡ ops → ⊥) → false ≡ are_of ss (Some (kinds ops))
other-count ops n ss e le differ =
    let other : length ss == 5 + ops ≡ false = grind (arith, e, le, differ) in
    sym (of-kinds ops ss ∙ ap (λ b. b && are_apart (kinds ops) ss) other)

pub right-count : (ops n : ℕ) (a : Bool) (ss : List Section) → n ≡ length ss → 5 ≤ n → n - 5 ≡ ops → a ≡ are_apart (kinds ops) ss → a ≡ are_of ss (Some (kinds ops))
right-count ops n a ss e le is apart =
    let same : length ss == 5 + ops ≡ true = grind (arith, e, le, is) in
    apart ∙ sym (of-kinds ops ss ∙ ap (λ b. b && are_apart (kinds ops) ss) same)

-- a section of each kind stands there
pub all-there : (ss : List Section) (ks : List Kind) (k : Kind) → all_once ks ≡ true → are_of ss (Some ks) ≡ true → is_among k ks ≡ true → stands_in k ss ≡ true
all-there [] [] k once e a = cc
all-there [] (x ∷ ks) k once e a = cc
all-there (s ∷ ss) ks k once e a = by_option (without s.kind ks) refl e (λ rest o f b. all-there ss rest k o f b)
  where
    by_option : (o : Option (List Kind)) → without s.kind ks ≡ o → are_of ss o ≡ true → ((rest : List Kind) → all_once rest ≡ true → are_of ss (Some rest) ≡ true → is_among k rest ≡ true → stands_in k ss ≡ true) →
        (if same_kind k s.kind then true else stands_in k ss) ≡ true
    by_option None w f go = cc
    by_option (Some rest) w f go = by_test (same_kind k s.kind) refl
      where
        by_test : (b : Bool) → same_kind k s.kind ≡ b → (if b then true else stands_in k ss) ≡ true
        by_test true t = refl
        by_test false t =
            let out = taken-out s.kind ks rest once w in
            let left : is_among k rest ≡ true = out.among k ∙ (ap (λ b. if b then false else is_among k ks) (other-way k s.kind t) ∙ a) in
            go rest out.once f left
