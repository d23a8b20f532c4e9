-- A script of the form, taken apart: its sections with their hints, the items of `wire`, and its segments in the order of the text.
use Rattle.std.proofs.Common.{◌≡◌, ◌∙◌, ℕ, suc, ◌+◌, ◌-◌, ◌<◌, ◌≤◌, ◌==◌, not, nat_le, Some, List, [], ◌∷◌, ◌++◌, length, Bool, true, false, if◌then◌else◌, refl, ap, sym, subst, eqb-true, arith}
use Rattle.knox_theory.proofs.Basics.{and-left, and-right}
use Rattle.knox_lang.specs.declared.expr.Expr.{Expr}
use Rattle.script_core.specs.declared.parts.HintNo.{HintNo}
use Rattle.script_core.specs.declared.parts.Act.{Act}
use Rattle.script_core.specs.declared.parts.Act.TheVariants as act
use Rattle.script_core.specs.declared.parts.Item.{Item}
use Rattle.script_core.specs.declared.parts.Kind.{Kind}
use Rattle.script_core.specs.declared.parts.Kind.TheVariants.{Factory, BootHost, Rest, Wait, Call, Wire}
use Rattle.script_core.specs.declared.parts.Root.TheVariants.{OfKind, OfCut}
use Rattle.script_core.specs.declared.parts.Section.{Section}
use Rattle.script_core.specs.declared.parts.ScriptParts.{ScriptParts}
use Rattle.script_core.specs.Hints.{same_kind, is_wire, is_cut, is_tick, leads_to, is_loop, is_empty, items_fit, are_numbered, kinds, are_of, script_fits, ops_of, hint_of_kind, items_of_kind, wire_items, hint_count, roots_of, roots}
use Rattle.script_core.specs.Forms.{is_among, stands_in, are_apart, own_hints, last_item_hint, last_hint, segment_number}
use Rattle.script_core.proofs.EachKind.{same-is, same-self, same-of, not-true, kinds-once, of-kinds, all-there}

-- THE ITEMS of a `wire` with hint h: a cut with this condition, a step of one tick, and a subsume of the cut
abbrev pub numbered : ℕ → HintNo
numbered n = record { 0 = n }

abbrev pub behind : ℕ → List Item
behind h = record { hint = numbered (h + 2); act = act.Step 1 } ∷ record { hint = numbered (h + 3); act = act.Subsume (numbered (h + 1)) } ∷ []

abbrev pub loop_items : ℕ → Expr → List Item
loop_items h c = record { hint = numbered (h + 1); act = act.Cut c } ∷ behind h

record IsTheCut (a : Act) : Type 0 where
  condition : Expr
  same : a ≡ act.Cut condition

cut-is : (a : Act) → is_cut a ≡ true → IsTheCut a
cut-is (act.Cut c) h = record { condition = c; same = refl }
cut-is (act.Step n) h = cc
cut-is (act.Subsume l) h = cc

tick-is : (a : Act) → is_tick a ≡ true → a ≡ act.Step 1
tick-is (act.Cut c) h = cc
tick-is (act.Step n) h = ap (λ k. act.Step k) (eqb-true n 1 h)
tick-is (act.Subsume l) h = cc

hint-is : (x : HintNo) (n : ℕ) → x.0 == n ≡ true → x ≡ numbered n
hint-is x n h = ap numbered (eqb-true x.0 n h)

leads-is : (h : ℕ) (a : Act) → leads_to h a ≡ true → a ≡ act.Subsume (numbered h)
leads-is h (act.Cut c) p = cc
leads-is h (act.Step n) p = cc
leads-is h (act.Subsume l) p = ap (λ k. act.Subsume k) (hint-is l h p)

pub record LoopOf (h : ℕ) (is : List Item) : Type 0 where
  pub condition : Expr
  pub same : is ≡ loop_items h condition

three : (n : ℕ) (a b c : Item) → is_loop n (a ∷ b ∷ c ∷ []) ≡ true → LoopOf n (a ∷ b ∷ c ∷ [])
three n a b c h =
    let h1 = and-right (a.hint.0 == n + 1) _ h in
    let h2 = and-right (b.hint.0 == n + 2) _ h1 in
    let h3 = and-right (c.hint.0 == n + 3) _ h2 in
    let h4 = and-right (is_cut a.act) _ h3 in
    let cut = cut-is a.act (and-left (is_cut a.act) _ h3) in
    let ha = hint-is a.hint (n + 1) (and-left (a.hint.0 == n + 1) _ h) in
    let hb = hint-is b.hint (n + 2) (and-left (b.hint.0 == n + 2) _ h1) in
    let hc = hint-is c.hint (n + 3) (and-left (c.hint.0 == n + 3) _ h2) in
    let tick = tick-is b.act (and-left (is_tick b.act) _ h4) in
    let leads = leads-is (n + 1) c.act (and-right (is_tick b.act) _ h4) in
    record {
      condition = cut.condition;
      same = λ i. record { hint = ha i; act = cut.same i } ∷ record { hint = hb i; act = tick i } ∷ record { hint = hc i; act = leads i } ∷ [];
    }

loop-of : (h : ℕ) (is : List Item) → is_loop h is ≡ true → LoopOf h is
loop-of n [] h = cc
loop-of n (a ∷ []) h = cc
loop-of n (a ∷ b ∷ []) h = cc
loop-of n (a ∷ b ∷ c ∷ []) h = three n a b c h
loop-of n (a ∷ b ∷ c ∷ d ∷ is) h = cc

-- A KIND is that of `wire`, or one of the host's
pub data Side (k : Kind) : Type 0 where
  OnWire : k ≡ Wire → Side k
  OnHost : is_wire k ≡ false → Side k

pub side : (k : Kind) → Side k
side Factory = OnHost refl
side BootHost = OnHost refl
side Rest = OnHost refl
side Wait = OnHost refl
side (Call o) = OnHost refl
side Wire = OnWire refl

pub host-not : (k : Kind) → is_wire k ≡ false → same_kind Wire k ≡ false
host-not Factory e = refl
host-not BootHost e = refl
host-not Rest e = refl
host-not Wait e = refl
host-not (Call o) e = refl
host-not Wire e = cc

-- SECTIONS, numbered from h on; `all` are those of the script
pub record Numbered (all : List Section) (h : ℕ) (s : Section) : Type 0 where
  pub own : s.hint.0 ≡ h
  pub told : hint_of_kind s.kind all ≡ h
  pub count : 1 + length s.items ≡ own_hints s.kind
  pub last : last_item_hint s.hint.0 s.items + 1 ≡ h + own_hints s.kind

abbrev pub Are : List Section → ℕ → List Section → Type 0
Are all h [] = Unit {0}
Are all h (s ∷ ss) = Numbered all h s × Are all (h + own_hints s.kind) ss

no-items : (is : List Item) → is_empty is ≡ true → is ≡ []
no-items [] e = refl
no-items (i ∷ is) e = cc

pub record ItemsOf (h : ℕ) (k : Kind) (is : List Item) : Type 0 where
  pub count : 1 + length is ≡ own_hints k
  pub last : last_item_hint h is + 1 ≡ h + own_hints k

items-of : (h : ℕ) (k : Kind) (is : List Item) → items_fit k h is ≡ true → ItemsOf h k is
items-of h k is e = by_side (side k)
  where
    by_side : Side k → ItemsOf h k is
    by_side (OnWire w) =
        let loop = loop-of h is (sym (ap (λ b. if b then is_loop h is else is_empty is) (ap is_wire w)) ∙ e) in
        let four : own_hints k ≡ 4 = ap own_hints w in
        let same : 1 + length is ≡ 4 = ap (λ z. 1 + length z) loop.same in
        let end : last_item_hint h is ≡ h + 3 = ap (last_item_hint h) loop.same in
        record { count = same ∙ sym four; last = omega (arith, four, end) }
    by_side (OnHost w) =
        let none = no-items is (sym (ap (λ b. if b then is_loop h is else is_empty is) w) ∙ e) in
        let one : own_hints k ≡ 1 = ap (λ b. if b then 4 else 1) w in
        let same : 1 + length is ≡ 1 = ap (λ z. 1 + length z) none in
        let end : last_item_hint h is ≡ h = ap (last_item_hint h) none in
        record { count = same ∙ sym one; last = omega (arith, one, end) }

-- the hint of a kind among all sections is that among the sections from here on
abbrev pub Tells : List Section → List Section → Type 0
Tells all ss = (k : Kind) → stands_in k ss ≡ true → hint_of_kind k all ≡ hint_of_kind k ss

tells-on : (all : List Section) (s : Section) (ss : List Section) → stands_in s.kind ss ≡ false → Tells all (s ∷ ss) → Tells all ss
tells-on all s ss apart tells k there =
    let other : same_kind k s.kind ≡ false = by_test (same_kind k s.kind) refl in
    tells k (ap (λ b. if b then true else stands_in k ss) other ∙ there) ∙ ap (λ b. if b then s.hint.0 else hint_of_kind k ss) other
  where
    by_test : (b : Bool) → same_kind k s.kind ≡ b → b ≡ false
    by_test true e = let both : true ≡ false = sym there ∙ (ap (λ z. stands_in z ss) (same-is k s.kind e) ∙ apart) in both
    by_test false e = refl

pub are-all : (all : List Section) (ks : List Kind) (h : ℕ) (ss : List Section) → Tells all ss → are_apart ks ss ≡ true → are_numbered h ss ≡ true → Are all h ss
are-all all ks h [] tells apart e = tt
are-all all ks h (s ∷ ss) tells apart e =
    let own : s.hint.0 ≡ h = eqb-true s.hint.0 h (and-left (s.hint.0 == h) _ e) in
    let rest = and-right (s.hint.0 == h) _ e in
    let fit = and-left (items_fit s.kind h s.items) _ rest in
    let items = items-of h s.kind s.items fit in
    let apart1 = and-right (is_among s.kind ks) _ apart in
    let alone = not-true (stands_in s.kind ss) (and-left (not (stands_in s.kind ss)) _ apart1) in
    let here : hint_of_kind s.kind all ≡ s.hint.0 =
    tells s.kind (ap (λ b. if b then true else stands_in s.kind ss) (same-self s.kind)) ∙ ap (λ b. if b then s.hint.0 else hint_of_kind s.kind ss) (same-self s.kind) in
    let more : are_numbered (h + own_hints s.kind) ss ≡ true = ap (λ n. are_numbered (h + n) ss) (sym items.count) ∙ and-right (items_fit s.kind h s.items) _ rest in (
      record { own = own; told = here ∙ own; count = items.count; last = ap (λ z. last_item_hint z s.items + 1) own ∙ items.last },
      are-all all ks (h + own_hints s.kind) ss (tells-on all s ss alone tells) (and-right (not (stands_in s.kind ss)) _ apart1) more,
    )

-- the items of `wire` are those of its section
wire-loop : (h : ℕ) (ss : List Section) → are_numbered h ss ≡ true → stands_in Wire ss ≡ true → LoopOf (hint_of_kind Wire ss) (items_of_kind Wire ss)
wire-loop h [] e there = cc
wire-loop h (s ∷ ss) e there = by_test (same_kind Wire s.kind) refl there (λ t. wire-loop (h + (1 + length s.items)) ss (and-right (items_fit s.kind h s.items) _ (and-right (s.hint.0 == h) _ e)) t)
  where
    by_test : (b : Bool) → same_kind Wire s.kind ≡ b → (if b then true else stands_in Wire ss) ≡ true → (stands_in Wire ss ≡ true → LoopOf (hint_of_kind Wire ss) (items_of_kind Wire ss)) →
        LoopOf (if b then s.hint.0 else hint_of_kind Wire ss) (if b then s.items else items_of_kind Wire ss)
    by_test true is t go =
        let own : s.hint.0 ≡ h = eqb-true s.hint.0 h (and-left (s.hint.0 == h) _ e) in
        let fit = and-left (items_fit s.kind h s.items) _ (and-right (s.hint.0 == h) _ e) in
        let loop : is_loop h s.items ≡ true = sym (ap (λ k. if is_wire k then is_loop h s.items else is_empty s.items) (sym (same-is Wire s.kind is))) ∙ fit in
        subst (λ n. LoopOf n s.items) (sym own) (loop-of h s.items loop)
    by_test false is t go = go t

-- A SCRIPT OF THE FORM
pub record Formed (ops : ℕ) (p : ScriptParts) : Type 0 where
  pub condition : Expr
  pub items : wire_items p ≡ loop_items (hint_of_kind Wire p.sections) condition
  pub are : Are p.sections 1 p.sections
  pub count : length p.sections ≡ 5 + ops
  pub apart : are_apart (kinds ops) p.sections ≡ true
  pub each : are_of p.sections (Some (kinds ops)) ≡ true
  pub wire : stands_in Wire p.sections ≡ true

pub formed : (ops : ℕ) (p : ScriptParts) → script_fits ops p ≡ true → Formed ops p
formed ops p fits =
    let numbers : are_numbered 1 p.sections ≡ true = and-left (are_numbered 1 p.sections) _ fits in
    let each : are_of p.sections (Some (kinds ops)) ≡ true = and-right (are_numbered 1 p.sections) _ fits in
    let both = sym (of-kinds ops p.sections) ∙ each in
    let apart = and-right (length p.sections == 5 + ops) _ both in
    let there = all-there p.sections (kinds ops) Wire (kinds-once ops) each refl in
    let loop = wire-loop 1 p.sections numbers there in
    record {
      condition = loop.condition;
      items = loop.same;
      are = are-all p.sections (kinds ops) 1 p.sections (λ k t. refl) apart numbers;
      count = eqb-true (length p.sections) (5 + ops) (and-left (length p.sections == 5 + ops) _ both);
      apart = apart;
      each = each;
      wire = there;
    }

-- the operations of a script are as many as it was made for
pub ops-are : (ops : ℕ) (p : ScriptParts) → script_fits ops p ≡ true → ops_of p ≡ ops
ops-are ops p fits = let count = (formed ops p fits).count in omega (arith, count)

pub fits-own : (ops : ℕ) (p : ScriptParts) → script_fits ops p ≡ true → script_fits (ops_of p) p ≡ true
fits-own ops p fits = subst (λ n. script_fits n p ≡ true) (sym (ops-are ops p fits)) fits

-- A KIND that stands among the sections has its hint behind those before it, and `wire` has all of its hints there
pub record IsIn (h w : ℕ) (ss : List Section) : Type 0 where
  pub from : h ≤ w
  pub upto : w + 4 ≤ h + hint_count ss

pub next-count : (all : List Section) (h : ℕ) (s : Section) (ss : List Section) → Numbered all h s → hint_count (s ∷ ss) ≡ own_hints s.kind + hint_count ss
next-count all h s ss n = ap (λ z. z + hint_count ss) n.count

pub wire-in : (all : List Section) (h : ℕ) (ss : List Section) → Are all h ss → stands_in Wire ss ≡ true → IsIn h (hint_of_kind Wire all) ss
wire-in all h [] a there = cc
wire-in all h (s ∷ ss) a there = by_side (side s.kind) (λ t. wire-in all (h + own_hints s.kind) ss a.1 t)
  where
    whole : hint_count (s ∷ ss) ≡ own_hints s.kind + hint_count ss
    whole = next-count all h s ss a.0

    by_side : Side s.kind → (stands_in Wire ss ≡ true → IsIn (h + own_hints s.kind) (hint_of_kind Wire all) ss) → IsIn h (hint_of_kind Wire all) (s ∷ ss)
    by_side (OnWire is) go =
        let at : hint_of_kind Wire all ≡ h = ap (λ k. hint_of_kind k all) (sym is) ∙ a.0.told in
        let four : own_hints s.kind ≡ 4 = ap own_hints is in
        record { from = omega (arith, at); upto = omega (arith, at, four, whole) }
    by_side (OnHost no_wire) go =
        let later = go (sym (ap (λ b. if b then true else stands_in Wire ss) (host-not s.kind no_wire)) ∙ there) in
        let from = later.from in
        let upto = later.upto in
        record { from = omega (arith, from); upto = omega (arith, upto, whole) }

-- THE COUNTS
pub host-roots : (k : Kind) (ss : List Section) → is_wire k ≡ false → roots_of k ++ roots ss ≡ OfKind k ∷ roots ss
host-roots k ss e = ap (λ b. (if b then OfKind k ∷ OfCut ∷ [] else OfKind k ∷ []) ++ roots ss) e

pub count-without : (all : List Section) (h : ℕ) (ss : List Section) → Are all h ss → stands_in Wire ss ≡ false → hint_count ss ≡ length (roots ss)
count-without all h [] a none = refl
count-without all h (s ∷ ss) a none = by_side (side s.kind) (λ t. count-without all (h + own_hints s.kind) ss a.1 t)
  where
    by_side : Side s.kind → (stands_in Wire ss ≡ false → hint_count ss ≡ length (roots ss)) → hint_count (s ∷ ss) ≡ length (roots (s ∷ ss))
    by_side (OnWire is) go =
        let there : true ≡ false = sym (ap (λ b. if b then true else stands_in Wire ss) (same-of Wire s.kind (sym is))) ∙ none in
        cc
    by_side (OnHost no_wire) go =
        let more = go (sym (ap (λ b. if b then true else stands_in Wire ss) (host-not s.kind no_wire)) ∙ none) in
        let one : own_hints s.kind ≡ 1 = ap (λ b. if b then 4 else 1) no_wire in
        let whole = next-count all h s ss a.0 in
        let next : length (roots (s ∷ ss)) ≡ suc (length (roots ss)) = ap length (host-roots s.kind ss no_wire) in
        omega (arith, more, one, whole, next)

pub count-with : (all : List Section) (ks : List Kind) (h : ℕ) (ss : List Section) → Are all h ss → are_apart ks ss ≡ true → stands_in Wire ss ≡ true → hint_count ss ≡ length (roots ss) + 2
count-with all ks h [] a apart there = cc
count-with all ks h (s ∷ ss) a apart there = by_side (side s.kind) (λ t. count-with all ks (h + own_hints s.kind) ss a.1 (and-right (not (stands_in s.kind ss)) _ (and-right (is_among s.kind ks) _ apart)) t)
  where
    alone : stands_in s.kind ss ≡ false
    alone = not-true (stands_in s.kind ss) (and-left (not (stands_in s.kind ss)) _ (and-right (is_among s.kind ks) _ apart))

    by_side : Side s.kind → (stands_in Wire ss ≡ true → hint_count ss ≡ length (roots ss) + 2) → hint_count (s ∷ ss) ≡ length (roots (s ∷ ss)) + 2
    by_side (OnWire is) go =
        let rest = count-without all (h + own_hints s.kind) ss a.1 (ap (λ k. stands_in k ss) (sym is) ∙ alone) in
        let whole = next-count all h s ss a.0 in
        let four : own_hints s.kind ≡ 4 = ap own_hints is in
        let two : length (roots (s ∷ ss)) ≡ suc (suc (length (roots ss))) = ap (λ k. length (roots_of k ++ roots ss)) is in
        omega (arith, rest, whole, four, two)
    by_side (OnHost no_wire) go =
        let more = go (sym (ap (λ b. if b then true else stands_in Wire ss) (host-not s.kind no_wire)) ∙ there) in
        let one : own_hints s.kind ≡ 1 = ap (λ b. if b then 4 else 1) no_wire in
        let whole = next-count all h s ss a.0 in
        let next : length (roots (s ∷ ss)) ≡ suc (length (roots ss)) = ap length (host-roots s.kind ss no_wire) in
        omega (arith, more, one, whole, next)

-- the last hint is their number
pub last-counts : (all : List Section) (h n : ℕ) (ss : List Section) → n + 1 ≡ h → Are all h ss → last_hint n ss + 1 ≡ h + hint_count ss
last-counts all h n [] before a = omega (arith, before)
last-counts all h n (s ∷ ss) before a =
    let rest = last-counts all (h + own_hints s.kind) (last_item_hint s.hint.0 s.items) ss a.0.last a.1 in
    let whole = next-count all h s ss a.0 in
    omega (arith, rest, whole)

-- for a device with so many operations
pub fits-for : (n : ℕ) (p : ScriptParts) → n ≡ ops_of p → script_fits (ops_of p) p ≡ true → script_fits n p ≡ true
fits-for n p is fits = subst (λ k. script_fits k p ≡ true) (sym is) fits

pub formed-for : (n : ℕ) (p : ScriptParts) → n ≡ ops_of p → script_fits (ops_of p) p ≡ true → Formed n p
formed-for n p is fits = formed n p (fits-for n p is fits)

-- the code's count of hints
pub count-of-hints : (p : ScriptParts) → script_fits (ops_of p) p ≡ true → last_hint 0 p.sections ≡ hint_count p.sections
count-of-hints p fits = let all = last-counts p.sections 1 0 p.sections (omega arith) (formed (ops_of p) p fits).are in omega (arith, all)

pub segments-counted : (p : ScriptParts) → script_fits (ops_of p) p ≡ true → hint_count p.sections ≡ length (roots p.sections) + 2
segments-counted p fits = let f = formed (ops_of p) p fits in count-with p.sections (kinds (ops_of p)) 1 p.sections f.are f.apart f.wire

-- the hint of `wire` is one, and the segments of all hints are there
pub wire-counts : (p : ScriptParts) → script_fits (ops_of p) p ≡ true → 1 ≤ hint_of_kind Wire p.sections
wire-counts p fits = let f = formed (ops_of p) p fits in (wire-in p.sections 1 p.sections f.are f.wire).from

below : (w m n : ℕ) → 1 ≤ w → w + 4 ≤ 1 + (n + 2) → m ≤ n + 2 → segment_number w m < n
below w m n one upto le = by_tests (nat_le m w) refl (nat_le m (w + 2)) refl
  where
    by_tests : (low : Bool) → nat_le m w ≡ low → (mid : Bool) → nat_le m (w + 2) ≡ mid → (if low then m - 1 else if mid then m - 2 else m - 3) < n
    by_tests true t mid u = let lower : m ≤ w = grind (arith, t) in omega (arith, one, upto, lower)
    by_tests false t true u = let lower : m ≤ w + 2 = grind (arith, u) in omega (arith, one, upto, lower)
    by_tests false t false u = let above : w + 2 < m = grind (arith, u) in omega (arith, one, upto, above, le)

pub number-below : (p : ScriptParts) → script_fits (ops_of p) p ≡ true → (m : ℕ) → m ≤ hint_count p.sections → segment_number (hint_of_kind Wire p.sections) m < length (roots p.sections)
number-below p fits m le =
    let f = formed (ops_of p) p fits in
    let all = segments-counted p fits in
    let upto : hint_of_kind Wire p.sections + 4 ≤ 1 + hint_count p.sections = (wire-in p.sections 1 p.sections f.are f.wire).upto in
    below (hint_of_kind Wire p.sections) m (length (roots p.sections)) (wire-counts p fits) (omega (arith, all, upto)) (omega (arith, all, le))
