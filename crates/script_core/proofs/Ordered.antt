-- Lists of segments in order of their hint numbers: blocks of segments along sections that stand in any order are in order where their hints rise.
use Rattle.std.proofs.Common.{◌≡◌, ◌∙◌, ℕ, ◌<◌, nat_le, Option, Some, None, List, [], ◌∷◌, ◌++◌, true, false, if◌then◌else◌, refl, ap, sym, subst, append_assoc, arith}
use Rattle.knox_theory.specs.Segments.{Segment, insert, in_order}
use Rattle.knox_theory.proofs.Listed.{Each, each-order, order-each}
use Rattle.script_core.specs.declared.parts.Kind.{Kind}
use Rattle.script_core.specs.declared.parts.Section.{Section}
use Rattle.script_core.specs.Hints.{without, are_of}
use Rattle.script_core.proofs.EachKind.{parted}

-- each hint is above a number; each is above that and above those before it
abbrev pub Above : ℕ → List Segment → Type 0
Above n gs = Each (λ g. n < g.hint) gs

abbrev pub Rising : ℕ → List Segment → Type 0
Rising n [] = Unit {0}
Rising n (g ∷ gs) = (n < g.hint) × Rising g.hint gs

weaker : (m n : ℕ) (gs : List Segment) → m < n → Above n gs → Above m gs
weaker m n [] lt e = tt
weaker m n (g ∷ gs) lt e = let more : n < g.hint = e.0 in (omega arith, weaker m n gs lt e.1)

rising-above : (n : ℕ) (gs : List Segment) → Rising n gs → Above n gs
rising-above n [] r = tt
rising-above n (g ∷ gs) r = (r.0, weaker n g.hint gs r.0 (rising-above g.hint gs r.1))

-- the last hint of a list, which begins behind a number; what stands behind it rises from there
abbrev pub last_of : ℕ → List Segment → ℕ
last_of n [] = n
last_of n (g ∷ gs) = last_of g.hint gs

rising-behind : (n : ℕ) (front back : List Segment) → Rising n (front ++ back) → Rising (last_of n front) back
rising-behind n [] back r = r
rising-behind n (g ∷ front) back r = rising-behind g.hint front back r.1

-- THE LEAST ONE comes first, wherever it stands
least-insert : (x : Segment) (ys : List Segment) → Above x.hint ys → insert x ys ≡ x ∷ ys
least-insert x [] e = refl
least-insert x (y ∷ ys) e =
    let lt : x.hint < y.hint = e.0 in
    let le : nat_le x.hint y.hint ≡ true = grind (arith, lt) in
    ap (λ b. if b then x ∷ (y ∷ ys) else y ∷ insert x ys) le

least-first : (x : Segment) (front back : List Segment) → Above x.hint (front ++ back) → in_order (front ++ x ∷ back) ≡ x ∷ in_order (front ++ back)
least-first x [] back e = least-insert x (in_order back) (each-order (λ g. x.hint < g.hint) back e)
least-first x (a ∷ front) back e =
    let lt : x.hint < a.hint = e.0 in
    let not_le : nat_le a.hint x.hint ≡ false = grind (arith, lt) in
    ap (insert a) (least-first x front back e.1)
    ∙ ap (λ b. if b then a ∷ (x ∷ in_order (front ++ back)) else x ∷ insert a (in_order (front ++ back))) not_le

-- and so does a block that rises, and is below all others
block-first : (n : ℕ) (front block back : List Segment) → Rising n (block ++ in_order (front ++ back)) → in_order (front ++ (block ++ back)) ≡ block ++ in_order (front ++ back)
block-first n front [] back r = refl
block-first n front (x ∷ block) back r =
    let more = block-first x.hint front block back r.1 in
    let above : Above x.hint (in_order (front ++ (block ++ back))) = subst (Above x.hint) (sym more) (rising-above x.hint (block ++ in_order (front ++ back)) r.1) in
    least-first x front (block ++ back) (order-each (λ g. x.hint < g.hint) (front ++ (block ++ back)) above) ∙ ap (λ gs. x ∷ gs) more

-- BLOCKS, one for each kind
module _ (block : Kind → List Segment) where
  abbrev pub blocks : List Kind → List Segment
  blocks [] = []
  blocks (k ∷ ks) = block k ++ blocks ks

  -- along sections
  abbrev pub along : List Section → List Segment
  along [] = []
  along (s ∷ ss) = block s.kind ++ along ss

  blocks-append : (front back : List Kind) → blocks (front ++ back) ≡ blocks front ++ blocks back
  blocks-append [] back = refl
  blocks-append (k ∷ front) back = ap (λ z. block k ++ z) (blocks-append front back) ∙ sym (append_assoc (block k) (blocks front) (blocks back))

  -- the blocks of all kinds in order are those along the sections, if these rise
  pub in-text-order : (n : ℕ) (ss : List Section) (ks : List Kind) → are_of ss (Some ks) ≡ true → Rising n (along ss) → in_order (blocks ks) ≡ along ss
  in-text-order n [] [] e r = refl
  in-text-order n [] (k ∷ ks) e r = cc
  in-text-order n (s ∷ ss) ks e r =
      by_option (without s.kind ks) refl e (λ rest f. in-text-order (last_of n (block s.kind)) ss rest f (rising-behind n (block s.kind) (along ss) r))
    where
      by_option : (o : Option (List Kind)) → without s.kind ks ≡ o → are_of ss o ≡ true → ((rest : List Kind) → are_of ss (Some rest) ≡ true → in_order (blocks rest) ≡ along ss) → in_order (blocks ks) ≡ block s.kind ++ along ss
      by_option None w f go = cc
      by_option (Some rest) w f go =
          let p = parted s.kind ks rest w in
          let others : in_order (blocks p.before ++ blocks p.behind) ≡ along ss =
          ap in_order (sym (ap blocks p.others ∙ blocks-append p.before p.behind)) ∙ go rest f in
          let whole : blocks ks ≡ blocks p.before ++ (block s.kind ++ blocks p.behind) = ap blocks p.whole ∙ blocks-append p.before (s.kind ∷ p.behind) in
          let first = block-first n (blocks p.before) (block s.kind) (blocks p.behind) (subst (λ z. Rising n (block s.kind ++ z)) (sym others) r) in
          ap in_order whole ∙ (first ∙ ap (λ z. block s.kind ++ z) others)
