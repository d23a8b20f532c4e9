-- The list of segments, one by one.
use Rattle.std.proofs.Common.{◌≡◌, ℕ, zero, suc, ◌+◌, ◌<◌, nat_le, ◌⊎◌, inl, inr, List, [], ◌∷◌, ◌++◌, Option, Some, None, Bool, true, false, refl, sym, subst, arith, if◌then◌else◌}
use Rattle.knox_theory.specs.Design.{Design}
use Rattle.knox_theory.specs.Script.{Cut, Havoc, HostSections, Invariant, Label, Replace, Script, Split, State, Step, Subsume, WireItems}
use Rattle.knox_theory.specs.Course.{Safe}
use Rattle.knox_theory.specs.WireSegments.{cut_course, subsumes, wire_course}
use Rattle.knox_theory.specs.HostSegments.{boot_host_course, call_course, factory_course, rest_course, wait_course}
use Rattle.knox_theory.specs.Segments.{all_segments, boot_host_segment, call_segment, call_segments, cut_segment, cut_segments, factory_segment, host_segments, in_order, insert, rest_segment, Segment, segments, wait_segment, wire_segment}
use Rattle.knox_theory.specs.Closed.{Closed, IsAmong}

abbrev pub Each : (Segment → Type 0) → List Segment → Type 0
Each Q [] = Unit {0}
Each Q (x ∷ xs) = Q x × Each Q xs

pub each-of : (Q : Segment → Type 0) (g : Segment) (xs : List Segment) → Each Q xs → IsAmong g xs → Q g
each-of Q g [] e a = absurd a
each-of Q g (x ∷ xs) e (inl p) = subst Q (sym p) e.0
each-of Q g (x ∷ xs) e (inr a) = each-of Q g xs e.1 a

of-each : (Q : Segment → Type 0) (xs : List Segment) → ((g : Segment) → IsAmong g xs → Q g) → Each Q xs
of-each Q [] f = tt
of-each Q (x ∷ xs) f = (f x (inl refl), of-each Q xs (λ g a. f g (inr a)))

each-append : (Q : Segment → Type 0) (xs ys : List Segment) → Each Q xs → Each Q ys → Each Q (xs ++ ys)
each-append Q [] ys p q = q
each-append Q (x ∷ xs) ys p q = (p.0, each-append Q xs ys p.1 q)

append-first : (Q : Segment → Type 0) (xs ys : List Segment) → Each Q (xs ++ ys) → Each Q xs
append-first Q [] ys p = tt
append-first Q (x ∷ xs) ys p = (p.0, append-first Q xs ys p.1)

append-second : (Q : Segment → Type 0) (xs ys : List Segment) → Each Q (xs ++ ys) → Each Q ys
append-second Q [] ys p = p
append-second Q (x ∷ xs) ys p = append-second Q xs ys p.1

-- a list in order has the same segments
each-insert : (Q : Segment → Type 0) (g : Segment) (xs : List Segment) → Q g → Each Q xs → Each Q (insert g xs)
each-insert Q g [] q e = (q, tt)
each-insert Q g (x ∷ xs) q e = by_test (nat_le g.hint x.hint) (each-insert Q g xs q e.1)
  where
    by_test : (b : Bool) → Each Q (insert g xs) → Each Q (if b then g ∷ (x ∷ xs) else x ∷ insert g xs)
    by_test true more = (q, e)
    by_test false more = (e.0, more)

insert-each : (Q : Segment → Type 0) (g : Segment) (xs : List Segment) → Each Q (insert g xs) → Q g × Each Q xs
insert-each Q g [] e = e
insert-each Q g (x ∷ xs) e = by_test (nat_le g.hint x.hint) e (λ p. insert-each Q g xs p)
  where
    by_test : (b : Bool) → Each Q (if b then g ∷ (x ∷ xs) else x ∷ insert g xs) → (Each Q (insert g xs) → Q g × Each Q xs) → Q g × Each Q (x ∷ xs)
    by_test true p go = (p.0, p.1)
    by_test false p go = let both : Q g × Each Q xs = go p.1 in (both.0, (p.0, both.1))

pub each-order : (Q : Segment → Type 0) (xs : List Segment) → Each Q xs → Each Q (in_order xs)
each-order Q [] e = tt
each-order Q (x ∷ xs) e = each-insert Q x (in_order xs) e.0 (each-order Q xs e.1)

pub order-each : (Q : Segment → Type 0) (xs : List Segment) → Each Q (in_order xs) → Each Q xs
order-each Q [] e = tt
order-each Q (x ∷ xs) e = let both : Q x × Each Q (in_order xs) = insert-each Q x (in_order xs) e in (both.0, order-each Q xs both.1)

module _ {P : Type 0} (d : Design P) where
  each-call : (Q : Segment → Type 0) (host : HostSections P) (n : ℕ) → ((o : ℕ) → o < n → Q (call_segment d host o)) → Each Q (call_segments d host n)
  each-call Q host zero f = tt
  each-call Q host (suc n) f = (f n (omega arith), each-call Q host n (λ o lt. f o (omega arith)))

  call-each : (Q : Segment → Type 0) (host : HostSections P) (n o : ℕ) → o < n → Each Q (call_segments d host n) → Q (call_segment d host o)
  call-each Q host zero o lt e = absurd (omega arith)
  call-each Q host (suc n) o lt e = by_order (grind arith) (λ l. call-each Q host n o l e.1)
    where
      by_order : (o ≡ n) ⊎ (o < n) → (o < n → Q (call_segment d host o)) → Q (call_segment d host o)
      by_order (inl p) go = subst (λ z. Q (call_segment d host z)) (sym p) e.0
      by_order (inr l) go = go l

module _ {P : Type 0} (d : Design P) (s : Script P) where
  each-cut : (Q : Segment → Type 0) → ((m h : ℕ) (c : State → Bool) (rest : WireItems) → Q (cut_segment d s m h c rest)) → (m : ℕ) (items : WireItems) → Each Q (cut_segments d s m items)
  each-cut Q f m (Step h n rest) = each-cut Q f (m + n) rest
  each-cut Q f m (Split h t a b) = each-append Q (cut_segments d s m a) (cut_segments d s m b) (each-cut Q f m a) (each-cut Q f m b)
  each-cut Q f m (Invariant h c rest) = each-cut Q f m rest
  each-cut Q f m (Replace h a b rest) = each-cut Q f m rest
  each-cut Q f m (Havoc h x c rest) = each-cut Q f m rest
  each-cut Q f m (Label h pins rest) = each-cut Q f m rest
  each-cut Q f m (Cut h c rest) = (f m h c rest, each-cut Q f m rest)
  each-cut Q f m (Subsume h l) = tt

  -- what holds of a segment of each kind
  pub record OfEachKind (Q : Segment → Type 0) : Type 0 where
    pub wire : Q (wire_segment d s)
    pub cut : (m h : ℕ) (c : State → Bool) (rest : WireItems) → Q (cut_segment d s m h c rest)
    pub factory : (host : HostSections P) → Q (factory_segment d s host)
    pub boot_host : (host : HostSections P) → Q (boot_host_segment d s host)
    pub rest : (host : HostSections P) → Q (rest_segment d s host)
    pub wait : (host : HostSections P) → Q (wait_segment d host)
    pub call : (host : HostSections P) (o : ℕ) → o < d.device.ops → Q (call_segment d host o)

  each-host : (Q : Segment → Type 0) → OfEachKind Q → (host : Option (HostSections P)) → Each Q (host_segments d s host)
  each-host Q q None = tt
  each-host Q q (Some host) = (q.factory host, (q.boot_host host, (q.rest host, (q.wait host, each-call d Q host d.device.ops (q.call host)))))

  -- holds of all that are listed
  pub each-segment : (Q : Segment → Type 0) → OfEachKind Q → (g : Segment) → IsAmong g (segments d s) → Q g
  each-segment Q q g a =
      each-of Q g (segments d s)
      (each-order Q (all_segments d s)
      (q.wire, each-append Q (cut_segments d s 0 s.wire) (host_segments d s s.host) (each-cut Q q.cut 0 s.wire) (each-host Q q s.host)))
      a

  -- no choices falsify a hint of the segment of a cut among these items
  abbrev pub SafeCuts : WireItems → Type 0
  SafeCuts (Step h n rest) = SafeCuts rest
  SafeCuts (Split h t a b) = SafeCuts a × SafeCuts b
  SafeCuts (Invariant h c rest) = SafeCuts rest
  SafeCuts (Replace h a b rest) = SafeCuts rest
  SafeCuts (Havoc h x c rest) = SafeCuts rest
  SafeCuts (Label h pins rest) = SafeCuts rest
  SafeCuts (Cut h c rest) = Safe (cut_course d s (subsumes d s) c rest) × SafeCuts rest
  SafeCuts (Subsume h l) = Unit {0}

  -- the same of the segments of wires, and of those of the host's sections
  pub record SafeWires : Type 0 where
    pub wire : Safe (wire_course d s (subsumes d s))
    pub cuts : SafeCuts s.wire

  pub record SafeHost (host : HostSections P) : Type 0 where
    pub factory : Safe (factory_course d s host)
    pub boot : Safe (boot_host_course d s host)
    pub rest : Safe (rest_course d s host)
    pub wait : Safe (wait_course d host)
    pub call : (o : ℕ) → o < d.device.ops → Safe (call_course d host o)

  abbrev IsSafe : Segment → Type 0
  IsSafe g = Safe g.course

  cuts-safe : (m : ℕ) (items : WireItems) → Each IsSafe (cut_segments d s m items) → SafeCuts items
  cuts-safe m (Step h n rest) e = cuts-safe (m + n) rest e
  cuts-safe m (Split h t a b) e = (
    cuts-safe m a (append-first IsSafe (cut_segments d s m a) (cut_segments d s m b) e),
    cuts-safe m b (append-second IsSafe (cut_segments d s m a) (cut_segments d s m b) e),
  )
  cuts-safe m (Invariant h c rest) e = cuts-safe m rest e
  cuts-safe m (Replace h a b rest) e = cuts-safe m rest e
  cuts-safe m (Havoc h x c rest) e = cuts-safe m rest e
  cuts-safe m (Label h pins rest) e = cuts-safe m rest e
  cuts-safe m (Cut h c rest) e = (e.0, cuts-safe m rest e.1)
  cuts-safe m (Subsume h l) e = tt

  pub closed-safe : Closed d s → (g : Segment) → IsAmong g (segments d s) → Safe g.course
  closed-safe closed g a = record { never = λ h cs e. closed.never h cs (record { segment = g; listed = a; fails = e }) }

  all-safe : Closed d s → Each IsSafe (all_segments d s)
  all-safe closed =
      let e = of-each IsSafe (segments d s) (closed-safe closed) in
      order-each IsSafe (all_segments d s) e

  pub closed-wires : Closed d s → SafeWires
  closed-wires closed =
      let all = all-safe closed in
      record { wire = all.0; cuts = cuts-safe 0 s.wire (append-first IsSafe (cut_segments d s 0 s.wire) (host_segments d s s.host) all.1) }

  pub closed-host : (host : HostSections P) → s.host ≡ Some host → Closed d s → SafeHost host
  closed-host host is closed =
      let all = all-safe closed in
      let there = append-second IsSafe (cut_segments d s 0 s.wire) (host_segments d s s.host) all.1 in
      let more : Each IsSafe (host_segments d s (Some host)) = subst (λ z. Each IsSafe (host_segments d s z)) is there in
      record {
        factory = more.0;
        boot = more.1.0;
        rest = more.1.1.0;
        wait = more.1.1.1.0;
        call = λ o lt. call-each d IsSafe host d.device.ops o lt more.1.1.1.1;
      }

  -- the other way round
  pub safe-closed : ((g : Segment) → IsAmong g (segments d s) → Safe g.course) → Closed d s
  safe-closed safe = record { never = λ h cs f. (safe f.segment f.listed).never h cs f.fails }
