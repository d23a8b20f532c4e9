-- A closed script implies agreement, one event after another.
use Rattle.std.proofs.Common.{◌≡◌, ℕ, ◌<◌, nat_lt, Some, List, [], ◌∷◌, ◌++◌, Bool, true, false, refl, sym, ◌∙◌, ap, subst, if◌then◌else◌}
use Rattle.std.proofs.lemmas.Bool.{ltb-true}
use Rattle.knox_words.specs.Bits.{Bits}
use Rattle.knox_words.specs.Lists.{fit, Words}
use Rattle.knox_words.proofs.Lists.{same_word-true, same_words-true}
use Rattle.knox_theory.specs.declared.event.Event.{Event}
use Rattle.knox_theory.specs.declared.event.Event.TheVariants.{Call, PowerHost, PowerWire, Read, Set, Tick}
use Rattle.knox_theory.specs.declared.event.Answer.{Answer}
use Rattle.knox_theory.specs.declared.event.Answer.TheVariants.{Outs, Value}
use Rattle.knox_theory.specs.Device.{OutOfTurns, Replied, Reply}
use Rattle.knox_theory.specs.Worlds.{answer_of, Host, Ideal, ideal_attach, ideal_first, ideal_from, ideal_host, ideal_in, is_callable, is_settable, Mode, Off, Real, real_first, real_from, real_in, real_power, Wire}
use Rattle.knox_theory.specs.Agreement.{Agree, AgreeOnWires, are_of_wires}
use Rattle.knox_theory.specs.Design.{Design, finish, Fits}
use Rattle.knox_theory.specs.Lawful.{IsDesign, IsWireDesign}
use Rattle.knox_theory.specs.Script.{FitsState, HostSections, IsScript, Script, State, Step}
use Rattle.knox_theory.specs.Course.{Safe}
use Rattle.knox_theory.specs.WireSegments.{attached, course, enters, is_refined, subsumes, ticked}
use Rattle.knox_theory.specs.HostSegments.{is_reply}
use Rattle.knox_theory.specs.Closed.{StartsRefined}
use Rattle.knox_theory.proofs.Basics.{and-left, and-right, set-fit}
use Rattle.knox_theory.proofs.Asking.{answered-fits}
use Rattle.knox_theory.proofs.Listed.{SafeHost, SafeWires}
use Rattle.knox_theory.proofs.Safety.{check-holds, check-goes, enters-goes, takes-go, tell-goes}
use Rattle.knox_theory.proofs.Landing.{Sound}
use Rattle.knox_theory.proofs.Settling.{Standing, advance}
use Rattle.knox_theory.proofs.Calling.{called, finish-fits}

module _ {P : Type 0} (d : Design P) (s : Script P) where
  -- what each event keeps in Off, of the cells, the fields and the kept words
  pub record InOff (x f k : Words) : Type 0 where
    pub cells : Fits d.cells x
    pub fields : fit d.fields f ≡ true
    pub kept : fit d.kept k ≡ true
    pub refined : s.refine f (d.device.persistent_of x) k ≡ true

  -- in Wire, of the inputs and the state
  pub record InWire (i : Words) (st : State) : Type 0 where
    pub ins : fit d.device.ins i ≡ true
    pub fitting : FitsState d st
    pub refined : is_refined d s st ≡ true
    pub standing : Standing d s st

  pub record InWireSame (r : Real) (q : Ideal) : Type 0 where
    pub same : r.inputs ≡ q.inputs
    pub wire : InWire r.inputs (record { fields = q.fields; cells = r.cells; emu = q.emu; copy = q.copy })

  -- in any mode, where H is what each event keeps in Host
  abbrev pub RelatedIn : (H : Words → Words → Words → Type 0) → Mode → Mode → Real → Ideal → Type 0
  RelatedIn H Off Off r q = InOff r.cells q.fields q.kept
  RelatedIn H Host Host r q = H r.cells q.fields q.kept
  RelatedIn H Wire Wire r q = InWireSame r q
  RelatedIn H m n r q = ⊥

  -- one event's answers are equal, and what it leaves is related again
  pub record Next (H : Words → Words → Words → Type 0) (a : Answer × Real) (c : Answer × Ideal) : Type 0 where
    pub answer : a.0 ≡ c.0
    pub related : RelatedIn H a.1.mode c.1.mode a.1 c.1

  by_test : {H : Words → Words → Words → Type 0} (b : Bool) (a1 a2 : Answer × Real) (c1 c2 : Answer × Ideal) →
      (b ≡ true → Next H a1 c1) → (b ≡ false → Next H a2 c2) → Next H (if b then a1 else a2) (if b then c1 else c2)
  by_test true a1 a2 c1 c2 f g = f refl
  by_test false a1 a2 c1 c2 f g = g refl

-- On the wires.
module _ {P : Type 0} (d : Design P) (s : Script P) (good : IsWireDesign d) (script : IsScript d s) (closed : SafeWires d s) where
  whole : Sound d s s.wire
  whole = record { cuts = closed.cuts; paced = script.paced; locs = script.locs }

  -- a power-cycle to Wire
  attaches : (x f k n : Words) → InOff d s x f k → fit d.device.noise n ≡ true → InWire d s d.device.idle (attached d f (d.device.persistent_of x) n k)
  attaches x f k n l fn =
      let p = d.device.persistent_of x in
      let fp = good.circuit.persistent_of x l.cells in
      let words : Words = f ++ (d.persistent.strip p ++ (n ++ k)) in
      let safe1 = takes-go d.kept _ (takes-go d.device.noise _ (takes-go d.persistent.widths _ (takes-go d.fields _ closed.wire f l.fields) (d.persistent.strip p) fp.taken) n fn) k l.kept in
      let safe2 = subst (λ z. Safe (enters (s.refine f z k) (course d s (subsumes d s) s.wire (record { state = attached d f z n k; taken = words })))) fp.whole safe1 in
      let fits_state : FitsState d (attached d f p n k) =
      record { fields = l.fields; cells = good.circuit.power p n fp fn; emu = good.emulator.emu_power n k fn l.kept; copy = good.emulator.copy_power n k fn l.kept } in
      record {
        ins = good.circuit.idle;
        fitting = fits_state;
        refined = ap (λ z. s.refine f z (d.device.kept_of (d.device.emu_power n k).0)) (good.circuit.persistent_power p n fp fn) ∙ (ap (λ z. s.refine f p z) (good.emulator.kept_power n k fn l.kept) ∙ l.refined);
        standing = advance d s closed.wire whole s.wire (attached d f p n k) words fits_state whole (enters-goes l.refined safe2);
      }

  -- the outputs before a tick, and the state after it
  wire-outs : (i : Words) (st : State) → InWire d s i st → d.device.outs st.cells i ≡ d.device.emu_outs st.emu st.copy i
  wire-outs i st l = same_words-true _ _ (check-holds (tell-goes (takes-go d.device.ins _ l.standing.safe i l.ins)))

  wire-tick : (i : Words) (st : State) → InWire d s i st → InWire d s i (ticked d st i)
  wire-tick i st l =
      let at = l.standing in
      let f = l.fitting in
      let safe1 = check-goes (tell-goes (takes-go d.device.ins _ at.safe i l.ins)) in
      let after = answered-fits d good.specification (d.device.emu_tick st.emu st.copy i) st.fields f.fields (good.emulator.emu_tick st.emu st.copy i f.emu f.copy l.ins) in
      let next : FitsState d (ticked d st i) = record { fields = after.fields; cells = good.circuit.tick st.cells i f.cells l.ins; emu = after.emu; copy = after.copy } in
      record {
        ins = l.ins;
        fitting = next;
        refined = check-holds safe1;
        standing = advance d s closed.wire whole (Step at.hint at.count at.items) (ticked d st i) (at.taken ++ i) next
            (record { cuts = at.sound.cuts; paced = at.sound.paced; locs = at.sound.locs }) (check-goes safe1);
      }

  wire-off : (i : Words) (st : State) → InWire d s i st → InOff d s st.cells st.fields (d.device.kept_of st.emu)
  wire-off i st l = record { cells = l.fitting.cells; fields = l.fitting.fields; kept = good.emulator.kept_of st.emu l.fitting.emu; refined = l.refined }

module _ {P : Type 0} (d : Design P) (s : Script P) (good : IsWireDesign d) (script : IsScript d s) (closed : SafeWires d s) (H : Words → Words → Words → Type 0) where
  -- PowerWire in any mode
  to-wire : (r : Real) (q : Ideal) (k n : Words) → InOff d s r.cells q.fields k → RelatedIn d s H r.mode q.mode r q → Next d s H (real_power d.device Wire r n) (ideal_attach d.device q k n)
  to-wire r q k n l rel =
      by_test d s (fit d.device.noise n) _ _ _ _
      (λ fn. record { answer = refl; related = record { same = refl; wire = attaches d s good script closed r.cells q.fields k n l fn } })
      (λ no. record { answer = refl; related = rel })

  -- one event in Off, where it is told what PowerHost does
  off-next : (i x j f e c k : Words) → InOff d s x f k → (ev : Event) →
      let r : Real = record { mode = Off; inputs = i; cells = x } in
      let q : Ideal = record { mode = Off; inputs = j; fields = f; emu = e; copy = c; kept = k } in
      ((n : Words) → ev ≡ PowerHost n → Next d s H (real_power d.device Host r n) (ideal_host d.device q k n)) →
      Next d s H (real_in Off d.device r ev) (ideal_in Off d.device q ev)
  off-next i x j f e c k l (PowerHost n) host = host n refl
  off-next i x j f e c k l (PowerWire n) host = to-wire _ _ k n l l
  off-next i x j f e c k l (Call o as') host = record { answer = refl; related = l }
  off-next i x j f e c k l (Set m w) host = record { answer = refl; related = l }
  off-next i x j f e c k l Read host = record { answer = refl; related = l }
  off-next i x j f e c k l Tick host = record { answer = refl; related = l }

  -- the same in Wire, where both worlds have the inputs i
  wire-next : (i x f e c k : Words) → InWire d s i (record { fields = f; cells = x; emu = e; copy = c }) → (ev : Event) →
      let r : Real = record { mode = Wire; inputs = i; cells = x } in
      let q : Ideal = record { mode = Wire; inputs = i; fields = f; emu = e; copy = c; kept = k } in
      ((n : Words) → ev ≡ PowerHost n → Next d s H (real_power d.device Host r n) (ideal_host d.device q (d.device.kept_of e) n)) →
      Next d s H (real_in Wire d.device r ev) (ideal_in Wire d.device q ev)
  wire-next i x f e c k l (PowerHost n) host = host n refl
  wire-next i x f e c k l (PowerWire n) host = to-wire _ _ (d.device.kept_of e) n (wire-off d s good script closed i _ l) (record { same = refl; wire = l })
  wire-next i x f e c k l (Call o as') host = record { answer = refl; related = record { same = refl; wire = l } }
  wire-next i x f e c k l (Set m w) host =
      by_test d s (is_settable d.device.ins m w) _ _ _ _
      (λ ok. record { answer = refl; related = record { same = refl; wire = record { ins = set-fit d.device.ins i m w ok l.ins; fitting = l.fitting; refined = l.refined; standing = l.standing } } })
      (λ no. record { answer = refl; related = record { same = refl; wire = l } })
  wire-next i x f e c k l Read host = record { answer = ap (λ z. Outs z) (wire-outs d s good script closed i _ l); related = record { same = refl; wire = l } }
  wire-next i x f e c k l Tick host = record { answer = refl; related = record { same = refl; wire = wire-tick d s good script closed i _ l } }

-- Where no trusted host is ever attached.
not-host : (n : Words) (ev : Event) (evs : List Event) → are_of_wires (ev ∷ evs) ≡ true → ev ≡ PowerHost n → ⊥
not-host n (PowerHost m) evs ok same = cc
not-host n (PowerWire m) evs ok same = cc
not-host n (Call o as') evs ok same = cc
not-host n (Set k w) evs ok same = cc
not-host n Read evs ok same = cc
not-host n Tick evs ok same = cc

of-wires-rest : (ev : Event) (evs : List Event) → are_of_wires (ev ∷ evs) ≡ true → are_of_wires evs ≡ true
of-wires-rest (PowerHost m) evs ok = cc
of-wires-rest (PowerWire m) evs ok = ok
of-wires-rest (Call o as') evs ok = cc
of-wires-rest (Set k w) evs ok = ok
of-wires-rest Read evs ok = ok
of-wires-rest Tick evs ok = ok

abbrev Never : Words → Words → Words → Type 0
Never x f k = ⊥

module _ {P : Type 0} (d : Design P) (s : Script P) (good : IsWireDesign d) (script : IsScript d s) (closed : SafeWires d s) where
  next-on-wires : (m n : Mode) (i x j f e c k : Words) →
      RelatedIn d s Never m n (record { mode = m; inputs = i; cells = x }) (record { mode = n; inputs = j; fields = f; emu = e; copy = c; kept = k }) →
      (ev : Event) (evs : List Event) → are_of_wires (ev ∷ evs) ≡ true →
      Next d s Never (real_in m d.device (record { mode = m; inputs = i; cells = x }) ev) (ideal_in n d.device (record { mode = n; inputs = j; fields = f; emu = e; copy = c; kept = k }) ev)
  next-on-wires Off Off i x j f e c k l ev evs ok = off-next d s good script closed Never i x j f e c k l ev (λ n same. absurd (not-host n ev evs ok same))
  next-on-wires Wire Wire i x j f e c k l ev evs ok =
      subst (λ z. Next d s Never (real_in Wire d.device (record { mode = Wire; inputs = i; cells = x }) ev) (ideal_in Wire d.device (record { mode = Wire; inputs = z; fields = f; emu = e; copy = c; kept = k }) ev)) l.same
      (wire-next d s good script closed Never i x f e c k l.wire ev (λ n same. absurd (not-host n ev evs ok same)))
  next-on-wires Host Host i x j f e c k l ev evs ok = absurd l
  next-on-wires m n i x j f e c k l ev evs ok = absurd l

  from-on-wires : (evs : List Event) (r : Real) (q : Ideal) → are_of_wires evs ≡ true → RelatedIn d s Never r.mode q.mode r q → real_from d.device r evs ≡ ideal_from d.device q evs
  from-on-wires [] r q ok l = refl
  from-on-wires (ev ∷ evs) r q ok l =
      let to = next-on-wires r.mode q.mode r.inputs r.cells q.inputs q.fields q.emu q.copy q.kept l ev evs ok in
      ap (λ z. z ∷ real_from d.device (real_in r.mode d.device r ev).1 evs) to.answer ∙ ap (λ z. (ideal_in q.mode d.device q ev).0 ∷ z) (from-on-wires evs _ _ (of-wires-rest ev evs ok) to.related)

  pub agree-on-wires : StartsRefined d s → AgreeOnWires d.device
  agree-on-wires starts n fn evs ok =
      from-on-wires evs (real_first d.device n) (ideal_first d.device) ok
      (record { cells = good.circuit.factory n fn; fields = good.specification.initial; kept = good.emulator.first_kept; refined = starts n fn })

-- In Host.
reply-value : (r : Reply) (w : Bits) → is_reply r w ≡ true → answer_of r ≡ Value w
reply-value (Replied v) w e = ap (λ z. Value z) (same_word-true v w e)
reply-value OutOfTurns w e = cc

module _ {P : Type 0} (d : Design P) (s : Script P) (host : HostSections P) where
  pub record InHost (x f k : Words) : Type 0 where
    pub off : InOff d s x f k
    pub idle : host.idle f x k ≡ true

module _ {P : Type 0} (d : Design P) (s : Script P) (host : HostSections P) (is : s.host ≡ Some host) (good : IsDesign d) (script : IsScript d s) (wires : SafeWires d s) (closed : SafeHost d s host) where
  -- idle implies refine
  rest-refined : (x f k : Words) → Fits d.cells x → fit d.fields f ≡ true → fit d.kept k ≡ true → host.idle f x k ≡ true → InHost d s host x f k
  rest-refined x f k fx ff fk idle =
      let safe1 = takes-go d.kept _ (takes-go d.cells.widths _ (takes-go d.fields _ closed.rest f ff) (d.cells.strip x) fx.taken) k fk in
      let held =
      subst (λ z. s.refine f (d.device.persistent_of z) k ≡ true) fx.whole
      (check-holds (enters-goes (subst (λ z. host.idle f z k ≡ true) (sym fx.whole) idle) safe1)) in
      record { off = record { cells = fx; fields = ff; kept = fk; refined = held }; idle = idle }

  -- a power-cycle to Host
  boots : (x f k n : Words) → InOff d s x f k → fit d.device.noise n ≡ true → InHost d s host (d.device.power (d.device.persistent_of x) n) f k
  boots x f k n l fn =
      let p = d.device.persistent_of x in
      let fp = good.wires.circuit.persistent_of x l.cells in
      let safe1 = takes-go d.kept _ (takes-go d.device.noise _ (takes-go d.persistent.widths _ (takes-go d.fields _ closed.boot f l.fields) (d.persistent.strip p) fp.taken) n fn) k l.kept in
      let refined = subst (λ z. s.refine f z k ≡ true) (sym fp.whole) l.refined in
      let idle = subst (λ z. host.idle f (d.device.power z n) k ≡ true) fp.whole (check-holds (enters-goes refined safe1)) in
      rest-refined (d.device.power p n) f k (good.wires.circuit.power p n fp fn) l.fields l.kept idle

  -- a tick in Host
  waits : (x f k : Words) → InHost d s host x f k → InHost d s host (d.device.tick x d.device.idle) f k
  waits x f k l =
      let fx = l.off.cells in
      let safe1 = takes-go d.kept _ (takes-go d.cells.widths _ (takes-go d.fields _ closed.wait f l.off.fields) (d.cells.strip x) fx.taken) k l.off.kept in
      let idle =
      subst (λ z. host.idle f (d.device.tick z d.device.idle) k ≡ true) fx.whole
      (check-holds (enters-goes (subst (λ z. host.idle f z k ≡ true) (sym fx.whole) l.idle) safe1)) in
      rest-refined (d.device.tick x d.device.idle) f k (good.wires.circuit.tick x d.device.idle fx good.wires.circuit.idle) l.off.fields l.off.kept idle

  abbrev NextHost : Answer × Real → Answer × Ideal → Type 0
  NextHost a c = Next d s (InHost d s host) a c

  -- PowerHost in any mode
  to-host : (r : Real) (q : Ideal) (k n : Words) → InOff d s r.cells q.fields k → RelatedIn d s (InHost d s host) r.mode q.mode r q → NextHost (real_power d.device Host r n) (ideal_host d.device q k n)
  to-host r q k n l rel =
      by_test d s (fit d.device.noise n) _ _ _ _
      (λ fn. record { answer = refl; related = boots r.cells q.fields k n l fn })
      (λ no. record { answer = refl; related = rel })

  host-call : (i x f e c k j : Words) (o : ℕ) (as' : Words) → InHost d s host x f k →
      NextHost (real_in Host d.device (record { mode = Host; inputs = i; cells = x }) (Call o as')) (ideal_in Host d.device (record { mode = Host; inputs = j; fields = f; emu = e; copy = c; kept = k }) (Call o as'))
  host-call i x f e c k j o as' l =
      by_test d s (is_callable d.device o as') _ _ _ _
      (λ ok.
      let lt : o < d.device.ops = ltb-true o d.device.ops (and-left (nat_lt o d.device.ops) (fit (d.device.args o) as') ok) in
      let fa : fit (d.device.args o) as' ≡ true = and-right (nat_lt o d.device.ops) (fit (d.device.args o) as') ok in
      let start = d.start o as' x in
      let end = finish d start in
      let whole : d.device.drive o as' x ≡ (d.reply end.left, end.cells) = good.driver.drive o as' x lt fa l.off.cells in
      let held = called d host good.driver o lt (script.call_locs host is o lt) (closed.call o lt) f x as' k l.off.fields l.off.cells fa l.off.kept l.idle in
      let replied = and-left (is_reply (d.reply end.left) (d.device.op o as' f).0) (host.idle (d.device.op o as' f).1 end.cells k) held in
      let idle = and-right (is_reply (d.reply end.left) (d.device.op o as' f).0) (host.idle (d.device.op o as' f).1 end.cells k) held in
      let after = rest-refined end.cells (d.device.op o as' f).1 k (finish-fits d good.driver o start (good.driver.start o as' x lt fa l.off.cells)) (good.wires.specification.op o as' f lt fa l.off.fields) l.off.kept idle in
      record {
        answer = ap (λ z. answer_of z.0) whole ∙ reply-value (d.reply end.left) (d.device.op o as' f).0 replied;
        related = subst (λ z. InHost d s host z.1 (d.device.op o as' f).1 k) (sym whole) after;
      })
      (λ no. record { answer = refl; related = l })

  -- one event in any mode
  next : (m n : Mode) (i x j f e c k : Words) →
      RelatedIn d s (InHost d s host) m n (record { mode = m; inputs = i; cells = x }) (record { mode = n; inputs = j; fields = f; emu = e; copy = c; kept = k }) → (ev : Event) →
      NextHost (real_in m d.device (record { mode = m; inputs = i; cells = x }) ev) (ideal_in n d.device (record { mode = n; inputs = j; fields = f; emu = e; copy = c; kept = k }) ev)
  next Off Off i x j f e c k l ev = off-next d s good.wires script wires (InHost d s host) i x j f e c k l ev (λ n same. to-host _ _ k n l l)
  next Host Host i x j f e c k l (PowerHost n) = to-host _ _ k n l.off l
  next Host Host i x j f e c k l (PowerWire n) = to-wire d s good.wires script wires (InHost d s host) _ _ k n l.off l
  next Host Host i x j f e c k l (Call o as') = host-call i x f e c k j o as' l
  next Host Host i x j f e c k l (Set m w) = record { answer = refl; related = l }
  next Host Host i x j f e c k l Read = record { answer = refl; related = l }
  next Host Host i x j f e c k l Tick = record { answer = refl; related = waits x f k l }
  next Wire Wire i x j f e c k l ev =
      subst (λ z. NextHost (real_in Wire d.device (record { mode = Wire; inputs = i; cells = x }) ev) (ideal_in Wire d.device (record { mode = Wire; inputs = z; fields = f; emu = e; copy = c; kept = k }) ev)) l.same
      (wire-next d s good.wires script wires (InHost d s host) i x f e c k l.wire ev
      (λ n same. to-host _ _ (d.device.kept_of e) n (wire-off d s good.wires script wires i _ l.wire) (record { same = refl; wire = l.wire })))
  next m n i x j f e c k l ev = absurd l

  from : (evs : List Event) (r : Real) (q : Ideal) → RelatedIn d s (InHost d s host) r.mode q.mode r q → real_from d.device r evs ≡ ideal_from d.device q evs
  from [] r q l = refl
  from (ev ∷ evs) r q l =
      let to = next r.mode q.mode r.inputs r.cells q.inputs q.fields q.emu q.copy q.kept l ev in
      ap (λ z. z ∷ real_from d.device (real_in r.mode d.device r ev).1 evs) to.answer ∙ ap (λ z. (ideal_in q.mode d.device q ev).0 ∷ z) (from evs _ _ to.related)

  pub agree : Agree d.device
  agree n fn evs =
      let refined = check-holds (takes-go d.device.factory_noise _ closed.factory n fn) in
      from evs (real_first d.device n) (ideal_first d.device)
      (record { cells = good.wires.circuit.factory n fn; fields = good.wires.specification.initial; kept = good.wires.emulator.first_kept; refined = refined })
