-- The trace of choices that falsify a hint fits the device.
use Rattle.std.proofs.Common.{◌≡◌, ℕ, zero, suc, ◌+◌, ◌≤◌, nat_lt, ◌&&◌, List, [], ◌∷◌, ◌++◌, length, take, replicate, Bool, true, false, refl, sym, subst, arith, if◌then◌else◌}
use Rattle.std.proofs.lemmas.Bool.{lt-ltb}
use Rattle.knox_words.specs.Bits.{Bits}
use Rattle.knox_words.specs.Lists.{are_widths, fit, fits, Words, zeros}
use Rattle.knox_words.proofs.Lists.{fit-zeros, length-fit}
use Rattle.knox_theory.specs.declared.event.Event.{Event}
use Rattle.knox_theory.specs.declared.event.Event.TheVariants.{Read, Tick}
use Rattle.knox_theory.specs.Design.{Design, go}
use Rattle.knox_theory.specs.Script.{Cut, Havoc, Invariant, Label, Place, Replace, Script, Split, State, Step, Subsume, WireItems}
use Rattle.knox_theory.specs.Course.{Assume, Check, Course, Done, Drove, Entered, Failed, Note, run, Short, Take, takes, Tell, Ticking, told, Turned}
use Rattle.knox_theory.specs.WireSegments.{course, cut_course, enters, forks, noted, steps, subsumes, ticked, wire_course}
use Rattle.knox_theory.specs.Segments.{boot_host_segment, call_segment, cut_segment, rest_segment, Segment, segments, wait_segment, wire_segment}
use Rattle.knox_theory.specs.Closed.{IsAmong}
use Rattle.knox_theory.specs.Traces.{branch_word, drove, is_of_call, are_in_range, events_of, FitsTrace, is_in_range, noise_of, sets, shown, trace_of}
use Rattle.knox_theory.proofs.Listed.{each-segment}
use Rattle.knox_theory.proofs.Basics.{and-left, and-right, and-both}

module _ {P : Type 0} (d : Design P) where
  -- the inputs of every tick that is told fit, and no driver's tests are told
  abbrev pub fits_notes : List Note → Bool
  fits_notes [] = true
  fits_notes (Ticking i ∷ ns) = fit d.device.ins i && fits_notes ns
  fits_notes (Entered ∷ ns) = fits_notes ns
  fits_notes (Turned b ∷ ns) = fits_notes ns
  fits_notes (Drove bs ∷ ns) = false

  events-append : (as' bs : List Event) → are_in_range d.device as' ≡ true → are_in_range d.device bs ≡ true → are_in_range d.device (as' ++ bs) ≡ true
  events-append [] bs p q = q
  events-append (a ∷ as') bs p q =
      and-both (is_in_range d.device a) _ (and-left (is_in_range d.device a) (are_in_range d.device as') p) (events-append as' bs (and-right (is_in_range d.device a) (are_in_range d.device as') p) q)

module _ {P : Type 0} (d : Design P) where
  sets-fit : (k : ℕ) (is : Words) → k + length is ≤ length d.device.ins → are_in_range d.device (sets k is) ≡ true
  sets-fit k [] le = refl
  sets-fit k (i ∷ is) le =
      let le1 : k + suc (length is) ≤ length d.device.ins = le in
      and-both (nat_lt k (length d.device.ins)) _ (lt-ltb k (length d.device.ins) (omega arith)) (sets-fit (suc k) is (omega arith))

  pub shown-fit : (ns : List Note) → fits_notes d ns ≡ true → are_in_range d.device (shown ns) ≡ true
  shown-fit [] f = refl
  shown-fit (Ticking i ∷ ns) f =
      let same : length i ≡ length d.device.ins = length-fit d.device.ins i (and-left (fit d.device.ins i) (fits_notes d ns) f) in
      events-append d (sets 0 i) _ (sets-fit 0 i (omega arith)) (shown-fit ns (and-right (fit d.device.ins i) (fits_notes d ns) f))
  shown-fit (Entered ∷ ns) f = shown-fit ns f
  shown-fit (Turned b ∷ ns) f = shown-fit ns f
  shown-fit (Drove bs ∷ ns) f = cc

  -- what a course tells fits, whatever the choices
  pub record Tells (t : Course) : Type 0 where
    pub fit : (cs : Words) → fits_notes d (told t cs) ≡ true

  check-tells : (ok : Bool) (h : ℕ) (t : Course) → Tells t → Tells (Check ok h t)
  check-tells true h t f = record { fit = f.fit }
  check-tells false h t f = record { fit = λ cs. refl }

  assume-tells : (ok : Bool) (t : Course) → Tells t → Tells (Assume ok t)
  assume-tells true t f = record { fit = f.fit }
  assume-tells false t f = record { fit = λ cs. refl }

  enters-tells : (ok : Bool) (t : Course) → Tells t → Tells (enters ok t)
  enters-tells ok t f = assume-tells ok (Tell Entered t) (record { fit = f.fit })

  take-tells-over : (w : ℕ) (rest : Bits → Course) → ((b : Bits) → fits w b ≡ true → Tells (rest b)) → (cs : Words) → fits_notes d (told (Take w rest) cs) ≡ true
  take-tells-over w rest f [] = refl
  take-tells-over w rest f (c ∷ cs) = by_test (fits w c) refl
    where
      by_test : (v : Bool) → fits w c ≡ v → fits_notes d (if v then told (rest c) cs else []) ≡ true
      by_test true e = (f c e).fit cs
      by_test false e = refl

  take-tells : (w : ℕ) (rest : Bits → Course) → ((b : Bits) → fits w b ≡ true → Tells (rest b)) → Tells (Take w rest)
  take-tells w rest f = record { fit = take-tells-over w rest f }

  takes-tell : (ws : List ℕ) (rest : Words → Course) → ((cs : Words) → fit ws cs ≡ true → Tells (rest cs)) → Tells (takes ws rest)
  takes-tell [] rest f = f [] refl
  takes-tell (w ∷ ws) rest f =
      take-tells w (λ c. takes ws (λ cs. rest (c ∷ cs))) (λ b e. takes-tell ws (λ cs. rest (b ∷ cs)) (λ cs g. f (b ∷ cs) (and-both (fits w b) (fit ws cs) e g)))

  forks-tell : (v : Bool) (a b : Course) → Tells a → Tells b → Tells (forks v a b)
  forks-tell true a b f g = record { fit = f.fit }
  forks-tell false a b f g = record { fit = g.fit }

  tick-tells : (i : Words) (t : Course) → fit d.device.ins i ≡ true → Tells t → Tells (Tell (Ticking i) t)
  tick-tells i t e f = record { fit = λ cs. and-both (fit d.device.ins i) (fits_notes d (told t cs)) e (f.fit cs) }

module _ {P : Type 0} (d : Design P) (s : Script P) (passes : ℕ → Place → Bool) where
  steps-tell : (h n : ℕ) (p : Place) (rest : Place → Course) → ((q : Place) → Tells d (rest q)) → Tells d (steps d s h n p rest)
  steps-tell h zero p rest f = f p
  steps-tell h (suc n) p rest f =
      takes-tell d d.device.ins _ (λ i e. tick-tells d i _ e (check-tells d _ h _ (check-tells d _ h _ (steps-tell h n (noted (ticked d p.state i) p.taken i) rest f))))

  pub items-tell : (items : WireItems) (p : Place) → Tells d (course d s passes items p)
  items-tell (Step h n rest) p = steps-tell h n p (λ q. course d s passes rest q) (λ q. items-tell rest q)
  items-tell (Split h t a b) p = forks-tell d (t p) _ _ (items-tell a p) (items-tell b p)
  items-tell (Invariant h c rest) p = check-tells d _ h _ (items-tell rest p)
  items-tell (Replace h a b rest) p = check-tells d _ h _ (items-tell rest p)
  items-tell (Havoc h x c rest) p = check-tells d _ h _ (take-tells d x.width _ (λ b e. assume-tells d _ _ (items-tell rest (noted (x.put p.state b) p.taken (b ∷ [])))))
  items-tell (Label l pins rest) p = let f = items-tell rest p in record { fit = f.fit }
  items-tell (Cut h c rest) p = check-tells d _ h _ (record { fit = λ cs. refl })
  items-tell (Subsume h l) p = check-tells d _ h _ (record { fit = λ cs. refl })

  pub wire-tells : Tells d (wire_course d s passes)
  wire-tells = takes-tell d d.fields _ (λ f e. takes-tell d d.persistent.widths _ (λ x g. takes-tell d d.device.noise _ (λ n h. takes-tell d d.kept _ (λ k j. enters-tells d _ _ (items-tell s.wire _)))))

  pub cut-tells : (c : State → Bool) (rest : WireItems) → Tells d (cut_course d s passes c rest)
  cut-tells c rest = takes-tell d d.fields _ (λ f e. takes-tell d d.cells.widths _ (λ x g. takes-tell d d.emu _ (λ n h. takes-tell d d.copy.widths _ (λ k j. enters-tells d _ _ (items-tell rest _)))))

-- a run that fails took words that fit from the front of its choices
fronted : (ws : List ℕ) (rest : Words → Course) (cs : Words) (h : ℕ) → run (takes ws rest) cs ≡ Failed h → fit ws (take (length ws) cs) ≡ true
fronted [] rest cs h e = refl
fronted (w ∷ ws) rest [] h e = cc
fronted (w ∷ ws) rest (c ∷ cs) h e = by_test (fits w c) refl e (λ p. fronted ws (λ bs. rest (c ∷ bs)) cs h p)
  where
    by_test : (v : Bool) → fits w c ≡ v → (if v then run (takes ws (λ bs. rest (c ∷ bs))) cs else Short) ≡ Failed h →
        (run (takes ws (λ bs. rest (c ∷ bs))) cs ≡ Failed h → fit ws (take (length ws) cs) ≡ true) → fit (w ∷ ws) (take (length (w ∷ ws)) (c ∷ cs)) ≡ true
    by_test true f p go = and-both (fits w c) (fit ws (take (length ws) cs)) f (go p)
    by_test false f p go = cc

module _ {P : Type 0} (d : Design P) (s : Script P) (widths : are_widths d.device.factory_noise ≡ true) where
  ticks-fit : (n : ℕ) (evs : List Event) → are_in_range d.device evs ≡ true → are_in_range d.device (replicate n Tick ++ evs) ≡ true
  ticks-fit zero evs f = f
  ticks-fit (suc n) evs f = ticks-fit n evs f

  wire-events : (t : Course) → Tells d t → (cs : Words) → are_in_range d.device (shown (told t cs) ++ (Read ∷ [])) ≡ true
  wire-events t f cs = events-append d (shown (told t cs)) (Read ∷ []) (shown-fit d (told t cs) (f.fit cs)) refl

  -- the trace of a run that fails fits
  record TraceFits (g : Segment) : Type 0 where
    fit : (before after : List Event) → are_in_range d.device before ≡ true → are_in_range d.device after ≡ true → (cs : Words) (h : ℕ) → run g.course cs ≡ Failed h → FitsTrace d.device (trace_of d before after g cs)

  -- where its events are in range, and its noise is zero
  zero-noise : (g : Segment) → ((cs : Words) → noise_of d.device g.kind cs ≡ zeros d.device.factory_noise) → ((cs : Words) → are_in_range d.device (events_of d g.kind g.course cs) ≡ true) → TraceFits g
  zero-noise g zero_noise in_range = record {
    fit = λ before after fb fa cs h e. record {
      noise = subst (λ z. fit d.device.factory_noise z ≡ true) (sym (zero_noise cs)) (fit-zeros d.device.factory_noise widths);
      events = events-append d before _ fb (events-append d (events_of d g.kind g.course cs) after (in_range cs) fa);
    };
  }

  pub traces-fit : (g : Segment) → IsAmong g (segments d s) → (before after : List Event) → are_in_range d.device before ≡ true → are_in_range d.device after ≡ true →
      (cs : Words) (h : ℕ) → run g.course cs ≡ Failed h → FitsTrace d.device (trace_of d before after g cs)
  traces-fit g among =
      (each-segment d s TraceFits
      (record {
        wire = zero-noise (wire_segment d s) (λ cs. refl) (λ cs. wire-events (wire_course d s (subsumes d s)) (wire-tells d s (subsumes d s)) cs);
        cut = λ m h c rest.
            zero-noise (cut_segment d s m h c rest) (λ cs. refl) (λ cs. ticks-fit m _ (wire-events (cut_course d s (subsumes d s) c rest) (cut-tells d s (subsumes d s) c rest) cs));
        factory = λ host. record { fit = λ before after fb fa cs h e. record { noise = fronted d.device.factory_noise _ cs h e; events = events-append d before _ fb fa } };
        boot_host = λ host. zero-noise (boot_host_segment d s host) (λ cs. refl) (λ cs. refl);
        rest = λ host. zero-noise (rest_segment d s host) (λ cs. refl) (λ cs. refl);
        wait = λ host. zero-noise (wait_segment d host) (λ cs. refl) (λ cs. refl);
        call = λ host o lt. zero-noise (call_segment d host o) (λ cs. refl) (λ cs. and-both (nat_lt o d.device.ops) true (lt-ltb o d.device.ops lt) refl);
      })
      g among).fit

drove-none : {P : Type 0} (d : Design P) (ns : List Note) → fits_notes d ns ≡ true → drove ns ≡ []
drove-none d [] f = refl
drove-none d (Ticking i ∷ ns) f = drove-none d ns (and-right (fit d.device.ins i) (fits_notes d ns) f)
drove-none d (Entered ∷ ns) f = drove-none d ns f
drove-none d (Turned b ∷ ns) f = drove-none d ns f
drove-none d (Drove bs ∷ ns) f = cc

module _ {P : Type 0} (d : Design P) (s : Script P) where
  record Undriven (g : Segment) : Type 0 where
    tells : is_of_call g.kind ≡ false → Tells d g.course

  check-ends : (ok : Bool) (h : ℕ) → Tells d (Check ok h Done)
  check-ends ok h = check-tells d ok h Done (record { fit = λ cs. refl })

  -- a run of a segment that isn't of a call meets no tests of the driver
  pub undriven : (g : Segment) → IsAmong g (segments d s) → is_of_call g.kind ≡ false → (cs : Words) → branch_word g.course cs ≡ []
  undriven g among not cs =
      drove-none d (told g.course cs)
      (((each-segment d s Undriven
      (record {
        wire = record { tells = λ k. wire-tells d s (subsumes d s) };
        cut = λ m h c rest. record { tells = λ k. cut-tells d s (subsumes d s) c rest };
        factory = λ host. record { tells = λ k. takes-tell d d.device.factory_noise _ (λ n e. check-ends _ _) };
        boot_host = λ host. record {
          tells = λ k. takes-tell d d.fields _ (λ f e. takes-tell d d.persistent.widths _ (λ x e. takes-tell d d.device.noise _ (λ n e. takes-tell d d.kept _ (λ m e. enters-tells d _ _ (check-ends _ _)))));
        };
        rest = λ host. record { tells = λ k. takes-tell d d.fields _ (λ f e. takes-tell d d.cells.widths _ (λ x e. takes-tell d d.kept _ (λ m e. enters-tells d _ _ (check-ends _ _)))) };
        wait = λ host. record { tells = λ k. takes-tell d d.fields _ (λ f e. takes-tell d d.cells.widths _ (λ x e. takes-tell d d.kept _ (λ m e. enters-tells d _ _ (check-ends _ _)))) };
        call = λ host o lt. record { tells = λ k. cc };
      })
      g among).tells not).fit cs)
