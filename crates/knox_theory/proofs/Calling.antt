-- A call in Host mode: a safe course of its segment, over the words that are there, gives the operation's result and `idle`.
use Rattle.std.proofs.Common.{◌≡◌, ℕ, zero, suc, ◌<◌, [], ◌∷◌, ◌++◌, true, refl, sym, ◌∙◌, append_assoc, append-nil, subst, ◌+◌, ap, arith}
use Rattle.knox_words.specs.Lists.{fit, Words}
use Rattle.knox_theory.specs.Design.{Config, Design, finish, finish_tests, Fits, go, go_tests}
use Rattle.knox_theory.specs.Lawful.{IsDriver}
use Rattle.knox_theory.specs.Script.{CallHavoc, CallInvariant, CallItems, CallPlace, CallReplace, CallSplit, Close, HasCallLocations, HostSections, Run}
use Rattle.knox_theory.specs.Course.{Safe}
use Rattle.knox_theory.specs.WireSegments.{enters}
use Rattle.knox_theory.specs.HostSegments.{call_course, call_items, is_concluded, moved}
use Rattle.knox_theory.proofs.Safety.{enters-goes, check-holds, check-goes, assume-goes, take-goes, takes-go, tell-goes, fork-goes}

module _ {P : Type 0} (d : Design P) (good : IsDriver d) where
  go-fits : (o n : ℕ) (c : Config P) → d.fits_config o c ≡ true → d.fits_config o (go d n c) ≡ true
  go-fits o zero c f = f
  go-fits o (suc n) c f = go-fits o n (d.move c) (good.move o c f)

  -- n more ticks and then m are n + m
  pub go-more : (n m : ℕ) (c : Config P) → go d m (go d n c) ≡ go d (n + m) c
  go-more zero m c = let same : m ≡ zero + m = omega arith in ap (λ (k : ℕ). go d k c) same
  go-more (suc n) m c =
      let same : suc (n + m) ≡ suc n + m = omega arith in
      go-more n m (d.move c) ∙ ap (λ (k : ℕ). go d k c) same

  -- an ended driver stays where it is
  ended-stays : (o n : ℕ) (c : Config P) → d.fits_config o c ≡ true → d.ended c ≡ true → go d n c ≡ c
  ended-stays o zero c f e = refl
  ended-stays o (suc n) c f e = ap (λ z. go d n z) (good.ended_move o c f e) ∙ ended-stays o n c f e

  -- there is one end
  one-end : (o a b : ℕ) (c : Config P) → d.fits_config o c ≡ true → d.ended (go d a c) ≡ true → d.ended (go d b c) ≡ true → go d a c ≡ go d b c
  one-end o a b c f e g =
      let both : a + b ≡ b + a = omega arith in
      sym (ended-stays o b (go d a c) (go-fits o a c f) e) ∙ (go-more a b c ∙ (ap (λ (k : ℕ). go d k c) both ∙ (sym (go-more b a c) ∙ ended-stays o a (go d b c) (go-fits o b c f) g)))

  -- n more ticks and then to the end, in one
  ended-after : (o n : ℕ) (c : Config P) → d.fits_config o c ≡ true → d.ended (go d (n + suc (d.ticks_left (go d n c))) c) ≡ true
  ended-after o n c f = subst (λ z. d.ended z ≡ true) (go-more n (suc (d.ticks_left (go d n c))) c) (good.ticks_left o (go d n c) (go-fits o n c f))

  -- it is the end also after n more ticks
  finish-go : (o n : ℕ) (c : Config P) → d.fits_config o c ≡ true → finish d (go d n c) ≡ finish d c
  finish-go o n c f =
      let t = suc (d.ticks_left (go d n c)) in
      go-more n t c ∙ one-end o (n + t) (suc (d.ticks_left c)) c f (ended-after o n c f) (good.ticks_left o c f)

  -- the tests in all are those of n ticks and those after them
  tests-more : (n m : ℕ) (c : Config P) → go_tests d (n + m) c ≡ go_tests d n c ++ go_tests d m (go d n c)
  tests-more zero m c = let same : zero + m ≡ m = omega arith in ap (λ (k : ℕ). go_tests d k c) same
  tests-more (suc n) m c =
      let same : suc n + m ≡ suc (n + m) = omega arith in
      ap (λ (k : ℕ). go_tests d k c) same ∙ (ap (λ z. d.move_tests c ++ z) (tests-more n m (d.move c)) ∙ sym (append_assoc (d.move_tests c) (go_tests d n (d.move c)) (go_tests d m (go d n (d.move c)))))

  ended-none : (o n : ℕ) (c : Config P) → d.fits_config o c ≡ true → d.ended c ≡ true → go_tests d n c ≡ []
  ended-none o zero c f e = refl
  ended-none o (suc n) c f e =
      ap (λ z. z ++ go_tests d n (d.move c)) (good.ended_tests o c f e) ∙ (ap (λ z. go_tests d n z) (good.ended_move o c f e) ∙ ended-none o n c f e)

  tests-end : (o a b : ℕ) (c : Config P) → d.fits_config o c ≡ true → d.ended (go d a c) ≡ true → go_tests d (a + b) c ≡ go_tests d a c
  tests-end o a b c f e = tests-more a b c ∙ (ap (λ z. go_tests d a c ++ z) (ended-none o b (go d a c) (go-fits o a c f) e) ∙ append-nil (go_tests d a c))

  pub tests-finish : (o n : ℕ) (c : Config P) → d.fits_config o c ≡ true → go_tests d n c ++ finish_tests d (go d n c) ≡ finish_tests d c
  tests-finish o n c f =
      let t = suc (d.ticks_left (go d n c)) in
      let u = suc (d.ticks_left c) in
      let both : (n + t) + u ≡ u + (n + t) = omega arith in
      sym (tests-more n t c) ∙ (sym (tests-end o (n + t) u c f (ended-after o n c f)) ∙ (ap (λ (k : ℕ). go_tests d k c) both ∙ tests-end o u (n + t) c f (good.ticks_left o c f)))

  pub finish-fits : (o : ℕ) (c : Config P) → d.fits_config o c ≡ true → Fits d.cells (finish d c).cells
  finish-fits o c f = good.config_cells o (finish d c) (go-fits o (suc (d.ticks_left c)) c f)

module _ {P : Type 0} (d : Design P) (host : HostSections P) (good : IsDriver d) where
  concluded : (o : ℕ) (items : CallItems P) (p : CallPlace P) → d.fits_config o p.config ≡ true → HasCallLocations d o items → Safe (call_items d host o items p) →
      is_concluded d host o p (finish d p.config) ≡ true
  concluded o (Run h n rest) p f g safe =
      subst (λ c. is_concluded d host o p c ≡ true) (finish-go d good o n p.config f)
      (concluded o rest (moved p (go d n p.config) []) (go-fits d good o n p.config f) g (tell-goes safe))
  concluded o (CallSplit h t a b) p f g safe =
      fork-goes (t p) _ _ safe (λ safe1. concluded o a p f g.0 safe1) (λ safe1. concluded o b p f g.1 safe1)
  concluded o (CallInvariant h e rest) p f g safe = concluded o rest p f g (check-goes safe)
  concluded o (CallReplace h a b rest) p f g safe = concluded o rest p f g (check-goes safe)
  concluded o (CallHavoc h x e rest) p f g safe =
      let b = x.get p.config in
      let safe1 = assume-goes (check-holds safe) (take-goes (check-goes safe) b (g.0.fits p.config f)) in
      concluded o rest (moved p p.config (b ∷ [])) f g.1
      (subst (λ z. Safe (call_items d host o rest (moved p z (b ∷ [])))) (g.0.same p.config f) safe1)
  concluded o Close p f g safe = check-holds (tell-goes safe)

  pub called : (o : ℕ) → o < d.device.ops → HasCallLocations d o (host.calls o) → Safe (call_course d host o) →
      (f x as' k : Words) → fit d.fields f ≡ true → Fits d.cells x → fit (d.device.args o) as' ≡ true → fit d.kept k ≡ true → host.idle f x k ≡ true →
      is_concluded d host o (record { fields = f; args = as'; kept = k; config = d.start o as' x; taken = [] }) (finish d (d.start o as' x)) ≡ true
  called o lt locs safe f x as' k ff fx fa fk idle =
      let words : Words = f ++ (d.cells.strip x ++ (as' ++ k)) in
      let safe1 = takes-go d.kept _ (takes-go (d.device.args o) _ (takes-go d.cells.widths _ (takes-go d.fields _ safe f ff) (d.cells.strip x) fx.taken) as' fa) k fk in
      let safe2 = subst (λ z. Safe (enters (host.idle f z k) (call_items d host o (host.calls o) (record { fields = f; args = as'; kept = k; config = d.start o as' z; taken = words })))) fx.whole safe1 in
      concluded o (host.calls o) (record { fields = f; args = as'; kept = k; config = d.start o as' x; taken = words }) (good.start o as' x lt fa fx) locs (enters-goes idle safe2)
